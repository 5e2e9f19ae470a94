-- A new block in the table, ready for its span. Assumes nothing.
use Prim.Native.Nat.{ℕ, ◌+◌, ◌*◌, ◌≤◌}
use mathlib.Core.List.{List}
use mathlib.Core.Path.{◌≡◌, sym, ap, subst, ◌∙◌}
use native.Mathlib.Omega.{arith}
use lib.ListN.{length, replicate, length-replicate}
use lib.Seq.{get_or-set_same}
use Rattle.slots.proofs.Laws.{length_put_slot}
use Rattle.block.specs.declared.Block.{Block}
use Rattle.block.specs.Record.{Placed}
use Rattle.sizes.specs.declared.Pool.{Pool}
use Rattle.sizes.specs.Pools.{fresh_pool}
use Rattle.state.specs.declared.State.{State}
use Rattle.state.specs.Table.{zero_block, block_at, pool_at, one}
use Rattle.state.specs.Shape.{is_empty}
use Rattle.state.specs.Change.{with_blocks, inserted}
use Rattle.machine.specs.Turn.{unit_of, clear_slot}
use Rattle.shape_facts.specs.Ready.{Markable, Makeable}

pub length_cleared : (w slot : ℕ) (ws : List ℕ) → (slot + 1) * w ≤ length ws → length (clear_slot w slot ws) ≡ length ws
length_cleared w slot ws h = length_put_slot w slot ws (replicate w 0) h (length-replicate {A = ℕ} w 0)

module _ (s : State) (u t : ℕ) (b : Block) (n : ℕ) (m : Makeable s u t b n) where
  -- it is the last block
  last_is : block_at (inserted s b) s.count ≡ b
  last_is = get_or-set_same s.blocks s.count b zero_block (omega (arith, m.enters.room, m.size))

  -- and its pool counts it
  pool_is : pool_at (inserted s b) (block_at (inserted s b) s.count).pool
      ≡ with_blocks (pool_at s b.pool) ((pool_at s b.pool).blocks + 1) ((pool_at s b.pool).area + b.area)
  pool_is =
      ap (λ (x : Block). pool_at (inserted s b) x.pool) last_is
      ∙ get_or-set_same s.pools b.pool (with_blocks (pool_at s b.pool) ((pool_at s b.pool).blocks + 1) ((pool_at s b.pool).area + b.area)) (fresh_pool 0) (omega (arith, m.enters.pool, m.pools))

  unit_is : unit_of (inserted s b) (block_at (inserted s b) s.count) ≡ unit_of s b
  unit_is = ap (λ (q : Pool). q.granularity) pool_is

  area_is : (block_at (inserted s b) s.count).area ≡ b.area
  area_is = ap (λ (x : Block). x.area) last_is

  bytes_are : (block_at (inserted s b) s.count).area * unit_of (inserted s b) (block_at (inserted s b) s.count) ≡ b.area * unit_of s b
  bytes_are = ap (λ (k : ℕ). (block_at (inserted s b) s.count).area * k) unit_is ∙ ap (λ (k : ℕ). k * unit_of s b) area_is

  pub made : Markable (inserted s b) u t s.count 0 n
  made = record {
    age = m.enters.room;
    placed = subst (λ (x : Block). Placed x s.w u t) (sym last_is) m.placed;
    some = m.some;
    fits = omega (arith, area_is, m.fits);
    room = omega (arith, area_is, ap (λ (x : Block). x.used) last_is, m.unused, m.fits);
    pool = omega (arith, ap (λ (x : Block). x.pool) last_is, m.enters.pool);
    few = omega (arith, area_is, m.few);
    top = omega (arith, bytes_are, ap (λ (x : Block). x.base) last_is, m.top);
    empty = omega (arith, ap (λ (x : Block). one (is_empty x)) last_is ∙ ap one m.not_empty);
    used = omega (arith, ap (λ (q : Pool). q.used) pool_is, m.used);
    live = m.live;
  }
