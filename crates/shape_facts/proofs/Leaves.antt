-- A block of a good shape may leave the table, also once some of its units are free. Assumes nothing.
use Rattle.std.specs.Prelude.{Option, Some, None, unwrap_or}
use Prim.Native.Nat.{ℕ, ◌+◌, ◌-◌, ◌*◌, ◌≤◌, ◌<◌}
use mathlib.Core.Bool.{Bool, true, false}
use mathlib.Core.List.{List, [], ◌∷◌}
use mathlib.Core.Path.{◌≡◌, refl, sym, ap, subst, ◌∙◌}
use native.Mathlib.Omega.{arith}
use lib.Dec.{eqb}
use lib.ListN.{length, get_or-eq_default}
use lib.Seq.{get_or-set_same, get_or-set_other}
use borrow.Author.Tests.{eqb-true, eq-eqb}
use Rattle.numbers.specs.Pick.{pick}
use Rattle.numbers.proofs.Bools.{not_both}
use Rattle.numbers.proofs.Split.{by_le}
use Rattle.block.specs.declared.Block.{Block}
use Rattle.block.specs.Marking.{emptied, widened, released}
use Rattle.sizes.specs.declared.Pool.{Pool}
use Rattle.sizes.specs.Pools.{fresh_pool}
use Rattle.state.specs.declared.State.{State}
use Rattle.state.specs.InTable.{InTable}
use Rattle.state.specs.Table.{zero_block, block_at, age_at, pool_at, one, only}
use Rattle.state.specs.Shape.{is_zero, in_pool}
use Rattle.state.specs.Find.{least}
use Rattle.state.specs.Change.{place_of_age}
use Rattle.state.proofs.Tests.{every_at, sum_term}
use Rattle.state.proofs.Find.{Least, least_of}
use Rattle.shape.specs.Parts.{pool_sum}
use Rattle.shape.specs.Shaped.{Shaped}
use Rattle.shape_facts.proofs.Facts.{count_64, pool_3, in_table, placed}
use Rattle.table.specs.Changeable.{Removable}
use Rattle.machine.specs.Turn.{with_live, with_counts}
use Rattle.machine.specs.Release.{less_used}
use Rattle.shape_facts.specs.Ready.{Settles}

-- ---- a record whose ten numbers are 0 is the zero record
abbrev make : ℕ → ℕ → ℕ → ℕ → ℕ → ℕ → ℕ → ℕ → ℕ → ℕ → Block
make base size pool slot flags area used start end largest = record {
  base = base;
  size = size;
  pool = pool;
  slot = slot;
  flags = flags;
  area = area;
  used = used;
  start = start;
  end = end;
  largest = largest;
}

abbrev zero_tests : Block → List Bool
zero_tests b =
    eqb b.base 0 ∷ eqb b.size 0 ∷ eqb b.pool 0 ∷ eqb b.slot 0 ∷ eqb b.flags 0 ∷ eqb b.area 0 ∷ eqb b.used 0 ∷ eqb b.start 0
    ∷ eqb b.end 0 ∷ eqb b.largest 0 ∷ []

pub zero_is : (b : Block) → is_zero b ≡ true → b ≡ zero_block
zero_is b e =
    ap (λ (n : ℕ). make n b.size b.pool b.slot b.flags b.area b.used b.start b.end b.largest) (eqb-true b.base 0 (every_at (zero_tests b) 0 e))
    ∙ ap (λ (n : ℕ). make 0 n b.pool b.slot b.flags b.area b.used b.start b.end b.largest) (eqb-true b.size 0 (every_at (zero_tests b) 1 e))
    ∙ ap (λ (n : ℕ). make 0 0 n b.slot b.flags b.area b.used b.start b.end b.largest) (eqb-true b.pool 0 (every_at (zero_tests b) 2 e))
    ∙ ap (λ (n : ℕ). make 0 0 0 n b.flags b.area b.used b.start b.end b.largest) (eqb-true b.slot 0 (every_at (zero_tests b) 3 e))
    ∙ ap (λ (n : ℕ). make 0 0 0 0 n b.area b.used b.start b.end b.largest) (eqb-true b.flags 0 (every_at (zero_tests b) 4 e))
    ∙ ap (λ (n : ℕ). make 0 0 0 0 0 n b.used b.start b.end b.largest) (eqb-true b.area 0 (every_at (zero_tests b) 5 e))
    ∙ ap (λ (n : ℕ). make 0 0 0 0 0 0 n b.start b.end b.largest) (eqb-true b.used 0 (every_at (zero_tests b) 6 e))
    ∙ ap (λ (n : ℕ). make 0 0 0 0 0 0 0 n b.end b.largest) (eqb-true b.start 0 (every_at (zero_tests b) 7 e))
    ∙ ap (λ (n : ℕ). make 0 0 0 0 0 0 0 0 n b.largest) (eqb-true b.end 0 (every_at (zero_tests b) 8 e))
    ∙ ap (λ (n : ℕ). make 0 0 0 0 0 0 0 0 0 n) (eqb-true b.largest 0 (every_at (zero_tests b) 9 e))

-- ---- what a release leaves of a record: where the block lies, and its size
pub record Stays (b c : Block) : Type 0 where
  pub pool : b.pool ≡ c.pool
  pub slot : b.slot ≡ c.slot
  pub area : b.area ≡ c.area

pub released_stays : (b : Block) (i e : ℕ) → Stays (released b i e) b
unfolding released
released_stays b i e = go (eqb (b.used - (e - i)) 0)
  where
    go : (z : Bool) → Stays (pick z (emptied b) (widened b i e)) b
    go true = record { pool = refl; slot = refl; area = refl }
    go false = record { pool = refl; slot = refl; area = refl }

module _ (s : State) (u t : ℕ) (f : Shaped s u t) (j : ℕ) (h : j < s.count) where
  -- it stands in the order of address
  pub place_low : place_of_age s j < s.count
  place_low = go (least s.count (λ k. eqb (age_at s k) j)) (least_of s.count (λ k. eqb (age_at s k) j))
    where
      go : (r : Option ℕ) → Least 0 s.count (λ k. eqb (age_at s k) j) r → unwrap_or r s.count < s.count
      go (Some k) q = q.high
      go None q =
          let w = f.place_of j h in
          absurd (not_both (eqb (age_at s w.0) j) (eq-eqb (age_at s w.0) j w.2) (q w.0 (omega arith) w.1))

  -- its pool's sums have it
  own : in_pool s (block_at s j).pool j ≡ true
  own = eq-eqb (block_at s j).pool (block_at s j).pool refl

  sums : pool_at s (block_at s j).pool ≡ pool_sum s s.count (block_at s j).pool
  sums = f.pools (block_at s j).pool (pool_3 s u t f j h)

  pub pool_blocks : 1 ≤ (pool_at s (block_at s j).pool).blocks
  pool_blocks =
      omega (
        arith,
        ap (λ (q : Pool). q.blocks) sums,
        sum_term s.count (λ i. one (in_pool s (block_at s j).pool i)) j h,
        ap (λ (z : Bool). one z) own,
      )

  pub pool_area : (block_at s j).area ≤ (pool_at s (block_at s j).pool).area
  pool_area =
      omega (
        arith,
        ap (λ (q : Pool). q.area) sums,
        sum_term s.count (λ i. only (in_pool s (block_at s j).pool i) (block_at s i).area) j h,
        ap (λ (z : Bool). only z (block_at s j).area) own,
      )

  pub pool_used : (block_at s j).used ≤ (pool_at s (block_at s j).pool).used
  pool_used =
      omega (
        arith,
        ap (λ (q : Pool). q.used) sums,
        sum_term s.count (λ i. only (in_pool s (block_at s j).pool i) (block_at s i).used) j h,
        ap (λ (z : Bool). only z (block_at s j).used) own,
      )

  -- so units of a span can be taken off
  pub less_ready : (n : ℕ) → n ≤ (block_at s j).used → InTable s j × (n ≤ (pool_at s (block_at s j).pool).used)
  less_ready n l = (in_table s u t f j h, omega (arith, l, pool_used))

  module _ (blocks : length s.blocks ≡ 64) (order : length s.order ≡ 64) where
    -- zeros behind, also behind the lists' ends
    pub block_rest : (k : ℕ) → s.count ≤ k → block_at s k ≡ zero_block
    block_rest k l =
        by_le 64 k (λ g. get_or-eq_default s.blocks zero_block {n = k} (omega (arith, blocks)))
        (λ g. zero_is (block_at s k) (f.zeros k l g))

    pub age_rest : (k : ℕ) → s.count ≤ k → age_at s k ≡ 0
    age_rest k l = by_le 64 k (λ g. get_or-eq_default s.order 0 {n = k} (omega (arith, order))) (λ g. f.zero_ages k l g)

    -- ---- once its record is b and n units of its pool are no longer used
    module _ (pools : length s.pools ≡ 3) (b : Block) (n live : ℕ) (stays : Stays b (block_at s j)) where
      abbrev after : State
      after = with_live (less_used s j b n) live

      now_block : block_at after j ≡ b
      now_block = get_or-set_same s.blocks j b zero_block (omega (arith, blocks, count_64 s u t f))

      now_of : (block_at after j).pool ≡ (block_at s j).pool
      now_of = ap (λ (b : Block). b.pool) now_block ∙ stays.pool

      abbrev less : Pool
      less = with_counts (pool_at s (block_at s j).pool) (pool_at s (block_at s j).pool).empty ((pool_at s (block_at s j).pool).used - n)

      now_pool : pool_at after (block_at after j).pool ≡ less
      now_pool =
          ap (λ (p : ℕ). pool_at after p) now_of
          ∙ get_or-set_same s.pools (block_at s j).pool less (fresh_pool 0) (omega (arith, pools, pool_3 s u t f j h))

      pub leaves_after : Removable after j
      leaves_after = record {
        stands = h;
        few = count_64 s u t f;
        place = place_low;
        rest = λ k l. get_or-set_other s.blocks j k b zero_block (λ e. omega (arith, h)) ∙ block_rest k l;
        order_rest = age_rest;
        pool = omega (arith, now_of, pool_3 s u t f j h);
        blocks = omega (arith, ap (λ (q : Pool). q.blocks) now_pool, pool_blocks);
        area = omega (arith, ap (λ (q : Pool). q.area) now_pool, ap (λ (b : Block). b.area) now_block, stays.area, pool_area);
      }

      pub settles_after : (v w : ℕ) → ((block_at s j).slot + 1) * s.w ≤ v → ((block_at s j).slot + 1) * s.w ≤ w → Settles after j v w
      settles_after v w x y =
          let e : (block_at after j).slot ≡ (block_at s j).slot = ap (λ (b : Block). b.slot) now_block ∙ stays.slot in
          record {
            leaves = leaves_after;
            words = (placed s u t f j h).words;
            room = subst (λ (k : ℕ). (k + 1) * s.w ≤ v) (sym e) x;
            stop_room = subst (λ (k : ℕ). (k + 1) * s.w ≤ w) (sym e) y;
          }
