-- The table that a soft reset leaves has a good shape. Assumes nothing.
use Prim.Native.Nat.{ℕ, zero, suc, ◌+◌, ◌≤◌, ◌<◌}
use mathlib.Core.Bool.{Bool, true, false, not, ◌&&◌}
use mathlib.Core.Logic.{◌⊎◌, inl, inr, ⊎_elim}
use mathlib.Core.Path.{◌≡◌, refl, sym, ap, subst, ◌∙◌}
use native.Mathlib.Omega.{arith}
use borrow.Author.Tests.{eqb-false, ne_eqb, not-true}
use lib.Dec.{eqb}
use Rattle.numbers.specs.Pick.{pick}
use Rattle.numbers.proofs.Bools.{picked}
use Rattle.block.specs.declared.Block.{Block}
use Rattle.block.specs.Marking.{emptied}
use Rattle.sizes.specs.declared.Pool.{Pool}
use Rattle.state.specs.declared.State.{State}
use Rattle.state.specs.Table.{block_at, pool_at, one}
use Rattle.state.specs.Shape.{is_empty, in_pool, good_shape}
use Rattle.state.specs.Change.{with_rest, with_blocks, inserted}
use Rattle.state.proofs.Tests.{all_at}
use Rattle.shape.specs.Facts.{ShapedBlockIn}
use Rattle.shape.specs.Shaped.{Shaped}
use Rattle.shape.proofs.Shaped.{shaped_is}
use Rattle.shape.proofs.Pigeon.{sum_none}
use Rattle.shape_facts.proofs.Facts.{count_64, pool_3}
use Rattle.machine.specs.Turn.{with_counts}
use Rattle.machine.specs.Reset.{oldest, keep, kept}
use Rattle.shape_kept.specs.Sized.{Sized}
use Rattle.shape_kept.proofs.After.{inserted_new, inserted_old, inserted_age, inserted_pool, inserted_pool_other, put_pool_lem, put_pool_other}
use Rattle.shape_kept.proofs.Sized.{sized_inserted, sized_kept_blocks}
use Rattle.shape_kept.proofs.Soft.{KeptFrom, kept_from}
use Rattle.shape_kept.proofs.Pools.{Entered}
use Rattle.shape_kept.proofs.Enter.{enter_good}
use Rattle.shape_kept.proofs.Records.{bare, Changed, emptied_changed}
use Rattle.shape_kept.proofs.Empty.{empty_good}

-- ---- creation's numbers stay, and nothing is live
abbrev pub OtherTable : State → State → Type 0
OtherTable s r = r ≡ with_rest s 0 r.count r.blocks r.order r.pools

keep_other : (s r : State) (b : Block) → OtherTable s r → OtherTable s (keep r b)
keep_other s r b e = ap (λ (x : State). with_rest x x.live (keep r b).count (keep r b).blocks (keep r b).order (keep r b).pools) e

pub kept_other : (s : State) (n : ℕ) → OtherTable s (kept s n)
unfolding kept
kept_other s zero = refl
kept_other s (suc n) =
    picked (OtherTable s) (oldest s n) (keep (kept s n) (block_at s n)) (kept s n) (λ e. keep_other s (kept s n) (block_at s n) (kept_other s n)) (λ e. kept_other s n)

-- ---- one block more
module _ (s : State) (u t : ℕ) (f : Shaped s u t) (off : s.immediate ≡ false) (n : ℕ) (h : n < s.count) (old : oldest s n ≡ true)
    (r : State) (same : OtherTable s r) (z : Sized r) (from : KeptFrom s n r) (g : Shaped r u t) where
  abbrev b : Block
  b = block_at s n

  abbrev p : ℕ
  p = b.pool

  changed : Changed s b (emptied b) 0 true
  changed = emptied_changed s b (bare s b (f.sound n h))

  low : r.count < 64
  low = omega (arith, from.few, h, count_64 s u t f)

  p_low : p < 3
  p_low = pool_3 s u t f n h

  abbrev with : State
  with = inserted r (emptied b)

  abbrev q : Pool
  q = with_counts (pool_at with p) 1 (pool_at with p).used

  with_pool : pool_at with p ≡ with_blocks (pool_at r p) ((pool_at r p).blocks + 1) ((pool_at r p).area + b.area)
  with_pool = inserted_pool r z (emptied b) p_low

  own : pool_at (keep r b) p ≡ q
  own = put_pool_lem with (sized_inserted r z (emptied b)) p q p_low

  -- no block of the pool is there yet
  none_yet : (i : ℕ) → i < r.count → in_pool r p i && is_empty (block_at r i) ≡ false
  none_yet i l =
      let other = eqb-false (block_at s (from.from i)).pool p
      (not-true (eqb (block_at s (from.from i)).pool p) (all_at n (λ j. not (eqb (block_at s j).pool p)) (from.from i) old (from.low i l))) in
      rw (ne_eqb (block_at r i).pool p (λ e. other (sym (ap (λ (x : Block). x.pool) (from.is i l)) ∙ e)))

  no_empty : (pool_at r p).empty ≡ 0
  no_empty = ap (λ (x : Pool). x.empty) (g.pools p p_low) ∙ sum_none r.count (λ i. in_pool r p i && is_empty (block_at r i)) none_yet

  entered : Entered (pool_at r p) q (emptied b)
  entered = record {
    granularity = ap (λ (x : Pool). x.granularity) with_pool;
    blocks = ap (λ (x : Pool). x.blocks) with_pool;
    empty = omega (arith, no_empty, ap one changed.empty_is);
    area = ap (λ (x : Pool). x.area) with_pool;
    used = omega (arith, ap (λ (x : Pool). x.used) with_pool);
  }

  slot_apart : (i : ℕ) → i < r.count → (block_at r i).slot ≡ b.slot → ⊥
  slot_apart i l e = f.slots_apart (from.from i) n (from.low i l) h (sym (ap (λ (x : Block). x.slot) (from.is i l)) ∙ e)

  bytes_apart : (i : ℕ) → i < r.count → (b.base + b.size ≤ (block_at r i).base) ⊎ ((block_at r i).base + (block_at r i).size ≤ b.base)
  bytes_apart i l =
      let base = ap (λ (x : Block). x.base) (from.is i l) in
      let size = ap (λ (x : Block). x.size) (from.is i l) in
      ⊎_elim (λ a. inr (omega arith)) (λ a. inl (omega arith)) (f.bytes_apart (from.from i) n (from.low i l) h)

  room : r.count < r.slots
  room = omega (arith, from.few, h, f.head.count_slots, ap (λ (x : State). x.slots) same)

  not_immediate : r.immediate ≡ false
  not_immediate = ap (λ (x : State). x.immediate) same ∙ off

  keep_good : good_shape (keep r b) u t ≡ true
  keep_good =
      enter_good r u t g (emptied b) r.live (keep r b).blocks (keep r b).order (keep r b).pools room
      (inserted_old r z (emptied b)) (inserted_new r z (emptied b) low) (inserted_age r z (emptied b))
      (subst (λ (x : State). ShapedBlockIn x (emptied b)) (sym same) changed.sound) slot_apart bytes_apart
      (subst (λ (x : Pool). Entered (pool_at r p) x (emptied b)) (sym own) entered)
      (λ o ne. put_pool_other with (sized_inserted r z (emptied b)) p q o ne ∙ inserted_pool_other r z (emptied b) o ne)
      (subst (λ (x : Pool). x.empty ≤ pick r.immediate 0 1) (sym own) (subst (λ (x : Bool). 1 ≤ pick x 0 1) (sym not_immediate) (omega arith)))
      (omega (arith, g.live))

-- ---- all of them
pub kept_good : (s : State) (u t : ℕ) → Shaped s u t → s.immediate ≡ false → (n : ℕ) → n ≤ s.count → good_shape (kept s n) u t ≡ true
unfolding kept
kept_good s u t f off zero h = empty_good s u t f.head f.lent
kept_good s u t f off (suc n) h =
    let before = kept_good s u t f off n (omega arith) in
    picked (λ (r : State). good_shape r u t ≡ true) (oldest s n) (keep (kept s n) (block_at s n)) (kept s n)
    (λ e.
    keep_good s u t f off n h e (kept s n) (kept_other s n) (sized_kept_blocks s n) (kept_from s n (omega (arith, count_64 s u t f)))
    (shaped_is (kept s n) u t before))
    (λ e. before)
