-- A block goes, and its pool no longer counts it: the shape stays good, but for the live count. Assumes nothing.
use Rattle.std.specs.Prelude.{Option, Some, None, unwrap_or}
use Prim.Native.Nat.{ℕ, ◌+◌, ◌-◌, ◌≤◌, ◌<◌}
use mathlib.Core.Bool.{Bool, true}
use mathlib.Core.List.{List}
use mathlib.Core.Path.{◌≡◌, refl, sym, ap, subst, ◌∙◌}
use native.Mathlib.Omega.{arith}
use borrow.Author.Tests.{eqb-true}
use lib.Dec.{eqb}
use lib.ListN.{get_or}
use Rattle.numbers.specs.Pick.{pick}
use Rattle.numbers.proofs.Split.{by_le}
use Rattle.block.specs.declared.Block.{Block}
use Rattle.sizes.specs.declared.Pool.{Pool}
use Rattle.sizes.specs.Pools.{fresh_pool}
use Rattle.state.specs.declared.State.{State}
use Rattle.state.specs.Table.{zero_block, block_at, age_at, pool_at, sum}
use Rattle.state.specs.Shape.{is_zero, good_shape}
use Rattle.state.specs.Find.{least}
use Rattle.state.specs.Change.{with_rest, place_of_age, past, fallen}
use Rattle.state.proofs.Tests.{sum_same}
use Rattle.state.proofs.Find.{Least, least_of}
use Rattle.table.proofs.Shift.{past_above, fallen_below}
use Rattle.shape.specs.Parts.{pool_sum}
use Rattle.shape.specs.Facts.{ShapedBlockIn}
use Rattle.shape.specs.Shaped.{Shaped}
use Rattle.shape.proofs.Enough.{enough_good}
use Rattle.shape_facts.proofs.Facts.{count_64, pool_3}
use Rattle.shape_facts.proofs.Leaves.{place_low, block_rest, age_rest}
use Rattle.shape_kept.specs.Sized.{Sized}
use Rattle.shape_kept.proofs.Sums.{past-ne, past_rises, past_low, past_fallen, fallen_low, sum_without}
use Rattle.shape_kept.proofs.Head.{head_kept, lent_kept}
use Rattle.shape_kept.proofs.Pools.{blocks_in, empty_in, area_in, used_in, adds, nothing, Entered, entered, back, pool_after, empties_after, empties_before, few_after}

module _ (s : State) (u t : ℕ) (f : Shaped s u t) where
  -- ---- its place in the order of address holds its age, and no other place does
  pub place_holds : (j : ℕ) → j < s.count → age_at s (place_of_age s j) ≡ j
  place_holds j h = go (least s.count test) (least_of s.count test) (place_low s u t f j h)
    where
      test : ℕ → Bool
      test k = eqb (age_at s k) j

      go : (r : Option ℕ) → Least 0 s.count test r → unwrap_or r s.count < s.count → age_at s (unwrap_or r s.count) ≡ j
      go (Some k) q l = eqb-true (age_at s k) j q.passes
      go None q l = absurd (omega arith)

  pub ages_differ : (k l : ℕ) → k < s.count → l < s.count → (k ≡ l → ⊥) → age_at s k ≡ age_at s l → ⊥
  ages_differ k l hk hl ne e =
      let same = ap (λ (i : ℕ). (block_at s i).base) e in
      by_le k l (λ g. omega (arith, f.rising k l (omega (arith, ne)) hl)) (λ g. omega (arith, f.rising l k g hk))

module _ (s : State) (u t : ℕ) (f : Shaped s u t) (z : Sized s) (j : ℕ) (h : j < s.count) (live : ℕ) (blocks : List Block) (order : List ℕ) (pool : List Pool)
    (at : (k : ℕ) → k < 64 → get_or blocks k zero_block ≡ block_at s (past j k))
    (ages : (k : ℕ) → k < 64 → get_or order k 0 ≡ fallen j (age_at s (past (place_of_age s j) k)))
    (own : Entered (get_or pool (block_at s j).pool (fresh_pool 0)) (pool_at s (block_at s j).pool) (block_at s j))
    (other : (p : ℕ) → (p ≡ (block_at s j).pool → ⊥) → get_or pool p (fresh_pool 0) ≡ pool_at s p) where
  abbrev after : State
  after = with_rest s live (s.count - 1) blocks order pool

  abbrev m : ℕ
  m = place_of_age s j

  count_low : s.count ≤ 64
  count_low = count_64 s u t f

  -- ---- the blocks
  block_sound : (k : ℕ) → k < s.count - 1 → ShapedBlockIn s (get_or blocks k zero_block)
  block_sound k l = subst (ShapedBlockIn s) (sym (at k (omega (arith, count_low)))) (f.sound (past j k) (past_low j k s.count l))

  apart : (i k : ℕ) → i < k → k < s.count - 1 → (get_or blocks i zero_block).slot ≡ (get_or blocks k zero_block).slot → ⊥
  apart i k l n e =
      f.slots_apart (past j i) (past j k) (past_rises j i k l) (past_low j k s.count n)
      (sym (ap (λ (c : Block). c.slot) (at i (omega (arith, count_low)))) ∙ e ∙ ap (λ (c : Block). c.slot) (at k (omega (arith, count_low))))

  -- ---- the order of address
  -- what stood at the place
  abbrev was : ℕ → ℕ
  was k = age_at s (past m k)

  was_low : (k : ℕ) → k < s.count - 1 → was k < s.count
  was_low k l = f.age_low (past m k) (past_low m k s.count l)

  was_other : (k : ℕ) → k < s.count - 1 → was k ≡ j → ⊥
  was_other k l e =
      ages_differ s u t f (past m k) m (past_low m k s.count l) (place_low s u t f j h) (past-ne m k) (e ∙ sym (place_holds s u t f j h))

  age_is : (k : ℕ) → k < s.count - 1 → get_or order k 0 ≡ fallen j (was k)
  age_is k l = ages k (omega (arith, count_low))

  ages_low : (k : ℕ) → k < s.count - 1 → get_or order k 0 < s.count - 1
  ages_low k l = omega (arith, age_is k l, fallen_low j (was k) s.count h (was_low k l) (was_other k l))

  -- the block there is the one that stood there
  block_is : (k : ℕ) → k < s.count - 1 → get_or blocks (get_or order k 0) zero_block ≡ block_at s (was k)
  block_is k l =
      at (get_or order k 0) (omega (arith, ages_low k l, count_low))
      ∙ ap (λ (i : ℕ). block_at s (past j i)) (age_is k l)
      ∙ ap (block_at s) (past_fallen j (was k) (was_other k l))

  next : (i k : ℕ) → k ≡ i + 1 → k < s.count - 1
      → (get_or blocks (get_or order i 0) zero_block).base + (get_or blocks (get_or order i 0) zero_block).size ≤ (get_or blocks (get_or order k 0) zero_block).base
  next i k e l =
      let x = block_is i (omega arith) in
      let y = block_is k l in
      omega (
        arith,
        ap (λ (c : Block). c.base) x,
        ap (λ (c : Block). c.size) x,
        ap (λ (c : Block). c.base) y,
        f.behind (past m i) (past m k) (past_rises m i k (omega arith)) (past_low m k s.count l),
      )

  -- ---- behind the last
  zero : (k : ℕ) → s.count - 1 ≤ k → k < 64 → is_zero (get_or blocks k zero_block) ≡ true
  zero k l n =
      subst (λ (c : Block). is_zero c ≡ true)
      (sym (at k n ∙ ap (block_at s) (past_above j k (omega arith)) ∙ block_rest s u t f j h z.blocks z.order (k + 1) (omega arith))) refl

  zero_age : (k : ℕ) → s.count - 1 ≤ k → k < 64 → get_or order k 0 ≡ 0
  zero_age k l n =
      ages k n
      ∙ ap (λ (i : ℕ). fallen j (age_at s i)) (past_above m k (omega (arith, place_low s u t f j h)))
      ∙ ap (fallen j) (age_rest s u t f j h z.blocks z.order (k + 1) (omega arith))
      ∙ fallen_below j 0 (omega arith)

  -- ---- the pools
  moved : (g : Block → ℕ) → sum (s.count - 1) (λ k. g (get_or blocks k zero_block)) + g (block_at s j) ≡ sum s.count (λ i. g (block_at s i))
  moved g =
      ap (λ (n : ℕ). n + g (block_at s j))
      (sum_same (s.count - 1) (λ k. g (get_or blocks k zero_block)) (λ k. g (block_at s (past j k))) (λ k l. ap g (at k (omega (arith, count_low)))))
      ∙ sum_without s.count (λ i. g (block_at s i)) j h

  fewer : (g : Block → ℕ) → sum (s.count - 1) (λ k. g (get_or blocks k zero_block)) + g (block_at s j) ≡ sum s.count (λ i. g (block_at s i)) + 0
  fewer g = omega (arith, moved g)

  pools_are : (p : ℕ) → p < 3 → pool_at after p ≡ pool_sum after (s.count - 1) p
  pools_are p l =
      pool_after s after p (adds p (block_at s j)) nothing refl (f.pools p l)
      (back (entered p (get_or pool p (fresh_pool 0)) (pool_at s p) (block_at s j)
      (λ e. subst (λ (q : ℕ). Entered (get_or pool q (fresh_pool 0)) (pool_at s q) (block_at s j)) e own) (λ ne. sym (other p (λ e. ne (sym e))))))
      (fewer (blocks_in p)) (fewer (empty_in p)) (fewer (area_in p)) (fewer (used_in p))

  few : (get_or pool (block_at s j).pool (fresh_pool 0)).empty ≤ pick s.immediate 0 1
  few = omega (arith, own.empty, empties_before s u t f (block_at s j).pool (pool_3 s u t f j h))

  pub leave_good : live ≤ sum (s.count - 1) (λ i. (get_or blocks i zero_block).used) → good_shape after u t ≡ true
  leave_good enough =
      enough_good after u t (record {
        head = head_kept s live (s.count - 1) blocks order pool f.head (omega (arith, f.head.count_slots));
        lent = lent_kept s live (s.count - 1) blocks order pool u t f.lent;
        sound = block_sound;
        slots_apart = apart;
        pools = pools_are;
        empties = λ p l. empties_after after p (pools_are p l) (few_after s u t f pool (block_at s j).pool other few p l);
        live = enough;
        age_low = ages_low;
        next = next;
        zeros = zero;
        zero_ages = zero_age;
      })
