-- The walk by age: which slots were seen, and the pools' sums, before block i; one block more; and the walk's end. Assumes nothing.
use Prim.Native.Nat.{ℕ, ◌+◌, ◌≤◌, ◌<◌}
use mathlib.Core.Path.{◌≡◌, refl, sym, ap, ◌∙◌}
use mathlib.Core.Bool.{Bool, true, false, ◌&&◌, and-true}
use mathlib.Core.List.{List, [], ◌∷◌}
use native.Mathlib.Omega.{arith}
use lib.Dec.{leb, eqb}
use lib.ListN.{length, get_or, set, replicate, length-set, length-replicate, get_or-replicate}
use lib.Seq.{get_or-set_same, get_or-set_other}
use borrow.Author.Tests.{eq-eqb, ne_eqb}
use Rattle.numbers.proofs.Bools.{not_both, not_of_true, not_of_false, and_then}
use Rattle.numbers.proofs.Split.{by_eq}
use Rattle.sizes.specs.declared.Pool.{Pool}
use Rattle.sizes.specs.Pools.{fresh_pool}
use Rattle.state.specs.declared.State.{State}
use Rattle.state.specs.Table.{block_at, pool_at, all, all_pairs, sum, one, only}
use Rattle.state.specs.Shape.{in_pool, is_empty, live_ok}
use Rattle.state.proofs.Tests.{every_fails, all_of, all_fails, pairs_of, pairs_fail, sum_more, sum_bound}
use Rattle.shape.specs.Parts.{block_ok, counted, pool_sum, pool_matches, slots_apart, table_ok}
use Rattle.shape.specs.Facts.{Headed, ShapedBlockIn, Countable}
use Rattle.shape.proofs.Slots.{none_seen, mark_stays}
use Rattle.shape.proofs.Sums.{one-le, only-le, no_sums, sum_in, sum_out}
use Rattle.shape.proofs.OneBlock.{sound}

abbrev slot_of : State → ℕ → ℕ
slot_of s i = (block_at s i).slot

abbrev pub table_tests : State → List Bool
table_tests s =
    all s.count (λ i. block_ok s (block_at s i))
    ∷ all_pairs s.count (slots_apart s)
    ∷ all 3 (λ p. pool_matches (pool_at s p) (pool_sum s s.count p) s.immediate)
    ∷ live_ok s
    ∷ []

pub record Walked (s : State) (i : ℕ) (seen : List Bool) (pools : List Pool) (total : ℕ) : Type 0 where
  pub here : i ≤ s.count
  pub seen_64 : length seen ≡ 64
  pub pools_3 : length pools ≡ 3
  pub fine : (j : ℕ) → j < i → block_ok s (block_at s j) ≡ true
  -- a slot is marked exactly if a block before has it
  pub was : (k : ℕ) → get_or seen k false ≡ true → (j : ℕ) × (j < i) × (slot_of s j ≡ k)
  pub has : (j : ℕ) → j < i → get_or seen (slot_of s j) false ≡ true
  pub fresh : (a b : ℕ) → a < b → b < i → slot_of s a ≡ slot_of s b → ⊥
  pub sums : (p : ℕ) → p < 3 → get_or pools p (fresh_pool 0) ≡ pool_sum s i p
  pub total_is : total ≡ sum i (λ j. (block_at s j).used)

-- ---- the start
pub walk_start : (s : State) → Walked s 0 (replicate 64 false) (replicate 3 (fresh_pool s.granularity)) 0
unfolding sum
walk_start s = record {
  here = omega arith;
  seen_64 = length-replicate 64 false;
  pools_3 = length-replicate 3 (fresh_pool s.granularity);
  fine = λ j l. absurd (none j l);
  was = λ k e. absurd (not_both (get_or (replicate 64 false) k false) e (none_seen 64 k));
  has = λ j l. absurd (none j l);
  fresh = λ a b h l. absurd (none b l);
  sums = λ p l. get_or-replicate 3 p (fresh_pool s.granularity) (fresh_pool 0) l ∙ no_sums s p;
  total_is = refl;
}
  where
    none : (j : ℕ) → j < 0 → ⊥
    none j l = omega arith

-- ---- block i, before it is counted
module _ {s : State} {i : ℕ} {seen : List Bool} {pools : List Pool} {total : ℕ} (head : Headed s) (at : Walked s i seen pools total) (more : i < s.count) where
  small_area : (j : ℕ) → j < i → (block_at s j).area ≤ 524288
  small_area j l = omega (arith, (sound s (block_at s j) (at.fine j l)).area_high, head.w_high)

  small_used : (j : ℕ) → j < i → (block_at s j).used ≤ 524288
  small_used j l = omega (arith, small_area j l, (sound s (block_at s j) (at.fine j l)).used)

  pub total_low : total ≤ 33554432
  total_low = omega (arith, at.total_is, sum_bound i 524288 (λ j. (block_at s j).used) small_used, head.count_slots, head.slots_high)

  module _ (good : block_ok s (block_at s i) ≡ true) where
    this : ShapedBlockIn s (block_at s i)
    this = sound s (block_at s i) good

    pub slot_low : slot_of s i < length seen
    slot_low = omega (arith, this.slot, head.slots_high, at.seen_64)

    pub pool_low : (block_at s i).pool < 3
    pool_low = omega (arith, this.pool, head.pools_high)

    pub units_low : ((block_at s i).used ≤ 524288) × ((block_at s i).area ≤ 524288)
    units_low = (omega (arith, this.used, this.area_high, head.w_high), omega (arith, this.area_high, head.w_high))

    pub room : Countable (get_or pools (block_at s i).pool (fresh_pool 0)) (block_at s i)
    room =
        let p = (block_at s i).pool in
        let e = at.sums p pool_low in
        let i64 : i ≤ 64 = omega (arith, head.count_slots, head.slots_high) in
        record {
          blocks = omega (arith, ap (λ (q : Pool). q.blocks) e, sum_bound i 1 (λ j. one (in_pool s p j)) (λ j l. one-le (in_pool s p j)));
          empty = omega (arith, ap (λ (q : Pool). q.empty) e, sum_bound i 1 (λ j. one (in_pool s p j && is_empty (block_at s j))) (λ j l. one-le (in_pool s p j && is_empty (block_at s j))));
          area = omega (arith, ap (λ (q : Pool). q.area) e, sum_bound i 524288 (λ j. only (in_pool s p j) (block_at s j).area) (λ j l. only-le (in_pool s p j) (block_at s j).area 524288 (small_area j l)), units_low.1);
          used = omega (arith, ap (λ (q : Pool). q.used) e, sum_bound i 524288 (λ j. only (in_pool s p j) (block_at s j).used) (λ j l. only-le (in_pool s p j) (block_at s j).used 524288 (small_used j l)), units_low.0);
        }

    -- its slot was seen
    pub slot_fails : get_or seen (slot_of s i) false ≡ true → table_ok s ≡ false
    unfolding table_ok
    slot_fails e =
        let r = at.was (slot_of s i) e in
        every_fails (table_tests s) 1
        (pairs_fail s.count (slots_apart s) r.0 i r.1 more (not_of_true (eqb (slot_of s r.0) (slot_of s i)) (eq-eqb (slot_of s r.0) (slot_of s i) r.2)))

    pub walk_step : get_or seen (slot_of s i) false ≡ false
        → Walked s (i + 1) (set seen (slot_of s i) true) (set pools (block_at s i).pool (counted (get_or pools (block_at s i).pool (fresh_pool 0)) (block_at s i))) (total + (block_at s i).used)
    walk_step new = record {
      here = omega arith;
      seen_64 = length-set seen (slot_of s i) true ∙ at.seen_64;
      pools_3 = length-set pools (block_at s i).pool (counted (get_or pools (block_at s i).pool (fresh_pool 0)) (block_at s i)) ∙ at.pools_3;
      fine = λ j l. by_eq j i (λ q. ap (λ (n : ℕ). block_ok s (block_at s n)) q ∙ good) (λ ne. at.fine j (omega (arith, ne)));
      was = λ k e.
          by_eq k (slot_of s i)
          (λ q. (i, omega arith, sym q))
          (λ ne. let r = at.was k (sym (get_or-set_other seen (slot_of s i) k true false ne) ∙ e) in (r.0, omega (arith, r.1), r.2));
      has = λ j l.
          by_eq j i
          (λ q. ap (λ (n : ℕ). get_or (set seen (slot_of s i) true) (slot_of s n) false) q ∙ get_or-set_same seen (slot_of s i) true false slot_low)
          (λ ne. mark_stays seen (slot_of s i) (slot_of s j) slot_low (at.has j (omega (arith, ne))));
      fresh = λ a b h l e.
          by_eq b i
          (λ q. not_both (get_or seen (slot_of s i) false) (ap (λ (n : ℕ). get_or seen n false) (sym (e ∙ ap (slot_of s) q)) ∙ at.has a (omega arith)) new)
          (λ ne. at.fresh a b h (omega (arith, ne)) e);
      sums = λ p l.
          by_eq p (block_at s i).pool
          (λ q.
          ap (λ (n : ℕ). get_or (set pools (block_at s i).pool (counted (get_or pools (block_at s i).pool (fresh_pool 0)) (block_at s i))) n (fresh_pool 0)) q
          ∙ get_or-set_same pools (block_at s i).pool _ (fresh_pool 0) (omega (arith, pool_low, at.pools_3))
          ∙ ap (λ (x : Pool). counted x (block_at s i)) (at.sums (block_at s i).pool pool_low)
          ∙ sum_in s i (block_at s i).pool refl
          ∙ ap (pool_sum s (i + 1)) (sym q))
          (λ ne. get_or-set_other pools (block_at s i).pool p _ (fresh_pool 0) ne ∙ at.sums p l ∙ sum_out s i p (λ q. ne (sym q)));
      total_is = omega (arith, at.total_is, sum_more i (λ j. (block_at s j).used));
    }

-- a block that fails
pub block_fails : (s : State) (i : ℕ) → i < s.count → block_ok s (block_at s i) ≡ false → table_ok s ≡ false
unfolding table_ok
block_fails s i l e = every_fails (table_tests s) 0 (all_fails s.count (λ j. block_ok s (block_at s j)) i l e)

-- ---- the end
module _ {s : State} {seen : List Bool} {pools : List Pool} {total : ℕ} (at : Walked s s.count seen pools total) where
  -- the stored sums are like the walk's exactly where they are like the sums said
  same_sums : all 3 (λ p. pool_matches (pool_at s p) (get_or pools p (fresh_pool 0)) s.immediate) ≡ all 3 (λ p. pool_matches (pool_at s p) (pool_sum s s.count p) s.immediate)
  unfolding all
  same_sums = simp (at.sums 0 (omega arith), at.sums 1 (omega arith), at.sums 2 (omega arith))

  pub pools_fail : all 3 (λ p. pool_matches (pool_at s p) (get_or pools p (fresh_pool 0)) s.immediate) ≡ false → table_ok s ≡ false
  unfolding table_ok
  pools_fail e = every_fails (table_tests s) 2 (sym same_sums ∙ e)

  pub walk_done : all 3 (λ p. pool_matches (pool_at s p) (get_or pools p (fresh_pool 0)) s.immediate) ≡ true → leb s.live total ≡ table_ok s
  unfolding table_ok
  walk_done good =
      and_then (all s.count (λ i. block_ok s (block_at s i))) _ _ (all_of s.count (λ i. block_ok s (block_at s i)) at.fine)
      (and_then (all_pairs s.count (slots_apart s)) _ _
      (pairs_of s.count (slots_apart s) (λ i j h l. not_of_false (eqb (slot_of s i) (slot_of s j)) (ne_eqb (slot_of s i) (slot_of s j) (at.fresh i j h l))))
      (and_then (all 3 (λ p. pool_matches (pool_at s p) (pool_sum s s.count p) s.immediate)) _ _
      (sym same_sums ∙ good)
      (ap (leb s.live) at.total_is ∙ sym (and-true (live_ok s)))))
