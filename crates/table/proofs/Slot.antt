-- The slots that standing blocks have, one block after the other. Assumes nothing.
use Rattle.std.specs.Prelude.{Option, Some, None, MatchOption, slice_index_or}
use Rattle.std.specs.List.{AllWithin, HoldsAt}
use Rattle.std.proofs.lemmas.List.{get_or-take, length-take-le}
use Prim.Native.Nat.{ℕ, zero, suc, ◌+◌, ◌≤◌, ◌<◌}
use mathlib.Core.Bool.{Bool, true, false, not}
use mathlib.Core.List.{List}
use mathlib.Core.Path.{◌≡◌, refl, sym, ap, ◌∙◌}
use native.Mathlib.Omega.{arith}
use borrow.Author.Tests.{eq-eqb, ne_eqb, not-true, not-false}
use lib.Dec.{eqb}
use lib.ListN.{get_or, set, replicate, length, take, length-set}
use lib.Seq.{get_or-set_same, get_or-set_other}
use Rattle.numbers.proofs.Bools.{and_true}
use Rattle.numbers.proofs.Split.{by_eq}
use Rattle.state.specs.declared.State.{State}
use Rattle.state.specs.Table.{block_at, all}
use Rattle.state.specs.Find.{slot_free, lowest_slot}
use Rattle.state.proofs.Tests.{all_more, all_fails}
use Rattle.state.proofs.Find.{least_only}
use Rattle.table.specs.Ordered.{TakenSlots}

none_at : (n k : ℕ) → get_or (replicate n false) k false ≡ false
none_at zero k = refl
none_at (suc n) zero = refl
none_at (suc n) (suc k) = none_at n k

pub taken_none : (s : State) → TakenSlots s 0 (replicate 64 false)
unfolding all
taken_none s = record { size = refl; says = λ k h. none_at 64 k }

pub taken_more : (s : State) (i : ℕ) (taken : List Bool) → TakenSlots s i taken → (block_at s i).slot < 64 → TakenSlots s (i + 1) (set taken (block_at s i).slot true)
taken_more s i taken t h = record {
  size = length-set taken (block_at s i).slot true ∙ t.size;
  says = λ k l. by_eq k (block_at s i).slot
      (λ e.
      let fails : all (i + 1) (λ j. not (eqb (block_at s j).slot k)) ≡ false =
      all_fails (i + 1) (λ j. not (eqb (block_at s j).slot k)) i (omega arith) (ap not (eq-eqb (block_at s i).slot k (sym e))) in
      ap (λ (n : ℕ). get_or (set taken (block_at s i).slot true) n false) e
      ∙ get_or-set_same taken (block_at s i).slot true false (omega (arith, t.size)) ∙ sym (ap not fails))
      (λ ne.
      let same : all (i + 1) (λ j. not (eqb (block_at s j).slot k)) ≡ all i (λ j. not (eqb (block_at s j).slot k)) =
      all_more i (λ j. not (eqb (block_at s j).slot k))
      ∙ and_true (all i (λ j. not (eqb (block_at s j).slot k))) (not (eqb (block_at s i).slot k)) (ap not (ne_eqb (block_at s i).slot k (λ e. ne (sym e)))) in
      get_or-set_other taken (block_at s i).slot k true false ne ∙ t.says k l ∙ sym (ap not same));
}

-- ---- the first slot in force that no block has, as a search of `taken` finds it
abbrev pub Free : Bool → Type 0
Free b = b ≡ false

abbrev pub Taken : Bool → Type 0
Taken b = b ≡ true

module _ (s : State) (taken : List Bool) (t : TakenSlots s s.count taken) (few : s.slots ≤ 64) where
  says : (k : ℕ) → k < s.slots → slice_index_or (take s.slots taken) k false ≡ not (slot_free s k)
  says k h = get_or-take s.slots taken k false h ∙ t.says k (omega arith)

  inside : length (take s.slots taken) ≡ s.slots
  inside = length-take-le s.slots taken (omega (arith, t.size))

  pub first_free : (r : Option ℕ) → MatchOption r (AllWithin Taken (take s.slots taken) 0 (length (take s.slots taken)))
      (λ k. (k < length (take s.slots taken)) × HoldsAt Free (take s.slots taken) k × AllWithin Taken (take s.slots taken) 0 k) → r ≡ lowest_slot s
  first_free None q =
      least_only s.slots (slot_free s) None (λ j x h. not-true (slot_free s j) (sym (says j h) ∙ q j false x (omega (arith, inside))))
  first_free (Some k) q =
      let h : k < s.slots = omega (arith, inside, q.0) in
      least_only s.slots (slot_free s) (Some k) (record {
        low = omega arith;
        high = h;
        passes = not-false (slot_free s k) (sym (says k h) ∙ q.1 false);
        before = λ j x l. not-true (slot_free s j) (sym (says j (omega arith)) ∙ q.2 j false x l);
      })
