-- What a query, a release and a shrink of an address come to in a known state, by what the ledger has there. Assumes nothing.
use Rattle.std.specs.Prelude.{Some, None, Err}
use Prim.Native.Nat.{ℕ, ◌-◌, ◌*◌, ◌≤◌, ◌<◌}
use mathlib.Core.List.{List}
use mathlib.Core.Path.{◌≡◌, sym, ap, subst, ◌∙◌}
use native.Mathlib.Nat.{mul-le-mul_right, mul-lt-mul_of_pos_right}
use native.Mathlib.Omega.{arith}
use lib.ListN.{length}
use Rattle.numbers.specs.Units.{units_of, bytes_of}
use Rattle.numbers.proofs.Bools.{not_both}
use Rattle.numbers.proofs.Split.{by_eq, by_le}
use Rattle.state.specs.declared.State.{State}
use Rattle.state.specs.declared.Span.{Span}
use Rattle.state.specs.declared.NotHeld.TheVariants.{NoSpan}
use Rattle.state.specs.declared.Refusal.TheVariants.{InvalidArgument, InvalidState}
use Rattle.state.specs.declared.Answer.TheVariants.{Released, Shrunk, Shown, Refused}
use Rattle.state.specs.Table.{block_at}
use Rattle.state.specs.Find.{holds, lookup}
use Rattle.state.proofs.Find.{Least, least_of}
use Rattle.shape_facts.proofs.Facts.{found_in}
use Rattle.machine.specs.Turn.{Turn, span}
use Rattle.machine.specs.Release.{release_units, release_turn}
use Rattle.machine.specs.Shrink.{shrink_turn}
use Rattle.machine.specs.Span.{query_turn}
use Rattle.machine.proofs.Cases.{freed_answer}
use Rattle.ledger.specs.Ledger.{In}
use Rattle.ledger.specs.Agrees.{Sound}
use Rattle.ledger.proofs.Finds.{Finds, nowhere, nothing, entry, finds, stands, unit_is, not-zero, query_at, query_held_lem, query_entry, release-zero, release_at, release_held_lem, release_entry, shrink-zero, shrink_at, shrink_held_lem, shrink_units_lem, units_more, units_same, units_less}
use Rattle.ledger.proofs.Reached.{Known}
use Rattle.demands.specs.Apart.{HasBlock, Vacant}

pub data Queried (s : State) (u t : List ℕ) (l : List Span) (a : ℕ) : Type 0 where
  unknown : Vacant l a → (query_turn s u t a).answer ≡ Refused InvalidArgument → Queried s u t l a
  known : (z : ℕ) → In a z l → (query_turn s u t a).answer ≡ Shown (span a z) → Queried s u t l a

pub data GivenBack (s : State) (u t : List ℕ) (l : List Span) (a : ℕ) : Type 0 where
  zero_address : a ≡ 0 → Vacant l a → (release_turn s u t a).answer ≡ Refused InvalidArgument → GivenBack s u t l a
  no_block : (a ≡ 0 → ⊥) → (HasBlock s a → ⊥) → Vacant l a → (release_turn s u t a).answer ≡ Refused InvalidState → GivenBack s u t l a
  no_span : (a ≡ 0 → ⊥) → HasBlock s a → Vacant l a → (release_turn s u t a).answer ≡ Refused InvalidArgument → GivenBack s u t l a
  struck : (a ≡ 0 → ⊥) → (z : ℕ) → HasBlock s a → In a z l → (release_turn s u t a).answer ≡ Released (span a z) → GivenBack s u t l a

pub data CutDown (s : State) (u t : List ℕ) (l : List Span) (a size : ℕ) : Type 0 where
  unknown : Vacant l a → (shrink_turn s u t a size).answer ≡ Refused InvalidArgument → CutDown s u t l a size
  too_many : (z : ℕ) → In a z l → z < bytes_of (units_of size s.granularity) s.granularity → (shrink_turn s u t a size).answer ≡ Refused InvalidState → CutDown s u t l a size
  shortened : (z : ℕ) → In a z l → bytes_of (units_of size s.granularity) s.granularity ≤ z → (shrink_turn s u t a size).answer ≡ Shrunk (span a (bytes_of (units_of size s.granularity) s.granularity))
      → CutDown s u t l a size

module _ {s : State} {u t : List ℕ} {l : List Span} (k : Known s u t l) where
  abbrev o : Sound s u t l
  o = k.sound

  abbrev len : length s.blocks ≡ 64
  len = k.sized.blocks

  answered : {x y : Turn} → x ≡ y → x.answer ≡ y.answer
  answered e = ap (λ (x : Turn). x.answer) e

  found : (a j : ℕ) → lookup s a ≡ Some j → HasBlock s a
  found a j e = let r = found_in s a j (sym e) in (j, r.0, r.1)

  none_holds : (a : ℕ) → lookup s a ≡ None → HasBlock s a → ⊥
  none_holds a e h =
      let none = subst (Least 0 s.count (λ i. holds (block_at s i) a)) e (least_of s.count (λ i. holds (block_at s i) a)) in
      not_both (holds (block_at s h.0) a) h.2 (none h.0 (omega arith) h.1)

  -- address 0 is no entry
  zero_vacant : (a : ℕ) → a ≡ 0 → Vacant l a
  zero_vacant a e z m = not-zero s u t l o len a z m e

  pub queried : (a : ℕ) → Queried s u t l a
  queried a = go (finds s u t l o len a)
    where
      go : Finds s u t l a → Queried s u t l a
      go (nowhere e none) = unknown none (answered (query_at s u t l o len a None e))
      go (nothing j h e y none) = unknown none (answered (query_held_lem s u t l o len a j (Err NoSpan) e y))
      go (entry j i e h p y some fits ea mem used) = known ((e - i) * s.granularity) mem (answered (query_entry s u t l o len a j i e h p y))

  free_answer : (a j i e : ℕ) → j < s.count → (release_units s u t a j i e).answer ≡ Released (span a ((e - i) * s.granularity))
  free_answer a j i e h =
      freed_answer s u t a j i e ∙ ap (λ (g : ℕ). Released (span a ((e - i) * g))) (unit_is s u t l o len j h)

  pub given_back : (a : ℕ) → GivenBack s u t l a
  given_back a = by_eq a 0 (λ e. zero_address e (zero_vacant a e) (answered (release-zero s u t l o len a e))) (λ ne. go ne (finds s u t l o len a))
    where
      go : (a ≡ 0 → ⊥) → Finds s u t l a → GivenBack s u t l a
      go ne (nowhere e none) = no_block ne (none_holds a e) none (answered (release_at s u t l o len a None ne e))
      go ne (nothing j h e y none) = no_span ne (found a j e) none (answered (release_held_lem s u t l o len a j (Err NoSpan) ne e y))
      go ne (entry j i e h p y some fits ea mem used) =
          struck ne ((e - i) * s.granularity) (found a j p) mem (answered (release_entry s u t l o len a j i e ne p y mem used) ∙ free_answer a j i e h)

  pub cut_down : (a size : ℕ) → (size ≡ 0 → ⊥) → CutDown s u t l a size
  cut_down a size ns = by_eq a 0 (λ e. unknown (zero_vacant a e) (answered (shrink-zero s u t l o len a size ns e))) (λ ne. go ne (finds s u t l o len a))
    where
      go : (a ≡ 0 → ⊥) → Finds s u t l a → CutDown s u t l a size
      go ne (nowhere e none) = unknown none (answered (shrink_at s u t l o len a size None ns ne e))
      go ne (nothing j h e y none) = unknown none (answered (shrink_held_lem s u t l o len a size j (Err NoSpan) ns ne e y))
      go ne (entry j i e h p y some fits ea mem used) =
          let n = units_of size s.granularity in
          let g = s.granularity in
          let st = stands s u t l o len in
          let is = shrink_units_lem s u t l o len a size j i e ns ne h p y used in
          by_le n (e - i)
          (λ q.
          shortened ((e - i) * g) mem (mul-le-mul_right {m = n} {n = e - i} g q)
          (by_eq n (e - i) (λ c. answered (is ∙ units_same s u t l o len a j i e n h c))
          (λ nc. answered (is ∙ units_less s u t l o len a j i e n (omega (arith, nc))) ∙ ap (λ (x : ℕ). Shrunk (span a (n * x))) (unit_is s u t l o len j h))))
          (λ q. too_many ((e - i) * g) mem (mul-lt-mul_of_pos_right {m = e - i} {n = n} q st.unit) (answered (is ∙ units_more s u t l o len a j i e n q)))
