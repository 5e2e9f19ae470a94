-- No call in a state that calls reach answers 5 or 6. Assumes nothing.
use Prim.Native.Nat.{ℕ}
use mathlib.Core.List.{List}
use mathlib.Core.Bool.{Bool, true, false}
use mathlib.Core.Path.{◌≡◌, sym, ap, subst}
use lib.ListN.{length}
use Rattle.numbers.proofs.Bools.{not_both}
use Rattle.numbers.proofs.Split.{by_eq}
use Rattle.state.specs.declared.State.{State}
use Rattle.state.specs.declared.Span.{Span}
use Rattle.state.specs.declared.Refusal.{Refusal}
use Rattle.state.specs.declared.Refusal.TheVariants.{InvalidArgument, TooLarge, InvalidState, NoMapping, BadShape, Damaged}
use Rattle.state.specs.declared.Answer.{Answer}
use Rattle.state.specs.declared.Answer.TheVariants.{Created, Granted, Released, Shrunk, Shown, Reset, Refused}
use Rattle.state.specs.Shape.{good_shape}
use Rattle.state.specs.Outcome.{number}
use Rattle.machine.specs.Turn.{Turn}
use Rattle.machine.specs.Alloc.{alloc_turn}
use Rattle.machine.specs.Reset.{reset_turn}
use Rattle.machine.specs.Release.{release_turn}
use Rattle.machine.specs.Machine.{Call, create, alloc, release, shrink, query, soft_reset, hard_reset, step}
use Rattle.machine.specs.When.{When}
use Rattle.machine.proofs.Cases.{create_cases, reset_cases, alloc_cases}
use Rattle.ledger.specs.Reached.{Reached}
use Rattle.ledger.proofs.Finds.{shrink_release}
use Rattle.ledger.proofs.Reached.{Known, reached_known}
use Rattle.demands.proofs.Answers.{Queried, unknown, known, queried, GivenBack, zero_address, no_block, no_span, struck, given_back, CutDown, too_many, shortened, cut_down}

-- the answer is neither refusal 5 nor refusal 6
abbrev Sane : Answer → Type 0
Sane (Refused BadShape) = ⊥
Sane (Refused Damaged) = ⊥
Sane (Refused InvalidArgument) = Unit {0}
Sane (Refused TooLarge) = Unit {0}
Sane (Refused InvalidState) = Unit {0}
Sane (Refused NoMapping) = Unit {0}
Sane (Created size g pools) = Unit {0}
Sane (Granted x) = Unit {0}
Sane (Released x) = Unit {0}
Sane (Shrunk x) = Unit {0}
Sane (Shown x) = Unit {0}
Sane Reset = Unit {0}

module _ {s : State} {u t : List ℕ} {l : List Span} (k : Known s u t l) where
  is : {x y : Answer} → x ≡ y → Sane y → Sane x
  is e h = subst Sane (sym e) h

  turned : {x y : Turn} → x ≡ y → Sane y.answer → Sane x.answer
  turned e h = is (ap (λ (x : Turn). x.answer) e) h

  query_sane : (a : ℕ) → Sane (step s u t (query a)).answer
  query_sane a = go (queried k a)
    where
      go : Queried s u t l a → Sane (step s u t (query a)).answer
      go (unknown none e) = is e tt
      go (known z m e) = is e tt

  release_sane : (a : ℕ) → Sane (release_turn s u t a).answer
  release_sane a = go (given_back k a)
    where
      go : GivenBack s u t l a → Sane (release_turn s u t a).answer
      go (zero_address p none e) = is e tt
      go (no_block p h none e) = is e tt
      go (no_span p h none e) = is e tt
      go (struck p z h m e) = is e tt

  shrink_sane : (a size : ℕ) → Sane (step s u t (shrink a size)).answer
  shrink_sane a size = by_eq size 0 (λ e. turned (shrink_release s u t l k.sound k.sized.blocks a size e) (release_sane a)) (λ ne. go (cut_down k a size ne))
    where
      go : CutDown s u t l a size → Sane (step s u t (shrink a size)).answer
      go (unknown none e) = is e tt
      go (too_many z m h e) = is e tt
      go (shortened z m h e) = is e tt

  alloc_sane : (size : ℕ) → Sane (alloc_turn s u t size).answer
  alloc_sane size = alloc_cases (λ (x : Turn). Sane x.answer) s u t size early_sane (λ bytes q miss short. tt) (λ bytes j i q e. tt) (λ bytes at slot q miss p. tt)
    where
      early_sane : (why : Refusal) → (number why ≡ 4 → ⊥) → When s u t why (alloc size) → Sane (Refused why)
      early_sane BadShape early bad = not_both (good_shape s (length u) (length t)) k.sound.shape bad
      early_sane Damaged early cond = cond
      early_sane InvalidArgument early cond = tt
      early_sane TooLarge early cond = tt
      early_sane InvalidState early cond = tt
      early_sane NoMapping early cond = tt

  reset_sane : (hard : Bool) → Sane (reset_turn s u t hard).answer
  reset_sane hard =
      reset_cases (λ (x : Turn). Sane x.answer) s u t hard (λ bad. not_both (good_shape s (length u) (length t)) k.sound.shape bad) (λ good. tt) (λ good off. tt)

  known_sane : (c : Call) → Sane (step s u t c).answer
  known_sane (create a) = create_cases (λ (x : Turn). Sane x.answer) s u t a (λ e. tt) (λ e. tt)
  known_sane (alloc size) = alloc_sane size
  known_sane (release a) = release_sane a
  known_sane (shrink a size) = shrink_sane a size
  known_sane (query a) = query_sane a
  known_sane soft_reset = reset_sane false
  known_sane hard_reset = reset_sane true

pub never_5 : {s : State} {u t : List ℕ} {l : List Span} → Reached s u t l → (c : Call) → (step s u t c).answer ≡ Refused BadShape → ⊥
never_5 r c e = subst Sane e (known_sane (reached_known r) c)

pub never_6 : {s : State} {u t : List ℕ} {l : List Span} → Reached s u t l → (c : Call) → (step s u t c).answer ≡ Refused Damaged → ⊥
never_6 r c e = subst Sane e (known_sane (reached_known r) c)
