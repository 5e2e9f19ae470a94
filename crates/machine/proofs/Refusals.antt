-- What a refusal changes: nothing, but for the windows that the search of refusal 4 tightened. Assumes nothing.
use Prim.Native.Nat.{ℕ}
use mathlib.Core.Bool.{Bool, true, false}
use mathlib.Core.List.{List}
use mathlib.Core.Path.{◌≡◌, refl, sym, ap, subst}
use Rattle.sizes.specs.Sizes.{rounded}
use Rattle.state.specs.declared.State.{State}
use Rattle.state.specs.declared.Refusal.{Refusal}
use Rattle.state.specs.declared.Refusal.TheVariants.{InvalidArgument, TooLarge, InvalidState, NoMapping, BadShape, Damaged}
use Rattle.state.specs.Outcome.{number}
use Rattle.machine.specs.Turn.{Turn, refuse}
use Rattle.machine.specs.Release.{release_units, release_turn}
use Rattle.machine.specs.Reset.{reset_turn}
use Rattle.machine.specs.Machine.{Call, create, alloc, release, shrink, query, soft_reset, hard_reset, step}
use Rattle.machine.specs.Refusals.{LeftByRefusal, searched_for, searched_by}
use Rattle.machine.proofs.Cases.{create_cases, alloc_cases, query_cases, release_cases, shrink_cases, reset_cases, freed_answer}

module _ (s : State) (u t : List ℕ) where
  abbrev Still : State → Turn → Type 0
  Still r x = LeftByRefusal s r u t x x.answer

  stays : (r : State) (why : Refusal) → (number why ≡ 4 → r ≡ s) → Still r (refuse why s u t)
  stays r InvalidArgument e = (refl, refl, refl)
  stays r TooLarge e = (refl, refl, refl)
  stays r InvalidState e = (refl, refl, refl)
  stays r NoMapping e = (sym (e refl), refl, refl)
  stays r BadShape e = (refl, refl, refl)
  stays r Damaged e = (refl, refl, refl)

  abbrev same : (why : Refusal) → Still s (refuse why s u t)
  same why = stays s why (λ e. refl)

  release_still : (a : ℕ) → Still s (release_turn s u t a)
  release_still a =
      release_cases (Still s) s u t a (λ why q. same why)
      (λ j i e k. subst (LeftByRefusal s s u t (release_units s u t a j i e)) (sym (freed_answer s u t a j i e)) tt)

  reset_still : (hard : Bool) → Still s (reset_turn s u t hard)
  reset_still hard = reset_cases (Still s) s u t hard (λ bad. same BadShape) (λ good. tt) (λ good off. tt)

  pub refusal_leaves : (c : Call) → LeftByRefusal s (searched_by s u c) u t (step s u t c) (step s u t c).answer
  refusal_leaves (create a) = create_cases (Still s) s u t a (λ e. same InvalidArgument) (λ e. tt)
  refusal_leaves (alloc size) =
      alloc_cases (Still (searched_for s u (rounded size s.granularity))) s u t size (λ why ne q. stays _ why (λ e. absurd (ne e)))
      (λ bytes k miss short. (ap (searched_for s u) (sym k.is), refl, refl)) (λ bytes j i k e. tt) (λ bytes at slot k miss m. tt)
  refusal_leaves (release a) = release_still a
  refusal_leaves (shrink a size) = shrink_cases (Still s) s u t a size (λ why q. same why) (λ e. release_still a) (λ j i e n k q. tt) (λ j i e n k. tt)
  refusal_leaves (query a) = query_cases (Still s) s u t a (λ why q. same why) (λ j i e k. tt)
  refusal_leaves soft_reset = reset_still false
  refusal_leaves hard_reset = reset_still true
