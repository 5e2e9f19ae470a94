-- Each refusal number is given exactly under its condition, by every call; and no two conditions hold at once. Assumes nothing.
use Prim.Native.Nat.{ℕ}
use mathlib.Core.Bool.{Bool, true, false}
use mathlib.Core.List.{List}
use mathlib.Core.Logic.{◌↔◌}
use mathlib.Core.Path.{◌≡◌, sym, subst, ◌∙◌}
use lib.ListN.{length}
use Rattle.state.specs.declared.State.{State}
use Rattle.state.specs.declared.Refusal.{Refusal}
use Rattle.state.specs.declared.Refusal.TheVariants.{InvalidArgument, TooLarge, InvalidState, NoMapping, BadShape, Damaged}
use Rattle.state.specs.declared.Answer.TheVariants.{Refused}
use Rattle.machine.specs.Turn.{Turn}
use Rattle.state.specs.declared.Asked.{Asked}
use Rattle.machine.specs.Create.{create_turn}
use Rattle.machine.specs.Release.{release_units}
use Rattle.machine.specs.Reset.{reset_turn}
use Rattle.machine.specs.Machine.{Call, create, alloc, release, shrink, query, soft_reset, hard_reset, step}
use Rattle.machine.specs.When.{Bad, When, Told}
use Rattle.machine.proofs.Cases.{create_cases, alloc_cases, query_cases, release_cases, shrink_cases, reset_cases, freed_answer, short_when}
use Rattle.refusals.proofs.Address.{as_release, query_when, release_when, shrink_when}
use Rattle.refusals.proofs.Size.{alloc_when}

module _ (s : State) (u t : List ℕ) where
  -- ---- a refusal comes under its condition
  abbrev Tells : Call → Turn → Type 0
  Tells c x = Told s u t c x.answer

  freed : (c : Call) (a j i e : ℕ) → Told s u t c (release_units s u t a j i e).answer
  freed c a j i e = subst (Told s u t c) (sym (freed_answer s u t a j i e)) tt

  told : (c : Call) → Tells c (step s u t c)
  told (create a) = create_cases (Tells (create a)) s u t a (λ e. e) (λ e. tt)
  told (alloc size) = alloc_cases (Tells (alloc size)) s u t size (λ why ne q. q) (λ bytes k miss q. short_when s u t size bytes k miss q) (λ bytes j i k e. tt) (λ bytes at slot k miss m. tt)
  told (release a) = release_cases (Tells (release a)) s u t a (λ why q. q) (λ j i e k. freed (release a) a j i e)
  told (shrink a size) =
      shrink_cases (Tells (shrink a size)) s u t a size (λ why q. q)
      (λ z. release_cases (Tells (shrink a size)) s u t a (as_release s u t a size z) (λ j i e k. freed (shrink a size) a j i e))
      (λ j i e n k same. tt) (λ j i e n k. tt)
  told (query a) = query_cases (Tells (query a)) s u t a (λ why q. q) (λ j i e k. tt)
  told soft_reset = reset_cases (Tells soft_reset) s u t false (λ e. e) (λ e. tt) (λ e off. tt)
  told hard_reset = reset_cases (Tells hard_reset) s u t true (λ e. e) (λ e. tt) (λ e off. tt)

  -- ---- and the condition brings the refusal
  create_when : (a : Asked) (why : Refusal) → When s u t why (create a) → (step s u t (create a)).answer ≡ Refused why
  unfolding create_turn
  create_when a InvalidArgument e = rw e
  create_when a TooLarge e = absurd e
  create_when a InvalidState e = absurd e
  create_when a NoMapping e = absurd e
  create_when a BadShape e = absurd e
  create_when a Damaged e = absurd e

  reset_bad : (hard : Bool) → Bad s u t → (reset_turn s u t hard).answer ≡ Refused BadShape
  unfolding reset_turn
  reset_bad hard e = rw e

  soft_when : (why : Refusal) → When s u t why soft_reset → (reset_turn s u t false).answer ≡ Refused why
  soft_when BadShape e = reset_bad false e
  soft_when InvalidArgument e = absurd e
  soft_when TooLarge e = absurd e
  soft_when InvalidState e = absurd e
  soft_when NoMapping e = absurd e
  soft_when Damaged e = absurd e

  hard_when : (why : Refusal) → When s u t why hard_reset → (reset_turn s u t true).answer ≡ Refused why
  hard_when BadShape e = reset_bad true e
  hard_when InvalidArgument e = absurd e
  hard_when TooLarge e = absurd e
  hard_when InvalidState e = absurd e
  hard_when NoMapping e = absurd e
  hard_when Damaged e = absurd e

  given : (c : Call) (why : Refusal) → When s u t why c → (step s u t c).answer ≡ Refused why
  given (create a) why q = create_when a why q
  given (alloc size) why q = alloc_when s u t size why q
  given (release a) why q = release_when s u t a why q
  given (shrink a size) why q = shrink_when s u t a size why q
  given (query a) why q = query_when s u t a why q
  given soft_reset why q = soft_when why q
  given hard_reset why q = hard_when why q

  -- ---- any call; a record of the code has 64 entries
  module _ (len : length s.blocks ≡ 64) where
    pub refused_exactly : (c : Call) (why : Refusal) → ((step s u t c).answer ≡ Refused why) ↔ When s u t why c
    refused_exactly c why = (λ e. subst (Told s u t c) e (told c), given c why)

    same_refusal : (a b : Refusal) → Refused a ≡ Refused b → a ≡ b
    same_refusal a b e = cc

    pub one_case : (c : Call) (a b : Refusal) → When s u t a c → When s u t b c → a ≡ b
    one_case c a b p q = same_refusal a b (sym (given c a p) ∙ given c b q)
