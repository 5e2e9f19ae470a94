-- Exactly when a call with an image is refused, and with which number. Assumes nothing.
use Prim.Native.Nat.{ℕ}
use mathlib.Core.Bool.{Bool, true, false}
use mathlib.Core.List.{List}
use mathlib.Core.Logic.{◌⊎◌, inl, inr, ◌↔◌}
use mathlib.Core.Path.{◌≡◌, refl, sym, ap}
use borrow.Author.Tests.{eqb-true, eqb-false}
use lib.Dec.{eqb}
use lib.ListN.{length}
use Rattle.numbers.specs.Pick.{pick}
use Rattle.numbers.proofs.Bools.{not_both}
use Rattle.state.specs.declared.State.{State}
use Rattle.state.specs.declared.Refusal.{Refusal}
use Rattle.state.specs.declared.Refusal.TheVariants.{InvalidArgument, BadShape}
use Rattle.state.specs.declared.Answer.{Answer}
use Rattle.state.specs.declared.Answer.TheVariants.{Refused}
use Rattle.state.specs.Shape.{bad_shape}
use Rattle.machine.specs.Turn.{refuse}
use Rattle.machine.specs.Machine.{Call, step}
use Rattle.filling.specs.Unused.{lent_step}
use Rattle.filling.specs.Refused.{LentWhen}

pub same_refusal : (a b : Refusal) → Refused a ≡ Refused b → b ≡ a
same_refusal a b e = cc

module _ (s : State) (u t : List ℕ) (room : ℕ) (c : Call) (why : Refusal) where
  -- `LentWhen`, of a shape that is bad or not
  abbrev When : Bool → Type 0
  When bad =
      ((bad ≡ true) × (why ≡ BadShape))
      ⊎ (((bad ≡ false) × (room ≡ s.length → ⊥) × (why ≡ InvalidArgument)) ⊎ ((bad ≡ false) × (room ≡ s.length) × ((step s u t c).answer ≡ Refused why)))

  abbrev answer : Bool → Bool → Answer
  answer bad same = (pick bad (refuse BadShape s u t) (pick same (step s u t c) (refuse InvalidArgument s u t))).answer

  told : (bad same : Bool) → eqb room s.length ≡ same → answer bad same ≡ Refused why → When bad
  told true same e q = inl (refl, same_refusal BadShape why q)
  told false true e q = inr (inr (refl, eqb-true room s.length e, q))
  told false false e q = inr (inl (refl, eqb-false room s.length e, same_refusal InvalidArgument why q))

  given : (bad same : Bool) → eqb room s.length ≡ same → When bad → answer bad same ≡ Refused why
  given true same e (inl q) = ap Refused (sym q.1)
  given true same e (inr (inl q)) = absurd (not_both true refl q.0)
  given true same e (inr (inr q)) = absurd (not_both true refl q.0)
  given false same e (inl q) = absurd (not_both false q.0 refl)
  given false true e (inr (inl q)) = absurd (q.1 (eqb-true room s.length e))
  given false false e (inr (inl q)) = ap Refused (sym q.2)
  given false true e (inr (inr q)) = q.2
  given false false e (inr (inr q)) = absurd (eqb-false room s.length e q.1)

  pub lent_exactly : ((lent_step s u t room c).answer ≡ Refused why) ↔ LentWhen s u t room c why
  lent_exactly =
      (told (bad_shape s (length u) (length t)) (eqb room s.length) refl, given (bad_shape s (length u) (length t)) (eqb room s.length) refl)
