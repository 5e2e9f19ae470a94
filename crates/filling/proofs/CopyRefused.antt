-- Exactly when a write is refused, and with which number. Assumes nothing.
use Prim.Native.Nat.{ℕ, ◌+◌}
use mathlib.Core.List.{List}
use mathlib.Core.Logic.{inl, inr, ◌↔◌}
use mathlib.Core.Path.{◌≡◌, refl, sym, ap, ◌∙◌}
use native.Mathlib.Omega.{arith}
use borrow.Author.Tests.{leb-false}
use lib.Dec.{leb}
use Rattle.numbers.proofs.Bools.{picked}
use Rattle.state.specs.declared.State.{State}
use Rattle.state.specs.declared.Refusal.{Refusal}
use Rattle.state.specs.declared.Refusal.TheVariants.{InvalidArgument}
use Rattle.state.specs.declared.Answer.{Answer}
use Rattle.state.specs.declared.Answer.TheVariants.{Created, Granted, Released, Shrunk, Shown, Reset, Refused}
use Rattle.machine.specs.Machine.{query}
use Rattle.filling.proofs.Refused.{same_refusal, lent_exactly}
use Rattle.filling.specs.Copying.{fits, looked_up, copy_answer, CopyWhen}
use Rattle.filling.proofs.Copying.{no_room}

module _ (s : State) (u t : List ℕ) (room a offset n : ℕ) (why : Refusal) where
  -- by what the query shows
  told : (c : Answer) → looked_up s u t room a ≡ c → fits offset n c ≡ Refused why → CopyWhen s u t room a offset n why
  told (Refused w) e = λ q. inl ((lent_exactly s u t room (query a) why).0 (e ∙ q))
  told (Shown x) e =
      picked (λ (c : Answer). c ≡ Refused why → CopyWhen s u t room a offset n why) (leb (offset + n) x.size) (Shown x) (Refused InvalidArgument)
      (λ f q. absurd (let z : ◌≡◌ {A = ℕ} 0 1 = cc in omega arith))
      (λ f q. inr (x, e, leb-false (offset + n) x.size f, same_refusal InvalidArgument why q))
  told (Created size g pools) e = λ q. absurd (let z : ◌≡◌ {A = ℕ} 0 1 = cc in omega arith)
  told (Granted x) e = λ q. absurd (let z : ◌≡◌ {A = ℕ} 0 1 = cc in omega arith)
  told (Released x) e = λ q. absurd (let z : ◌≡◌ {A = ℕ} 0 1 = cc in omega arith)
  told (Shrunk x) e = λ q. absurd (let z : ◌≡◌ {A = ℕ} 0 1 = cc in omega arith)
  told Reset e = λ q. absurd (let z : ◌≡◌ {A = ℕ} 0 1 = cc in omega arith)

  given : CopyWhen s u t room a offset n why → copy_answer s u t room a offset n ≡ Refused why
  given (inl q) = ap (fits offset n) ((lent_exactly s u t room (query a) why).1 q)
  given (inr q) = ap (fits offset n) q.1 ∙ sym (no_room offset n q.0 (omega (arith, q.2))) ∙ ap Refused (sym q.3)

  pub copy_exactly : (copy_answer s u t room a offset n ≡ Refused why) ↔ CopyWhen s u t room a offset n why
  copy_exactly = (told (looked_up s u t room a) refl, given)
