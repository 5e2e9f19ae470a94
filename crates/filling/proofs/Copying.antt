-- What a query shows through an image lies in it, at the address; and a write that passes its span is refused. Assumes nothing.
use Prim.Native.Nat.{ℕ, ◌+◌, ◌≤◌}
use mathlib.Core.Bool.{Bool}
use mathlib.Core.List.{List}
use mathlib.Core.Path.{◌≡◌, refl, sym, ap, subst}
use native.Mathlib.Omega.{arith}
use borrow.Author.Tests.{lt-leb}
use lib.ListN.{length}
use Rattle.numbers.specs.Pick.{pick}
use Rattle.state.specs.declared.State.{State}
use Rattle.state.specs.declared.Span.{Span}
use Rattle.state.specs.declared.Refusal.TheVariants.{InvalidArgument, BadShape}
use Rattle.state.specs.declared.Answer.{Answer}
use Rattle.state.specs.declared.Answer.TheVariants.{Created, Granted, Released, Shrunk, Shown, Reset, Refused}
use Rattle.state.specs.Shape.{bad_shape}
use Rattle.machine.specs.Turn.{Turn}
use Rattle.machine.specs.Span.{query_turn}
use Rattle.machine.proofs.Cases.{query_cases}
use Rattle.filling.specs.InArena.{InArena}
use Rattle.filling.proofs.Inside.{span_inside}
use Rattle.filling.proofs.Lent.{lent_refused, lent_granted, lent_cases}
use Rattle.filling.specs.Copying.{fits, looked_up}

-- a span that is shown is such
abbrev pub IfShown : (Span → Type 0) → Answer → Type 0
IfShown P (Shown x) = P x
IfShown P (Created size g pools) = Unit {0}
IfShown P (Granted x) = Unit {0}
IfShown P (Released x) = Unit {0}
IfShown P (Shrunk x) = Unit {0}
IfShown P Reset = Unit {0}
IfShown P (Refused why) = Unit {0}

-- it lies in the range, and starts at the address that was asked for
abbrev pub LiesWithin : ℕ → ℕ → ℕ → Span → Type 0
LiesWithin arena room a x = InArena arena room x × (x.address ≡ a)

module _ (s : State) (u t : List ℕ) (room a : ℕ) where
  -- an image of the arena's length: as a query
  pub looked_plain : room ≡ s.length → looked_up s u t room a ≡ (query_turn s u t a).answer
  unfolding query_turn
  looked_plain e = ap (λ (x : Turn). x.answer) (lent_granted s u t room _ e)

  pub looked_refused : (room ≡ s.length → ⊥) → looked_up s u t room a ≡ Refused (pick (bad_shape s (length u) (length t)) BadShape InvalidArgument)
  looked_refused ne = ap (λ (x : Turn). x.answer) (lent_refused s u t room (query_turn s u t a) ne)

  shown_lies : IfShown (LiesWithin s.arena s.length a) (query_turn s u t a).answer
  shown_lies = query_cases (λ (x : Turn). IfShown (LiesWithin s.arena s.length a) x.answer) s u t a (λ why cond. tt) (λ j i e h. (span_inside s u t a j i e h, refl))

  pub looked_lies : IfShown (LiesWithin s.arena room a) (looked_up s u t room a)
  looked_lies =
      lent_cases s u t room (λ (x : Turn). IfShown (LiesWithin s.arena room a) x.answer) (query_turn s u t a)
      (λ e. subst (λ (n : ℕ). IfShown (LiesWithin s.arena n a) (query_turn s u t a).answer) (sym e) shown_lies) (λ why. tt)

-- ---- a write that passes its span
pub no_room : (offset n : ℕ) (x : Span) → x.size + 1 ≤ offset + n → Refused InvalidArgument ≡ fits offset n (Shown x)
no_room offset n x h = sym (ap (λ (b : Bool). pick b (Shown x) (Refused InvalidArgument)) (lt-leb (offset + n) x.size (omega (arith, h))))
