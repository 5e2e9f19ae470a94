-- The next stop bit, as the rule has it. Assumes nothing.
use Rattle.std.specs.Prelude.{Some, None}
use Prim.Native.Nat.{ℕ, ◌+◌, ◌-◌, ◌*◌, ◌≤◌, ◌<◌}
use mathlib.Core.Bool.{Bool}
use mathlib.Core.List.{List}
use mathlib.Core.Path.{◌≡◌, subst}
use native.Mathlib.Omega.{arith}
use borrow.Author.Tests.{eq-eqb, ne_eqb}
use lib.Dec.{eqb}
use lib.ListN.{length}
use Rattle.bits.specs.Bits.{bit, FirstAt}
use Rattle.state.specs.Find.{least_from}
use Rattle.state.proofs.Find.{Least, least_is, least_unique}

module _ (t : List ℕ) (i area r : ℕ) (h : i < area) (room : area ≤ 32 * length t) (f : FirstAt t i 1 r) where
  abbrev stopped : ℕ → Bool
  stopped k = eqb (bit t k) 1

  rule : Least i area stopped (least_from i (area - i) stopped)
  rule =
      let e : i + (area - i) ≡ area = omega arith in
      subst (λ (n : ℕ). Least i n stopped (least_from i (area - i) stopped)) e (least_is i (area - i) stopped)

  pub stop_found : r < area → least_from i (area - i) stopped ≡ Some r
  stop_found l =
      least_unique i area stopped (least_from i (area - i) stopped) (Some r) rule
      (record { low = f.low; high = l; passes = eq-eqb (bit t r) 1 (f.found (omega arith)); before = λ j a b. ne_eqb (bit t j) 1 (f.before j a b) })

  pub stop_none : area ≤ r → least_from i (area - i) stopped ≡ None
  stop_none l = least_unique i area stopped (least_from i (area - i) stopped) None rule (λ j a b. ne_eqb (bit t j) 1 (f.before j a (omega arith)))
