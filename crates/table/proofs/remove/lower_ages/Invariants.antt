use Prim.Native.Nat.{ℕ, ◌≤◌, ◌<◌}
use mathlib.Core.Path.{◌≡◌}
use lib.ListN.{get_or}
use Rattle.state.specs.Change.{fallen}
use Rattle.table.proofs.remove.lower_ages.Given as goal

abbrev pub invariant-loop-age : goal.invariant-loop-age
invariant-loop-age l = record {
  lowered : (k : ℕ) → k < l.age-index → get_or l.order k 0 ≡ fallen l.i (get_or l.initial.order k 0);
  rest : (k : ℕ) → l.age-index ≤ k → get_or l.order k 0 ≡ get_or l.initial.order k 0;
}
