-- The last line fits the room that it is given. Assumes nothing.
use Prim.Native.Nat.{ℕ, ◌≤◌}
use native.Mathlib.Omega.{arith}
use lib.ListN.{length, length-append}
use Rattle.state.specs.declared.State.{State}
use Rattle.text.proofs.Digits.{most}
use Rattle.lines.specs.Last.{used_units, end_line, bad_line}

pub end_most : (s : State) → length (end_line s) ≤ 80
unfolding end_line
end_most s = simp length-append (omega (arith, most s.live, most s.count, most (used_units s)))

pub bad_most : (offset : ℕ) → length (bad_line offset) ≤ 80
unfolding bad_line
bad_most offset = simp length-append (omega (arith, most offset))
