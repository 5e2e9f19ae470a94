-- Every line of a call fits the room that it is given. Assumes nothing.
use Prim.Native.Nat.{◌≤◌}
use native.Mathlib.Omega.{arith}
use lib.ListN.{length, length-append}
use Rattle.state.specs.declared.Answer.{Answer}
use Rattle.state.specs.declared.Answer.TheVariants.{Created, Granted, Released, Shrunk, Shown, Reset, Refused}
use Rattle.state.specs.Outcome.{number}
use Rattle.text.proofs.Digits.{most}
use Rattle.lines.specs.Lines.{answer_line}

pub answer_most : (a : Answer) → length (answer_line a) ≤ 80
unfolding answer_line
answer_most (Created size g pools) = simp length-append (omega (arith, most size, most g, most pools))
answer_most (Granted x) = simp length-append (omega (arith, most x.address, most x.size))
answer_most (Shown x) = simp length-append (omega (arith, most x.address, most x.size))
answer_most (Released x) = simp length-append (omega (arith, most x.address, most x.size))
answer_most (Shrunk x) = simp length-append (omega (arith, most x.address, most x.size))
answer_most Reset = omega arith
answer_most (Refused why) = simp length-append (omega (arith, most (number why)))
