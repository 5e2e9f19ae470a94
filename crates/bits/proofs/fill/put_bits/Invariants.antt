use mir.Val.{bool_byte}
use Rattle.bits.specs.Bits.{Filled}
use Rattle.bits.proofs.fill.put_bits.Given as goal

abbrev pub invariant-loop-i : goal.invariant-loop-i
invariant-loop-i l = Filled l.initial.buf l.index l.i (bool_byte l.value) l.buf
