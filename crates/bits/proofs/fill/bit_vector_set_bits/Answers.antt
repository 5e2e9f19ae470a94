-- Bit `index % 32` of the words from `index / 32` on is bit `index` of all words, and no word before them changes. So what is `Filled` in
-- that part is `Filled` in the whole (`filled_lent`). Assumes nothing.
use native.Mathlib.Omega.{arith}
use mir.Val.{bool_byte}
use Rattle.bits.proofs.Filled.{filled_lent}
use Rattle.bits.proofs.fill.bit_vector_set_bits.Goals as goal

pub returns : goal.returns
returns c =
    let a = c.args in
    filled_lent a.buf.now c.put_bits.new.buf a.index a.count (bool_byte a.value) (omega arith) c.put_bits.ensures
