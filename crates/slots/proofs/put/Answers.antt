use Rattle.std.proofs.Common.{◌<◌, Bool, true, false, lit<}
use mir.Val.{bool_byte}
use Rattle.bits.proofs.Filled.{filled_is}
use Rattle.slots.proofs.put.Goals as goal

byte-lt : (b : Bool) → bool_byte b < 2
byte-lt true = lit< tt
byte-lt false = lit< tt

pub returns : goal.returns
returns c =
    filled_is c.bit_vector_set_bits.ensures (λ i. (c.slice_known-1.given i).fits) (λ i. (c.type_inv.part i).fits) (byte-lt c.args.value) c.requires.0
