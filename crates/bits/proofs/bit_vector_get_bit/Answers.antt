-- `bit_vector_get_bit`: the digit shifted out of its word is the map's bit. Assumes nothing.
use lib.ListN.{get_or}
use Prim.Native.Nat.{◌/◌, ◌%◌}
use Rattle.bits.specs.Bits.{bit}
use Rattle.bits.proofs.Ops.{get_is}
use Rattle.bits.proofs.bit_vector_get_bit.Goals as goal

pub returns : goal.returns
unfolding bit
returns c = get_is (get_or c.args.buf.now (c.args.index / 32) 0) (c.args.index % 32)
