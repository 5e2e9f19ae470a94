-- A new block's place is at most the number of blocks. Assumes nothing.
use native.Mathlib.Omega.{arith}
use lib.Dec.{ltb}
use Rattle.state.specs.Table.{block_at, age_at}
use Rattle.table.proofs.Shift.{unwrap_or_le}
use Rattle.table.proofs.insert.insert_block.Goals as goal

pub put_age-requires : goal.put_age-requires
put_age-requires c =
    let s = c.args.s in
    let b = c.args.b in
    record { in_list = omega (arith, c.place_of-place.ensures, unwrap_or_le s.count (λ k. ltb b.base (block_at s (age_at s k)).base), c.requires.room) }
