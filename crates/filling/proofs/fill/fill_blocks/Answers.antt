-- The image keeps its length over the loop, and each of the first blocks lies in it (`blocks_within`). Assumes nothing.
use native.Mathlib.Omega.{arith}
use lib.ListN.{length, length-take}
use Rattle.block.specs.declared.Block.{Block}
use Rattle.reset.proofs.Walk.{block_here}
use Rattle.filling.proofs.Unused.{blocks_within}
use Rattle.filling.proofs.fill.fill_blocks.Goals as goal

pub fill_span-requires : goal.fill_span-requires
fill_span-requires c =
    let a = c.args in
    let i = c.loop-b.b-index in
    rw (c.loop-b.auto.image, c.bytes_of_block.ensures, block_here a.r a.r.count i _ c.loop-b-test.true)
    (blocks_within a.arena a.r (length a.image.now) a.r.count i (omega (arith, length-take {A = Block})) c.requires.in_arena)
