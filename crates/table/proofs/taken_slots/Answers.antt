-- The loop keeps: `taken` says of each slot whether one of the blocks so far has it. At its end these are all blocks. Assumes nothing.
use Rattle.state.specs.Table.{zero_block}
use Rattle.state.proofs.Lists.{front_below, front_at}
use Rattle.table.proofs.Slot.{taken_none, taken_more}
use Rattle.table.proofs.taken_slots.Goals as goal

pub loop-b-init : goal.loop-b-init
loop-b-init c = taken_none c.args.s.now

pub loop-b-preserved : goal.loop-b-preserved
loop-b-preserved c =
    let s = c.args.s.now in
    let i = c.loop-b.b-index in
    let more = c.loop-b-test.true in
    rw (front_at s.count s.blocks zero_block i more)
    (taken_more s i c.loop-b.taken c.loop-b.invariant (c.requires.slot i (front_below s.count s.blocks i more)))
