-- The search stops at the first slot in force that `taken` lacks: the lowest free slot (`first_free`). Assumes nothing.
use Rattle.std.proofs.Common.{rules, tests}
use Rattle.std.proofs.lemmas.Iterator.{IsFirst-from_position, YieldsList-from_slice}
use Rattle.table.proofs.Slot.{Free, Taken, first_free}
use Rattle.table.proofs.lowest_free_slot.Goals as goal

pub returns : goal.returns
returns c =
    first_free c.args.s c.taken_slots-taken.result c.taken_slots-taken.ensures c.requires.slots c.position.result
    (IsFirst-from_position _ _ _ Free Taken c.position.ensures.ran (YieldsList-from_slice _ c.iter.ensures.rest) (λ x q k. search (rules, tests)) (λ x q k. search (rules, tests)))
