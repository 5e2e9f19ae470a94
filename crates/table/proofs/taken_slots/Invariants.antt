use Rattle.table.specs.Ordered.{TakenSlots}
use Rattle.table.proofs.taken_slots.Given as goal

abbrev pub invariant-loop-b : goal.invariant-loop-b
invariant-loop-b l = TakenSlots l.fn.s l.b-index l.taken
