use Rattle.shape.proofs.Walk.{Walked}
use Rattle.shape.proofs.table_ok.Given as goal

abbrev pub invariant-loop-b : goal.invariant-loop-b
invariant-loop-b l = Walked l.s l.b-index l.seen l.sums l.used
