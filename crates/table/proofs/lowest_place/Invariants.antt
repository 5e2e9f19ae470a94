use Rattle.table.specs.Ordered.{Arranged}
use Rattle.table.proofs.Place.{Passed}
use Rattle.table.proofs.lowest_place.Given as goal

abbrev pub invariant-loop-i : goal.invariant-loop-i
invariant-loop-i l = (r : Arranged l.fn.s) → Passed l.fn.s r l.fn.size l.i-index l.at
