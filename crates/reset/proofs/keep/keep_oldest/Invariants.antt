use Rattle.reset.proofs.Kept.{Keeping}
use Rattle.reset.proofs.keep.keep_oldest.Given as goal

abbrev pub invariant-loop-b : goal.invariant-loop-b
invariant-loop-b l = Keeping l.fn.s l.b-index l.r l.seen
