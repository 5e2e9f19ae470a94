use Rattle.shape.proofs.Address.{Ordered}
use Rattle.shape.proofs.layout_ok.Given as goal

abbrev pub invariant-loop-age : goal.invariant-loop-age
invariant-loop-age l = Ordered l.s l.age-index l.end
