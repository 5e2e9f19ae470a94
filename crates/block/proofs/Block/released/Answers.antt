use borrow.Author.Tests.{eq-eqb, ne_eqb}
use Rattle.block.specs.Marking.{released}
use Rattle.block.proofs.Block.released.Goals as goal

pub returns-then-used-eq0 : goal.returns-then-used-eq0
unfolding released
returns-then-used-eq0 c = rw (eq-eqb _ _ c.if-used-eq0.true) c.emptied.ensures

pub returns : goal.returns
unfolding released
returns c = rw (ne_eqb _ _ c.if-used-eq0.false) c.shrunk.ensures
