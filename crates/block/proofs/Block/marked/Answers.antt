use borrow.Author.Tests.{eq-eqb, ne_eqb}
use Rattle.block.specs.Marking.{marked}
use Rattle.block.proofs.Block.marked.Goals as goal

pub returns-then-used-self : goal.returns-then-used-self
unfolding marked
returns-then-used-self c = rw (eq-eqb _ _ c.if-used-self.true)

pub returns : goal.returns
unfolding marked
returns c = simp (ne_eqb _ _ c.if-used-self.false, c.moved_edge-start.ensures, c.moved_edge-end.ensures)
