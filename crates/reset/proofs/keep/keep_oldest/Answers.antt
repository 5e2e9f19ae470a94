-- The loop keeps `Keeping`: the record is `kept s i`, and `seen[p]` tells whether one of the first `i` blocks is in pool p. So block `i` is
-- its pool's oldest exactly if `seen` lacks its pool, and exactly then it is kept. Assumes nothing.
use mathlib.Core.Path.{◌∙◌}
use native.Mathlib.Omega.{arith}
use lib.ListN.{length-take}
use Rattle.block.specs.declared.Block.{Block}
use Rattle.reset.proofs.Kept.{keeping_start, kept_step, skip_step}
use Rattle.reset.proofs.Walk.{block_here}
use Rattle.reset.proofs.keep.keep_oldest.Goals.{then-not-seen-b, else-not-seen-b}
use Rattle.reset.proofs.keep.keep_oldest.Goals as goal

pub loop-b-init : goal.loop-b-init
loop-b-init c = keeping_start c.args.s c.empty_table-r.result c.empty_table-r.ensures

pub loop-b-preserved : goal.loop-b-preserved
loop-b-preserved c =
    let s = c.args.s in
    let l = c.loop-b in
    elim c.if-not-seen-b.branch [
      | then-not-seen-b w ↦
          kept_step s l.b-index l.r l.seen c.requires l.invariant (omega (arith, length-take {A = Block})) _
          (block_here s s.count l.b-index _ c.loop-b-test.true) w.if-not-seen-b.true _ _ (w.r-is ∙ w.keep_block-r.ensures) w.seen-is
      | else-not-seen-b w ↦
          skip_step s l.b-index l.r l.seen c.requires l.invariant (omega (arith, length-take {A = Block})) _
          (block_here s s.count l.b-index _ c.loop-b-test.true) w.if-not-seen-b.false _ _ w.r-is w.seen-is
    ]
