-- What the first parts test is what the later parts require. Assumes nothing.
use mathlib.Core.Path.{sym, ◌∙◌}
use Rattle.shape.proofs.Head.{headed}
use Rattle.shape.proofs.OneBlock.{laid}
use Rattle.shape.proofs.Shaped.{table_sound}
use Rattle.shape.proofs.shape_ok.Goals.{then-head_ok, else-head_ok}
use Rattle.shape.proofs.shape_ok.Goals as goal

pub table_ok-requires : goal.table_ok-requires
table_ok-requires c = headed c.args.s c.args.used c.args.stop (sym c.head_ok.ensures ∙ c.if-head_ok.true)

pub layout_ok-requires : goal.layout_ok-requires
layout_ok-requires c =
    let s = c.args.s in
    elim c.if-head_ok.branch [
      | then-head_ok w ↦
          laid s (headed s c.args.used c.args.stop (sym c.head_ok.ensures ∙ w.if-head_ok.true)) (table_sound s (sym w.table_ok.ensures ∙ sym w.value-is ∙ c.if-table_ok.true))
      | else-head_ok w ↦ cc
    ]
