-- A span that the query shows lies in the arena (`looked_lies`), as `write` requires, whose answer and image are the definition's. If the
-- query shows none, answer and image stay as they are, as in the definition. Assumes nothing.
use mathlib.Core.Path.{sym, subst, ◌∙◌}
use lib.ListN.{length}
use Rattle.filling.proofs.Copying.{IfShown, LiesWithin, looked_lies}
use Rattle.filling.proofs.copy.copy_from_slice.Goals as goal

pub write-requires : goal.write-requires
write-requires c =
    let a = c.args in
    let shown = sym c.look_up.ensures ∙ c.in-Shown.is in
    (subst (IfShown (LiesWithin a.s.arena (length a.image.now) a.address)) shown
    (looked_lies a.s a.used.now a.stop.now (length a.image.now) a.address)).0
