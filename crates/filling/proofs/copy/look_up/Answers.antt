use mathlib.Core.Path.{sym, ◌∙◌}
use native.Mathlib.Omega.{arith}
use Rattle.filling.proofs.Copying.{looked_plain}
use Rattle.filling.proofs.copy.look_up.Goals as goal

pub returns : goal.returns
returns c = let a = c.args in c.query.ensures ∙ sym (looked_plain a.s a.used.now a.stop.now a.room a.address (omega arith))
