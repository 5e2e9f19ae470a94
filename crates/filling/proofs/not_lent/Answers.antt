-- A call with an image of another length is a refusal (`lent_refused`), and a refusal fills nothing (`unused_refused`). Assumes nothing.
use mathlib.Core.Path.{ap, ◌∙◌}
use Rattle.state.specs.Outcome.{refusal}
use Rattle.filling.proofs.Lent.{refused_turn, refused_none}
use Rattle.filling.proofs.not_lent.Goals as goal

pub returns-clause-turn : goal.returns-clause-turn
returns-clause-turn c =
    let a = c.args in
    refused_turn a.s a.used.now a.stop.now a.room c.requires c.refused.result (c.refused.ensures ∙ ap (refusal a.s) c.wrong_image.ensures)

pub returns-clause-fills_nothing : goal.returns-clause-fills_nothing
returns-clause-fills_nothing c = let a = c.args in refused_none a.s a.used.now a.stop.now a.room c.requires
