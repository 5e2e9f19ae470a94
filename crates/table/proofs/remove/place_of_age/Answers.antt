-- `position` answers the first place that passes, if one does (`first_place`). Assumes nothing.
use mathlib.Core.Path.{◌∙◌}
use native.Mathlib.Omega.{arith}
use borrow.Author.Tests.{tests}
use lib.Dec.{eqb}
use lib.ListN.{take}
use Rattle.std.proofs.Common.{rules}
use Rattle.std.proofs.lemmas.Iterator.{YieldsList-from_slice}
use Rattle.std.proofs.lemmas.Iterator.Search.{position_from_yields_List}
use Rattle.table.proofs.First.{first_place}
use Rattle.table.proofs.remove.place_of_age.Goals as goal

pub returns : goal.returns
returns c =
    let s = c.args.s.now in
    let found = position_from_yields_List (λ n. eqb n c.args.age) _ _ c.position.result c.position.ensures.ran
    (YieldsList-from_slice (take s.count s.order) cc) (λ x b q k. search (rules, tests)) in
    c.unwrap_or.ensures ∙ (rw found (first_place (λ n. eqb n c.args.age) s.order s.count 0 (omega arith)))
