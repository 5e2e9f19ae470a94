-- The chain passes exactly if each pair of the two lists does (`pairs_pass`). Assumes nothing.
use mathlib.Core.Path.{◌∙◌}
use native.Mathlib.Omega.{arith}
use borrow.Author.Tests.{tests}
use Rattle.std.proofs.Common.{rules}
use Rattle.std.proofs.lemmas.Iterator.{YieldsList-from_slice, YieldsList-from_zip}
use Rattle.std.proofs.lemmas.Iterator.Search.{all_from_yields_List}
use Rattle.sizes.specs.declared.Pool.{Pool}
use Rattle.sizes.specs.Pools.{fresh_pool}
use Rattle.shape.specs.Parts.{pool_matches}
use Rattle.shape.proofs.Chains.{pairs_pass}
use Rattle.shape.proofs.pools.pools_match.Goals as goal

pub returns : goal.returns
returns c =
    let a = c.args in
    let like = λ (p q : Pool). pool_matches p q a.immediate in
    all_from_yields_List (λ (p : Pool × Pool). like p.0 p.1) c.all.new.self _ _ c.all.ensures.ran
    (YieldsList-from_zip (YieldsList-from_slice a.stored cc) (YieldsList-from_slice a.sums cc)) (λ x b q k. search (rules, tests))
    ∙ pairs_pass like a.stored a.sums (fresh_pool 0) (fresh_pool 0) 3 (omega arith) (omega arith)
