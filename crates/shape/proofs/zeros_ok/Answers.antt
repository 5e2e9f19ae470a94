-- Each chain passes exactly if its list, from the last block on, does. Assumes nothing.
use mathlib.Core.Path.{◌≡◌, sym, ◌∙◌}
use mathlib.Core.Bool.{true, false}
use native.Mathlib.Omega.{arith}
use borrow.Author.Tests.{tests}
use lib.Dec.{eqb}
use Rattle.std.specs.List.{list_all}
use Rattle.std.proofs.Common.{rules}
use Rattle.std.proofs.lemmas.Iterator.{YieldsList-from_slice}
use Rattle.std.proofs.lemmas.Iterator.Search.{all_from_yields_List}
use Rattle.state.specs.Shape.{is_zero}
use Rattle.shape.proofs.Zeros.{behind, zeros_are}
use Rattle.shape.proofs.zeros_ok.Goals as goal

pub returns-then-all : goal.returns-then-all
returns-then-all c =
    let s = c.args.s.now in
    let blocks : c.all.result ≡ list_all is_zero (behind s.count s.blocks) =
    all_from_yields_List is_zero _ _ _ c.all.ensures.ran (YieldsList-from_slice (behind s.count s.blocks) cc) (λ x b q k. search (rules, tests)) in
    let order : c.all-then-all.result ≡ list_all (λ n. eqb n 0) (behind s.count s.order) =
    all_from_yields_List (λ n. eqb n 0) _ _ _ c.all-then-all.ensures.ran (YieldsList-from_slice (behind s.count s.order) cc) (λ x b q k. search (rules, tests)) in
    let passed : list_all is_zero (behind s.count s.blocks) ≡ true = sym blocks ∙ c.if-all.true in
    order ∙ (rw passed at (zeros_are s (omega arith) (omega arith)))

pub returns-else-all : goal.returns-else-all
returns-else-all c =
    let s = c.args.s.now in
    let blocks : c.all.result ≡ list_all is_zero (behind s.count s.blocks) =
    all_from_yields_List is_zero _ _ _ c.all.ensures.ran (YieldsList-from_slice (behind s.count s.blocks) cc) (λ x b q k. search (rules, tests)) in
    let failed : list_all is_zero (behind s.count s.blocks) ≡ false = sym blocks ∙ c.if-all.false in
    c.if-all.false ∙ (rw failed at (zeros_are s (omega arith) (omega arith)))
