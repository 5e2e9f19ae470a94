-- The chain finds the last block of the list that is in the pool (`newest_is`). Assumes nothing.
use mathlib.Core.Path.{◌≡◌, ap, ◌∙◌}
use native.Mathlib.Omega.{arith}
use denote.Ref.{Bor}
use borrow.Author.Tests.{tests}
use lib.ListN.{take}
use Rattle.std.proofs.Common.{rules}
use Rattle.std.specs.Option.{unwrap_or, option_map}
use Rattle.std.proofs.lemmas.Iterator.Adapters.{YieldsList-from_rev_slice}
use Rattle.std.proofs.lemmas.Iterator.Search.{find_from_yields_List}
use Rattle.block.specs.declared.Block.{Block}
use Rattle.table.proofs.First.{in_pool, size_found, newest_is, size_behind}
use Rattle.table.proofs.newest_size.Goals as goal

pub returns : goal.returns
returns c =
    let s = c.args.s in
    let p = c.args.pool in
    let found = find_from_yields_List (in_pool s p) c.find.new.self _ c.find.result c.find.ensures.ran
    (YieldsList-from_rev_slice (take s.count s.blocks) cc) (λ x b q k. search (rules, tests)) in
    let size : c.map_or.result ≡ unwrap_or (option_map (λ (b : Bor Block). b.now.size) c.find.result) s.size = search rules in
    size ∙ size_behind s p c.find.result ∙ ap (size_found s p) found ∙ newest_is s p s.count (omega arith)
