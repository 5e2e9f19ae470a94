-- The two lists without their entries are the definition's: the address order entry by entry, those behind the last block's apart. Assumes
-- nothing.
use Prim.Native.Nat.{ℕ, ◌-◌}
use mathlib.Core.Path.{◌≡◌, ap, ◌∙◌}
use mathlib.Core.List.{List, map}
use native.Mathlib.Omega.{arith}
use lib.ListN.{length, get_or}
use Rattle.std.proofs.Common.{rules}
use Rattle.std.proofs.lemmas.Grind.{elements}
use Rattle.numbers.proofs.Split.{by_le}
use Rattle.state.specs.declared.State.{State}
use Rattle.state.specs.Table.{zero_block}
use Rattle.state.specs.Change.{list_from, past, fallen, place_of_age, with_table, removed}
use Rattle.state.proofs.Lists.{list_is, map_list_from, get_or-list_from}
use Rattle.table.proofs.remove.remove_block.Goals as goal

-- the definition's record, from its address order
with_order : (s : State) (i : ℕ) (order : List ℕ) → order ≡ (removed s i).order → with_table s (removed s i).count (removed s i).blocks order (removed s i).pools ≡ removed s i
with_order s i order e = ap (λ (o : List ℕ). with_table s (removed s i).count (removed s i).blocks o (removed s i).pools) e

pub returns : goal.returns
returns c =
    let s = c.args.s in
    let i = c.args.i in
    let age : ℕ → ℕ = λ k. fallen i (get_or s.order (past (place_of_age s i) k) 0) in
    let zero : c.default.result ≡ zero_block = search rules in
    let blocks_64 : length s.blocks ≡ 64 = omega arith in
    let order_64 : length s.order ≡ 64 = omega arith in
    let blocks : c.take_out.new.list ≡ list_from 0 64 (λ k. get_or s.blocks (past i k) zero_block) = rw (zero, blocks_64) at c.take_out.ensures in
    let taken : c.take_out-2.new.list ≡ list_from 0 64 (λ k. get_or s.order (past (place_of_age s i) k) 0) =
    rw (c.place_of_age-place.ensures, order_64) at c.take_out-2.ensures in
    let order : c.lower_ages.new.order ≡ list_from 0 64 age =
    c.lower_ages.ensures ∙ ap (map (fallen i)) taken ∙ map_list_from (fallen i) 0 64 (λ k. get_or s.order (past (place_of_age s i) k) 0) in
    rw blocks (with_order s i _ (list_is 64 age 0 _ (grind (arith, elements, ap length order))
    (λ j h. by_le (s.count - 1) j (λ l. grind (arith, elements, order, get_or-list_from)) (λ l. grind (arith, elements, order, get_or-list_from)))))
