-- The blocks are in order, so those that start at or before the address come first (`parted`). The last of these holds the address, or no
-- block does: earlier ones end before it, later ones start after the address (`last_holds`, `last_ends`). Assumes nothing.
use Prim.Native.Nat.{ℕ, ◌-◌, ◌≤◌, ◌<◌}
use mathlib.Core.Path.{◌≡◌, ap, ◌∙◌}
use mathlib.Core.Bool.{true, false}
use native.Mathlib.Omega.{arith}
use Rattle.std.proofs.Common.{rules, tests}
use Rattle.std.specs.Prelude.{Some, option_copied}
use Rattle.std.specs.List.Sorted.{IsPartitionPoint}
use Rattle.std.proofs.lemmas.List.Sorted.{IsPartitionPoint-from_clause}
use lib.ListN.{take}
use Rattle.state.specs.Table.{block_at, age_at}
use Rattle.state.proofs.Lengths.{order_64}
use Rattle.table.proofs.Lookup.{ages, age_is, starts, parted, none_starts, last_age, last_holds, last_ends, no_last, last_is}
use Rattle.table.proofs.lookup_block.Goals.{After-partition_point-started, In_ok-i}
use Rattle.table.proofs.lookup_block.Goals as goal

point : (c : After-partition_point-started) → let a = c.args in
    IsPartitionPoint (λ y. starts a.s c.requires a.address y ≡ true) (λ y. starts a.s c.requires a.address y ≡ false) (take a.s.count a.s.order) c.partition_point-started.result
point c =
    let a = c.args in
    IsPartitionPoint-from_clause (starts a.s c.requires a.address) _ _ c.partition_point-started.ensures.partitioned
    (parted a.s c.requires a.address (order_64 a.s _ c.well_formed.0)) (λ x r q k. search (rules, tests))

few : (c : After-partition_point-started) → c.partition_point-started.result ≤ c.args.s.count
few c = let a = c.args in omega (arith, c.partition_point-started.ensures.bound, ages a.s c.requires a.address (order_64 a.s _ c.well_formed.0))

pub returns-in_err-i : goal.returns-in_err-i
returns-in_err-i c =
    let a = c.args in
    let p = (goal.at.returns-in_err-i c).After-partition_point-started in
    c.from_residual.ensures
    ∙ none_starts a.s c.requires a.address (order_64 a.s _ c.well_formed.0) c.partition_point-started.result (point p) (few p)
    (no_last (take a.s.count a.s.order) c.partition_point-started.result c.partition_point-started.ensures.bound (option_copied c.last.result) c.last.ensures.value (ap option_copied c.in_err-i.was))

-- the last of those blocks
found : (c : In_ok-i) → (0 < c.partition_point-started.result) × (c.in_ok-i.field-0.now ≡ age_at c.args.s (c.partition_point-started.result - 1))
found c =
    let a = c.args in
    let n = c.partition_point-started.result in
    let r = last_is (take a.s.count a.s.order) n c.partition_point-started.ensures.bound (option_copied c.last.result) c.last.ensures.value c.in_ok-i.field-0.now (ap option_copied c.in_ok-i.was) in
    (r.0, r.1 ∙ age_is a.s c.requires a.address (order_64 a.s _ c.well_formed.0) (n - 1) 0 (omega (arith, r.0, c.partition_point-started.ensures.bound, ages a.s c.requires a.address (order_64 a.s _ c.well_formed.0))))

pub offset_bounds-s-i : goal.offset_bounds-s-i
offset_bounds-s-i c = let f = found (goal.at.offset_bounds-s-i c).In_ok-i in let p = (goal.at.offset_bounds-s-i c).After-partition_point-started in
    omega (arith, f.1, (last_age c.args.s c.requires c.args.address (order_64 c.args.s _ c.well_formed.0) _ (point p) (few p) f.0).0, c.requires.few)

pub bounds-s-i : goal.bounds-s-i
bounds-s-i c = let f = found (goal.at.bounds-s-i c).In_ok-i in let p = (goal.at.bounds-s-i c).After-partition_point-started in
    omega (arith, f.1, (last_age c.args.s c.requires c.args.address (order_64 c.args.s _ c.well_formed.0) _ (point p) (few p) f.0).0, c.requires.few)

pub overflow_sub-address : goal.overflow_sub-address
overflow_sub-address c =
    let f = found (goal.at.overflow_sub-address c).In_ok-i in
    let p = (goal.at.overflow_sub-address c).After-partition_point-started in
    omega (arith, ap (λ (i : ℕ). (block_at c.args.s i).base) f.1, (last_age c.args.s c.requires c.args.address (order_64 c.args.s _ c.well_formed.0) _ (point p) (few p) f.0).1)

pub returns-then-address-b : goal.returns-then-address-b
returns-then-address-b c =
    let s = c.args.s in
    let f = found (goal.at.returns-then-address-b c).In_ok-i in
    let p = (goal.at.returns-then-address-b c).After-partition_point-started in
    ap Some f.1
    ∙ last_holds s c.requires c.args.address (order_64 s _ c.well_formed.0) _ (point p) (few p) f.0
    (omega (arith, c.if-address-b.true, ap (λ (i : ℕ). (block_at s i).base) f.1, ap (λ (i : ℕ). (block_at s i).size) f.1))

pub returns-else-address-b : goal.returns-else-address-b
returns-else-address-b c =
    let s = c.args.s in
    let f = found (goal.at.returns-else-address-b c).In_ok-i in
    let p = (goal.at.returns-else-address-b c).After-partition_point-started in
    last_ends s c.requires c.args.address (order_64 s _ c.well_formed.0) _ (point p) (few p) f.0
    (omega (arith, c.if-address-b.false, ap (λ (i : ℕ). (block_at s i).base) f.1, ap (λ (i : ℕ). (block_at s i).size) f.1))
