-- The loop keeps `Passed`: the first blocks end at or before `at`, the others start at or after it, and at every lower multiple of
-- 65,536 a block is in the way. So the first gap that is long enough is the lowest place (`place_gap`). Assumes nothing.
use Prim.Native.Nat.{ℕ, ◌+◌, ◌≤◌, ◌<◌}
use mathlib.Core.Path.{◌≡◌, sym, ap, subst}
use native.Mathlib.Omega.{arith}
use lib.ListN.{length, take}
use Rattle.std.specs.Prelude.{slice_index_or}
use Rattle.std.proofs.lemmas.List.{get_or-take, length-take-le}
use Rattle.block.specs.declared.Block.{Block}
use Rattle.state.specs.declared.State.{State}
use Rattle.state.specs.Table.{block_at, age_at}
use Rattle.state.proofs.Lengths.{order_64}
use Rattle.table.proofs.Place.{Above, above, Passed, passed_none, passed_more, place_gap, place_last, place_none}
use Rattle.table.proofs.lowest_place.Goals.{Start, After-align_up-at, Then-at-size}
use Rattle.table.proofs.lowest_place.Goals as goal

-- the loop goes over as many ages as there are blocks
ages : (c : Start) → length (take c.args.s.count c.args.s.order) ≡ c.args.s.count
ages c = length-take-le c.args.s.count c.args.s.order (omega (arith, order_64 c.args.s _ c.well_formed.0, c.requires.0.ordered.few))

-- each is the age at its place
age_is : (s : State) (k : ℕ) → k < s.count → slice_index_or (take s.count s.order) k 0 ≡ age_at s k
age_is s k h = get_or-take s.count s.order k 0 h

pub loop-i-init : goal.loop-i-init
loop-i-init c = λ r. passed_none c.args.s r c.args.size

pub overflow_add-at : goal.overflow_add-at
overflow_add-at c = let r = c.requires.0 in omega (arith, r.top, (c.loop-i.invariant r).high, c.requires.2)

pub returns-then-at-size : goal.returns-then-at-size
returns-then-at-size c =
    let s = c.args.s in
    let l = c.loop-i in
    let h : l.i-index < s.count = omega (arith, c.loop-i-test.true, ages (goal.at.returns-then-at-size c).Start) in
    place_gap s c.requires.0 c.args.size l.i-index l.at c.requires.1 (l.invariant c.requires.0) h
    (subst (λ (i : ℕ). l.at + c.args.size ≤ (block_at s i).base) (age_is s l.i-index h) c.if-at-size.true)

pub loop-i-preserved : goal.loop-i-preserved
loop-i-preserved c = λ r.
    let s = c.args.s in
    let l = c.loop-i in
    let h : l.i-index < s.count = omega (arith, c.loop-i-test.true, ages (goal.at.loop-i-preserved c).Start) in
    let b = block_at s (age_at s l.i-index) in
    let same : block_at s (slice_index_or (take s.count s.order) l.i-index 0) ≡ b = ap (block_at s) (age_is s l.i-index h) in
    let high = r.high (age_at s l.i-index) (r.ordered.age l.i-index h) in
    passed_more s r c.args.size l.i-index l.at c.align_up-at.result (l.invariant r) h
    (omega (arith, c.if-at-size.false, ap (λ (x : Block). x.base) same))
    (subst (λ (x : Block). Above (x.base + x.size) c.align_up-at.result) same
    (subst (Above _) (sym c.align_up-at.ensures) (above _ (omega (arith, r.top, high, ap (λ (x : Block). x.base + x.size) same)))))

pub overflow_add-at-2 : goal.overflow_add-at-2
overflow_add-at-2 c = let r = c.requires.0 in omega (arith, r.top, (c.loop-i.invariant r).high, c.requires.2)

pub returns-then-at-size-2 : goal.returns-then-at-size-2
returns-then-at-size-2 c =
    let s = c.args.s in
    let r = c.requires.0 in
    let e : c.loop-i.i-index ≡ s.count = omega (arith, ages (goal.at.returns-then-at-size-2 c).Start, c.loop-i-test.false, c.loop-i.auto.i-index-end) in
    place_last s r c.args.size c.loop-i.at c.requires.1 (subst (λ (k : ℕ). Passed s r c.args.size k c.loop-i.at) e (c.loop-i.invariant r)) c.if-at-size-2.true

pub returns : goal.returns
returns c =
    let s = c.args.s in
    let r = c.requires.0 in
    let e : c.loop-i.i-index ≡ s.count = omega (arith, ages (goal.at.returns c).Start, c.loop-i-test.false, c.loop-i.auto.i-index-end) in
    place_none s r c.args.size c.loop-i.at (subst (λ (k : ℕ). Passed s r c.args.size k c.loop-i.at) e (c.loop-i.invariant r)) c.if-at-size-2.false
