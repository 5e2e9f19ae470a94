-- The loop keeps `Walked`: the first blocks pass, `seen` has exactly their slots, which differ, and `sums` and `used` are their sums.
-- So a return fails the definition's test (`block_fails`, `slot_fails`, `pools_fail`), and at the end all are tested (`walk_done`). Assumes
-- nothing.
use Prim.Native.Nat.{ℕ, ◌<◌}
use mathlib.Core.Path.{◌≡◌, sym, ◌∙◌, subst}
use mathlib.Core.Bool.{true, false}
use native.Mathlib.Omega.{arith}
use lib.ListN.{replicate}
use Rattle.sizes.specs.declared.Pool.{Pool}
use Rattle.state.specs.Table.{zero_block, block_at}
use Rattle.state.proofs.Lists.{front_below, front_at}
use Rattle.shape.specs.Parts.{block_ok}
use Rattle.shape.proofs.Walk.{Walked, walk_start, walk_step, walk_done, total_low, units_low, slot_low, pool_low, room, slot_fails, block_fails, pools_fail}
use Rattle.shape.proofs.table_ok.Goals.{After-loop-b, Else-not-block_ok, Else-seen-b, then-not-block_ok-via-then-not-block_ok, then-not-block_ok-via-else-not-block_ok+then-seen-b}
use Rattle.shape.proofs.table_ok.Goals as goal

pub loop-b-init : goal.loop-b-init
loop-b-init c = let s = c.args.s.now in subst (λ (q : Pool). Walked s 0 (replicate 64 false) (replicate 3 q) 0) (sym c.new-sums.ensures) (walk_start s)

-- the block in hand passes
good : (c : Else-not-block_ok) → block_ok c.args.s.now (block_at c.args.s.now c.loop-b.b-index) ≡ true
good c = let more = c.loop-b-test.true in sym (rw (front_at c.args.s.now.count c.args.s.now.blocks zero_block c.loop-b.b-index more) at c.block_ok.ensures) ∙ c.if-not-block_ok.false

-- the whole table walked
whole : (c : After-loop-b) → Walked c.args.s.now c.args.s.now.count c.loop-b.seen c.loop-b.sums c.loop-b.used
whole c =
    let at = c.loop-b in
    let s = c.args.s.now in
    let e : at.b-index ≡ s.count = omega (arith, at.invariant.here) in
    subst (λ (n : ℕ). Walked s n at.seen at.sums at.used) e at.invariant

pub bounds-seen-b : goal.bounds-seen-b
bounds-seen-b c =
    let s = c.args.s.now in
    let i = c.loop-b.b-index in
    let more = c.loop-b-test.true in
    rw (front_at s.count s.blocks zero_block i more)
    (omega (arith, slot_low c.requires c.loop-b.invariant (front_below s.count s.blocks i more) (good (goal.at.bounds-seen-b c).Else-not-block_ok), c.loop-b.invariant.seen_64))

pub returns-then-not-block_ok : goal.returns-then-not-block_ok
returns-then-not-block_ok c =
    let s = c.args.s.now in
    let i = c.loop-b.b-index in
    let more = c.loop-b-test.true in
    let tested = rw (front_at s.count s.blocks zero_block i more) at c.block_ok.ensures in
    elim c.then-not-block_ok.branch [
      | then-not-block_ok-via-then-not-block_ok w ↦ sym (block_fails s i (front_below s.count s.blocks i more) (sym tested ∙ w.if-not-block_ok.true))
      | then-not-block_ok-via-else-not-block_ok+then-seen-b w ↦
          sym (slot_fails c.requires c.loop-b.invariant (front_below s.count s.blocks i more) (sym tested ∙ w.if-not-block_ok.false) (rw (front_at s.count s.blocks zero_block i more) at w.if-seen-b.true))
    ]

pub bounds-seen-b-in-loop-b : goal.bounds-seen-b-in-loop-b
bounds-seen-b-in-loop-b c =
    let s = c.args.s.now in
    let i = c.loop-b.b-index in
    let more = c.loop-b-test.true in
    rw (front_at s.count s.blocks zero_block i more)
    (omega (arith, slot_low c.requires c.loop-b.invariant (front_below s.count s.blocks i more) (good (goal.at.bounds-seen-b-in-loop-b c).Else-not-block_ok), c.loop-b.invariant.seen_64))

-- its pool is one of the three
pool_3 : (c : Else-seen-b) → (block_at c.args.s.now c.loop-b.b-index).pool < 3
pool_3 c =
    pool_low c.requires c.loop-b.invariant (front_below c.args.s.now.count c.args.s.now.blocks c.loop-b.b-index c.loop-b-test.true) (good (goal.at.Else-seen-b c).Else-not-block_ok)

pub offset_bounds-sums-b : goal.offset_bounds-sums-b
offset_bounds-sums-b c = let more = c.loop-b-test.true in rw (front_at c.args.s.now.count c.args.s.now.blocks zero_block c.loop-b.b-index more) (omega (arith, pool_3 c))

pub bounds-sums-b : goal.bounds-sums-b
bounds-sums-b c = let more = c.loop-b-test.true in rw (front_at c.args.s.now.count c.args.s.now.blocks zero_block c.loop-b.b-index more) (omega (arith, pool_3 c, c.loop-b.invariant.pools_3))

pub count_in-requires : goal.count_in-requires
count_in-requires c =
    let s = c.args.s.now in
    let i = c.loop-b.b-index in
    let more = c.loop-b-test.true in
    rw (front_at s.count s.blocks zero_block i more) (room c.requires c.loop-b.invariant (front_below s.count s.blocks i more) (good (goal.at.count_in-requires c).Else-not-block_ok))

pub offset_bounds-sums-b-in-loop-b : goal.offset_bounds-sums-b-in-loop-b
offset_bounds-sums-b-in-loop-b c =
    let more = c.loop-b-test.true in
    rw (front_at c.args.s.now.count c.args.s.now.blocks zero_block c.loop-b.b-index more) (omega (arith, pool_3 (goal.at.offset_bounds-sums-b-in-loop-b c).Else-seen-b))

pub bounds-sums-b-in-loop-b : goal.bounds-sums-b-in-loop-b
bounds-sums-b-in-loop-b c =
    let more = c.loop-b-test.true in
    rw (front_at c.args.s.now.count c.args.s.now.blocks zero_block c.loop-b.b-index more) (omega (arith, pool_3 (goal.at.bounds-sums-b-in-loop-b c).Else-seen-b, c.loop-b.invariant.pools_3))

pub overflow_add-used : goal.overflow_add-used
overflow_add-used c =
    let s = c.args.s.now in
    let i = c.loop-b.b-index in
    let more = c.loop-b-test.true in
    let used = rw (front_at s.count s.blocks zero_block i more) at c.from-used.ensures in
    omega (
      arith,
      used,
      total_low c.requires c.loop-b.invariant (front_below s.count s.blocks i more),
      units_low c.requires c.loop-b.invariant (front_below s.count s.blocks i more) (good (goal.at.overflow_add-used c).Else-not-block_ok),
    )

pub loop-b-preserved : goal.loop-b-preserved
loop-b-preserved c =
    let s = c.args.s.now in
    let i = c.loop-b.b-index in
    let more = c.loop-b-test.true in
    let new = rw (front_at s.count s.blocks zero_block i more) at c.if-seen-b.false in
    let step = walk_step c.requires c.loop-b.invariant (front_below s.count s.blocks i more) (good (goal.at.loop-b-preserved c).Else-not-block_ok) new in
    rw (c.count_in.ensures, c.from-used.ensures, front_at s.count s.blocks zero_block i more) step

pub returns-then-pools_match : goal.returns-then-pools_match
returns-then-pools_match c = walk_done (whole (goal.at.returns-then-pools_match c).After-loop-b) (sym c.pools_match.ensures ∙ c.if-pools_match.true)

pub returns-else-pools_match : goal.returns-else-pools_match
returns-else-pools_match c =
    c.if-pools_match.false ∙ sym (pools_fail (whole (goal.at.returns-else-pools_match c).After-loop-b) (sym c.pools_match.ensures ∙ c.if-pools_match.false))
