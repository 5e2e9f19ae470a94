-- A size of 0 is a release in the rule too (`shrink_none`). Otherwise each branch is the branch of `shrink_turn` with the same test: the
-- shape, address 0, the lookup, what `held_in` found, and the used count. A good shape gives what the callees require. Assumes nothing.
use Rattle.std.specs.Prelude.{Option, Some, Ok, Err}
use Prim.Native.Nat.{ℕ, ◌-◌, ◌≤◌, ◌<◌}
use mathlib.Core.Bool.{true, false}
use mathlib.Core.List.{List}
use mathlib.Core.Path.{◌≡◌, sym, ap, ◌∙◌}
use native.Mathlib.Omega.{arith}
use borrow.Author.Tests.{eq-eqb, ne_eqb, lt-ltb, le-ltb}
use lib.ListN.{length}
use Rattle.block.specs.declared.Block.{Block}
use Rattle.state.specs.declared.Outcome.{Outcome}
use Rattle.state.specs.declared.State.{State}
use Rattle.state.specs.declared.UnitRange.{UnitRange}
use Rattle.state.specs.declared.Refusal.{Refusal}
use Rattle.state.specs.Held.{Held}
use Rattle.state.specs.Outcome.{refusal}
use Rattle.state.specs.Table.{block_at}
use Rattle.state.specs.Shape.{good_shape}
use Rattle.state.specs.Find.{holds, lookup}
use Rattle.shape.specs.Shaped.{Shaped}
use Rattle.shape.proofs.Shaped.{shaped_is}
use Rattle.machine.specs.Span.{held_in}
use Rattle.machine.specs.Turn.{turn, unit_of}
use Rattle.machine.specs.Shrink.{shrink_held, shrink_found, shrink_turn}
use Rattle.shape_facts.proofs.Facts.{count_64, ordered, askable, found_in, held_in_range}
use Rattle.shrink.proofs.Cases.{shrunk_damaged, shrunk_units, shrink_none}
use Rattle.shrink.proofs.shrink.Goals.{After-block_at-b, After-held_in, Else-not-shape_ok, In-Some}
use Rattle.shrink.proofs.shrink.Goals as goal

-- the state has its shape
good : (c : Else-not-shape_ok) → let a = c.args in good_shape a.s (length a.used.now) (length a.stop.now) ≡ true
good c = sym c.shape_ok.ensures ∙ c.if-not-shape_ok.false

shaped : (c : Else-not-shape_ok) → let a = c.args in Shaped a.s (length a.used.now) (length a.stop.now)
shaped c = let a = c.args in shaped_is a.s (length a.used.now) (length a.stop.now) (good (c))

module _ (s : State) (u t : List ℕ) (a size : ℕ) (bytes : size ≡ 0 → ⊥) (shape : good_shape s (length u) (length t) ≡ true) (some : a ≡ 0 → ⊥) where
  -- so the rule goes by the lookup
  looked : shrink_found s u t a size (lookup s a) ≡ shrink_turn s u t a size
  unfolding shrink_turn
  looked = rw (ne_eqb size 0 bytes, shape, ne_eqb a 0 some)

  -- and by what stands there
  shown : (j : ℕ) (r : Held) → Some j ≡ lookup s a → r ≡ held_in s u t a j → shrink_held s u t a size j r ≡ shrink_turn s u t a size
  shown j r q e = ap (λ (h : Held). shrink_held s u t a size j h) e ∙ ap (λ (f : Option ℕ). shrink_found s u t a size f) q ∙ looked

-- the block that was found holds the address
here : (c : In-Some) → let a = c.args in
    let j = c.in-Some.j in
    (j < a.s.count) × (holds (block_at a.s j) a.address ≡ true)
here c = let a = c.args in found_in a.s a.address c.in-Some.j (sym c.in-Some.is ∙ c.lookup_block.ensures)

used_is : (c : After-block_at-b) → c.block_at-b.result.used ≡ (block_at c.args.s c.in-Some.j).used
used_is c = ap (λ (b : Block). b.used) c.block_at-b.ensures

pub returns-then-size-eq0 : goal.returns-then-size-eq0
returns-then-size-eq0 c =
    let a = c.args in c.release.ensures ∙ shrink_none a.s a.used.now a.stop.now a.address a.size (eq-eqb a.size 0 c.if-size-eq0.true)

pub returns-then-not-shape_ok : goal.returns-then-not-shape_ok
unfolding shrink_turn
returns-then-not-shape_ok c =
    let a = c.args in
    let e : good_shape a.s (length a.used.now) (length a.stop.now) ≡ false = sym c.shape_ok.ensures ∙ c.if-not-shape_ok.true in
    ap (λ (o : Outcome). turn o.answer o.state a.used.now a.stop.now) c.refused.ensures ∙ rw (ne_eqb a.size 0 c.if-size-eq0.false, e)

pub returns-then-address-eq0 : goal.returns-then-address-eq0
unfolding shrink_turn
returns-then-address-eq0 c =
    let a = c.args in
    ap (λ (o : Outcome). turn o.answer o.state a.used.now a.stop.now) c.refused-then-address-eq0.ensures
    ∙ rw (ne_eqb a.size 0 c.if-size-eq0.false, good (goal.at.returns-then-address-eq0 c).Else-not-shape_ok, eq-eqb a.address 0 c.if-address-eq0.true)

pub lookup_block-requires : goal.lookup_block-requires
lookup_block-requires c = let a = c.args in ordered a.s (length a.used.now) (length a.stop.now) (shaped (goal.at.lookup_block-requires c).Else-not-shape_ok)

pub returns-in_default : goal.returns-in_default
returns-in_default c =
    let a = c.args in
    ap (λ (o : Outcome). turn o.answer o.state a.used.now a.stop.now) c.refused-in_default.ensures
    ∙ ap (λ (f : Option ℕ). shrink_found a.s a.used.now a.stop.now a.address a.size f) (sym c.in_default.is ∙ c.lookup_block.ensures)
    ∙ looked a.s a.used.now a.stop.now a.address a.size c.if-size-eq0.false (good (goal.at.returns-in_default c).Else-not-shape_ok) c.if-address-eq0.false

pub held_in-requires : goal.held_in-requires
held_in-requires c =
    let a = c.args in
    let p = goal.at.held_in-requires c in
    askable a.s (length a.used.now) (length a.stop.now) (shaped p.Else-not-shape_ok) c.in-Some.j a.address (here p.In-Some).0 (here p.In-Some).1

pub block_at-b-requires : goal.block_at-b-requires
block_at-b-requires c =
    let a = c.args in
    let p = goal.at.block_at-b-requires c in
    omega (arith, (here p.In-Some).0, count_64 a.s (length a.used.now) (length a.stop.now) (shaped p.Else-not-shape_ok))

-- the units found lie in the block
range : (c : After-held_in) (r : UnitRange) → c.held_in.result ≡ Ok r → let a = c.args in (r.from < r.to) × (r.to ≤ (block_at a.s c.in-Some.j).area)
range c r e =
    let a = c.args in
    let b = block_at a.s c.in-Some.j in
    held_in_range a.s.w b (unit_of a.s b) a.used.now a.stop.now a.address r.from r.to (sym c.held_in.ensures ∙ e)

pub overflow_sub-units : goal.overflow_sub-units
overflow_sub-units c = omega (arith, (range (goal.at.overflow_sub-units c).After-held_in c.in-Ok.units c.in-Ok.is).0)

pub shrink_span-requires-clause-shaped : goal.shrink_span-requires-clause-shaped
shrink_span-requires-clause-shaped c = shaped (goal.at.shrink_span-requires-clause-shaped c).Else-not-shape_ok

pub shrink_span-requires-clause-stands : goal.shrink_span-requires-clause-stands
shrink_span-requires-clause-stands c = (here (goal.at.shrink_span-requires-clause-stands c).In-Some).0

pub shrink_span-requires-clause-in_block : goal.shrink_span-requires-clause-in_block
shrink_span-requires-clause-in_block c = range (goal.at.shrink_span-requires-clause-in_block c).After-held_in c.in-Ok.units c.in-Ok.is

pub returns-in-Err : goal.returns-in-Err
returns-in-Err c =
    let a = c.args in
    ap (λ (o : Outcome). turn o.answer o.state a.used.now a.stop.now) (c.refused-in-Err.ensures ∙ ap (λ (r : Refusal). refusal a.s r) c.into.ensures)
    ∙ shown a.s a.used.now a.stop.now a.address a.size c.if-size-eq0.false (good (goal.at.returns-in-Err c).Else-not-shape_ok) c.if-address-eq0.false c.in-Some.j (Err c.in-Err.why)
    (sym c.in-Some.is ∙ c.lookup_block.ensures) (sym c.in-Err.is ∙ c.held_in.ensures)

pub returns-then-b-units : goal.returns-then-b-units
returns-then-b-units c =
    let a = c.args in
    let j = c.in-Some.j in
    let g = c.in-Ok.units in
    let p = goal.at.returns-then-b-units c in
    ap (λ (o : Outcome). turn o.answer o.state a.used.now a.stop.now) c.refused-then-b-units.ensures
    ∙ shrunk_damaged a.s a.used.now a.stop.now a.address a.size j g.from g.to (lt-ltb (block_at a.s j).used (g.to - g.from) (omega (arith, c.if-b-units.true, used_is p.After-block_at-b)))
    ∙ shown a.s a.used.now a.stop.now a.address a.size c.if-size-eq0.false (good p.Else-not-shape_ok) c.if-address-eq0.false j (Ok g)
    (sym c.in-Some.is ∙ c.lookup_block.ensures) (sym c.in-Ok.is ∙ c.held_in.ensures)

pub returns-else-b-units : goal.returns-else-b-units
returns-else-b-units c =
    let a = c.args in
    let j = c.in-Some.j in
    let g = c.in-Ok.units in
    let p = goal.at.returns-else-b-units c in
    c.shrink_span.ensures
    ∙ shrunk_units a.s a.used.now a.stop.now a.address a.size j g.from g.to (le-ltb (block_at a.s j).used (g.to - g.from) (omega (arith, c.if-b-units.false, used_is p.After-block_at-b)))
    ∙ shown a.s a.used.now a.stop.now a.address a.size c.if-size-eq0.false (good p.Else-not-shape_ok) c.if-address-eq0.false j (Ok g)
    (sym c.in-Some.is ∙ c.lookup_block.ensures) (sym c.in-Ok.is ∙ c.held_in.ensures)
