-- Each branch is the branch of `query_turn` with the same test: the shape, the lookup, and what `held_in` found. A good shape gives what the
-- callees require; the block found holds the address (`found_in`), and the units found lie in it (`held_in_range`). Assumes nothing.
use Rattle.std.specs.Prelude.{Option, Ok, Err}
use Rattle.state.specs.declared.Answer.TheVariants.{Shown, Refused}
use Rattle.state.specs.declared.Refusal.{Refusal}
use Rattle.state.specs.declared.Span.{Span}
use Rattle.machine.specs.Turn.{Turn, unit_of}
use Prim.Native.Nat.{ℕ, ◌-◌, ◌≤◌, ◌<◌}
use mathlib.Core.Bool.{true, false}
use mathlib.Core.Path.{◌≡◌, sym, ap, ◌∙◌}
use native.Mathlib.Omega.{arith}
use lib.ListN.{length}
use Rattle.state.specs.declared.UnitRange.{UnitRange}
use Rattle.state.specs.Held.{Held}
use Rattle.state.specs.Table.{block_at}
use Rattle.state.specs.Shape.{good_shape}
use Rattle.state.specs.Find.{holds, lookup}
use Rattle.shape.specs.Shaped.{Shaped}
use Rattle.shape.proofs.Shaped.{shaped_is}
use Rattle.machine.specs.Span.{query_held, query_found, query_turn}
use Rattle.shape_facts.proofs.Facts.{ordered, askable, found_in, held_in_range, spannable}
use Rattle.query.proofs.query.Goals.{After-held_in, Else-not-shape_ok, In-Some}
use Rattle.query.proofs.query.Goals as goal

-- the state has its shape
shaped : (c : Else-not-shape_ok) → let a = c.args in Shaped a.s (length a.used.now) (length a.stop.now)
shaped c = let a = c.args in shaped_is a.s (length a.used.now) (length a.stop.now) (sym c.shape_ok.ensures ∙ c.if-not-shape_ok.false)

-- so the rule goes by the lookup
looked : (c : Else-not-shape_ok) → let a = c.args in
    query_found a.s a.used.now a.stop.now a.address (lookup a.s a.address) ≡ query_turn a.s a.used.now a.stop.now a.address
unfolding query_turn
looked c =
    let a = c.args in
    let e : good_shape a.s (length a.used.now) (length a.stop.now) ≡ true = sym c.shape_ok.ensures ∙ c.if-not-shape_ok.false in
    rw e

-- the block that was found holds the address
here : (c : In-Some) → let a = c.args in
    let j = c.in-Some.j in
    (j < a.s.count) × (holds (block_at a.s j) a.address ≡ true)
here c = let a = c.args in found_in a.s a.address c.in-Some.j (sym c.in-Some.is ∙ c.lookup_block.ensures)

-- and by what stands there
shown : (c : After-held_in) (r : Held) → c.held_in.result ≡ r → let a = c.args in
    query_found a.s a.used.now a.stop.now a.address (lookup a.s a.address) ≡ query_turn a.s a.used.now a.stop.now a.address
    → (query_held a.s a.used.now a.stop.now a.address c.in-Some.j r).answer ≡ (query_turn a.s a.used.now a.stop.now a.address).answer
shown c r e q =
    let a = c.args in
    ap (λ (h : Held). (query_held a.s a.used.now a.stop.now a.address c.in-Some.j h).answer) (sym e ∙ c.held_in.ensures)
    ∙ ap (λ (f : Option ℕ). (query_found a.s a.used.now a.stop.now a.address f).answer) (sym c.in-Some.is ∙ c.lookup_block.ensures)
    ∙ ap (λ (r : Turn). r.answer) q

-- its units
range : (c : After-held_in) (r : UnitRange) → c.held_in.result ≡ Ok r → let a = c.args in (r.from < r.to) × (r.to ≤ (block_at a.s c.in-Some.j).area)
range c r e =
    let a = c.args in
    let b = block_at a.s c.in-Some.j in
    held_in_range a.s.w b (unit_of a.s b) a.used.now a.stop.now a.address r.from r.to (sym c.held_in.ensures ∙ e)

pub returns-then-not-shape_ok : goal.returns-then-not-shape_ok
unfolding query_turn
returns-then-not-shape_ok c =
    let a = c.args in
    let e : good_shape a.s (length a.used.now) (length a.stop.now) ≡ false = sym c.shape_ok.ensures ∙ c.if-not-shape_ok.true in
    rw e

pub lookup_block-requires : goal.lookup_block-requires
lookup_block-requires c = let a = c.args in ordered a.s (length a.used.now) (length a.stop.now) (shaped (goal.at.lookup_block-requires c).Else-not-shape_ok)

pub returns-in_default : goal.returns-in_default
returns-in_default c =
    let a = c.args in
    ap (λ (f : Option ℕ). (query_found a.s a.used.now a.stop.now a.address f).answer) (sym c.in_default.is ∙ c.lookup_block.ensures)
    ∙ ap (λ (r : Turn). r.answer) (looked (goal.at.returns-in_default c).Else-not-shape_ok)

pub held_in-requires : goal.held_in-requires
held_in-requires c =
    let a = c.args in
    askable a.s (length a.used.now) (length a.stop.now) (shaped (goal.at.held_in-requires c).Else-not-shape_ok) c.in-Some.j a.address (here (goal.at.held_in-requires c).In-Some).0 (here (goal.at.held_in-requires c).In-Some).1

pub overflow_sub-units : goal.overflow_sub-units
overflow_sub-units c = omega (arith, (range (goal.at.overflow_sub-units c).After-held_in c.in-Ok.units c.in-Ok.is).0)

pub returns-in-Err : goal.returns-in-Err
returns-in-Err c = ap (λ (r : Refusal). Refused r) c.into.ensures ∙ shown (goal.at.returns-in-Err c).After-held_in (Err c.in-Err.why) c.in-Err.is (looked (goal.at.returns-in-Err c).Else-not-shape_ok)

pub returns-in-Ok : goal.returns-in-Ok
returns-in-Ok c =
    ap (λ (x : Span). Shown x) c.span_at.ensures
    ∙ shown (goal.at.returns-in-Ok c).After-held_in (Ok c.in-Ok.units) c.in-Ok.is (looked (goal.at.returns-in-Ok c).Else-not-shape_ok)

pub span_at-requires : goal.span_at-requires
span_at-requires c =
    let a = c.args in
    let r = c.in-Ok.units in
    spannable a.s (length a.used.now) (length a.stop.now) (shaped (goal.at.span_at-requires c).Else-not-shape_ok) c.in-Some.j (here (goal.at.span_at-requires c).In-Some).0 (r.to - r.from)
    (omega (arith, (range (goal.at.span_at-requires c).After-held_in r c.in-Ok.is).1))
