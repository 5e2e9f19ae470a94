-- Each branch is the branch of `release_turn` with the same test: the shape, address 0, the lookup, and what `held_in` found. A good shape
-- gives what the callees require, and the units found lie in the block (`held_in_range`). Assumes nothing.
use Rattle.std.specs.Prelude.{Option, Some, Ok, Err}
use Prim.Native.Nat.{ℕ, ◌<◌}
use mathlib.Core.Bool.{true, false}
use mathlib.Core.List.{List}
use mathlib.Core.Path.{◌≡◌, sym, ap, ◌∙◌}
use borrow.Author.Tests.{eq-eqb, ne_eqb}
use lib.ListN.{length}
use Rattle.state.specs.declared.Outcome.{Outcome}
use Rattle.state.specs.declared.State.{State}
use Rattle.state.specs.declared.Refusal.{Refusal}
use Rattle.state.specs.Held.{Held}
use Rattle.state.specs.Outcome.{refusal}
use Rattle.state.specs.Table.{block_at}
use Rattle.state.specs.Shape.{good_shape}
use Rattle.state.specs.Find.{holds, lookup}
use Rattle.shape.specs.Shaped.{Shaped}
use Rattle.shape.proofs.Shaped.{shaped_is}
use Rattle.machine.specs.Span.{held_in}
use Rattle.machine.specs.Turn.{turn, unit_of}
use Rattle.machine.specs.Release.{release_held, release_found, release_turn}
use Rattle.shape_facts.proofs.Facts.{ordered, askable, found_in, held_in_range}
use Rattle.release.proofs.release.Goals.{Else-not-shape_ok, In-Some}
use Rattle.release.proofs.release.Goals as goal

-- the state has its shape
good : (c : Else-not-shape_ok) → let a = c.args in good_shape a.s (length a.used.now) (length a.stop.now) ≡ true
good c = sym c.shape_ok.ensures ∙ c.if-not-shape_ok.false

shaped : (c : Else-not-shape_ok) → let a = c.args in Shaped a.s (length a.used.now) (length a.stop.now)
shaped c = let a = c.args in shaped_is a.s (length a.used.now) (length a.stop.now) (good (c))

module _ (s : State) (u t : List ℕ) (a : ℕ) (shape : good_shape s (length u) (length t) ≡ true) (some : a ≡ 0 → ⊥) where
  -- so the rule goes by the lookup
  looked : release_found s u t a (lookup s a) ≡ release_turn s u t a
  unfolding release_turn
  looked = rw (shape, ne_eqb a 0 some)

  -- and by what stands there
  shown : (j : ℕ) (r : Held) → Some j ≡ lookup s a → r ≡ held_in s u t a j → release_held s u t a j r ≡ release_turn s u t a
  shown j r q e = ap (λ (h : Held). release_held s u t a j h) e ∙ ap (λ (f : Option ℕ). release_found s u t a f) q ∙ looked

-- the block that was found holds the address
here : (c : In-Some) → let a = c.args in
    let j = c.in-Some.j in
    (j < a.s.count) × (holds (block_at a.s j) a.address ≡ true)
here c = let a = c.args in found_in a.s a.address c.in-Some.j (sym c.in-Some.is ∙ c.lookup_block.ensures)

pub returns-then-not-shape_ok : goal.returns-then-not-shape_ok
unfolding release_turn
returns-then-not-shape_ok c =
    let a = c.args in
    let e : good_shape a.s (length a.used.now) (length a.stop.now) ≡ false = sym c.shape_ok.ensures ∙ c.if-not-shape_ok.true in
    ap (λ (o : Outcome). turn o.answer o.state a.used.now a.stop.now) c.refused.ensures ∙ rw e

pub returns-then-address-eq0 : goal.returns-then-address-eq0
unfolding release_turn
returns-then-address-eq0 c =
    let a = c.args in
    ap (λ (o : Outcome). turn o.answer o.state a.used.now a.stop.now) c.refused-then-address-eq0.ensures
    ∙ rw (good (goal.at.returns-then-address-eq0 c).Else-not-shape_ok, eq-eqb a.address 0 c.if-address-eq0.true)

pub lookup_block-requires : goal.lookup_block-requires
lookup_block-requires c = let a = c.args in ordered a.s (length a.used.now) (length a.stop.now) (shaped (goal.at.lookup_block-requires c).Else-not-shape_ok)

pub returns-in_default : goal.returns-in_default
returns-in_default c =
    let a = c.args in
    ap (λ (o : Outcome). turn o.answer o.state a.used.now a.stop.now) c.refused-in_default.ensures
    ∙ ap (λ (f : Option ℕ). release_found a.s a.used.now a.stop.now a.address f) (sym c.in_default.is ∙ c.lookup_block.ensures)
    ∙ looked a.s a.used.now a.stop.now a.address (good (goal.at.returns-in_default c).Else-not-shape_ok) c.if-address-eq0.false

pub held_in-requires : goal.held_in-requires
held_in-requires c =
    let a = c.args in
    let p = goal.at.held_in-requires c in
    askable a.s (length a.used.now) (length a.stop.now) (shaped p.Else-not-shape_ok) c.in-Some.j a.address (here p.In-Some).0 (here p.In-Some).1

-- the units found lie in the block
pub release_span-requires-clause-shaped : goal.release_span-requires-clause-shaped
release_span-requires-clause-shaped c = shaped (goal.at.release_span-requires-clause-shaped c).Else-not-shape_ok

pub release_span-requires-clause-stands : goal.release_span-requires-clause-stands
release_span-requires-clause-stands c = (here (goal.at.release_span-requires-clause-stands c).In-Some).0

pub release_span-requires-clause-in_block : goal.release_span-requires-clause-in_block
release_span-requires-clause-in_block c =
    let a = c.args in
    let b = block_at a.s c.in-Some.j in
    let r = c.in-Ok.units in
    held_in_range a.s.w b (unit_of a.s b) a.used.now a.stop.now a.address r.from r.to (sym c.held_in.ensures ∙ c.in-Ok.is)

pub returns-in-Err : goal.returns-in-Err
returns-in-Err c =
    let a = c.args in
    ap (λ (o : Outcome). turn o.answer o.state a.used.now a.stop.now) (c.refused-in-Err.ensures ∙ ap (λ (r : Refusal). refusal a.s r) c.into.ensures)
    ∙ shown a.s a.used.now a.stop.now a.address (good (goal.at.returns-in-Err c).Else-not-shape_ok) c.if-address-eq0.false c.in-Some.j (Err c.in-Err.why)
    (sym c.in-Some.is ∙ c.lookup_block.ensures) (sym c.in-Err.is ∙ c.held_in.ensures)

pub returns-in-Ok : goal.returns-in-Ok
returns-in-Ok c =
    let a = c.args in
    c.release_span.ensures
    ∙ shown a.s a.used.now a.stop.now a.address (good (goal.at.returns-in-Ok c).Else-not-shape_ok) c.if-address-eq0.false c.in-Some.j (Ok c.in-Ok.units)
    (sym c.in-Some.is ∙ c.lookup_block.ensures) (sym c.in-Ok.is ∙ c.held_in.ensures)
