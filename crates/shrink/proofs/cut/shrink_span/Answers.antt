-- The size passes the span's bytes exactly if its units pass the span's units (`units_over`, `units_within`): so comparing bytes decides as
-- the rule does. A size within the span has at most its units, which fit 32 bits. Assumes nothing.
use Prim.Native.Nat.{ℕ, ◌-◌, ◌≤◌, ◌<◌}
use mathlib.Core.Path.{ap, ◌∙◌}
use native.Mathlib.Omega.{arith}
use borrow.Author.Tests.{ne_eqb, lt-ltb, le-ltb}
use lib.ListN.{length}
use Rattle.numbers.specs.Units.{units_of, bytes_of}
use Rattle.state.specs.declared.Outcome.{Outcome}
use Rattle.state.specs.declared.Span.{Span}
use Rattle.state.specs.declared.Answer.TheVariants.{Shrunk}
use Rattle.state.specs.Table.{block_at}
use Rattle.machine.specs.Turn.{turn, unit_of, span}
use Rattle.machine.specs.Shrink.{shrink_units}
use Rattle.shape_facts.proofs.Facts.{pool_3, unit_g}
use Rattle.shrink.proofs.Cases.{units_over, units_within, more_units, fewer_units}
use Rattle.shrink.proofs.cut.shrink_span.Goals.{Start}
use Rattle.shrink.proofs.cut.shrink_span.Goals as goal

pool_low : (c : Start) → (block_at c.args.s c.args.j).pool < 3
pool_low c = let a = c.args in pool_3 a.s (length a.used.now) (length a.stop.now) c.requires.shaped a.j c.requires.stands

-- a unit has bytes
some : (c : Start) → 0 < unit_of c.args.s (block_at c.args.s c.args.j)
some c =
    let a = c.args in
    let f = c.requires.shaped in
    omega (arith, unit_g a.s (length a.used.now) (length a.stop.now) f (block_at a.s a.j).pool (pool_low c), f.head.g_low)

pub returns-then-whole-size : goal.returns-then-whole-size
returns-then-whole-size c =
    let a = c.args in
    let unit = unit_of a.s (block_at a.s a.j) in
    let over : a.units.to - a.units.from < units_of a.size unit = units_over a.size unit (some (goal.at.returns-then-whole-size c).Start) (a.units.to - a.units.from) (omega (arith, c.if-whole-size.true, ap (λ (x : Span). x.size) c.span_at-whole.ensures)) in
    ap (λ (o : Outcome). turn o.answer o.state a.used.now a.stop.now) c.refused.ensures
    ∙ more_units a.s a.used.now a.stop.now a.address a.j a.units.from a.units.to (units_of a.size unit) (lt-ltb (a.units.to - a.units.from) (units_of a.size unit) over)

-- the size is at most that of the span, so its units are at most the span's
pub returns : goal.returns
returns c =
    let a = c.args in
    let unit = unit_of a.s (block_at a.s a.j) in
    let n = c.units_for-n.result in
    let m = c.cut_off-state in
    let size_low : a.size ≤ bytes_of (a.units.to - a.units.from) unit = omega (arith, c.if-whole-size.false, ap (λ (x : Span). x.size) c.span_at-whole.ensures) in
    let few : n ≤ a.units.to - a.units.from = omega (arith, c.units_for-n.ensures, units_within a.size unit (some (goal.at.returns c).Start) (a.units.to - a.units.from) size_low) in
    ap (λ (x : Span). turn (Shrunk x) m.result m.new.used m.new.stop) c.span_at-kept.ensures
    ∙ m.ensures (Shrunk (span a.address (bytes_of n unit)))
    ∙ fewer_units a.s a.used.now a.stop.now a.address a.j a.units.from a.units.to n (le-ltb (a.units.to - a.units.from) n few) (ne_eqb n (a.units.to - a.units.from) c.if-n-units.false)
    ∙ ap (λ (k : ℕ). shrink_units a.s a.used.now a.stop.now a.address a.j a.units.from a.units.to k) c.units_for-n.ensures
