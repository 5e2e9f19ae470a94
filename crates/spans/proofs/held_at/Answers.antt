-- A unit that is no start is `NoSpan` in both. Otherwise the first stop bit from the unit on is the definition's if it lies in the area
-- (`stop_found`); if not, the area has none (`stop_none`). Assumes nothing.
use borrow.Author.Tests.{not-true, not-false}
use mathlib.Core.Path.{◌≡◌, sym, ap, ◌∙◌}
use mathlib.Core.Bool.{true, false}
use native.Mathlib.Omega.{arith}
use Rattle.machine.specs.Span.{starts, up_to}
use Rattle.spans.proofs.Stop.{stop_found, stop_none}
use Rattle.spans.proofs.held_at.Goals as goal

pub returns-then-not-is_start : goal.returns-then-not-is_start
returns-then-not-is_start c =
    let a = c.args in
    let e : starts a.used.now a.stop.now a.unit ≡ false = sym c.is_start.ensures ∙ not-true _ c.if-not-is_start.true-raw in
    rw e

pub returns-then-area-last : goal.returns-then-area-last
returns-then-area-last c =
    let a = c.args in
    let e : starts a.used.now a.stop.now a.unit ≡ true = sym c.is_start.ensures ∙ not-false _ c.if-not-is_start.false-raw in
    rw e (sym (ap (up_to a.unit) (stop_none a.stop.now a.unit a.area c.bit_vector_index_of-last.result c.requires.0 c.requires.2 c.bit_vector_index_of-last.ensures c.if-area-last.true)))

pub returns : goal.returns
returns c =
    let a = c.args in
    let e : starts a.used.now a.stop.now a.unit ≡ true = sym c.is_start.ensures ∙ not-false _ c.if-not-is_start.false-raw in
    rw e (sym (ap (up_to a.unit) (stop_found a.stop.now a.unit a.area c.bit_vector_index_of-last.result c.requires.0 c.requires.2 c.bit_vector_index_of-last.ensures (omega (arith, c.if-area-last.false)))))
