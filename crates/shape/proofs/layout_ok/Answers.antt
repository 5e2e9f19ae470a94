-- The loop keeps `Ordered`: the first places hold ages, and each block starts at or after the end of the one before. So a return fails
-- the definition's test (`age_fails`, `gap_fails`), and at the end only the zeros are left to test (`layout_done`). Assumes nothing.
use Prim.Native.Nat.{ℕ}
use mathlib.Core.Path.{◌≡◌, sym, ◌∙◌, subst}
use native.Mathlib.Omega.{arith}
use Rattle.state.proofs.Lists.{front_below, front_at}
use Rattle.shape.proofs.Address.{Ordered, age_fails, gap_fails, layout_done}
use Rattle.shape.proofs.layout_ok.Goals as goal

pub returns-then-age-s : goal.returns-then-age-s
returns-then-age-s c =
    let s = c.args.s.now in
    let k = c.loop-age.age-index in
    let more = c.loop-age-test.true in
    sym (age_fails s k (front_below s.count s.order k more) (rw (front_at s.count s.order 0 k more) at c.if-age-s.true))

pub returns-then-b-end : goal.returns-then-b-end
returns-then-b-end c =
    let s = c.args.s.now in
    let k = c.loop-age.age-index in
    let more = c.loop-age-test.true in
    sym (gap_fails s k c.loop-age.end c.loop-age.invariant (front_below s.count s.order k more) (rw (front_at s.count s.order 0 k more) at c.if-b-end.true))

pub returns : goal.returns
returns c =
    let s = c.args.s.now in
    let end = c.loop-age.end in
    let whole : c.loop-age.age-index ≡ s.count = omega (arith, c.loop-age.invariant.here) in
    let ordered = subst (λ (n : ℕ). Ordered s n end) whole c.loop-age.invariant in
    c.zeros_ok.ensures ∙ layout_done s c.requires ordered.low ordered.next
