-- Element by element: below `place` nothing moves, and what follows comes from a place further (`list_is`). Assumes nothing.
use Prim.Native.Nat.{ℕ, ◌+◌, ◌-◌}
use mathlib.Core.Path.{◌≡◌, sym, ap, ◌∙◌}
use native.Mathlib.Omega.{arith}
use lib.ListN.{length, get_or, set, length-set, get_or-eq_default}
use lib.Seq.{get_or-set_same, get_or-set_other}
use Rattle.numbers.proofs.Split.{by_eq, by_le}
use Rattle.state.specs.Change.{past}
use Rattle.state.proofs.Lists.{list_is}
use Rattle.table.proofs.Shift.{past_below, past_above}
use Rattle.table.proofs.remove.take_out.Goals as goal

pub returns : goal.returns
returns g c =
    let place = c.args.place in
    let zero = c.args.zero in
    let xs = c.args.list.now in
    let ys = c.copy_within.new.self in
    let last = length xs - 1 in
    let kept = c.copy_within.ensures.by_index in
    list_is (length xs) (λ k. get_or xs (past place k) zero) zero (set ys last zero) (length-set ys last zero ∙ c.copy_within.ensures.len)
    (λ j h. by_eq j last
    (λ e. ap (λ (n : ℕ). get_or (set ys last zero) n zero) e ∙ get_or-set_same ys last zero zero (omega (arith, c.copy_within.ensures.len))
    ∙ sym (ap (λ (n : ℕ). get_or xs n zero) (past_above place j (omega arith)) ∙ get_or-eq_default xs zero {n = j + 1} (omega arith)))
    (λ ne. get_or-set_other ys last j zero zero ne
    ∙ by_le place j
    (λ m.
    let from : (place + 1) + (j - place) ≡ j + 1 = omega arith in
    kept.0 j zero m (omega (arith, ne)) ∙ ap (λ (n : ℕ). get_or xs n zero) (from ∙ sym (past_above place j m)))
    (λ m. kept.1 j zero m ∙ ap (λ (n : ℕ). get_or xs n zero) (sym (past_below place j m)))))
