-- Element by element: below `place` nothing moves, and what follows is a place further (`list_is`). Assumes nothing.
use Prim.Native.Nat.{ℕ, ◌+◌, ◌-◌}
use mathlib.Core.Path.{◌≡◌, sym, ap, ◌∙◌}
use native.Mathlib.Omega.{arith}
use lib.ListN.{length, get_or, set, length-set}
use lib.Seq.{get_or-set_same, get_or-set_other}
use Rattle.numbers.proofs.Split.{by_eq, by_le}
use Rattle.state.specs.Change.{moved_up}
use Rattle.state.proofs.Lists.{list_is}
use Rattle.table.proofs.Shift.{moved_below, moved_here, moved_above}
use Rattle.table.proofs.insert.put_age.Goals as goal

pub returns : goal.returns
returns c =
    let place = c.args.place in
    let age = c.args.age in
    let xs = c.args.order.now in
    let ys = c.copy_within.new.self in
    let kept = c.copy_within.ensures.by_index in
    list_is (length xs) (moved_up xs place age) 0 (set ys place age) (length-set ys place age ∙ c.copy_within.ensures.len)
    (λ j h. by_eq j place
    (λ e. ap (λ (n : ℕ). get_or (set ys place age) n 0) e ∙ get_or-set_same ys place age 0 (omega (arith, c.copy_within.ensures.len))
    ∙ sym (ap (moved_up xs place age) e ∙ moved_here xs place age))
    (λ ne. get_or-set_other ys place j age 0 ne
    ∙ by_le j place
    (λ g. kept.1 j 0 (omega (arith, ne)) ∙ sym (moved_below xs place age j (omega (arith, ne))))
    (λ g.
    let from : place + (j - (place + 1)) ≡ j - 1 = omega arith in
    kept.0 j 0 (omega arith) (omega arith) ∙ ap (λ (n : ℕ). get_or xs n 0) from ∙ sym (moved_above xs place age j g))))
