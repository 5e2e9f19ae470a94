-- `search_window` answers `Sought` for the block's slot, and only `seek`'s answer is `Sought` (`seek_only`): so each branch is that of
-- `look_into`. Assumes nothing.
use mathlib.Core.Path.{◌≡◌, sym, ap, ◌∙◌}
use mathlib.Core.Bool.{true, false}
use native.Mathlib.Omega.{arith}
use Rattle.runs.specs.Window.{Sought}
use Rattle.runs.proofs.Seek.{seek_only}
use Rattle.slots.specs.Slots.{slot_of}
use Rattle.std.specs.Prelude.{Err}
use Rattle.block.specs.Search.{worth_searching, looked, look_into}
use Rattle.block.proofs.look.look_into.Goals.{After-search_window-got, After-slot-part}
use Rattle.block.proofs.look.look_into.Goals as goal

-- what the search says, of the block's part of the map
sought : (c : After-search_window-got) → let a = c.args in
    Sought (slot_of a.w a.b.slot a.used.now) a.b.start a.b.end a.n c.search_window-got.result
sought c = rw c.slot-part.ensures at c.search_window-got.ensures

-- the block is looked into, and the search's answer is the rule's
known : (c : After-search_window-got) → let a = c.args in
    looked a.b c.search_window-got.result ≡ look_into a.w a.b a.used.now a.n
unfolding look_into
known c =
    let a = c.args in
    let e : worth_searching a.b a.n ≡ true = sym c.worth_searching.ensures ∙ c.if-not-worth_searching.false in
    rw e (ap (looked a.b) (seek_only (slot_of a.w a.b.slot a.used.now) a.b.start a.b.end a.n c.search_window-got.result (omega (arith, c.requires.1)) (sought c)))

pub returns-then-not-worth_searching : goal.returns-then-not-worth_searching
unfolding look_into
returns-then-not-worth_searching c = let e : worth_searching c.args.b c.args.n ≡ false = sym c.worth_searching.ensures ∙ c.if-not-worth_searching.true in rw e

pub returns-in-At : goal.returns-in-At
returns-in-At c = sym (ap (looked c.args.b) c.in-At.is) ∙ known (goal.at.returns-in-At c).After-search_window-got

pub returns-in-Tight : goal.returns-in-Tight
returns-in-Tight c = ap Err c.tightened.ensures ∙ sym (ap (looked c.args.b) c.in-Tight.is) ∙ known (goal.at.returns-in-Tight c).After-search_window-got

pub returns-in-Full : goal.returns-in-Full
returns-in-Full c = sym (ap (looked c.args.b) c.in-Full.is) ∙ known (goal.at.returns-in-Full c).After-search_window-got
