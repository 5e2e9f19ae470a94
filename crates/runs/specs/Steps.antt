-- The walk over the runs of free units in a window. Assumes nothing.
use Rattle.std.specs.Prelude.{ℕ, ◌+◌, ◌-◌, ◌*◌, ◌^◌, ◌≤◌, List, ◌≡◌, length, Option, Some, None}
use Rattle.std.specs.declared.ops.Range.{Range}
use Rattle.bits.specs.Walk.{Seen}
use Rattle.runs.specs.Window.{UsedIn}
use Rattle.runs.specs.Walk.{Ends}
use Rattle.runs.specs.declared.ranges.BitVectorRangeIterator.{BitVectorRangeIterator}

-- a step keeps the words and the window's end
pub record SameWindow (w v : BitVectorRangeIterator) : Type 0 where
  pub words : v.slice.now ≡ w.slice.now
  pub end : v.end ≡ w.end

-- the walk has seen the units from p on, as far as it says
abbrev pub HasSeen : BitVectorRangeIterator → ℕ → Type 0
HasSeen w p = Seen w.slice.now w.end p 0 w.at w.word

-- the first run from p on: the units before it are used. The walk goes on as w
pub record RunFrom (ws : List ℕ) (end hint p from to : ℕ) (w : BitVectorRangeIterator) : Type 0 where
  pub low : p ≤ from
  pub used : UsedIn ws p from
  pub ends : Ends ws from end hint to w.at w.word
  pub same : w.end ≡ end

-- the answer of a step from p, by its cases. Where no run is left, a later step answers the same
abbrev pub Stepped : List ℕ → ℕ → ℕ → ℕ → Option (Range ℕ) → BitVectorRangeIterator → Type 0
Stepped ws end hint p (Some r) w = RunFrom ws end hint p r.start r.end w
Stepped ws end hint p None w = UsedIn ws p end × HasSeen w p

-- what a step of w answers, for every unit p from which the walk has seen what it says
abbrev pub StepAnswer : BitVectorRangeIterator → BitVectorRangeIterator → ℕ → Option (Range ℕ) → Type 0
StepAnswer w v hint r = (p : ℕ) → HasSeen w p → Stepped w.slice.now w.end hint p r v

-- a number that each run makes less
abbrev pub left : BitVectorRangeIterator → ℕ
left w = 2 ^ 32 * (length w.slice.now - w.at) + w.word
