use Rattle.std.proofs.Common.{ℕ, ◌-◌, ◌≤◌, length}
use Rattle.runs.specs.Steps.{HasSeen, SameWindow, left}
use Rattle.runs.proofs.ranges.BitVectorRangeIterator.skip.Given as goal

abbrev pub invariant-loop-self : goal.invariant-loop-self
invariant-loop-self l = record {
  window : SameWindow l.initial.self l.self;
  seen : (p : ℕ) → HasSeen l.initial.self p → HasSeen l.self p;
  no_more : left l.self ≤ left l.initial.self;
}

abbrev pub decreases-loop-self : goal.decreases-loop-self
decreases-loop-self l = length l.self.slice.now - l.self.at
