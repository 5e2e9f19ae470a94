use Rattle.std.proofs.Common.{◌≡◌, ℕ, ◌+◌, ◌*◌, ◌-◌, ◌≤◌, ◌<◌, min, length}
use Rattle.bits.specs.Bits.{bit}
use Rattle.runs.specs.Walk.{ClearIn}
use Rattle.runs.specs.Steps.{SameWindow}
use Rattle.runs.proofs.ranges.BitVectorRangeIterator.extend.Given as goal

abbrev pub invariant-loop-to : goal.invariant-loop-to
invariant-loop-to l = record {
  window : SameWindow l.fn.self l.self;
  onward : l.fn.self.at ≤ l.self.at;
  nothing : l.self.word ≡ 0;
  some : l.from < l.to;
  stop : l.to ≡ min (32 * l.self.at + 32) l.self.end;
  free : ClearIn l.self.slice.now l.from (32 * l.fn.self.at + 32) l.self.end → (k : ℕ) → l.from ≤ k → k < l.to → bit l.self.slice.now k ≡ 0;
}

abbrev pub decreases-loop-to : goal.decreases-loop-to
decreases-loop-to l = length l.self.slice.now - l.self.at
