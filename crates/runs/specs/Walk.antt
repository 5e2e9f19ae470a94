-- Runs of free units in a window that ends at end. Assumes nothing.
use Rattle.std.specs.Prelude.{ℕ, ◌-◌, ◌*◌, ◌^◌, ◌≤◌, ◌<◌, List, ◌≡◌, length}
use Rattle.bits.specs.Bits.{bit}
use Rattle.bits.specs.Walk.{Seen}

-- a walk that stands at a word, in a window of the map
pub record Stands (ws : List ℕ) (at end : ℕ) : Type 0 where
  pub within : end ≤ 32 * length ws
  pub fits : length ws < 2 ^ 32
  pub word : at ≤ length ws

-- the units from `from` up to `to` and before end are free
abbrev pub ClearIn : List ℕ → ℕ → ℕ → ℕ → Type 0
ClearIn ws from to end = (k : ℕ) → from ≤ k → k < to → k < end → bit ws k ≡ 0

-- a run of free units from `from` up to `to`, no further than end. It stops at end or at a used unit, or it is as long as hint or longer. The
-- walk goes on at word number at, whose free units from `to` on are the ones of word
pub record Ends (ws : List ℕ) (from end hint to at word : ℕ) : Type 0 where
  pub some : from < to
  pub inside : to ≤ end
  pub free : (k : ℕ) → from ≤ k → k < to → bit ws k ≡ 0
  pub stop : to < end → to - from < hint → bit ws to ≡ 1
  pub next : Seen ws end to 0 at word
