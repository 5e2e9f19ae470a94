-- What a walk over the bits of a map knows, a word at a time. Assumes nothing.
use Rattle.std.specs.Prelude.{ℕ, ◌+◌, ◌-◌, ◌*◌, ◌^◌, ◌≤◌, ◌<◌, List, Bool, true, false, ◌≡◌, length}
use Rattle.bits.specs.Bits.{digit, bit}

-- a word with a one wherever w's digit is b
abbrev pub flipped : ℕ → Bool → ℕ
flipped w true = w
flipped w false = (2 ^ 32 - 1) - w

-- A walk that searches the bits from p up to end for those that are v stands at word number at: no bit from p up to that word is v, and
-- the ones of word are its bits that are v and not before p. Nothing is said of bits from end on. In an empty window a walk may stand after
-- the last word, with no ones.
pub record Seen (ws : List ℕ) (end p v at word : ℕ) : Type 0 where
  pub stands : at ≤ length ws
  pub near : p ≤ 32 * at + 32
  pub fits : word < 2 ^ 32
  pub before : (k : ℕ) → p ≤ k → k < 32 * at → k < end → bit ws k ≡ v → ⊥
  pub zeros : (j : ℕ) → j < 32 → p ≤ 32 * at + j → 32 * at + j < end → digit word j ≡ 0 → bit ws (32 * at + j) ≡ v → ⊥
  pub ones : (j : ℕ) → j < 32 → digit word j ≡ 1 → (at < length ws) × (p ≤ 32 * at + j) × (bit ws (32 * at + j) ≡ v)
