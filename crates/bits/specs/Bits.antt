-- A list of 32-bit words as a map of bits. A bit is the number 0 or 1. Assumes nothing.
use Rattle.std.specs.Prelude.{ℕ, zero, suc, ◌+◌, ◌-◌, ◌*◌, ◌/◌, ◌%◌, ◌^◌, ◌≤◌, ◌<◌, List, ◌≡◌, length, get_or, set}

-- digit i of the number w, counted from the lowest
unfoldable pub digit : ℕ → ℕ → ℕ
digit w i = w / 2 ^ i % 2

-- bit k of the words ws: digit k % 32 of word k / 32, and 0 past their end
unfoldable pub bit : List ℕ → ℕ → ℕ
bit ws k = digit (get_or ws (k / 32) 0) (k % 32)

-- every element is a 32-bit word, as those of a `&[u32]` are
abbrev pub Words : List ℕ → Type 0
Words ws = (i : ℕ) → get_or ws i 0 < 2 ^ 32

-- vs are the words ws with v for each of the n bits from `from` on, and every other bit as it was
pub record Filled (ws : List ℕ) (from n v : ℕ) (vs : List ℕ) : Type 0 where
  pub size : length vs ≡ length ws
  pub inside : (k : ℕ) → from ≤ k → k < from + n → bit vs k ≡ v
  pub below : (k : ℕ) → k < from → bit vs k ≡ bit ws k
  pub above : (k : ℕ) → from + n ≤ k → bit vs k ≡ bit ws k

-- r is the first bit from start on that is v, or the number of bits if there is none
pub record FirstAt (ws : List ℕ) (start v r : ℕ) : Type 0 where
  pub low : start ≤ r
  pub high : r ≤ 32 * length ws
  pub before : (k : ℕ) → start ≤ k → k < r → bit ws k ≡ v → ⊥
  pub found : r < 32 * length ws → bit ws r ≡ v

-- how many of the n bits from `from` on are set
unfoldable pub ones : List ℕ → ℕ → ℕ → ℕ
ones ws from zero = 0
ones ws from (suc n) = ones ws from n + bit ws (from + n)

-- ---- the words that `Filled` describes, as a function. proofs/Filled.antt proves that they are `Filled` (`filled_has`) and that no others
-- are (`Filled-is`)

-- w with v for its digit i
unfoldable pub put : ℕ → ℕ → ℕ → ℕ
put w i v = w - digit w i * 2 ^ i + v * 2 ^ i

-- ws with v for its bit k
unfoldable pub set_bit : List ℕ → ℕ → ℕ → List ℕ
set_bit ws k v = set ws (k / 32) (put (get_or ws (k / 32) 0) (k % 32) v)

-- ws with v for each of the n bits from `from` on
unfoldable pub filled : List ℕ → ℕ → ℕ → ℕ → List ℕ
filled ws from zero v = ws
filled ws from (suc n) v = set_bit (filled ws from n v) (from + n) v
