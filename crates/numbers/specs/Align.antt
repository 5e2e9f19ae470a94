-- Rounding by a bit mask, in 64 bits: it clears the digits that alignment - 1 has. If alignment is a power of two, that gives the multiple
-- below or above; document 01 also rounds by 786,432, which gives neither. Assumes nothing.
use Rattle.std.specs.Prelude.{ℕ, ◌+◌, ◌-◌, ◌%◌, ◌^◌, bit_and}

-- x without the digits that m has
abbrev pub without : ℕ → ℕ → ℕ
without x m = bit_and x (2 ^ 64 - 1 - m)

abbrev pub align_down : ℕ → ℕ → ℕ
align_down x alignment = without x (alignment - 1)

-- the sum wraps at 2 ^ 64
abbrev pub align_up : ℕ → ℕ → ℕ
align_up x alignment = without ((x + (alignment - 1)) % 2 ^ 64) (alignment - 1)
