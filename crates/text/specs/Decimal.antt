-- A number in decimal, as bytes: the most significant digit first, no zero in front. Assumes nothing.
use Rattle.std.specs.Prelude.{ℕ, zero, suc, ◌+◌, ◌/◌, ◌%◌, List, [], ◌∷◌, ◌++◌, ltb}
use Rattle.numbers.specs.Pick.{pick}

-- the byte of a digit: '0' is 48
abbrev pub digit : ℕ → ℕ
digit d = 48 + d

-- a number of at most k digits
unfoldable pub digits : ℕ → ℕ → List ℕ
digits zero n = []
digits (suc k) n = pick (ltb n 10) (digit n ∷ []) (digits k (n / 10) ++ (digit (n % 10) ∷ []))

-- 64-bit numbers have at most 20 digits
abbrev pub decimal : ℕ → List ℕ
decimal n = digits 20 n
