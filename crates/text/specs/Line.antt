-- A line of text, byte by byte: a word and numbers. Assumes nothing.
use Rattle.std.specs.Prelude.{ℕ, List, [], ◌∷◌, ◌++◌}
use Rattle.text.specs.Decimal.{decimal}

-- each number after one space
abbrev pub spaced : List ℕ → List ℕ
spaced [] = []
spaced (n ∷ ns) = (32 ∷ decimal n) ++ spaced ns

-- a word, the numbers, and a line feed
abbrev pub line : List ℕ → List ℕ → List ℕ
line word ns = word ++ (spaced ns ++ (10 ∷ []))
