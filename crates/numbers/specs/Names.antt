-- What a number is, and what a list of numbers is: names for ℕ and for lists, so that a signature says which of them it means. Assumes nothing.
use Rattle.std.specs.Prelude.{ℕ, List}

-- of a byte
abbrev pub Address : Type 0
Address = ℕ

-- how many bytes
abbrev pub Bytes : Type 0
Bytes = ℕ

-- a unit of a block, counted from 0, or how many units
abbrev pub Units : Type 0
Units = ℕ

-- a block's place among the standing ones, the oldest first
abbrev pub Age : Type 0
Age = ℕ

-- the words of the used map or of the stop map
abbrev pub Map : Type 0
Map = List ℕ
