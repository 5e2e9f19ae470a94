-- Document 01, Numbers: the granularities and base block sizes that creation knows, and those in force. Assumes nothing.
use Rattle.std.specs.Prelude.{ℕ, zero, suc, ◌^◌, Bool, false, ◌&&◌, ◌||◌, leb, eqb}
use Rattle.numbers.specs.Names.{Bytes}
use Rattle.numbers.specs.Pick.{pick}

-- ---- the numbers that 01 gives

-- the arena's base and length and every block's base are multiples of it
abbrev pub page : Bytes
page = 65536

-- of a block: the least base size, and where doubling stops
abbrev pub min_block_size : Bytes
min_block_size = 65536

abbrev pub max_block_size : Bytes
max_block_size = 33554432

-- of a request, once it is rounded
abbrev pub max_size : Bytes
max_size = 2147483647

-- words to a slot, and slots
abbrev pub max_slot_words : ℕ
max_slot_words = 16384

abbrev pub slot_limit : ℕ
slot_limit = 64

-- ---- granularities and base sizes

-- 64, 128 or 256
unfoldable pub is_granularity : Bytes → Bool
is_granularity g = eqb g 64 || eqb g 128 || eqb g 256

-- any other request becomes 64
unfoldable pub granularity_in_force : Bytes → Bytes
granularity_in_force asked = pick (is_granularity asked) asked 64

-- 2 ^ k, for a k below n
unfoldable pub is_power_below : ℕ → ℕ → Bool
is_power_below zero x = false
is_power_below (suc n) x = eqb x (2 ^ n) || is_power_below n x

-- a power of two, in 64 bits
abbrev pub is_power_of_two : ℕ → Bool
is_power_of_two x = is_power_below 64 x

-- a power of two from 65,536 to 33,554,432
unfoldable pub is_base_size : Bytes → Bool
is_base_size size = is_power_of_two size && leb min_block_size size && leb size max_block_size

-- any other request becomes 65,536
unfoldable pub base_size_in_force : Bytes → Bytes
base_size_in_force asked = pick (is_base_size asked) asked min_block_size
