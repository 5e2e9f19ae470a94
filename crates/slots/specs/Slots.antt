-- A map of slots of w words each. Assumes nothing.
use Rattle.std.specs.Prelude.{ℕ, ◌*◌, ◌++◌, take, drop}
use Rattle.numbers.specs.Names.{Units, Map}
use Rattle.bits.specs.Bits.{filled}

-- the words of a slot
abbrev pub slot_of : ℕ → ℕ → Map → Map
slot_of w slot ws = take w (drop (slot * w) ws)

-- ws with part for the words of a slot
abbrev pub put_slot : ℕ → ℕ → Map → Map → Map
put_slot w slot ws part = take (slot * w) ws ++ (part ++ drop w (drop (slot * w) ws))

-- ws with v for each of the n units from `from` on of a slot
abbrev pub fill_slot : ℕ → ℕ → Map → Units → Units → ℕ → Map
fill_slot w slot ws from n v = put_slot w slot ws (filled (slot_of w slot ws) from n v)
