-- Bytes and units of so many bytes each, whatever the unit. Assumes nothing.
use Rattle.std.specs.Prelude.{◌+◌, ◌-◌, ◌*◌, ◌/◌}
use Rattle.numbers.specs.Names.{Bytes, Units}

-- size over the unit, rounded up, exactly
abbrev pub units_of : Bytes → Bytes → Units
units_of size unit = (size + (unit - 1)) / unit

abbrev pub bytes_of : Units → Bytes → Bytes
bytes_of n unit = n * unit
