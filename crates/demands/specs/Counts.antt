-- The bytes of a ledger. Assumes nothing.
use Rattle.std.specs.Prelude.{◌+◌, List, [], ◌∷◌}
use Rattle.numbers.specs.Names.{Bytes}
use Rattle.state.specs.declared.Span.{Span}

-- the sum of its spans' sizes
unfoldable pub bytes_in : List Span → Bytes
bytes_in [] = 0
bytes_in (x ∷ l) = x.size + bytes_in l
