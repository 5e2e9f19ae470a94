-- Document 01, Filling: a run of bytes filled by a 32-bit pattern, little-endian. Assumes nothing.
use Rattle.std.specs.Prelude.{ℕ, zero, suc, ◌/◌, ◌%◌, ◌^◌, List, [], ◌∷◌, ◌++◌}
use Rattle.std.proofs.lemmas.List.Edits.{sets}

-- byte i of the pattern repeated, its lowest byte first
abbrev pub pattern_byte : ℕ → ℕ → ℕ
pattern_byte pattern i = pattern / 256 ^ (i % 4) % 256

-- the first n bytes of it
unfoldable pub repeated : ℕ → ℕ → List ℕ
repeated pattern zero = []
repeated pattern (suc n) = repeated pattern n ++ (pattern_byte pattern n ∷ [])

-- the image with its n bytes from index at on filled
abbrev pub filled_at : List ℕ → ℕ → ℕ → ℕ → List ℕ
filled_at image at n pattern = sets image at (repeated pattern n)
