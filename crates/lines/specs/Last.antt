-- Document 01, The trace: the last line, byte by byte. Assumes nothing.
use Rattle.std.specs.Prelude.{ℕ, ◌+◌, List, [], ◌∷◌, ltb, eqb, length}
use Rattle.numbers.specs.Pick.{pick}
use Rattle.state.specs.declared.State.{State}
use Rattle.state.specs.Table.{pool_at}
use Rattle.text.specs.Put.{Puts}
use Rattle.text.specs.Line.{line}

-- ---- the words, as spelled in document 01
abbrev pub bad : List ℕ
bad = 98 ∷ 97 ∷ 100 ∷ []

abbrev pub ended : List ℕ
ended = 101 ∷ 110 ∷ 100 ∷ []

-- ---- live spans, blocks and used units; or a bad record's byte offset
abbrev pub used_units : State → ℕ
used_units s = (pool_at s 0).used + (pool_at s 1).used + (pool_at s 2).used

unfoldable pub end_line : State → List ℕ
end_line s = line ended (s.live ∷ s.count ∷ used_units s ∷ [])

unfoldable pub bad_line : ℕ → List ℕ
bad_line offset = line bad (offset ∷ [])

-- `end` if nothing is left; otherwise what is left starts with a cut or a wrong record: `bad`, with its offset
abbrev pub last_line : State → ℕ → ℕ → List ℕ
last_line s offset left = pick (eqb left 0) (end_line s) (bad_line offset)

-- the last line is at the front of the lent bytes, if they have room for a line; otherwise nothing is written
abbrev pub Finishes : State → ℕ → ℕ → List ℕ → List ℕ → ℕ → Type 0
Finishes s offset left before after written = Puts before 0 (pick (ltb (length before) 80) [] (last_line s offset left)) after written
