-- Document 01, The trace: the calls' lines, byte by byte. Assumes nothing.
use Rattle.std.specs.Prelude.{ℕ, List, [], ◌∷◌}
use Rattle.state.specs.declared.Answer.{Answer}
use Rattle.state.specs.declared.Answer.TheVariants.{Created, Granted, Released, Shrunk, Shown, Reset, Refused}
use Rattle.state.specs.Outcome.{number}
use Rattle.text.specs.Line.{line}

-- ---- the answer words, as spelled in document 01
abbrev pub created : List ℕ
created = 99 ∷ 114 ∷ 101 ∷ 97 ∷ 116 ∷ 101 ∷ 100 ∷ []

abbrev pub span : List ℕ
span = 115 ∷ 112 ∷ 97 ∷ 110 ∷ []

abbrev pub released : List ℕ
released = 114 ∷ 101 ∷ 108 ∷ 101 ∷ 97 ∷ 115 ∷ 101 ∷ 100 ∷ []

abbrev pub shrunk : List ℕ
shrunk = 115 ∷ 104 ∷ 114 ∷ 117 ∷ 110 ∷ 107 ∷ []

abbrev pub reset : List ℕ
reset = 114 ∷ 101 ∷ 115 ∷ 101 ∷ 116 ∷ []

abbrev pub refused : List ℕ
refused = 114 ∷ 101 ∷ 102 ∷ 117 ∷ 115 ∷ 101 ∷ 100 ∷ []

-- ---- the lines of the calls; a granted query is written as an allocation is
unfoldable pub answer_line : Answer → List ℕ
answer_line (Created size g pools) = line created (size ∷ g ∷ pools ∷ [])
answer_line (Granted x) = line span (x.address ∷ x.size ∷ [])
answer_line (Shown x) = line span (x.address ∷ x.size ∷ [])
answer_line (Released x) = line released (x.address ∷ x.size ∷ [])
answer_line (Shrunk x) = line shrunk (x.address ∷ x.size ∷ [])
answer_line Reset = line reset []
answer_line (Refused why) = line refused (number why ∷ [])
