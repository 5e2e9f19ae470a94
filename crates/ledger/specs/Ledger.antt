-- The ledger: the live spans, kept from the answers of the calls alone. Assumes nothing.
use Rattle.std.specs.Prelude.{List, [], ◌∷◌, ◌⊎◌, ◌≡◌, eqb}
use Rattle.numbers.specs.Names.{Address, Bytes}
use Rattle.numbers.specs.Pick.{pick}
use Rattle.state.specs.declared.Span.{Span}
use Rattle.state.specs.declared.Answer.{Answer}
use Rattle.state.specs.declared.Answer.TheVariants.{Created, Granted, Released, Shrunk, Shown, Reset, Refused}

-- the ledger without its span at address a
unfoldable pub strike : Address → List Span → List Span
strike a [] = []
strike a (x ∷ l) = pick (eqb x.address a) l (x ∷ strike a l)

-- an allocation enters a span, a release strikes it, a shrink shortens it, a reset clears the page, a granted creation opens a new one
abbrev pub enter : Answer → List Span → List Span
enter (Granted x) l = x ∷ l
enter (Released x) l = strike x.address l
enter (Shrunk x) l = x ∷ strike x.address l
enter Reset l = []
enter (Created size g pools) l = []
enter (Shown x) l = l
enter (Refused why) l = l

-- the span of size bytes at address a is in the ledger
abbrev pub In : Address → Bytes → List Span → Type 0
In a size [] = ⊥
In a size (x ∷ l) = ((x.address ≡ a) × (x.size ≡ size)) ⊎ In a size l
