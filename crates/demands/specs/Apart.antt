-- Spans that share no byte, and bytes that lie in a block. Assumes nothing.
use Rattle.std.specs.Prelude.{ℕ, ◌+◌, ◌≤◌, ◌<◌, true, List, [], ◌∷◌, ◌⊎◌, ◌≡◌}
use Rattle.numbers.specs.Names.{Address}
use Rattle.state.specs.declared.State.{State}
use Rattle.state.specs.declared.Span.{Span}
use Rattle.state.specs.Table.{block_at}
use Rattle.state.specs.Find.{holds}
use Rattle.ledger.specs.Ledger.{In}

-- every two spans of the list lie apart
abbrev pub Apart : List Span → Type 0
Apart [] = Unit {0}
Apart (x ∷ l) = ((a size : ℕ) → In a size l → (x.address + x.size ≤ a) ⊎ (a + size ≤ x.address)) × Apart l

-- the size bytes at a, one at least, lie in block j, and no other block holds the address
pub record InsideBlock (s : State) (a size j : ℕ) : Type 0 where
  pub stands : j < s.count
  pub some : 0 < size
  pub low : (block_at s j).base ≤ a
  pub high : a + size ≤ (block_at s j).base + (block_at s j).size
  pub one : (k : ℕ) → k < s.count → holds (block_at s k) a ≡ true → k ≡ j

-- a block holds the address
abbrev pub HasBlock : State → Address → Type 0
HasBlock s a = (j : ℕ) × (j < s.count) × (holds (block_at s j) a ≡ true)

-- the ledger has no entry at a
abbrev pub Vacant : List Span → Address → Type 0
Vacant l a = (size : ℕ) → In a size l → ⊥
