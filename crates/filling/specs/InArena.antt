-- Spans that lie in the arena and below 2^48, as a fill requires; and an address that is in none of them. Assumes nothing.
use Rattle.std.specs.Prelude.{ℕ, ◌+◌, ◌≤◌, ◌<◌, ◌^◌, List, [], ◌∷◌, ◌⊎◌}
use Rattle.numbers.specs.Names.{Address, Bytes}
use Rattle.state.specs.declared.Span.{Span}

pub record InArena (arena length : ℕ) (x : Span) : Type 0 where
  pub low : arena ≤ x.address
  pub high : x.address + x.size ≤ arena + length
  pub top : x.address + x.size ≤ 2 ^ 48

abbrev pub AllInArena : Address → Bytes → List Span → Type 0
AllInArena arena length [] = Unit {0}
AllInArena arena length (x ∷ xs) = InArena arena length x × AllInArena arena length xs

abbrev pub Outside : Address → List Span → Type 0
Outside k [] = Unit {0}
Outside k (x ∷ xs) = ((k < x.address) ⊎ (x.address + x.size ≤ k)) × Outside k xs
