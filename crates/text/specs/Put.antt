-- Bytes written into lent ones from an index on: the lent bytes afterwards, and the index after them. Assumes nothing.
use Rattle.std.specs.Prelude.{ℕ, ◌+◌, List, ◌≡◌, length}
use Rattle.std.proofs.lemmas.List.Edits.{sets}

pub record Puts (before : List ℕ) (at : ℕ) (bytes after : List ℕ) (behind : ℕ) : Type 0 where
  pub place : behind ≡ at + length bytes
  pub whole : after ≡ sets before at bytes
