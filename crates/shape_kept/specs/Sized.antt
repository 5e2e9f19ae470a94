-- The lengths of a record's three lists. The type in the code fixes them; BadShape's clauses don't mention them. Assumes nothing.
use Rattle.std.specs.Prelude.{◌≡◌, length}
use Rattle.sizes.specs.Limits.{slot_limit}
use Rattle.state.specs.declared.State.{State}

pub record Sized (s : State) : Type 0 where
  pub blocks : length s.blocks ≡ slot_limit
  pub order : length s.order ≡ slot_limit
  pub pools : length s.pools ≡ 3
