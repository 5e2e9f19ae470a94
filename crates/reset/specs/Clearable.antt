-- What clearing the slots of all blocks requires. A good shape gives it. Assumes nothing.
use Rattle.std.specs.Prelude.{ℕ, ◌+◌, ◌*◌, ◌^◌, ◌≤◌, ◌<◌}
use Rattle.sizes.specs.Limits.{slot_limit}
use Rattle.state.specs.declared.State.{State}
use Rattle.state.specs.Table.{block_at}

-- each block's slot lies within a map of so many words
pub record Clearable (s : State) (words : ℕ) : Type 0 where
  pub few : s.count ≤ slot_limit
  pub narrow : s.w < 2 ^ 32
  pub room : (i : ℕ) → i < s.count → ((block_at s i).slot + 1) * s.w ≤ words
