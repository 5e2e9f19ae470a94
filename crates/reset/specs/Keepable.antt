-- What keeping each pool's oldest block requires. A good shape gives it. Assumes nothing.
use Rattle.std.specs.Prelude.{ℕ, ◌^◌, ◌≤◌, ◌<◌}
use Rattle.sizes.specs.Limits.{slot_limit}
use Rattle.state.specs.declared.State.{State}
use Rattle.state.specs.Table.{block_at}

-- a block alone fits its pool's sums
pub record Keepable (s : State) : Type 0 where
  pub few : s.count ≤ slot_limit
  pub pool : (i : ℕ) → i < s.count → (block_at s i).pool < 3
  pub area : (i : ℕ) → i < s.count → (block_at s i).area < 2 ^ 31
