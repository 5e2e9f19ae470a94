-- What entering a block into the table requires, and removing one. Their callers show it of a good shape. Assumes nothing.
use Rattle.std.specs.Prelude.{ℕ, ◌+◌, ◌^◌, ◌≤◌, ◌<◌, ◌≡◌}
use Rattle.sizes.specs.Limits.{slot_limit}
use Rattle.block.specs.declared.Block.{Block}
use Rattle.state.specs.declared.State.{State}
use Rattle.state.specs.Table.{zero_block, block_at, age_at, pool_at}
use Rattle.state.specs.Change.{place_of_age}

-- there is room in the table, the address order ends in zeros, and the pool's sums stay in range
pub record Insertable (s : State) (b : Block) : Type 0 where
  pub room : s.count < slot_limit
  pub age : (k : ℕ) → k < s.count → age_at s k < slot_limit
  pub order_rest : (k : ℕ) → s.count ≤ k → age_at s k ≡ 0
  pub pool : b.pool < 3
  pub blocks : (pool_at s b.pool).blocks + 1 < 2 ^ 32
  pub area : (pool_at s b.pool).area + b.area < 2 ^ 32

-- the block is in the table and in the address order, the lists end in zeros, and the pool's sums count it
pub record Removable (s : State) (i : ℕ) : Type 0 where
  pub stands : i < s.count
  pub few : s.count ≤ slot_limit
  pub place : place_of_age s i < s.count
  pub rest : (k : ℕ) → s.count ≤ k → block_at s k ≡ zero_block
  pub order_rest : (k : ℕ) → s.count ≤ k → age_at s k ≡ 0
  pub pool : (block_at s i).pool < 3
  pub blocks : 1 ≤ (pool_at s (block_at s i).pool).blocks
  pub area : (block_at s i).area ≤ (pool_at s (block_at s i).pool).area
