-- What reading a block and its pool by the block's age requires. A good shape gives it. Assumes nothing.
use Rattle.std.specs.Prelude.{◌<◌}
use Rattle.numbers.specs.Names.{Age}
use Rattle.sizes.specs.Limits.{slot_limit}
use Rattle.state.specs.declared.State.{State}
use Rattle.state.specs.Table.{block_at}

-- the age is an index of the table, and the block's pool is one of the three
pub record InTable (s : State) (j : Age) : Type 0 where
  pub age : j < slot_limit
  pub pool : (block_at s j).pool < 3
