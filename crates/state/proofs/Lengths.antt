-- The lengths of a state's arrays, from the state being a value of its type. Field k's length is `.1 .1`, then k times `.1`, then `.0 .1 .0 .1`.
-- Assumes nothing.
use mathlib.Core.Path.{◌≡◌}
use mathlib.Core.List.{List}
use mir.Val.{Val}
use denote.Laws.{Is}
use denote.Struct.Declared.{row}
use lib.ListN.{length}
use Rattle.state.specs.declared.State.{State}
use Rattle.state.specs.contracts.State.{the_type}

module _ (s : State) (vs : List Val) (good : Is (row the_type) s vs) where
  pub blocks_64 : length s.blocks ≡ 64
  blocks_64 = good.1.1.1.1.1.1.1.1.1.1.1.1.0.1.0.1

  pub order_64 : length s.order ≡ 64
  order_64 = good.1.1.1.1.1.1.1.1.1.1.1.1.1.0.1.0.1

  pub pool_3 : length s.pools ≡ 3
  pool_3 = good.1.1.1.1.1.1.1.1.1.1.1.1.1.1.0.1.0.1
