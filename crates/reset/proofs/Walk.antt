-- A walk over the first blocks: the block at which it stands, and their slots cleared one more at a time. Assumes nothing.
use Prim.Native.Nat.{ℕ, ◌<◌}
use mathlib.Core.Path.{◌≡◌, ◌∙◌}
use native.Mathlib.Omega.{arith}
use lib.ListN.{length, take, get_or, length-take}
use Rattle.std.proofs.lemmas.List.{get_or-take, get_or_default}
use Rattle.block.specs.declared.Block.{Block}
use Rattle.state.specs.declared.State.{State}
use Rattle.state.specs.Table.{zero_block, block_at}
use Rattle.shape_facts.proofs.Clear.{clear_none, clear_more}

pub block_here : (s : State) (n i : ℕ) (d : Block) → i < length (take n s.blocks) → get_or (take n s.blocks) i d ≡ block_at s i
block_here s n i d h =
    get_or_default (take n s.blocks) i d zero_block h ∙ get_or-take n s.blocks i zero_block (omega (arith, h, length-take n s.blocks))

pub ruleset clearing = (block_here, clear_none, clear_more)
