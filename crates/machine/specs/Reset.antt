-- Document 01, Reset: the calls soft reset and hard reset. Assumes nothing.
use Rattle.std.specs.Prelude.{ℕ, zero, suc, Bool, not, ◌||◌, eqb, length, replicate}
use Rattle.numbers.specs.Names.{Age, Map}
use Rattle.numbers.specs.Pick.{pick}
use Rattle.sizes.specs.Limits.{slot_limit}
use Rattle.block.specs.declared.Block.{Block}
use Rattle.block.specs.Marking.{emptied}
use Rattle.sizes.specs.Pools.{fresh_pool}
use Rattle.state.specs.declared.State.{State}
use Rattle.state.specs.declared.Refusal.TheVariants.{BadShape}
use Rattle.state.specs.declared.Answer.TheVariants.{Reset}
use Rattle.state.specs.Table.{zero_block, block_at, pool_at, all}
use Rattle.state.specs.Shape.{bad_shape}
use Rattle.state.specs.Change.{with_table, inserted}
use Rattle.machine.specs.Turn.{Turn, turn, refuse, put_pool, with_live, with_counts, clear_slot}

-- all blocks are removed
abbrev pub empty_table : State → State
empty_table s = with_live (with_table s 0 (replicate slot_limit zero_block) (replicate slot_limit 0) (replicate 3 (fresh_pool s.granularity))) 0

-- the slots of the first n blocks cleared
unfoldable pub clear_blocks : State → ℕ → Map → Map
clear_blocks s zero ws = ws
clear_blocks s (suc n) ws = clear_slot s.w (block_at s n).slot (clear_blocks s n ws)

-- block i is the oldest of its pool
abbrev pub oldest : State → Age → Bool
oldest s i = all i (λ j. not (eqb (block_at s j).pool (block_at s i).pool))

-- a block enters a table as its pool's empty block
abbrev pub keep : State → Block → State
keep r b =
    put_pool (inserted r (emptied b)) b.pool
    (with_counts (pool_at (inserted r (emptied b)) b.pool) 1 (pool_at (inserted r (emptied b)) b.pool).used)

-- the table of those of the first n blocks that are the oldest of their pools
unfoldable pub kept : State → ℕ → State
kept s zero = empty_table s
kept s (suc n) = pick (oldest s n) (keep (kept s n) (block_at s n)) (kept s n)

-- hard, or soft with immediate release: all blocks are removed; soft: each pool keeps its oldest block
unfoldable pub reset_turn : State → Map → Map → Bool → Turn
reset_turn s u t hard =
    pick (bad_shape s (length u) (length t)) (refuse BadShape s u t)
    (turn Reset (pick (hard || s.immediate) (empty_table s) (kept s s.count)) (clear_blocks s s.count u) (clear_blocks s s.count t))
