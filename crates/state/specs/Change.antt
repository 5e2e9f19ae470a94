-- A block enters the table or leaves it: the blocks by age, their ages by address, zeros after both, and its pool's block count and area.
-- Assumes nothing.
use Rattle.std.specs.Prelude.{ℕ, zero, suc, ◌+◌, ◌-◌, List, [], ◌∷◌, ltb, eqb, get_or, set, unwrap_or}
use Rattle.numbers.specs.Names.{Units, Age}
use Rattle.numbers.specs.Pick.{pick}
use Rattle.sizes.specs.Limits.{slot_limit}
use Rattle.block.specs.declared.Block.{Block}
use Rattle.sizes.specs.declared.Pool.{Pool}
use Rattle.state.specs.declared.State.{State}
use Rattle.state.specs.Table.{zero_block, block_at, age_at, pool_at}
use Rattle.state.specs.Find.{least}

-- the list of f k for the n numbers from k on
unfoldable pub list_from : {A : Type 0} → ℕ → ℕ → (ℕ → A) → List A
list_from k zero f = []
list_from k (suc n) f = f k ∷ list_from (suc k) n f

-- the record with another live count and another table
abbrev pub with_rest : State → ℕ → ℕ → List Block → List Age → List Pool → State
with_rest s live count blocks order pools = record {
  size = s.size;
  granularity = s.granularity;
  poolcount = s.poolcount;
  immediate = s.immediate;
  w = s.w;
  slots = s.slots;
  arena = s.arena;
  length = s.length;
  live = live;
  count = count;
  blocks = blocks;
  order = order;
  pools = pools;
}

abbrev pub with_table : State → ℕ → List Block → List Age → List Pool → State
with_table s count blocks order pools = with_rest s s.live count blocks order pools

-- a pool with other sums of blocks and areas
abbrev pub with_blocks : Pool → ℕ → Units → Pool
with_blocks p blocks area = record { granularity = p.granularity; blocks = blocks; empty = p.empty; area = area; used = p.used }

-- ---- a block enters: it is the newest, and its place in the address order is before the first block of higher base
abbrev pub place_of : State → Block → ℕ
place_of s b = unwrap_or (least s.count (λ k. ltb b.base (block_at s (age_at s k)).base)) s.count

-- the age at place j, after age was put at place k and those from there on moved up by one
abbrev pub moved_up : List Age → ℕ → Age → ℕ → Age
moved_up order k age j = pick (ltb j k) (get_or order j 0) (pick (eqb j k) age (get_or order (j - 1) 0))

abbrev pub inserted : State → Block → State
inserted s b =
    with_table s (s.count + 1) (set s.blocks s.count b) (list_from 0 slot_limit (moved_up s.order (place_of s b) s.count))
    (set s.pools b.pool (with_blocks (pool_at s b.pool) ((pool_at s b.pool).blocks + 1) ((pool_at s b.pool).area + b.area)))

-- ---- the block of age i leaves: later ages fall by one, and zeros follow the last block
-- where entry k comes from: from k before i, from k + 1 from there on
abbrev pub past : ℕ → ℕ → ℕ
past i k = pick (ltb k i) k (k + 1)

abbrev pub fallen : Age → Age → Age
fallen i age = pick (ltb i age) (age - 1) age

-- its place in the address order
abbrev pub place_in : List Age → ℕ → Age → ℕ
place_in order count i = unwrap_or (least count (λ k. eqb (get_or order k 0) i)) count

abbrev pub place_of_age : State → Age → ℕ
place_of_age s i = place_in s.order s.count i

abbrev pub removed : State → Age → State
removed s i =
    with_table s (s.count - 1) (list_from 0 slot_limit (λ k. get_or s.blocks (past i k) zero_block))
    (list_from 0 slot_limit (λ k. fallen i (get_or s.order (past (place_of_age s i) k) 0)))
    (set s.pools (block_at s i).pool
    (with_blocks (pool_at s (block_at s i).pool) ((pool_at s (block_at s i).pool).blocks - 1) ((pool_at s (block_at s i).pool).area - (block_at s i).area)))
