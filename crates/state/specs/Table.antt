-- The record's lists, by index, and sums over them. Assumes nothing.
use Rattle.std.specs.Prelude.{ℕ, zero, suc, ◌+◌, Bool, true, false, ◌&&◌, get_or, replicate}
use Rattle.numbers.specs.Names.{Age}
use Rattle.numbers.specs.Pick.{pick}
use Rattle.sizes.specs.Limits.{slot_limit}
use Rattle.block.specs.declared.Block.{Block}
use Rattle.sizes.specs.declared.Pool.{Pool}
use Rattle.sizes.specs.Pools.{fresh_pool}
use Rattle.state.specs.declared.State.{State}

abbrev pub zero_block : Block
zero_block = record { base = 0; size = 0; pool = 0; slot = 0; flags = 0; area = 0; used = 0; start = 0; end = 0; largest = 0 }

abbrev pub zero_state : State
zero_state = record {
  size = 0;
  granularity = 0;
  poolcount = 0;
  immediate = false;
  w = 0;
  slots = 0;
  arena = 0;
  length = 0;
  live = 0;
  count = 0;
  blocks = replicate slot_limit zero_block;
  order = replicate slot_limit 0;
  pools = replicate 3 (fresh_pool 0);
}

-- the block of age i; the age of the block at place k in order of address; pool p
abbrev pub block_at : State → Age → Block
block_at s i = get_or s.blocks i zero_block

abbrev pub age_at : State → ℕ → Age
age_at s k = get_or s.order k 0

abbrev pub pool_at : State → ℕ → Pool
pool_at s p = get_or s.pools p (fresh_pool 0)

-- every i below n passes
unfoldable pub all : ℕ → (ℕ → Bool) → Bool
all zero test = true
all (suc n) test = all n test && test n

-- every pair i below j, j below n, passes
abbrev pub all_pairs : ℕ → (ℕ → ℕ → Bool) → Bool
all_pairs n test = all n (λ j. all j (λ i. test i j))

-- the sum over every i below n
unfoldable pub sum : ℕ → (ℕ → ℕ) → ℕ
sum zero f = 0
sum (suc n) f = sum n f + f n

-- 1 for a test that passes, 0 for one that does not
abbrev pub one : Bool → ℕ
one b = pick b 1 0

-- n where a test passes, otherwise 0
abbrev pub only : Bool → ℕ → ℕ
only b n = pick b n 0
