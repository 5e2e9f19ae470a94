-- What passing each part of the BadShape test says, as plain facts. Assumes nothing.
use Rattle.std.specs.Prelude.{ℕ, ◌+◌, ◌*◌, ◌%◌, ◌^◌, ◌≤◌, ◌<◌, ◌≡◌, true, ◌⊎◌}
use Rattle.block.specs.declared.Block.{Block}
use Rattle.sizes.specs.declared.Pool.{Pool}
use Rattle.sizes.specs.Limits.{is_base_size, page, min_block_size, max_slot_words, slot_limit}
use Rattle.state.specs.declared.State.{State}
use Rattle.state.specs.Table.{block_at}
use Rattle.state.specs.Shape.{is_empty}

-- the numbers in the record
pub record Headed (s : State) : Type 0 where
  pub size_good : is_base_size s.size ≡ true
  pub size_low : min_block_size ≤ s.size
  pub size_high : s.size ≤ 33554432
  pub g_listed : (s.granularity ≡ 64) ⊎ ((s.granularity ≡ 128) ⊎ (s.granularity ≡ 256))
  pub g_low : 64 ≤ s.granularity
  pub g_high : s.granularity ≤ 256
  pub pools_listed : (s.poolcount ≡ 1) ⊎ (s.poolcount ≡ 3)
  pub pools_low : 1 ≤ s.poolcount
  pub pools_high : s.poolcount ≤ 3
  pub w_low : 1 ≤ s.w
  pub w_high : s.w ≤ max_slot_words
  pub arena_low : 0 < s.arena
  pub arena_whole : s.arena % page ≡ 0
  pub length_low : 0 < s.length
  pub length_whole : s.length % page ≡ 0
  pub top : s.arena + s.length ≤ 2 ^ 48
  pub slots_low : 1 ≤ s.slots
  pub slots_high : s.slots ≤ slot_limit
  pub count_slots : s.count ≤ s.slots

-- the two slices
pub record Lent (s : State) (usedWords stopWords : ℕ) : Type 0 where
  pub used_room : s.slots * s.w ≤ usedWords
  pub stop_room : s.slots * s.w ≤ stopWords

-- one block
pub record ShapedBlock (g pools w slots arena length : ℕ) (b : Block) : Type 0 where
  pub slot : b.slot < slots
  pub pool : b.pool < pools
  pub base : b.base % page ≡ 0
  pub area_low : 0 < b.area
  pub area_whole : b.area % 32 ≡ 0
  pub area_size : b.area * g ≡ b.size
  pub area_high : b.area ≤ 32 * w
  pub used : b.used ≤ b.area
  pub start : b.start ≤ b.area
  pub end : b.end ≤ b.area
  pub largest : b.largest ≤ b.area
  pub above : arena ≤ b.base
  pub below : b.base + b.size ≤ arena + length
  pub empty_unused : is_empty b ≡ true → b.used ≡ 0
  pub unused_empty : b.used ≡ 0 → is_empty b ≡ true
  pub flags : b.flags ≤ 3

abbrev pub ShapedBlockIn : State → Block → Type 0
ShapedBlockIn s b = ShapedBlock s.granularity s.poolcount s.w s.slots s.arena s.length b

-- one block more fits the pool's sums
pub record Countable (q : Pool) (b : Block) : Type 0 where
  pub blocks : q.blocks < 2 ^ 31
  pub empty : q.empty < 2 ^ 31
  pub area : q.area + b.area < 2 ^ 32
  pub used : q.used + b.used < 2 ^ 32

-- what the walk by address requires of the blocks
pub record Laid (s : State) : Type 0 where
  pub count : s.count ≤ slot_limit
  pub sized : (i : ℕ) → i < s.count → 0 < (block_at s i).size
  pub top : (i : ℕ) → i < s.count → (block_at s i).base + (block_at s i).size ≤ 2 ^ 48
