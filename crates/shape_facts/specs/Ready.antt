-- What the functions that the calls are made of require. Their callers show it of a good shape. Assumes nothing.
use Rattle.std.specs.Prelude.{ℕ, ◌+◌, ◌*◌, ◌%◌, ◌^◌, ◌≤◌, ◌<◌, false, ◌≡◌, length}
use Rattle.sizes.specs.Limits.{max_size, slot_limit}
use Rattle.block.specs.declared.Block.{Block}
use Rattle.block.specs.Record.{Placed}
use Rattle.state.specs.declared.State.{State}
use Rattle.state.specs.Table.{block_at, pool_at, one}
use Rattle.state.specs.Shape.{is_empty}
use Rattle.table.specs.Changeable.{Insertable, Removable}
use Rattle.shape.specs.Shaped.{Shaped}
use Rattle.machine.specs.Turn.{unit_of}

-- ---- before a span is marked
-- n units from unit `from` on of block j lie in it, the counts leave room for them, and the sums stay in range
pub record Markable (s : State) (usedWords stopWords j from n : ℕ) : Type 0 where
  pub age : j < slot_limit
  pub placed : Placed (block_at s j) s.w usedWords stopWords
  pub some : 0 < n
  pub fits : from + n ≤ (block_at s j).area
  pub room : (block_at s j).used + n ≤ (block_at s j).area
  pub pool : (block_at s j).pool < 3
  pub few : (block_at s j).area < 2 ^ 32
  pub top : (block_at s j).base + (block_at s j).area * unit_of s (block_at s j) < 2 ^ 64
  pub empty : one (is_empty (block_at s j)) ≤ (pool_at s (block_at s j).pool).empty
  pub used : (pool_at s (block_at s j).pool).used + n < 2 ^ 32
  pub live : s.live + 1 < 2 ^ 64

-- ---- before a block is made for a span
-- the new block b may enter the table, and its slot is one of the allocator's
pub record Makeable (s : State) (usedWords stopWords : ℕ) (b : Block) (n : ℕ) : Type 0 where
  pub enters : Insertable s b
  pub size : length s.blocks ≡ slot_limit
  pub pools : length s.pools ≡ 3
  pub placed : Placed b s.w usedWords stopWords
  pub some : 0 < n
  pub fits : n ≤ b.area
  pub unused : b.used ≡ 0
  pub not_empty : is_empty b ≡ false
  pub few : b.area < 2 ^ 32
  pub top : b.base + b.area * unit_of s b < 2 ^ 64
  pub used : (pool_at s b.pool).used + n < 2 ^ 32
  pub live : s.live + 1 < 2 ^ 64

-- the shape is good, and pool p may get a block of so many bytes, which hold n units
pub record Makes (s : State) (usedWords stopWords p n bytes : ℕ) : Type 0 where
  pub shaped : Shaped s usedWords stopWords
  pub pool : p < 3
  pub some : 0 < n
  pub bytes_low : 0 < bytes
  pub bytes_high : bytes < 2 ^ 32
  pub fits : n * (pool_at s p).granularity ≤ bytes

-- ---- of a rounded size
-- the shape is good, and the size is rounded and not refused
pub record Allocates (s : State) (usedWords stopWords bytes : ℕ) : Type 0 where
  pub shaped : Shaped s usedWords stopWords
  pub some : 0 < bytes
  pub most : bytes ≤ max_size
  pub whole : bytes % s.granularity ≡ 0

-- ---- before a block settles
-- the block may leave the table, and its slot lies within both maps
pub record Settles (s : State) (j usedWords stopWords : ℕ) : Type 0 where
  pub leaves : Removable s j
  pub words : s.w < 2 ^ 32
  pub room : ((block_at s j).slot + 1) * s.w ≤ usedWords
  pub stop_room : ((block_at s j).slot + 1) * s.w ≤ stopWords
