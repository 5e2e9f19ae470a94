-- A block's record: its flags, and what callers of the functions on one block can show. Assumes nothing.
use Rattle.std.specs.Prelude.{ℕ, ◌+◌, ◌-◌, ◌*◌, ◌^◌, ◌≤◌, ◌<◌, Bool, not, eqb}
use Rattle.std.specs.Int.Bits.{bit_and, bit_or}
use Rattle.numbers.specs.Names.{Units}
use Rattle.block.specs.declared.Block.{Block}

-- the two flags, by their numbers in the source
abbrev pub empty_flag : ℕ
empty_flag = 1

abbrev pub dirty_flag : ℕ
dirty_flag = 2

-- the flag is on
abbrev pub is_on : ℕ → ℕ → Bool
is_on flags flag = not (eqb (bit_and flags flag) 0)

abbrev pub on : ℕ → ℕ → ℕ
on flags flag = bit_or flags flag

abbrev pub off : ℕ → ℕ → ℕ
off flags flag = bit_and flags (2 ^ 32 - 1 - flag)

-- b with other flags, used count, window and largest run; where it lies and its size never change
abbrev pub with_numbers : Block → ℕ → Units → Units → Units → Units → Block
with_numbers b flags used start end largest = record {
  base = b.base;
  size = b.size;
  pool = b.pool;
  slot = b.slot;
  flags = flags;
  area = b.area;
  used = used;
  start = start;
  end = end;
  largest = largest;
}

-- the block's units fit its slot, its slot lies within both maps, and its counts within its area
pub record Placed (b : Block) (w usedWords stopWords : ℕ) : Type 0 where
  pub words : w < 2 ^ 32
  pub room : (b.slot + 1) * w ≤ usedWords
  pub stop_room : (b.slot + 1) * w ≤ stopWords
  pub area : b.area ≤ 32 * w
  pub used : b.used ≤ b.area
  pub start : b.start ≤ b.area
  pub end : b.end ≤ b.area

-- the units from `from` up to `to`, at least one, lie in the block
abbrev pub SpanIn : Block → Units → Units → Type 0
SpanIn b from to = (from < to) × (to ≤ b.area)
