-- Document 01, Marking, Release and Shrink, of one block. A span is the units from `from` up to `to`. Assumes nothing.
use Rattle.std.specs.Prelude.{ℕ, ◌+◌, ◌-◌, min, max, List, eqb}
use Rattle.numbers.specs.Names.{Address, Bytes, Units, Map}
use Rattle.numbers.specs.Pick.{pick}
use Rattle.slots.specs.Slots.{fill_slot}
use Rattle.block.specs.declared.Block.{Block}
use Rattle.block.specs.Record.{empty_flag, dirty_flag, on, off, with_numbers}

-- ---- the record

-- a window edge that equals the span's own edge moves to its other edge
unfoldable pub moved : Units → Units → Units → Units
moved edge own other = pick (eqb edge own) other edge

-- now full: window start is the area size, end 0, largest 0, dirty off
abbrev pub full : Block → Units → Block
full b used = with_numbers b (off (off b.flags empty_flag) dirty_flag) used b.area 0 0

-- used counts up; full, or else the edges move and dirty is on; a block flagged empty loses the flag
unfoldable pub marked : Block → Units → Units → Block
marked b from to =
    pick (eqb (b.used + (to - from)) b.area) (full b (b.used + (to - from)))
    (with_numbers b (on (off b.flags empty_flag) dirty_flag) (b.used + (to - from)) (moved b.start from to) (moved b.end to from) b.largest)

-- used count 0: the whole window, largest equal to its area, the empty flag, dirty off
abbrev pub emptied : Block → Block
emptied b = with_numbers b (off (on b.flags empty_flag) dirty_flag) 0 0 b.area b.area

-- the units from `from` up to `to` are free again: counts back down, window widened to take them in, dirty on
abbrev pub widened : Block → Units → Units → Block
widened b from to = with_numbers b (on b.flags dirty_flag) (b.used - (to - from)) (min b.start from) (max b.end to) b.largest

unfoldable pub released : Block → Units → Units → Block
released b from to = pick (eqb (b.used - (to - from)) 0) (emptied b) (widened b from to)

-- a shrink frees the tail from `from` up to `to`, and leaves something of its span
abbrev pub shrunk : Block → Units → Units → Block
shrunk b from to = widened b from to

-- ---- the record and both maps
pub record Painted : Type 0 where
  pub block : Block
  pub used : List ℕ
  pub stop : List ℕ

abbrev pub painted : Block → Map → Map → Painted
painted b u t = record { block = b; used = u; stop = t }

-- used bits on, stop bit on at the last unit
abbrev pub mark_allocated : ℕ → Block → Units → Units → Map → Map → Painted
mark_allocated w b from to u t = painted (marked b from to) (fill_slot w b.slot u from (to - from) 1) (fill_slot w b.slot t (to - 1) 1 1)

-- used bits and last stop bit off
abbrev pub mark_released : ℕ → Block → Units → Units → Map → Map → Painted
mark_released w b from to u t = painted (released b from to) (fill_slot w b.slot u from (to - from) 0) (fill_slot w b.slot t (to - 1) 1 0)

-- the tail's used bits and old stop bit off, a stop bit on at the new last unit
abbrev pub mark_shrunk : ℕ → Block → Units → Units → Map → Map → Painted
mark_shrunk w b from to u t =
    painted (shrunk b from to) (fill_slot w b.slot u from (to - from) 0) (fill_slot w b.slot (fill_slot w b.slot t (to - 1) 1 0) (from - 1) 1 1)

-- ---- a new block for a span of n units at unit 0, before its marking: window n to the area size, largest-run field the area size less n
abbrev pub fresh : Address → Bytes → ℕ → ℕ → Units → Units → Block
fresh base size pool slot area n = record {
  base = base;
  size = size;
  pool = pool;
  slot = slot;
  flags = 0;
  area = area;
  used = 0;
  start = n;
  end = area;
  largest = area - n;
}
