-- Document 01, Search, in one block. Assumes nothing.
use Rattle.std.specs.Prelude.{ℕ, ◌-◌, Bool, true, false, leb, Result, Ok, Err}
use Rattle.numbers.specs.Names.{Units, Map}
use Rattle.numbers.specs.Pick.{pick}
use Rattle.runs.specs.declared.Search.{Search}
use Rattle.runs.specs.declared.Search.TheVariants.{At, Tight, Full}
use Rattle.runs.specs.Seek.{seek}
use Rattle.slots.specs.Slots.{slot_of}
use Rattle.block.specs.declared.Block.{Block}
use Rattle.block.specs.Record.{dirty_flag, is_on, off, with_numbers}

abbrev pub is_dirty : Block → Bool
is_dirty b = is_on b.flags dirty_flag

-- a block is looked into if its free units are at least n and it is dirty or its largest-run field is at least n
unfoldable pub worth_searching : Block → Units → Bool
worth_searching b n = pick (leb n (b.area - b.used)) (pick (is_dirty b) true (leb n b.largest)) false

-- the window's start becomes its first free unit, its end the end of its last free run, the largest-run field its longest free run, dirty
-- is cleared
abbrev pub tightened : Block → Units → Units → Units → Block
tightened b first last longest = with_numbers b (off b.flags dirty_flag) b.used first last longest

-- the block's result, by what the search in its window finds
abbrev pub looked : Block → Search → Result Units Block
looked b (At i) = Ok i
looked b (Tight first last longest) = Err (tightened b first last longest)
looked b Full = Err b

unfoldable pub look_into : ℕ → Block → Map → Units → Result Units Block
look_into w b u n = pick (worth_searching b n) (looked b (seek (slot_of w b.slot u) b.start b.end n)) (Err b)
