-- Document 01, Size and New block: a request's rounded size, and the size of the block made for it. Assumes nothing.
use Rattle.std.specs.Prelude.{ℕ, ◌*◌, ltb, eqb, Result, Ok, Err}
use Rattle.numbers.specs.Names.{Bytes}
use Rattle.numbers.specs.Align.{align_up}
use Rattle.numbers.specs.Pick.{pick}
use Rattle.sizes.specs.Limits.{max_block_size, max_size}
use Rattle.sizes.specs.declared.SizeError.{SizeError}
use Rattle.sizes.specs.declared.SizeError.TheVariants.{InvalidArgument, TooLarge}

-- the numbers of the refusals
abbrev pub number : SizeError → ℕ
number InvalidArgument = 1
number TooLarge = 2

-- zero is refusal 1, above 2,147,483,647 is refusal 2
abbrev pub accepted : Bytes → Result Bytes SizeError
accepted size = pick (eqb size 0) (Err InvalidArgument) (pick (ltb max_size size) (Err TooLarge) (Ok size))

-- round up to g; rounding up wraps at the top of 64 bits
unfoldable pub rounded : Bytes → Bytes → Result Bytes SizeError
rounded size g = accepted (align_up size g)

-- double it if it is below 33,554,432
abbrev pub doubled : Bytes → Bytes
doubled newest = pick (ltb newest max_block_size) (newest * 2) newest

-- if the rounded request is larger, apply align_up with that size as the alignment: a bit mask, not a true multiple for 786,432
abbrev pub raised : Bytes → Bytes → Bytes
raised block size = pick (ltb block size) (align_up size block) block

-- start from the size of the pool's newest block, or the base size if there is none
unfoldable pub ideal_size : Bytes → Bytes → Bytes
ideal_size newest size = raised (doubled newest) size
