-- Document 01, Refusal numbers: what a refusal changes. Assumes nothing.
use Rattle.std.specs.Prelude.{◌≡◌, Result, Ok, Err}
use Rattle.numbers.specs.Names.{Bytes, Map}
use Rattle.sizes.specs.declared.SizeError.{SizeError}
use Rattle.sizes.specs.Sizes.{rounded}
use Rattle.state.specs.declared.State.{State}
use Rattle.state.specs.declared.Answer.{Answer}
use Rattle.state.specs.declared.Answer.TheVariants.{Created, Granted, Released, Shrunk, Shown, Reset, Refused}
use Rattle.state.specs.declared.Refusal.TheVariants.{InvalidArgument, TooLarge, InvalidState, NoMapping, BadShape, Damaged}
use Rattle.machine.specs.Turn.{Turn}
use Rattle.machine.specs.Alloc.{search_for}
use Rattle.machine.specs.Machine.{Call, create, alloc, release, shrink, query, soft_reset, hard_reset}

abbrev pub Is : State → Map → Map → Turn → Type 0
Is s u t x = (x.state ≡ s) × (x.used ≡ u) × (x.stop ≡ t)

-- a refusal changes nothing, except refusal 4, which keeps the record that the search left
abbrev pub LeftByRefusal : State → State → Map → Map → Turn → Answer → Type 0
LeftByRefusal s searched u t x (Refused NoMapping) = Is searched u t x
LeftByRefusal s searched u t x (Refused InvalidArgument) = Is s u t x
LeftByRefusal s searched u t x (Refused TooLarge) = Is s u t x
LeftByRefusal s searched u t x (Refused InvalidState) = Is s u t x
LeftByRefusal s searched u t x (Refused BadShape) = Is s u t x
LeftByRefusal s searched u t x (Refused Damaged) = Is s u t x
LeftByRefusal s searched u t x (Created size g pools) = Unit {0}
LeftByRefusal s searched u t x (Granted span) = Unit {0}
LeftByRefusal s searched u t x (Released span) = Unit {0}
LeftByRefusal s searched u t x (Shrunk span) = Unit {0}
LeftByRefusal s searched u t x (Shown span) = Unit {0}
LeftByRefusal s searched u t x Reset = Unit {0}

-- the record after the search for a size: the blocks that it looked into are tightened
abbrev pub searched_for : State → Map → Result Bytes SizeError → State
searched_for s u (Ok size) = (search_for s u size).state
searched_for s u (Err why) = s

abbrev pub searched_by : State → Map → Call → State
searched_by s u (alloc size) = searched_for s u (rounded size s.granularity)
searched_by s u (create a) = s
searched_by s u (release a) = s
searched_by s u (shrink a size) = s
searched_by s u (query a) = s
searched_by s u soft_reset = s
searched_by s u hard_reset = s
