-- The refusals by their numbers, an outcome that changes nothing, and the refusal of a size. Assumes nothing.
use Rattle.std.specs.Prelude.{ℕ}
use Rattle.sizes.specs.declared.SizeError.{SizeError}
use Rattle.sizes.specs.declared.SizeError.TheVariants as size
use Rattle.state.specs.declared.State.{State}
use Rattle.state.specs.declared.Refusal.{Refusal}
use Rattle.state.specs.declared.Refusal.TheVariants.{InvalidArgument, TooLarge, InvalidState, NoMapping, BadShape, Damaged}
use Rattle.state.specs.declared.Answer.TheVariants.{Refused}
use Rattle.state.specs.declared.Outcome.{Outcome}

abbrev pub number : Refusal → ℕ
number InvalidArgument = 1
number TooLarge = 2
number InvalidState = 3
number NoMapping = 4
number BadShape = 5
number Damaged = 6

abbrev pub refusal : State → Refusal → Outcome
refusal s why = record { answer = Refused why; state = s }

abbrev pub size_refusal : SizeError → Refusal
size_refusal size.InvalidArgument = InvalidArgument
size_refusal size.TooLarge = TooLarge
