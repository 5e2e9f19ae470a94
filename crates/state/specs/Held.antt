-- What starts at an address of a block: a span's units, from its first one up to its end, or why there is none. Assumes nothing.
use Rattle.std.specs.Prelude.{Result}
use Rattle.numbers.specs.Names.{Units}
use Rattle.state.specs.declared.UnitRange.{UnitRange}
use Rattle.state.specs.declared.NotHeld.{NotHeld}
use Rattle.state.specs.declared.NotHeld.TheVariants.{NoSpan, NoStop}
use Rattle.state.specs.declared.Refusal.{Refusal}
use Rattle.state.specs.declared.Refusal.TheVariants.{InvalidArgument, Damaged}

abbrev pub Held : Type 0
Held = Result UnitRange NotHeld

abbrev pub range : Units → Units → UnitRange
range from to = record { from = from; to = to }

-- no span starts there: refusal 1; its area has no stop bit from there on: refusal 6
abbrev pub span_refusal : NotHeld → Refusal
span_refusal NoSpan = InvalidArgument
span_refusal NoStop = Damaged
