-- Document 01, Span start: whether a span starts at an address, and where it ends. And the call query. Assumes nothing.
use Rattle.std.specs.Prelude.{ℕ, ◌+◌, ◌-◌, ◌/◌, ◌%◌, Bool, ◌&&◌, ◌||◌, eqb, length, Option, Some, None, Ok, Err}
use Rattle.numbers.specs.Names.{Address, Bytes, Units, Age, Map}
use Rattle.numbers.specs.Pick.{pick}
use Rattle.numbers.specs.Units.{bytes_of}
use Rattle.bits.specs.Bits.{bit}
use Rattle.slots.specs.Slots.{slot_of}
use Rattle.block.specs.declared.Block.{Block}
use Rattle.state.specs.declared.State.{State}
use Rattle.state.specs.declared.NotHeld.TheVariants.{NoSpan, NoStop}
use Rattle.state.specs.Held.{Held, range, span_refusal}
use Rattle.state.specs.declared.Refusal.TheVariants.{InvalidArgument, BadShape}
use Rattle.state.specs.declared.Answer.TheVariants.{Shown}
use Rattle.state.specs.Table.{block_at}
use Rattle.state.specs.Shape.{bad_shape}
use Rattle.state.specs.Find.{least_from, lookup}
use Rattle.machine.specs.Turn.{Turn, turn, refuse, span, unit_of}

-- ---- the span that starts at an address of a block

-- its unit is used, and it is unit 0, or the unit before is free or has a stop bit; u and t are the block's words
abbrev pub starts : Map → Map → Units → Bool
starts u t i = eqb (bit u i) 1 && (eqb i 0 || eqb (bit u (i - 1)) 0 || eqb (bit t (i - 1)) 1)

-- the span ends with the next stop bit
abbrev pub up_to : Units → Option ℕ → Held
up_to i (Some e) = Ok (range i (e + 1))
up_to i None = Err NoStop

abbrev pub held_at : Map → Map → Units → Units → Held
held_at u t area i = pick (starts u t i) (up_to i (least_from i (area - i) (λ k. eqb (bit t k) 1))) (Err NoSpan)

-- its offset in its block is a multiple of the unit
abbrev pub held_of : ℕ → Block → Bytes → Map → Map → Address → Held
held_of w b unit u t a =
    pick (eqb ((a - b.base) % unit) 0) (held_at (slot_of w b.slot u) (slot_of w b.slot t) b.area ((a - b.base) / unit)) (Err NoSpan)

abbrev pub held_in : State → Map → Map → Address → Age → Held
held_in s u t a j = held_of s.w (block_at s j) (unit_of s (block_at s j)) u t a

-- ---- the call query
abbrev pub query_held : State → Map → Map → Address → Age → Held → Turn
query_held s u t a j (Err why) = refuse (span_refusal why) s u t
query_held s u t a j (Ok units) = turn (Shown (span a (bytes_of (units.to - units.from) (unit_of s (block_at s j))))) s u t

-- if no block holds the address, the call ends with refusal 1
abbrev pub query_found : State → Map → Map → Address → Option ℕ → Turn
query_found s u t a None = refuse InvalidArgument s u t
query_found s u t a (Some j) = query_held s u t a j (held_in s u t a j)

unfoldable pub query_turn : State → Map → Map → Address → Turn
query_turn s u t a = pick (bad_shape s (length u) (length t)) (refuse BadShape s u t) (query_found s u t a (lookup s a))
