-- Document 01, Shrink: the call shrink. Assumes nothing.
use Rattle.std.specs.Prelude.{◌+◌, ◌-◌, ltb, eqb, length, ℕ, Option, Some, None, Ok, Err}
use Rattle.numbers.specs.Names.{Address, Bytes, Units, Age, Map}
use Rattle.numbers.specs.Pick.{pick}
use Rattle.numbers.specs.Units.{units_of, bytes_of}
use Rattle.block.specs.Marking.{mark_shrunk}
use Rattle.state.specs.declared.State.{State}
use Rattle.state.specs.Held.{Held, span_refusal}
use Rattle.state.specs.declared.Refusal.TheVariants.{InvalidArgument, InvalidState, BadShape, Damaged}
use Rattle.state.specs.declared.Answer.TheVariants.{Shrunk}
use Rattle.state.specs.Table.{block_at}
use Rattle.state.specs.Shape.{bad_shape}
use Rattle.state.specs.Find.{lookup}
use Rattle.machine.specs.Turn.{Turn, turn, refuse, span, unit_of}
use Rattle.machine.specs.Span.{held_in}
use Rattle.machine.specs.Release.{less_used, release_turn}

-- the span of block j from unit `from` up to `to` keeps n units, fewer than it has
abbrev pub shrink_tail : State → Map → Map → Address → Age → Units → Units → Units → Turn
shrink_tail s u t a j from to n =
    let b = block_at s j in
    let x = mark_shrunk s.w b (from + n) to u t in
    turn (Shrunk (span a (bytes_of n (unit_of s b)))) (less_used s j x.block (to - (from + n))) x.used x.stop

-- more units than the span has are refused; equal units change nothing
abbrev pub shrink_units : State → Map → Map → Address → Age → Units → Units → Units → Turn
shrink_units s u t a j from to n =
    pick (ltb (to - from) n) (refuse InvalidState s u t)
    (pick (eqb n (to - from)) (turn (Shrunk (span a (bytes_of n (unit_of s (block_at s j))))) s u t) (shrink_tail s u t a j from to n))

-- units = new size over the unit, rounded up, exactly
abbrev pub shrink_held : State → Map → Map → Address → Bytes → Age → Held → Turn
shrink_held s u t a size j (Err why) = refuse (span_refusal why) s u t
shrink_held s u t a size j (Ok units) =
    pick (ltb (block_at s j).used (units.to - units.from)) (refuse Damaged s u t)
    (shrink_units s u t a j units.from units.to (units_of size (unit_of s (block_at s j))))

-- if no block holds the address, the call ends with refusal 1
abbrev pub shrink_found : State → Map → Map → Address → Bytes → Option ℕ → Turn
shrink_found s u t a size None = refuse InvalidArgument s u t
shrink_found s u t a size (Some j) = shrink_held s u t a size j (held_in s u t a j)

-- size 0 is a release
unfoldable pub shrink_turn : State → Map → Map → Address → Bytes → Turn
shrink_turn s u t a size =
    pick (eqb size 0) (release_turn s u t a)
    (pick (bad_shape s (length u) (length t)) (refuse BadShape s u t)
    (pick (eqb a 0) (refuse InvalidArgument s u t) (shrink_found s u t a size (lookup s a))))
