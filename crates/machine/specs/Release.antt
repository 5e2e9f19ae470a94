-- Document 01, Release: the call release. Assumes nothing.
use Rattle.std.specs.Prelude.{◌-◌, not, ◌||◌, ltb, eqb, length, ℕ, Option, Some, None, Ok, Err}
use Rattle.numbers.specs.Names.{Address, Units, Age, Map}
use Rattle.numbers.specs.Pick.{pick}
use Rattle.numbers.specs.Units.{bytes_of}
use Rattle.block.specs.declared.Block.{Block}
use Rattle.block.specs.Marking.{mark_released}
use Rattle.state.specs.declared.State.{State}
use Rattle.state.specs.Held.{Held, span_refusal}
use Rattle.state.specs.declared.Refusal.TheVariants.{InvalidArgument, InvalidState, BadShape, Damaged}
use Rattle.state.specs.declared.Answer.{Answer}
use Rattle.state.specs.declared.Answer.TheVariants.{Released}
use Rattle.state.specs.Table.{block_at, pool_at}
use Rattle.state.specs.Shape.{bad_shape}
use Rattle.state.specs.Find.{lookup}
use Rattle.state.specs.Change.{removed}
use Rattle.machine.specs.Turn.{Turn, turn, refuse, span, put_block, put_pool, with_live, with_counts, unit_of, clear_slot}
use Rattle.machine.specs.Span.{held_in}

-- n units of block j, whose record becomes b, are no longer used
abbrev pub less_used : State → Age → Block → Units → State
less_used s j b n =
    let p = (block_at s j).pool in
    put_pool (put_block s j b) p (with_counts (pool_at s p) (pool_at s p).empty ((pool_at s p).used - n))

-- a block with used count 0 is removed if its pool already keeps an empty block or immediate release is set, otherwise the empty count
-- becomes 1
abbrev pub settle : Answer → State → Map → Map → Age → Turn
settle answer s u t j =
    let b = block_at s j in
    let q = pool_at s b.pool in
    pick (not (eqb b.used 0)) (turn answer s u t)
    (pick (not (eqb q.empty 0) || s.immediate) (turn answer (removed s j) (clear_slot s.w b.slot u) (clear_slot s.w b.slot t))
    (turn answer (put_pool s b.pool (with_counts q 1 q.used)) u t))

-- the span of block j from unit `from` up to `to` is freed
abbrev pub release_units : State → Map → Map → Address → Age → Units → Units → Turn
release_units s u t a j from to =
    let b = block_at s j in
    let x = mark_released s.w b from to u t in
    settle (Released (span a (bytes_of (to - from) (unit_of s b)))) (with_live (less_used s j x.block (to - from)) (s.live - 1)) x.used x.stop j

-- also damaged: a span longer than the block's used count, and live count 0
abbrev pub release_held : State → Map → Map → Address → Age → Held → Turn
release_held s u t a j (Err why) = refuse (span_refusal why) s u t
release_held s u t a j (Ok units) =
    pick (ltb (block_at s j).used (units.to - units.from) || eqb s.live 0) (refuse Damaged s u t) (release_units s u t a j units.from units.to)

-- if no block holds the address, the call ends with refusal 3
abbrev pub release_found : State → Map → Map → Address → Option ℕ → Turn
release_found s u t a None = refuse InvalidState s u t
release_found s u t a (Some j) = release_held s u t a j (held_in s u t a j)

-- release of address 0 is refusal 1
unfoldable pub release_turn : State → Map → Map → Address → Turn
release_turn s u t a =
    pick (bad_shape s (length u) (length t)) (refuse BadShape s u t)
    (pick (eqb a 0) (refuse InvalidArgument s u t) (release_found s u t a (lookup s a)))
