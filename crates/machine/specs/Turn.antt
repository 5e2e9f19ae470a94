-- What a call leaves: its answer, the record and the two maps; and the record with a part of it changed. Assumes nothing.
use Rattle.std.specs.Prelude.{ℕ, List, set, replicate}
use Rattle.numbers.specs.Names.{Address, Bytes, Units, Age, Map}
use Rattle.slots.specs.Slots.{put_slot}
use Rattle.block.specs.declared.Block.{Block}
use Rattle.sizes.specs.declared.Pool.{Pool}
use Rattle.state.specs.declared.State.{State}
use Rattle.state.specs.declared.Span.{Span}
use Rattle.state.specs.declared.Refusal.{Refusal}
use Rattle.state.specs.declared.Outcome.{Outcome}
use Rattle.state.specs.declared.Answer.{Answer}
use Rattle.state.specs.declared.Answer.TheVariants.{Refused}
use Rattle.state.specs.Table.{pool_at}
use Rattle.state.specs.Change.{with_rest, with_table}

-- ---- a turn
pub record Turn : Type 0 where
  pub answer : Answer
  pub state : State
  pub used : List ℕ
  pub stop : List ℕ

abbrev pub turn : Answer → State → Map → Map → Turn
turn answer s u t = record { answer = answer; state = s; used = u; stop = t }

-- what a call hands back, with the two maps as it leaves them
abbrev pub turn_of : Outcome → Map → Map → Turn
turn_of r u t = turn r.answer r.state u t

-- a refusal that changes nothing
abbrev pub refuse : Refusal → State → Map → Map → Turn
refuse r s u t = turn (Refused r) s u t

abbrev pub span : Address → Bytes → Span
span address size = record { address = address; size = size }

-- ---- the record with one thing changed
abbrev pub put_block : State → Age → Block → State
put_block s i b = with_table s s.count (set s.blocks i b) s.order s.pools

abbrev pub put_pool : State → ℕ → Pool → State
put_pool s p q = with_table s s.count s.blocks s.order (set s.pools p q)

abbrev pub with_live : State → ℕ → State
with_live s live = with_rest s live s.count s.blocks s.order s.pools

-- a pool with other counts of empty blocks and used units
abbrev pub with_counts : Pool → ℕ → Units → Pool
with_counts p empty used = record { granularity = p.granularity; blocks = p.blocks; empty = empty; area = p.area; used = used }

-- the unit of a block's pool
abbrev pub unit_of : State → Block → Bytes
unit_of s b = (pool_at s b.pool).granularity

-- a slot's words cleared
abbrev pub clear_slot : ℕ → ℕ → Map → Map
clear_slot w slot ws = put_slot w slot ws (replicate w 0)
