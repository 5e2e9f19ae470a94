-- The machine: a call, the record and the two maps give an answer, a record and the two maps. Assumes nothing.
use Rattle.std.specs.Prelude.{ℕ, true, false}
use Rattle.numbers.specs.Names.{Map}
use Rattle.state.specs.declared.State.{State}
use Rattle.state.specs.declared.Answer.{Answer}
use Rattle.state.specs.declared.Answer.TheVariants.{Created, Granted, Released, Shrunk, Shown, Reset, Refused}
use Rattle.machine.specs.Turn.{Turn, turn}
use Rattle.state.specs.declared.Asked.{Asked}
use Rattle.machine.specs.Create.{create_turn}
use Rattle.machine.specs.Alloc.{alloc_turn}
use Rattle.machine.specs.Span.{query_turn}
use Rattle.machine.specs.Release.{release_turn}
use Rattle.machine.specs.Shrink.{shrink_turn}
use Rattle.machine.specs.Reset.{reset_turn}

pub data Call : Type 0 where
  create : Asked → Call
  alloc : ℕ → Call
  release : ℕ → Call
  shrink : ℕ → ℕ → Call
  query : ℕ → Call
  soft_reset : Call
  hard_reset : Call

-- a refused creation reaches no state: the machine goes on with the record before it
abbrev pub or_before : State → Turn → Answer → Turn
or_before s t (Refused r) = turn t.answer s t.used t.stop
or_before s t (Created size g pools) = t
or_before s t (Granted x) = t
or_before s t (Released x) = t
or_before s t (Shrunk x) = t
or_before s t (Shown x) = t
or_before s t Reset = t

abbrev pub step : State → Map → Map → Call → Turn
step s u t (create a) = or_before s (create_turn a u t) (create_turn a u t).answer
step s u t (alloc size) = alloc_turn s u t size
step s u t (release a) = release_turn s u t a
step s u t (shrink a size) = shrink_turn s u t a size
step s u t (query a) = query_turn s u t a
step s u t soft_reset = reset_turn s u t false
step s u t hard_reset = reset_turn s u t true
