-- What a call leaves of a state that is not BadShape: again such a state, except in one case. BadShape doesn't compare the live count with
-- the spans in the maps, so a release or a shrink may leave it above the used units. Assumes nothing.
use Rattle.std.specs.Prelude.{ℕ, ◌<◌, true, List, ◌⊎◌, ◌≡◌, length}
use Rattle.state.specs.declared.State.{State}
use Rattle.state.specs.declared.Answer.{Answer}
use Rattle.state.specs.declared.Answer.TheVariants.{Created, Granted, Released, Shrunk, Shown, Reset, Refused}
use Rattle.state.specs.Table.{block_at, sum}
use Rattle.state.specs.Shape.{good_shape}
use Rattle.machine.specs.Turn.{Turn}
use Rattle.machine.specs.Machine.{Call, create, alloc, release, shrink, query, soft_reset, hard_reset, step}

-- a turn's record with its words is not BadShape
abbrev pub Good : Turn → Type 0
Good x = good_shape x.state (length x.used) (length x.stop) ≡ true

-- the call was a release or a shrink
abbrev pub Frees : Call → Type 0
Frees (release a) = Unit {0}
Frees (shrink a size) = Unit {0}
Frees (create a) = ⊥
Frees (alloc size) = ⊥
Frees (query a) = ⊥
Frees soft_reset = ⊥
Frees hard_reset = ⊥

-- the answer says that it was granted
abbrev pub Freed : Answer → Type 0
Freed (Released span) = Unit {0}
Freed (Shrunk span) = Unit {0}
Freed (Created size g pools) = ⊥
Freed (Granted span) = ⊥
Freed (Shown span) = ⊥
Freed Reset = ⊥
Freed (Refused why) = ⊥

-- live is above used
abbrev pub LiveAbove : State → Type 0
LiveAbove s = sum s.count (λ i. (block_at s i).used) < s.live

abbrev pub Closed : State → List ℕ → List ℕ → Call → Type 0
Closed s u t c = Good (step s u t c) ⊎ (Frees c × Freed (step s u t c).answer × LiveAbove (step s u t c).state)
