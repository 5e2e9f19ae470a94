-- Document 01, Numbers and creation. Assumes nothing.
use Rattle.std.specs.Prelude.{ℕ, ◌*◌, ◌/◌, ◌%◌, min, Bool, not, [], ◌∷◌, ◌++◌, leb, eqb, length, drop, replicate}
use Rattle.numbers.specs.Names.{Map}
use Rattle.numbers.specs.Pick.{pick}
use Rattle.sizes.specs.Limits.{granularity_in_force, base_size_in_force, max_slot_words, slot_limit}
use Rattle.sizes.specs.Pools.{fresh_pool}
use Rattle.state.specs.declared.State.{State}
use Rattle.state.specs.declared.Asked.{Asked}
use Rattle.state.specs.declared.Refusal.TheVariants.{InvalidArgument}
use Rattle.state.specs.declared.Answer.TheVariants.{Created}
use Rattle.state.specs.Table.{zero_block, zero_state}
use Rattle.state.specs.Shape.{every, arena_ok}
use Rattle.machine.specs.Turn.{Turn, turn, refuse}

-- flags: bit 0 three pools, bit 1 immediate release, other bits ignored
abbrev pub pools_asked : ℕ → ℕ
pools_asked flags = pick (eqb (flags % 2) 0) 1 3

abbrev pub immediate_asked : ℕ → Bool
immediate_asked flags = not (eqb (flags / 2 % 2) 0)

-- the smaller of 64 and the whole slots of W in the shorter slice
abbrev pub slots_of : ℕ → ℕ → ℕ → ℕ
slots_of w usedWords stopWords = min slot_limit (min usedWords stopWords / w)

-- W from 1 to 16,384, a slot at least, and the arena by its rules
abbrev pub grantable : Asked → ℕ → ℕ → Bool
grantable a usedWords stopWords =
    every (leb 1 a.w ∷ leb a.w max_slot_words ∷ leb 1 (slots_of a.w usedWords stopWords) ∷ arena_ok a.arena a.length ∷ [])

abbrev pub fresh_state : Asked → ℕ → State
fresh_state a slots = record {
  size = base_size_in_force a.size;
  granularity = granularity_in_force a.granularity;
  poolcount = pools_asked a.flags;
  immediate = immediate_asked a.flags;
  w = a.w;
  slots = slots;
  arena = a.arena;
  length = a.length;
  live = 0;
  count = 0;
  blocks = replicate slot_limit zero_block;
  order = replicate slot_limit 0;
  pools = replicate 3 (fresh_pool (granularity_in_force a.granularity));
}

-- the first n words cleared, no later ones
abbrev pub cleared : ℕ → Map → Map
cleared n ws = replicate n 0 ++ drop n ws

abbrev pub granted : Asked → ℕ → Map → Map → Turn
granted a slots u t =
    turn (Created (base_size_in_force a.size) (granularity_in_force a.granularity) (pools_asked a.flags)) (fresh_state a slots) (cleared (slots * a.w) u)
    (cleared (slots * a.w) t)

-- the call itself: refused, it hands back a record of zeros, with nothing written
unfoldable pub create_turn : Asked → Map → Map → Turn
create_turn a u t =
    pick (grantable a (length u) (length t)) (granted a (slots_of a.w (length u) (length t)) u t) (refuse InvalidArgument zero_state u t)
