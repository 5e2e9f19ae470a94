-- What an allocation that is released at once leaves. Assumes nothing.
use Rattle.std.specs.Prelude.{ℕ, ◌<◌, List, ◌≡◌}
use Rattle.numbers.specs.Names.{Map}
use Rattle.slots.specs.Slots.{slot_of}
use Rattle.state.specs.declared.State.{State}
use Rattle.state.specs.Table.{block_at}
use Rattle.machine.specs.Turn.{Turn}

-- block i is in y as it was in s: its base, size, slot and pool, and its words in both maps
pub record Stood (s : State) (u t : List ℕ) (y : Turn) (i : ℕ) : Type 0 where
  pub base : (block_at y.state i).base ≡ (block_at s i).base
  pub size : (block_at y.state i).size ≡ (block_at s i).size
  pub slot : (block_at y.state i).slot ≡ (block_at s i).slot
  pub pool : (block_at y.state i).pool ≡ (block_at s i).pool
  pub used : slot_of y.state.w (block_at y.state i).slot y.used ≡ slot_of s.w (block_at s i).slot u
  pub stop : slot_of y.state.w (block_at y.state i).slot y.stop ≡ slot_of s.w (block_at s i).slot t

-- so is every block of s
abbrev pub AllStood : State → Map → Map → Turn → Type 0
AllStood s u t y = (i : ℕ) → i < s.count → Stood s u t y i
