-- Demand 2: where an allocation of n units in pool p is placed, by the table before the call; bytes is the rounded size. Assumes nothing.
use Rattle.std.specs.Prelude.{ℕ, ◌+◌, ◌≤◌, ◌<◌, List, ◌⊎◌, ◌≡◌, Some, None}
use Rattle.numbers.specs.Names.{Bytes, Units, Map}
use Rattle.numbers.specs.Units.{units_of, bytes_of}
use Rattle.state.specs.declared.State.{State}
use Rattle.state.specs.declared.Refusal.TheVariants.{NoMapping}
use Rattle.state.specs.declared.Answer.TheVariants.{Granted, Refused}
use Rattle.state.specs.Table.{block_at}
use Rattle.state.specs.Find.{lowest_slot, lowest_place}
use Rattle.machine.specs.Turn.{Turn, span}
use Rattle.machine.specs.Alloc.{new_size, hit_at}
use Rattle.ledger.specs.First.{First}

-- at the lowest start in the first block of the pool, oldest first, that has n free units in a row; no block is made
pub record Taken (s : State) (u : List ℕ) (p n : ℕ) (x : Turn) : Type 0 where
  pub block : ℕ
  pub unit : ℕ
  pub first : First s u p n (hit_at block unit)
  pub answer : x.answer ≡ Granted (span ((block_at s block).base + bytes_of unit s.granularity) (bytes_of n s.granularity))
  pub count : x.state.count ≡ s.count

-- ---- a new block: its size, and the words that its units take
abbrev pub words_for : State → ℕ → Bytes → ℕ
words_for s p bytes = units_of (units_of (new_size s p bytes) s.granularity) 32

-- at the lowest place and in the lowest slot, with the span at its unit 0
pub record Made (s : State) (p n bytes : ℕ) (x : Turn) : Type 0 where
  pub place : ℕ
  pub slot : ℕ
  pub is_lowest_place : lowest_place s (new_size s p bytes) ≡ Some place
  pub is_lowest_slot : lowest_slot s ≡ Some slot
  pub words : words_for s p bytes ≤ s.w
  pub answer : x.answer ≡ Granted (span place (bytes_of n s.granularity))
  pub count : x.state.count ≡ s.count + 1
  pub base_is : (block_at x.state s.count).base ≡ place
  pub size_is : (block_at x.state s.count).size ≡ new_size s p bytes
  pub pool_is : (block_at x.state s.count).pool ≡ p
  pub slot_is : (block_at x.state s.count).slot ≡ slot

-- there is no such place, no free slot, or its words exceed W
abbrev pub CannotMake : State → ℕ → Bytes → Type 0
CannotMake s p bytes = (lowest_place s (new_size s p bytes) ≡ None) ⊎ ((lowest_slot s ≡ None) ⊎ (s.w < words_for s p bytes))

abbrev pub Goes : State → Map → ℕ → Units → Bytes → Turn → Type 0
Goes s u p n bytes x =
    Taken s u p n x ⊎ (First s u p n None × (Made s p n bytes x ⊎ ((x.answer ≡ Refused NoMapping) × CannotMake s p bytes)))
