-- What the searches of the table require. A good shape gives it. Assumes nothing.
use Rattle.std.specs.Prelude.{ℕ, ◌+◌, ◌%◌, ◌^◌, ◌≤◌, ◌<◌, Bool, false, not, eqb, List, ◌≡◌, length, get_or}
use Rattle.sizes.specs.Limits.{page, slot_limit}
use Rattle.state.specs.declared.State.{State}
use Rattle.state.specs.Table.{block_at, age_at, all}

-- the address order has every block, at least once, each at or after the end of the one before
pub record Ordered (s : State) : Type 0 where
  pub few : s.count ≤ slot_limit
  pub age : (k : ℕ) → k < s.count → age_at s k < s.count
  pub behind : (j k : ℕ) → j < k → k < s.count → (block_at s (age_at s j)).base + (block_at s (age_at s j)).size ≤ (block_at s (age_at s k)).base
  pub has : (i : ℕ) → i < s.count → (k : ℕ) × (k < s.count) × (age_at s k ≡ i)

-- and the blocks lie in the arena, at multiples of 65,536
pub record Arranged (s : State) : Type 0 where
  pub ordered : Ordered s
  pub top : s.arena + s.length ≤ 2 ^ 48
  pub arena : s.arena % page ≡ 0
  pub length : s.length % page ≡ 0
  pub base : (i : ℕ) → i < s.count → (block_at s i).base % page ≡ 0
  pub some : (i : ℕ) → i < s.count → 0 < (block_at s i).size
  pub low : (i : ℕ) → i < s.count → s.arena ≤ (block_at s i).base
  pub high : (i : ℕ) → i < s.count → (block_at s i).base + (block_at s i).size ≤ s.arena + s.length

pub record Slotted (s : State) : Type 0 where
  pub few : s.count ≤ slot_limit
  pub slots : s.slots ≤ slot_limit
  pub slot : (i : ℕ) → i < s.count → (block_at s i).slot < slot_limit

-- taken says of each of the 64 slots whether one of the first n blocks has it
pub record TakenSlots (s : State) (n : ℕ) (taken : List Bool) : Type 0 where
  pub size : length taken ≡ slot_limit
  pub says : (k : ℕ) → k < slot_limit → get_or taken k false ≡ not (all n (λ i. not (eqb (block_at s i).slot k)))
