-- Document 01, Refusal numbers: exactly when each is given, by the state before the call. Assumes nothing.
use Rattle.std.specs.Prelude.{ℕ, ◌+◌, ◌-◌, ◌/◌, ◌%◌, ◌≤◌, ◌<◌, true, false, ◌⊎◌, ◌≡◌, length, Ok}
use Rattle.numbers.specs.Names.{Address, Bytes, Units, Age, Map}
use Rattle.numbers.specs.Align.{align_up}
use Rattle.numbers.specs.Units.{units_of}
use Rattle.sizes.specs.Limits.{page, max_size}
use Rattle.bits.specs.Bits.{bit}
use Rattle.slots.specs.Slots.{slot_of}
use Rattle.block.specs.Search.{look_into}
use Rattle.state.specs.declared.State.{State}
use Rattle.state.specs.declared.Answer.{Answer}
use Rattle.state.specs.declared.Answer.TheVariants.{Created, Granted, Released, Shrunk, Shown, Reset, Refused}
use Rattle.state.specs.declared.Refusal.{Refusal}
use Rattle.state.specs.declared.Refusal.TheVariants.{InvalidArgument, TooLarge, InvalidState, NoMapping, BadShape, Damaged}
use Rattle.state.specs.Table.{block_at}
use Rattle.state.specs.Shape.{good_shape, in_pool}
use Rattle.state.specs.Find.{holds, slot_free, place_free}
use Rattle.machine.specs.Turn.{unit_of}
use Rattle.machine.specs.Create.{grantable}
use Rattle.machine.specs.Alloc.{pool_for, units_for, new_size, words_of}
use Rattle.machine.specs.Span.{starts}
use Rattle.machine.specs.Machine.{Call, create, alloc, release, shrink, query, soft_reset, hard_reset}

-- ---- the words of the table
module _ (s : State) (u t : Map) where
  abbrev pub Good : Type 0
  Good = good_shape s (length u) (length t) ≡ true

  abbrev pub Bad : Type 0
  Bad = good_shape s (length u) (length t) ≡ false

  -- an address in no block, and in block j
  abbrev pub InNone : Address → Type 0
  InNone a = (j : ℕ) → j < s.count → holds (block_at s j) a ≡ false

  abbrev pub InBlock : Address → Age → Type 0
  InBlock a j = (j < s.count) × (holds (block_at s j) a ≡ true)

  -- its unit there, and the block's words
  abbrev pub unit_at : Address → Age → Units
  unit_at a j = (a - (block_at s j).base) / unit_of s (block_at s j)

  abbrev pub used_of : Age → Map
  used_of j = slot_of s.w (block_at s j).slot u

  abbrev pub stop_of : Age → Map
  stop_of j = slot_of s.w (block_at s j).slot t

  -- it is a span start
  abbrev pub IsStart : Address → Age → Type 0
  IsStart a j = ((a - (block_at s j).base) % unit_of s (block_at s j) ≡ 0) × (starts (used_of j) (stop_of j) (unit_at a j) ≡ true)

  -- the area has no stop bit from there on
  abbrev pub NoStop : Address → Age → Type 0
  NoStop a j = (k : ℕ) → unit_at a j ≤ k → k < (block_at s j).area → bit (stop_of j) k ≡ 1 → ⊥

  -- the span has n units: it ends with the next stop bit
  abbrev pub HasUnits : Address → Age → Units → Type 0
  HasUnits a j n =
      (0 < n) × (unit_at a j + n ≤ (block_at s j).area) × (bit (stop_of j) (unit_at a j + n - 1) ≡ 1)
      × ((k : ℕ) → unit_at a j ≤ k → k + 1 < unit_at a j + n → bit (stop_of j) k ≡ 1 → ⊥)

  -- in a block but no span start
  abbrev pub NoStart : Address → Type 0
  NoStart a = (j : ℕ) × InBlock a j × (IsStart a j → ⊥)

  -- ---- allocation of the rounded size z
  -- no block of the pool that is looked into has a place
  abbrev pub NoneFound : Bytes → Type 0
  NoneFound z = (j i : ℕ) → j < s.count → in_pool s (pool_for s z) j ≡ true → look_into s.w (block_at s j) u (units_for s z) ≡ Ok i → ⊥

  -- the size of the block to be made
  abbrev pub size_for : Bytes → Bytes
  size_for z = new_size s (pool_for s z) z

  -- no place, no free slot, or its words exceed W
  abbrev pub NoRoom : Bytes → Type 0
  NoRoom size = (k : ℕ) → k < s.length / page → place_free s size k ≡ false

  abbrev pub NoSlot : Type 0
  NoSlot = (k : ℕ) → k < s.slots → slot_free s k ≡ false

  abbrev pub PastSlot : Bytes → Type 0
  PastSlot z = s.w < words_of s (pool_for s z) (size_for z)

  -- ---- the table, by number and by call. 5 comes first; what follows is of a state that isn't BadShape
  abbrev pub When : Refusal → Call → Type 0
  -- 1
  When InvalidArgument (create a) = grantable a (length u) (length t) ≡ false
  When InvalidArgument (alloc size) = Good × (align_up size s.granularity ≡ 0)
  When InvalidArgument (release a) = Good × ((a ≡ 0) ⊎ NoStart a)
  When InvalidArgument (shrink a size) = Good × ((a ≡ 0) ⊎ (((0 < size) × InNone a) ⊎ NoStart a))
  When InvalidArgument (query a) = Good × (InNone a ⊎ NoStart a)
  When InvalidArgument soft_reset = ⊥
  When InvalidArgument hard_reset = ⊥
  -- 2
  When TooLarge (alloc size) = Good × (max_size < align_up size s.granularity)
  When TooLarge (create a) = ⊥
  When TooLarge (release a) = ⊥
  When TooLarge (shrink a size) = ⊥
  When TooLarge (query a) = ⊥
  When TooLarge soft_reset = ⊥
  When TooLarge hard_reset = ⊥
  -- 3
  When InvalidState (release a) = Good × (a ≡ 0 → ⊥) × InNone a
  When InvalidState (shrink a size) =
      Good × (((size ≡ 0) × (a ≡ 0 → ⊥) × InNone a)
      ⊎ ((j : ℕ) × (n : ℕ) × InBlock a j × IsStart a j × HasUnits a j n × (n ≤ (block_at s j).used) × (n < units_of size (unit_of s (block_at s j)))))
  When InvalidState (create a) = ⊥
  When InvalidState (alloc size) = ⊥
  When InvalidState (query a) = ⊥
  When InvalidState soft_reset = ⊥
  When InvalidState hard_reset = ⊥
  -- 4
  When NoMapping (alloc size) =
      Good × (z : ℕ) × (z ≡ align_up size s.granularity) × (0 < z) × (z ≤ max_size) × NoneFound z × (NoRoom (size_for z) ⊎ (NoSlot ⊎ PastSlot z))
  When NoMapping (create a) = ⊥
  When NoMapping (release a) = ⊥
  When NoMapping (shrink a size) = ⊥
  When NoMapping (query a) = ⊥
  When NoMapping soft_reset = ⊥
  When NoMapping hard_reset = ⊥
  -- 5
  When BadShape (create a) = ⊥
  When BadShape (alloc size) = Bad
  When BadShape (release a) = Bad
  When BadShape (shrink a size) = Bad
  When BadShape (query a) = Bad
  When BadShape soft_reset = Bad
  When BadShape hard_reset = Bad
  -- 6
  When Damaged (query a) = Good × (j : ℕ) × InBlock a j × IsStart a j × NoStop a j
  When Damaged (release a) =
      Good × (j : ℕ) × InBlock a j × IsStart a j × (NoStop a j ⊎ ((n : ℕ) × HasUnits a j n × (((block_at s j).used < n) ⊎ (s.live ≡ 0))))
  When Damaged (shrink a size) =
      Good × (j : ℕ) × InBlock a j × IsStart a j
      × (NoStop a j ⊎ ((n : ℕ) × HasUnits a j n × (((block_at s j).used < n) ⊎ ((size ≡ 0) × (s.live ≡ 0)))))
  When Damaged (create a) = ⊥
  When Damaged (alloc size) = ⊥
  When Damaged soft_reset = ⊥
  When Damaged hard_reset = ⊥

  -- an answer that is a refusal comes under its condition
  abbrev pub Told : Call → Answer → Type 0
  Told c (Refused why) = When why c
  Told c (Created size g pools) = Unit {0}
  Told c (Granted x) = Unit {0}
  Told c (Released x) = Unit {0}
  Told c (Shrunk x) = Unit {0}
  Told c (Shown x) = Unit {0}
  Told c Reset = Unit {0}
