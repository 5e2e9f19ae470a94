-- The lowest number that passes a test, and what is found by it: a block by address, a slot, a place in the arena, a pool's newest block.
-- Assumes nothing.
use Rattle.std.specs.Prelude.{ℕ, zero, suc, ◌+◌, ◌*◌, ◌/◌, Bool, not, ◌&&◌, leb, ltb, eqb, Option, Some, None}
use Rattle.numbers.specs.Names.{Address, Bytes}
use Rattle.numbers.specs.Pick.{pick}
use Rattle.sizes.specs.Limits.{page}
use Rattle.block.specs.declared.Block.{Block}
use Rattle.state.specs.declared.State.{State}
use Rattle.state.specs.Table.{block_at, all}

-- the lowest of the n numbers from k on that passes
unfoldable pub least_from : ℕ → ℕ → (ℕ → Bool) → Option ℕ
least_from k zero test = None
least_from k (suc n) test = pick (test k) (Some k) (least_from (suc k) n test)

-- the lowest below n
abbrev pub least : ℕ → (ℕ → Bool) → Option ℕ
least n test = least_from 0 n test

-- the highest below n
unfoldable pub latest : ℕ → (ℕ → Bool) → Option ℕ
latest zero test = None
latest (suc n) test = pick (test n) (Some n) (latest n test)

-- ---- the block that holds an address
abbrev pub holds : Block → Address → Bool
holds b a = leb b.base a && ltb a (b.base + b.size)

abbrev pub lookup : State → Address → Option ℕ
lookup s a = least s.count (λ i. holds (block_at s i) a)

-- ---- the lowest free slot
abbrev pub slot_free : State → ℕ → Bool
slot_free s k = all s.count (λ i. not (eqb (block_at s i).slot k))

abbrev pub lowest_slot : State → Option ℕ
lowest_slot s = least s.slots (slot_free s)

-- ---- the lowest place for size bytes: a multiple of 65,536 where they lie within the arena and meet no standing block
abbrev pub clear : Block → Address → Bytes → Bool
clear b at size = not (ltb b.base (at + size) && ltb at (b.base + b.size))

-- the k-th multiple of 65,536 in the arena, whose base is one
abbrev pub place_at : State → ℕ → Address
place_at s k = s.arena + page * k

abbrev pub place_free : State → Bytes → ℕ → Bool
place_free s size k =
    leb (place_at s k + size) (s.arena + s.length) && all s.count (λ i. clear (block_at s i) (place_at s k) size)

abbrev pub placed : State → Option ℕ → Option ℕ
placed s (Some k) = Some (place_at s k)
placed s None = None

-- the arena's length is a multiple of 65,536 too
abbrev pub lowest_place : State → Bytes → Option ℕ
lowest_place s size = placed s (least (s.length / page) (place_free s size))

-- ---- a pool's newest block
abbrev pub newest : State → ℕ → Option ℕ
newest s p = latest s.count (λ i. eqb (block_at s i).pool p)

-- the size that a new block of the pool starts from
abbrev pub size_or : State → Option ℕ → Bytes
size_or s (Some i) = (block_at s i).size
size_or s None = s.size

abbrev pub newest_size : State → ℕ → Bytes
newest_size s p = size_or s (newest s p)
