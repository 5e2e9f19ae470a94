-- Document 01, BadShape: its clauses as they are printed, in their order. A state is BadShape if one of them fails. The clauses read no
-- word, only the two lengths. Assumes nothing.
use Rattle.std.specs.Prelude.{ℕ, ◌+◌, ◌-◌, ◌*◌, ◌%◌, ◌^◌, Bool, true, not, ◌&&◌, ◌||◌, List, [], ◌∷◌, leb, ltb, eqb}
use Rattle.numbers.specs.Names.{Address, Bytes, Age}
use Rattle.numbers.specs.Pick.{pick}
use Rattle.block.specs.declared.Block.{Block}
use Rattle.block.specs.Record.{empty_flag, dirty_flag, is_on}
use Rattle.sizes.specs.Limits.{is_granularity, is_base_size, page, max_slot_words, slot_limit}
use Rattle.state.specs.declared.State.{State}
use Rattle.state.specs.Table.{block_at, age_at, pool_at, all, all_pairs, sum, one, only}

-- every one of a list of tests passes
abbrev pub every : List Bool → Bool
every [] = true
every (t ∷ ts) = t && every ts

-- ---- creation's numbers
-- base and length non-zero multiples of 65,536, base plus length at most 2^48
abbrev pub arena_ok : Address → Bytes → Bool
arena_ok base length =
    every (not (eqb base 0) ∷ not (eqb length 0) ∷ eqb (base % page) 0 ∷ eqb (length % page) 0 ∷ leb (base + length) (2 ^ 48) ∷ [])

-- creation's numbers in the record within the limits
abbrev pub numbers_ok : State → Bool
numbers_ok s =
    every (is_base_size s.size ∷ is_granularity s.granularity ∷ (eqb s.poolcount 1 || eqb s.poolcount 3) ∷ leb 1 s.w ∷ leb s.w max_slot_words ∷ arena_ok s.arena s.length ∷ [])

-- slots 1 to 64
abbrev pub slots_ok : State → Bool
slots_ok s = leb 1 s.slots && leb s.slots slot_limit

-- lent slices not shorter than slots times W
abbrev pub slices_ok : State → ℕ → ℕ → Bool
slices_ok s usedWords stopWords = leb (s.slots * s.w) usedWords && leb (s.slots * s.w) stopWords

-- not more blocks than slots
abbrev pub count_ok : State → Bool
count_ok s = leb s.count s.slots

-- ---- one block
-- no slot or pool number too large
abbrev pub place_ok : State → Block → Bool
place_ok s b = ltb b.slot s.slots && ltb b.pool s.poolcount

-- the base a multiple of 65,536
abbrev pub base_ok : Block → Bool
base_ok b = eqb (b.base % page) 0

-- the area not 0, a multiple of 32, times g its size, and not past its slot
abbrev pub area_ok : State → Block → Bool
area_ok s b =
    every (not (eqb b.area 0) ∷ eqb (b.area % 32) 0 ∷ eqb (b.area * s.granularity) b.size ∷ leb b.area (32 * s.w) ∷ [])

-- used, window and largest field not above the area
abbrev pub fields_ok : Block → Bool
fields_ok b = every (leb b.used b.area ∷ leb b.start b.area ∷ leb b.end b.area ∷ leb b.largest b.area ∷ [])

-- the block inside the arena
abbrev pub inside_ok : State → Block → Bool
inside_ok s b = leb s.arena b.base && leb (b.base + b.size) (s.arena + s.length)

-- the empty flag matching used 0
abbrev pub is_empty : Block → Bool
is_empty b = is_on b.flags empty_flag

abbrev pub empty_ok : Block → Bool
empty_ok b = pick (is_empty b) (eqb b.used 0) (not (eqb b.used 0))

-- no other flag
abbrev pub flags_ok : Block → Bool
flags_ok b = leb b.flags (empty_flag + dirty_flag)

-- ---- two blocks
-- they share bytes
abbrev pub meet : Block → Block → Bool
meet a b = ltb a.base (b.base + b.size) && ltb b.base (a.base + a.size)

abbrev pub apart : Block → Block → Bool
apart a b = not (eqb a.slot b.slot) && not (meet a b)

-- ---- pools
-- of the blocks of pool p: how many they are, how many are flagged empty, their areas and their used units
abbrev pub in_pool : State → ℕ → Age → Bool
in_pool s p i = eqb (block_at s i).pool p

abbrev pub empties_of : State → ℕ → ℕ
empties_of s p = sum s.count (λ i. one (in_pool s p i && is_empty (block_at s i)))

-- a pool's stored sums and empty count like its blocks
abbrev pub pool_ok : State → ℕ → Bool
pool_ok s p =
    every
    (eqb (pool_at s p).granularity s.granularity
    ∷ eqb (pool_at s p).blocks (sum s.count (λ i. one (in_pool s p i)))
    ∷ eqb (pool_at s p).empty (empties_of s p)
    ∷ eqb (pool_at s p).area (sum s.count (λ i. only (in_pool s p i) (block_at s i).area))
    ∷ eqb (pool_at s p).used (sum s.count (λ i. only (in_pool s p i) (block_at s i).used))
    ∷ [])

-- not two empty blocks in a pool, nor one under immediate release
abbrev pub empties_ok : State → ℕ → Bool
empties_ok s p = leb (empties_of s p) (pick s.immediate 0 1)

-- ---- the whole table
-- live count not above the used units
abbrev pub live_ok : State → Bool
live_ok s = leb s.live (sum s.count (λ i. (block_at s i).used))

-- the address order every block once ..
abbrev pub once_ok : State → Age → Bool
once_ok s i = eqb (sum s.count (λ k. one (eqb (age_at s k) i))) 1

-- .. by rising base
abbrev pub rising_ok : State → ℕ → Bool
rising_ok s k = ltb (block_at s (age_at s k)).base (block_at s (age_at s (k + 1))).base

abbrev pub order_ok : State → Bool
order_ok s = all s.count (once_ok s) && all (s.count - 1) (rising_ok s)

-- an entry of either list past the last block zero
abbrev pub is_zero : Block → Bool
is_zero b =
    every
    (eqb b.base 0 ∷ eqb b.size 0 ∷ eqb b.pool 0 ∷ eqb b.slot 0 ∷ eqb b.flags 0 ∷ eqb b.area 0 ∷ eqb b.used 0 ∷ eqb b.start 0
    ∷ eqb b.end 0 ∷ eqb b.largest 0 ∷ [])

abbrev pub zero_ok : State → ℕ → Bool
zero_ok s i = pick (ltb i s.count) true (is_zero (block_at s i) && eqb (age_at s i) 0)

-- ---- the clauses, in 01's order
unfoldable pub clauses : State → ℕ → ℕ → List Bool
clauses s usedWords stopWords =
    (numbers_ok s && slots_ok s)
    ∷ slices_ok s usedWords stopWords
    ∷ count_ok s
    ∷ all s.count (λ i. place_ok s (block_at s i))
    ∷ all s.count (λ i. base_ok (block_at s i))
    ∷ all s.count (λ i. area_ok s (block_at s i))
    ∷ all s.count (λ i. fields_ok (block_at s i))
    ∷ all_pairs s.count (λ i j. apart (block_at s i) (block_at s j))
    ∷ all s.count (λ i. inside_ok s (block_at s i))
    ∷ all s.count (λ i. empty_ok (block_at s i))
    ∷ all 3 (pool_ok s)
    ∷ all 3 (empties_ok s)
    ∷ live_ok s
    ∷ order_ok s
    ∷ all slot_limit (zero_ok s)
    ∷ all s.count (λ i. flags_ok (block_at s i))
    ∷ []

-- a state that calls may work on
abbrev pub good_shape : State → ℕ → ℕ → Bool
good_shape s usedWords stopWords = every (clauses s usedWords stopWords)

abbrev pub bad_shape : State → ℕ → ℕ → Bool
bad_shape s usedWords stopWords = not (good_shape s usedWords stopWords)
