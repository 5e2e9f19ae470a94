-- Document 01, Size, Pool, Search, New block and Marking: the call alloc. Assumes nothing.
use Rattle.std.specs.Prelude.{ℕ, zero, suc, ◌+◌, ◌-◌, leb, length, Result, Ok, Err, Option, Some, None}
use Rattle.numbers.specs.Names.{Address, Bytes, Units, Age, Map}
use Rattle.numbers.specs.Pick.{pick}
use Rattle.numbers.specs.Units.{units_of, bytes_of}
use Rattle.block.specs.declared.Block.{Block}
use Rattle.block.specs.Marking.{mark_allocated, fresh}
use Rattle.block.specs.Search.{look_into}
use Rattle.sizes.specs.declared.SizeError.{SizeError}
use Rattle.sizes.specs.Pools.{pool_of}
use Rattle.sizes.specs.Sizes.{rounded, ideal_size}
use Rattle.state.specs.declared.State.{State}
use Rattle.state.specs.declared.Hit.{Hit}
use Rattle.state.specs.declared.Searched.{Searched}
use Rattle.state.specs.declared.Refusal.TheVariants.{NoMapping, BadShape}
use Rattle.state.specs.declared.Answer.TheVariants.{Granted}
use Rattle.state.specs.Table.{block_at, pool_at, one}
use Rattle.state.specs.Shape.{bad_shape, is_empty, in_pool}
use Rattle.state.specs.Outcome.{size_refusal}
use Rattle.state.specs.Find.{lowest_slot, lowest_place, newest_size}
use Rattle.state.specs.Change.{inserted}
use Rattle.machine.specs.Turn.{Turn, turn, refuse, span, put_block, put_pool, with_live, with_counts, unit_of, clear_slot}

-- ---- Search: blocks of the pool, oldest first

-- a place found: a block, and a unit in it
abbrev pub hit_at : Age → Units → Option Hit
hit_at j i = Some record { age = j; unit = i }

-- a search's result: the record that it left, and the place that it found
abbrev pub searched : Option Hit → State → Searched
searched hit s = record { hit = hit; state = s }

-- after a search in block i: it found a place, or the search of the rest goes on with the block's new record
abbrev pub after : State → Age → (State → Searched) → Result Units Block → Searched
after s i rest (Ok unit) = searched (hit_at i unit) s
after s i rest (Err b) = rest (put_block s i b)

-- the search of the k blocks from age i on
unfoldable pub search_from : Map → ℕ → Units → Age → ℕ → State → Searched
search_from u p n i zero s = searched None s
search_from u p n i (suc k) s =
    pick (in_pool s p i) (after s i (search_from u p n (suc i) k) (look_into s.w (block_at s i) u n)) (search_from u p n (suc i) k s)

abbrev pub search_pool : State → Map → ℕ → Units → Searched
search_pool s u p n = search_from u p n 0 s.count s

-- ---- a rounded size: its pool, its units there, and their search
abbrev pub pool_for : State → Bytes → ℕ
pool_for s size = pool_of size s.granularity s.poolcount

abbrev pub units_for : State → Bytes → Units
units_for s size = units_of size (pool_at s (pool_for s size)).granularity

abbrev pub search_for : State → Map → Bytes → Searched
search_for s u size = search_pool s u (pool_for s size) (units_for s size)

-- the size of a block of pool p that is made for it, and the words that the units of such a block take
abbrev pub new_size : State → ℕ → Bytes → Bytes
new_size s p size = ideal_size (newest_size s p) size

abbrev pub words_of : State → ℕ → Bytes → ℕ
words_of s p size = units_of (units_of size (pool_at s p).granularity) 32

-- ---- Marking: n units from unit `from` on of block j
abbrev pub alloc_marked : State → Map → Map → Age → Units → Units → Turn
alloc_marked s u t j from n =
    let b = block_at s j in
    let q = pool_at s b.pool in
    let x = mark_allocated s.w b from (from + n) u t in
    turn (Granted (span (b.base + bytes_of from (unit_of s b)) (bytes_of n (unit_of s b))))
    (with_live (put_pool (put_block s j x.block) b.pool (with_counts q (q.empty - one (is_empty b)) (q.used + n))) (s.live + 1)) x.used x.stop

-- ---- New block
-- the new block enters the table: its slot is cleared, and the span is at unit 0
abbrev pub alloc_made : State → Map → Map → ℕ → Units → Bytes → Address → ℕ → Turn
alloc_made s u t p n size at slot =
    alloc_marked (inserted s (fresh at size p slot (units_of size (pool_at s p).granularity) n)) (clear_slot s.w slot u) (clear_slot s.w slot t) s.count 0 n

-- refusal 4 exactly if there is no place, no free slot, or the block's words exceed W
abbrev pub alloc_placed : State → Map → Map → ℕ → Units → Bytes → Option ℕ → Option ℕ → Turn
alloc_placed s u t p n size (Some at) (Some slot) =
    pick (leb (words_of s p size) s.w) (alloc_made s u t p n size at slot) (refuse NoMapping s u t)
alloc_placed s u t p n size (Some at) None = refuse NoMapping s u t
alloc_placed s u t p n size None slot = refuse NoMapping s u t

-- a block of size bytes
abbrev pub alloc_new : State → Map → Map → ℕ → Units → Bytes → Turn
alloc_new s u t p n size = alloc_placed s u t p n size (lowest_place s size) (lowest_slot s)

-- ---- the call
abbrev pub alloc_searched : State → Map → Map → ℕ → Units → Bytes → Option Hit → Turn
alloc_searched s u t p n size (Some hit) = alloc_marked s u t hit.age hit.unit n
alloc_searched s u t p n size None = alloc_new s u t p n (new_size s p size)

-- the pool is chosen by the rounded size
abbrev pub alloc_pool : State → Map → Map → Bytes → ℕ → Turn
alloc_pool s u t size p =
    let n = units_of size (pool_at s p).granularity in
    let x = search_pool s u p n in
    alloc_searched x.state u t p n size x.hit

abbrev pub alloc_rounded : State → Map → Map → Result Bytes SizeError → Turn
alloc_rounded s u t (Ok size) = alloc_pool s u t size (pool_for s size)
alloc_rounded s u t (Err why) = refuse (size_refusal why) s u t

unfoldable pub alloc_turn : State → Map → Map → Bytes → Turn
alloc_turn s u t size = pick (bad_shape s (length u) (length t)) (refuse BadShape s u t) (alloc_rounded s u t (rounded size s.granularity))
