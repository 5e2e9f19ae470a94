-- BadShape's clauses in the parts that the code tests. It is proved that the parts together are the printed clauses. Assumes nothing.
use Rattle.std.specs.Prelude.{ℕ, ◌+◌, Bool, not, ◌&&◌, List, [], ◌∷◌, leb, eqb}
use Rattle.numbers.specs.Pick.{pick}
use Rattle.sizes.specs.Limits.{slot_limit}
use Rattle.block.specs.declared.Block.{Block}
use Rattle.sizes.specs.declared.Pool.{Pool}
use Rattle.state.specs.declared.State.{State}
use Rattle.state.specs.Table.{block_at, pool_at, all, all_pairs, sum, one, only}
use Rattle.state.specs.Shape.{every, numbers_ok, slots_ok, slices_ok, count_ok, place_ok, base_ok, area_ok, fields_ok, inside_ok, is_empty, empty_ok, flags_ok, meet, in_pool, live_ok, order_ok, zero_ok}

-- the numbers in the record, and the two lengths
unfoldable pub head_ok : State → ℕ → ℕ → Bool
head_ok s usedWords stopWords =
    every (numbers_ok s ∷ slots_ok s ∷ slices_ok s usedWords stopWords ∷ count_ok s ∷ [])

-- one block by itself
abbrev pub block_tests : State → Block → List Bool
block_tests s b = place_ok s b ∷ base_ok b ∷ area_ok s b ∷ fields_ok b ∷ inside_ok s b ∷ empty_ok b ∷ flags_ok b ∷ []

unfoldable pub block_ok : State → Block → Bool
block_ok s b = every (block_tests s b)

-- ---- pools
-- the sums with one block more
abbrev pub counted : Pool → Block → Pool
counted q b = record {
  granularity = q.granularity;
  blocks = q.blocks + 1;
  empty = q.empty + one (is_empty b);
  area = q.area + b.area;
  used = q.used + b.used;
}

-- the sums over those of the n oldest blocks that are in pool p
abbrev pub pool_sum : State → ℕ → ℕ → Pool
pool_sum s n p = record {
  granularity = s.granularity;
  blocks = sum n (λ i. one (in_pool s p i));
  empty = sum n (λ i. one (in_pool s p i && is_empty (block_at s i)));
  area = sum n (λ i. only (in_pool s p i) (block_at s i).area);
  used = sum n (λ i. only (in_pool s p i) (block_at s i).used);
}

abbrev pub same_pool : Pool → Pool → Bool
same_pool a b =
    every
    (eqb a.granularity b.granularity
    ∷ eqb a.blocks b.blocks
    ∷ eqb a.empty b.empty
    ∷ eqb a.area b.area
    ∷ eqb a.used b.used
    ∷ [])

abbrev pub pool_matches : Pool → Pool → Bool → Bool
pool_matches stored sums immediate = same_pool stored sums && leb sums.empty (pick immediate 0 1)

-- ---- the table, the address order, and the zeros after both
abbrev pub slots_apart : State → ℕ → ℕ → Bool
slots_apart s i j = not (eqb (block_at s i).slot (block_at s j).slot)

abbrev pub bytes_apart : State → ℕ → ℕ → Bool
bytes_apart s i j = not (meet (block_at s i) (block_at s j))

unfoldable pub table_ok : State → Bool
table_ok s =
    every
    (all s.count (λ i. block_ok s (block_at s i))
    ∷ all_pairs s.count (slots_apart s)
    ∷ all 3 (λ p. pool_matches (pool_at s p) (pool_sum s s.count p) s.immediate)
    ∷ live_ok s
    ∷ [])

unfoldable pub layout_ok : State → Bool
layout_ok s = every (order_ok s ∷ all_pairs s.count (bytes_apart s) ∷ all slot_limit (zero_ok s) ∷ [])
