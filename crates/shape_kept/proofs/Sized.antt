-- The record's lists keep their lengths, whatever the call. Assumes nothing.
use Prim.Native.Nat.{ℕ, zero, suc, ◌+◌, ◌-◌}
use mathlib.Core.Bool.{true, false}
use mathlib.Core.List.{List}
use mathlib.Core.Path.{refl, ◌∙◌}
use lib.ListN.{length-set}
use Rattle.numbers.proofs.Bools.{picked}
use Rattle.block.specs.declared.Block.{Block}
use Rattle.std.specs.Prelude.{Result, Ok, Err}
use Rattle.block.specs.Marking.{emptied, marked, mark_released, mark_shrunk}
use Rattle.block.specs.Search.{look_into}
use Rattle.sizes.specs.declared.Pool.{Pool}
use mir.Val.{Val}
use denote.Laws.{Is}
use denote.Struct.Declared.{row}
use Rattle.state.specs.contracts.State.{the_type}
use Rattle.state.proofs.Lengths.{blocks_64, order_64, pool_3}
use Rattle.state.specs.declared.State.{State}
use Rattle.state.specs.declared.Searched.{Searched}
use Rattle.state.specs.Table.{block_at}
use Rattle.state.specs.Shape.{in_pool}
use Rattle.state.specs.Change.{inserted, removed}
use Rattle.state.proofs.Lists.{length_list_from}
use Rattle.machine.specs.Turn.{Turn, put_block, put_pool, with_live}
use Rattle.machine.specs.Alloc.{pool_for, units_for, search_for, after, search_from, search_pool, alloc_marked}
use Rattle.machine.specs.Release.{less_used, release_units, release_turn}
use Rattle.machine.specs.Reset.{empty_table, oldest, keep, kept}
use Rattle.machine.specs.Machine.{Call, create, alloc, release, shrink, query, soft_reset, hard_reset, step}
use Rattle.machine.proofs.Cases.{settle_cases, create_cases, query_cases, release_cases, shrink_cases, reset_cases, alloc_cases}
use Rattle.shape_kept.specs.Sized.{Sized}

-- ---- a value of the record's type
pub sized_is : (s : State) (vs : List Val) → Is (row the_type) s vs → Sized s
sized_is s vs good = record { blocks = blocks_64 s vs good; order = order_64 s vs good; pools = pool_3 s vs good }

-- ---- each change
module _ (s : State) (z : Sized s) where
  pub sized_block : (j : ℕ) (b : Block) → Sized (put_block s j b)
  sized_block j b = record { blocks = length-set s.blocks j b ∙ z.blocks; order = z.order; pools = z.pools }

  pub sized_pool : (p : ℕ) (q : Pool) → Sized (put_pool s p q)
  sized_pool p q = record { blocks = z.blocks; order = z.order; pools = length-set s.pools p q ∙ z.pools }

  pub sized_live : (live : ℕ) → Sized (with_live s live)
  sized_live live = record { blocks = z.blocks; order = z.order; pools = z.pools }

  pub sized_inserted : (b : Block) → Sized (inserted s b)
  sized_inserted b = record {
    blocks = length-set s.blocks s.count b ∙ z.blocks;
    order = length_list_from 0 64 _;
    pools = length-set s.pools b.pool _ ∙ z.pools;
  }

  pub sized_removed : (j : ℕ) → Sized (removed s j)
  sized_removed j = record { blocks = length_list_from 0 64 _; order = length_list_from 0 64 _; pools = length-set s.pools (block_at s j).pool _ ∙ z.pools }

pub sized_less : (s : State) → Sized s → (j : ℕ) (b : Block) (n : ℕ) → Sized (less_used s j b n)
sized_less s z j b n = sized_pool (put_block s j b) (sized_block s z j b) (block_at s j).pool _

pub sized_empty : (s : State) → Sized (empty_table s)
sized_empty s = record { blocks = refl; order = refl; pools = refl }

pub sized_keep : (s : State) → Sized s → (b : Block) → Sized (keep s b)
sized_keep s z b = sized_pool (inserted s (emptied b)) (sized_inserted s z (emptied b)) b.pool _

pub sized_kept_blocks : (s : State) (n : ℕ) → Sized (kept s n)
unfolding kept
sized_kept_blocks s zero = sized_empty s
sized_kept_blocks s (suc n) =
    picked Sized (oldest s n) (keep (kept s n) (block_at s n)) (kept s n)
    (λ e. sized_keep (kept s n) (sized_kept_blocks s n) (block_at s n)) (λ e. sized_kept_blocks s n)

-- ---- a search
after_sized : (s : State) → Sized s → (i : ℕ) (rest : State → Searched) → ((r : State) → Sized r → Sized (rest r).state) → (l : Result ℕ Block) → Sized (after s i rest l).state
after_sized s z i rest ih (Ok unit) = z
after_sized s z i rest ih (Err b) = ih (put_block s i b) (sized_block s z i b)

from_sized : (u : List ℕ) (p n i k : ℕ) (s : State) → Sized s → Sized (search_from u p n i k s).state
unfolding search_from
from_sized u p n i zero s z = z
from_sized u p n i (suc k) s z =
    picked (λ (r : Searched). Sized r.state) (in_pool s p i) (after s i (search_from u p n (suc i) k) (look_into s.w (block_at s i) u n)) (search_from u p n (suc i) k s)
    (λ e. after_sized s z i (search_from u p n (suc i) k) (λ r y. from_sized u p n (suc i) k r y) (look_into s.w (block_at s i) u n))
    (λ e. from_sized u p n (suc i) k s z)

pub sized_search : (s : State) → Sized s → (u : List ℕ) (p n : ℕ) → Sized (search_pool s u p n).state
sized_search s z u p n = from_sized u p n 0 s.count s z

-- ---- the calls
abbrev Left : Turn → Type 0
Left x = Sized x.state

marked_sized : (s : State) → Sized s → (u t : List ℕ) (j i n : ℕ) → Left (alloc_marked s u t j i n)
marked_sized s z u t j i n =
    let b = marked (block_at s j) i (i + n) in
    sized_live (put_pool (put_block s j b) (block_at s j).pool _) (sized_pool (put_block s j b) (sized_block s z j b) (block_at s j).pool _) (s.live + 1)

module _ (s : State) (u t : List ℕ) (z : Sized s) where
  freed : (a j i e : ℕ) → Left (release_units s u t a j i e)
  freed a j i e =
      let m = mark_released s.w (block_at s j) i e u t in
      let r = with_live (less_used s j m.block (e - i)) (s.live - 1) in
      let y = sized_live (less_used s j m.block (e - i)) (sized_less s z j m.block (e - i)) (s.live - 1) in
      settle_cases Left r m.used m.stop _ j (λ n. y) (λ n g. sized_removed r y j) (λ n g h. sized_pool r y (block_at r j).pool _)

  released : (a : ℕ) → Left (release_turn s u t a)
  released a = release_cases Left s u t a (λ why cond. z) (λ j i e k. freed a j i e)

  -- ---- any call
  pub sized_kept : (c : Call) → Sized (step s u t c).state
  sized_kept (create a) = create_cases Left s u t a (λ e. z) (λ e. record { blocks = refl; order = refl; pools = refl })
  sized_kept (alloc size) =
      alloc_cases Left s u t size (λ why early cond. z)
      (λ bytes k miss short. sized_search s z u (pool_for s bytes) (units_for s bytes))
      (λ bytes j i k e. marked_sized (search_for s u bytes).state (sized_search s z u (pool_for s bytes) (units_for s bytes)) u t j i (units_for s bytes))
      (λ bytes at slot k miss m.
      let r = (search_for s u bytes).state in
      marked_sized (inserted r _) (sized_inserted r (sized_search s z u (pool_for s bytes) (units_for s bytes)) _) u t r.count 0 (units_for s bytes))
  sized_kept (release a) = released a
  sized_kept (shrink a size) =
      shrink_cases Left s u t a size (λ why cond. z) (λ none. released a) (λ j i e n k same. z)
      (λ j i e n k. sized_less s z j (mark_shrunk s.w (block_at s j) (i + n) e u t).block (e - (i + n)))
  sized_kept (query a) = query_cases Left s u t a (λ why cond. z) (λ j i e k. z)
  sized_kept soft_reset = reset_cases Left s u t false (λ bad. z) (λ e. sized_empty s) (λ e i. sized_kept_blocks s s.count)
  sized_kept hard_reset = reset_cases Left s u t true (λ bad. z) (λ e. sized_empty s) (λ e i. sized_kept_blocks s s.count)
