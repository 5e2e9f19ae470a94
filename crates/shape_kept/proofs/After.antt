-- The table after each change: its blocks, ages and pools, and the sum of the used counts. Assumes nothing.
use Prim.Native.Nat.{ℕ, ◌+◌, ◌-◌, ◌≤◌, ◌<◌}
use mathlib.Core.Path.{◌≡◌, refl, ap, ◌∙◌}
use native.Mathlib.Nat.{zero-add}
use native.Mathlib.Omega.{arith}
use lib.ListN.{get_or, get_or-replicate as get_or-replicate_in}
use lib.Seq.{get_or-set_same, get_or-set_other}
use Rattle.block.specs.declared.Block.{Block}
use Rattle.sizes.specs.declared.Pool.{Pool}
use Rattle.sizes.specs.Pools.{fresh_pool}
use Rattle.state.specs.declared.State.{State}
use Rattle.state.specs.Table.{zero_block, block_at, age_at, pool_at, sum}
use Rattle.state.specs.Change.{moved_up, place_of, place_of_age, past, fallen, with_blocks, inserted, removed}
use Rattle.state.proofs.Tests.{sum_same, sum_more}
use Rattle.state.proofs.Lists.{get_or-list_from, get_or-replicate}
use Rattle.machine.specs.Turn.{put_block, put_pool, with_counts}
use Rattle.machine.specs.Release.{less_used}
use Rattle.machine.specs.Reset.{empty_table}
use Rattle.shape_kept.specs.Sized.{Sized}
use Rattle.shape_kept.proofs.Sums.{sum_put, sum_without}

-- the used counts of the first n blocks
abbrev pub used_sum : State → ℕ → ℕ
used_sum s n = sum n (λ i. (block_at s i).used)

-- ---- a block's record is replaced
module _ (s : State) (z : Sized s) (j : ℕ) (b : Block) (h : j < 64) where
  pub put_block_lem : block_at (put_block s j b) j ≡ b
  put_block_lem = get_or-set_same s.blocks j b zero_block (omega (arith, z.blocks))

  pub put_block_other : (i : ℕ) → (i ≡ j → ⊥) → block_at (put_block s j b) i ≡ block_at s i
  put_block_other i ne = get_or-set_other s.blocks j i b zero_block ne

  pub put_block_used : j < s.count → used_sum (put_block s j b) s.count + (block_at s j).used ≡ used_sum s s.count + b.used
  put_block_used l =
      sum_put s.count (λ i. (block_at (put_block s j b) i).used) (λ i. (block_at s i).used) j l (λ i m ne. ap (λ (c : Block). c.used) (put_block_other i ne))
      ∙ ap (λ (c : Block). used_sum s s.count + c.used) put_block_lem

-- ---- a pool's record is replaced: blocks, ages and counts of the state stay, by computing
module _ (s : State) (z : Sized s) (p : ℕ) (q : Pool) where
  pub put_pool_lem : p < 3 → pool_at (put_pool s p q) p ≡ q
  put_pool_lem h = get_or-set_same s.pools p q (fresh_pool 0) (omega (arith, z.pools))

  pub put_pool_other : (o : ℕ) → (o ≡ p → ⊥) → pool_at (put_pool s p q) o ≡ pool_at s o
  put_pool_other o ne = get_or-set_other s.pools p o q (fresh_pool 0) ne

-- ---- n units of block j, whose record becomes b, are no longer used
module _ (s : State) (z : Sized s) (j : ℕ) (b : Block) (n : ℕ) (h : j < 64) where
  pub less_block : block_at (less_used s j b n) j ≡ b
  less_block = put_block_lem s z j b h

  pub less_block_other : (i : ℕ) → (i ≡ j → ⊥) → block_at (less_used s j b n) i ≡ block_at s i
  less_block_other i ne = put_block_other s z j b h i ne

  pub less_pool : (block_at s j).pool < 3 → pool_at (less_used s j b n) (block_at s j).pool
      ≡ with_counts (pool_at s (block_at s j).pool) (pool_at s (block_at s j).pool).empty ((pool_at s (block_at s j).pool).used - n)
  less_pool l = put_pool_lem s z (block_at s j).pool _ l

  pub less_pool_other : (o : ℕ) → (o ≡ (block_at s j).pool → ⊥) → pool_at (less_used s j b n) o ≡ pool_at s o
  less_pool_other o ne = put_pool_other s z (block_at s j).pool _ o ne

  pub less_used_lem : j < s.count → used_sum (less_used s j b n) s.count + (block_at s j).used ≡ used_sum s s.count + b.used
  less_used_lem l = put_block_used s z j b h l

-- ---- a block enters: it is the newest
module _ (s : State) (z : Sized s) (b : Block) where
  pub inserted_new : s.count < 64 → block_at (inserted s b) s.count ≡ b
  inserted_new h = get_or-set_same s.blocks s.count b zero_block (omega (arith, z.blocks))

  pub inserted_old : (i : ℕ) → (i ≡ s.count → ⊥) → block_at (inserted s b) i ≡ block_at s i
  inserted_old i ne = get_or-set_other s.blocks s.count i b zero_block ne

  pub inserted_age : (k : ℕ) → k < 64 → age_at (inserted s b) k ≡ moved_up s.order (place_of s b) s.count k
  inserted_age k l =
      get_or-list_from 0 64 (moved_up s.order (place_of s b) s.count) 0 k l ∙ ap (moved_up s.order (place_of s b) s.count) (zero-add k)

  pub inserted_pool : b.pool < 3 → pool_at (inserted s b) b.pool ≡ with_blocks (pool_at s b.pool) ((pool_at s b.pool).blocks + 1) ((pool_at s b.pool).area + b.area)
  inserted_pool l = get_or-set_same s.pools b.pool _ (fresh_pool 0) (omega (arith, z.pools))

  pub inserted_pool_other : (o : ℕ) → (o ≡ b.pool → ⊥) → pool_at (inserted s b) o ≡ pool_at s o
  inserted_pool_other o ne = get_or-set_other s.pools b.pool o _ (fresh_pool 0) ne

  pub inserted_used : s.count < 64 → used_sum (inserted s b) (s.count + 1) ≡ used_sum s s.count + b.used
  inserted_used h =
      sum_more s.count (λ i. (block_at (inserted s b) i).used)
      ∙ omega (
        arith,
        sum_same s.count (λ i. (block_at (inserted s b) i).used) (λ i. (block_at s i).used) (λ i l. ap (λ (c : Block). c.used) (inserted_old i (λ e. omega arith))),
        ap (λ (c : Block). c.used) (inserted_new h),
      )

-- ---- the block of age j leaves: those behind it move up
module _ (s : State) (z : Sized s) (j : ℕ) where
  pub removed_block : (k : ℕ) → k < 64 → block_at (removed s j) k ≡ block_at s (past j k)
  removed_block k l =
      get_or-list_from 0 64 (λ i. get_or s.blocks (past j i) zero_block) zero_block k l ∙ ap (λ (i : ℕ). get_or s.blocks (past j i) zero_block) (zero-add k)

  pub removed_age : (k : ℕ) → k < 64 → age_at (removed s j) k ≡ fallen j (age_at s (past (place_of_age s j) k))
  removed_age k l =
      get_or-list_from 0 64 (λ i. fallen j (get_or s.order (past (place_of_age s j) i) 0)) 0 k l
      ∙ ap (λ (i : ℕ). fallen j (get_or s.order (past (place_of_age s j) i) 0)) (zero-add k)

  pub removed_pool : (block_at s j).pool < 3 → pool_at (removed s j) (block_at s j).pool
      ≡ with_blocks (pool_at s (block_at s j).pool) ((pool_at s (block_at s j).pool).blocks - 1) ((pool_at s (block_at s j).pool).area - (block_at s j).area)
  removed_pool l = get_or-set_same s.pools (block_at s j).pool _ (fresh_pool 0) (omega (arith, z.pools))

  pub removed_pool_other : (o : ℕ) → (o ≡ (block_at s j).pool → ⊥) → pool_at (removed s j) o ≡ pool_at s o
  removed_pool_other o ne = get_or-set_other s.pools (block_at s j).pool o _ (fresh_pool 0) ne

  pub removed_used : j < s.count → s.count ≤ 64 → used_sum (removed s j) (s.count - 1) + (block_at s j).used ≡ used_sum s s.count
  removed_used h few =
      ap (λ (n : ℕ). n + (block_at s j).used)
      (sum_same (s.count - 1) (λ k. (block_at (removed s j) k).used) (λ k. (block_at s (past j k)).used) (λ k l. ap (λ (c : Block). c.used) (removed_block k (omega arith))))
      ∙ sum_without s.count (λ i. (block_at s i).used) j h

-- ---- all blocks go
module _ (s : State) where
  pub empty_block : (i : ℕ) → block_at (empty_table s) i ≡ zero_block
  empty_block i = get_or-replicate 64 zero_block i

  pub empty_age : (k : ℕ) → age_at (empty_table s) k ≡ 0
  empty_age k = get_or-replicate 64 0 k

  pub empty_pool : (p : ℕ) → p < 3 → pool_at (empty_table s) p ≡ fresh_pool s.granularity
  empty_pool p h = get_or-replicate_in 3 p (fresh_pool s.granularity) (fresh_pool 0) h

  pub empty_used : used_sum (empty_table s) 0 ≡ 0
  unfolding sum
  empty_used = refl
