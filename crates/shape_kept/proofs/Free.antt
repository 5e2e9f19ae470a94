-- Units of a span are made free: the shape stays good, but for the live count. Assumes nothing.
use Prim.Native.Nat.{ℕ, ◌-◌, ◌≤◌, ◌<◌}
use mathlib.Core.Bool.{Bool, true, false}
use mathlib.Core.Path.{◌≡◌, refl, sym, ap, subst, ◌∙◌}
use native.Mathlib.Omega.{arith}
use borrow.Author.Tests.{leb-true}
use lib.ListN.{set}
use Rattle.numbers.specs.Pick.{pick}
use Rattle.block.specs.declared.Block.{Block}
use Rattle.sizes.specs.declared.Pool.{Pool}
use Rattle.state.specs.declared.State.{State}
use Rattle.state.specs.Table.{block_at, pool_at, sum, one}
use Rattle.state.specs.Shape.{is_empty, live_ok, good_shape}
use Rattle.state.specs.Change.{removed, with_blocks, past}
use Rattle.shape.specs.Shaped.{Shaped}
use Rattle.shape_facts.proofs.Facts.{count_64, pool_3}
use Rattle.shape_facts.proofs.Leaves.{pool_blocks, pool_area, pool_used}
use Rattle.machine.specs.Turn.{put_pool, with_live, with_counts}
use Rattle.machine.specs.Release.{less_used}
use Rattle.shape_kept.specs.Sized.{Sized}
use Rattle.shape_kept.proofs.Sums.{past-ne}
use Rattle.shape_kept.proofs.After.{less_block, less_block_other, less_pool, less_pool_other, put_pool_lem, put_pool_other, removed_block, removed_age, removed_pool, removed_pool_other}
use Rattle.shape_kept.proofs.Sized.{sized_less, sized_live}
use Rattle.shape_kept.proofs.Pools.{Recounted, empties_before}
use Rattle.shape_kept.proofs.Put.{put_good}
use Rattle.shape_kept.proofs.Leave.{leave_good}
use Rattle.shape_kept.proofs.Records.{Changed}

-- block j's record becomes c, with n units less in use; no flag tells that the block was empty
module _ (s : State) (v w : ℕ) (f : Shaped s v w) (z : Sized s) (j : ℕ) (h : j < s.count) (c : Block) (n live : ℕ) (some : 0 < n) (counted : n ≤ (block_at s j).used) where
  abbrev b : Block
  b = block_at s j

  abbrev p : ℕ
  p = b.pool

  abbrev less : Pool
  less = with_counts (pool_at s p) (pool_at s p).empty ((pool_at s p).used - n)

  abbrev after : State
  after = with_live (less_used s j c n) live

  low : j < 64
  low = omega (arith, h, count_64 s v w f)

  p_low : p < 3
  p_low = pool_3 s v w f j h

  was_used : is_empty b ≡ false
  was_used = go (is_empty b) (f.sound j h).empty_unused
    where
      go : (e : Bool) → (e ≡ true → b.used ≡ 0) → e ≡ false
      go true g = absurd (omega (arith, g refl))
      go false g = refl

  -- ---- the block stays in use
  pub less_good : Changed s b c (b.used - n) false → live_ok after ≡ true → good_shape after v w ≡ true
  less_good k enough =
      put_good s v w f j h c live (set s.blocks j c) (set s.pools p less) (less_block s z j c n low) (less_block_other s z j c n low) k.lies k.sound
      (subst (λ (x : Pool). Recounted (pool_at s p) x b c) (sym (less_pool s z j c n low p_low)) recount)
      (less_pool_other s z j c n low)
      (subst (λ (x : Pool). x.empty ≤ pick s.immediate 0 1) (sym (less_pool s z j c n low p_low)) (empties_before s v w f p p_low))
      (leb-true live (sum s.count (λ i. (block_at after i).used)) enough)
    where
      recount : Recounted (pool_at s p) less b c
      recount = record {
        granularity = refl;
        blocks = refl;
        empty = omega (arith, ap one was_used, ap one k.empty_is);
        area = refl;
        used = omega (arith, k.used_is, counted, pool_used s v w f j h);
      }

  -- ---- nothing of it is in use any more
  module _ (all : b.used ≡ n) (k : Changed s b c 0 true) where
    now_block : block_at after j ≡ c
    now_block = less_block s z j c n low

    now_of : (block_at after j).pool ≡ p
    now_of = ap (λ (x : Block). x.pool) now_block ∙ k.lies.pool

    now_pool : pool_at after (block_at after j).pool ≡ less
    now_pool = ap (pool_at after) now_of ∙ less_pool s z j c n low p_low

    now_sized : Sized after
    now_sized = sized_live (less_used s j c n) (sized_less s z j c n) live

    -- it is the pool's empty block
    abbrev one_empty : Pool
    one_empty = with_counts (pool_at after (block_at after j).pool) 1 (pool_at after (block_at after j).pool).used

    pub kept_good : (pool_at after (block_at after j).pool).empty ≡ 0 → s.immediate ≡ false
        → live_ok (put_pool after (block_at after j).pool one_empty) ≡ true → good_shape (put_pool after (block_at after j).pool one_empty) v w ≡ true
    kept_good none off enough =
        put_good s v w f j h c live (set s.blocks j c) (set (set s.pools p less) (block_at after j).pool one_empty) now_block
        (less_block_other s z j c n low) k.lies k.sound
        (subst (λ (x : Pool). Recounted (pool_at s p) x b c) (sym own) recount)
        (λ o ne. put_pool_other after now_sized (block_at after j).pool one_empty o (λ e. ne (e ∙ now_of)) ∙ less_pool_other s z j c n low o ne)
        (subst (λ (x : Pool). x.empty ≤ pick s.immediate 0 1) (sym own) (subst (λ (x : Bool). 1 ≤ pick x 0 1) (sym off) (omega arith)))
        (leb-true live (sum s.count (λ i. (block_at after i).used)) enough)
      where
        own : pool_at (put_pool after (block_at after j).pool one_empty) p ≡ one_empty
        own =
            ap (pool_at (put_pool after (block_at after j).pool one_empty)) (sym now_of)
            ∙ put_pool_lem after now_sized (block_at after j).pool one_empty (omega (arith, now_of, p_low))

        recount : Recounted (pool_at s p) one_empty b c
        recount = record {
          granularity = ap (λ (x : Pool). x.granularity) now_pool;
          blocks = ap (λ (x : Pool). x.blocks) now_pool;
          empty = omega (arith, ap one was_used, ap one k.empty_is, none, ap (λ (x : Pool). x.empty) now_pool);
          area = ap (λ (x : Pool). x.area) now_pool;
          used = omega (arith, ap (λ (x : Pool). x.used) now_pool, k.used_is, counted, pool_used s v w f j h);
        }

    -- or it goes
    pub gone_good : live_ok (removed after j) ≡ true → good_shape (removed after j) v w ≡ true
    gone_good enough =
        leave_good s v w f z j h live (removed after j).blocks (removed after j).order (removed after j).pools
        (λ i l. removed_block after now_sized j i l ∙ less_block_other s z j c n low (past j i) (past-ne j i))
        (removed_age after now_sized j)
        (record {
          granularity = sym (ap (λ (x : Pool). x.granularity) own);
          blocks = omega (arith, ap (λ (x : Pool). x.blocks) own, pool_blocks s v w f j h);
          empty = omega (arith, ap (λ (x : Pool). x.empty) own, ap one was_used);
          area = omega (arith, ap (λ (x : Pool). x.area) own, pool_area s v w f j h);
          used = omega (arith, ap (λ (x : Pool). x.used) own, all, pool_used s v w f j h);
        })
        (λ o ne. removed_pool_other after now_sized j o (λ e. ne (e ∙ now_of)) ∙ less_pool_other s z j c n low o ne)
        (leb-true live (sum (s.count - 1) (λ i. (block_at (removed after j) i).used)) enough)
      where
        own : pool_at (removed after j) p ≡ with_blocks less ((pool_at s p).blocks - 1) ((pool_at s p).area - b.area)
        own =
            ap (pool_at (removed after j)) (sym now_of)
            ∙ removed_pool after now_sized j (omega (arith, now_of, p_low))
            ∙ ap (λ (x : Pool). with_blocks x (x.blocks - 1) (x.area - (block_at after j).area)) now_pool
            ∙ ap (λ (a : ℕ). with_blocks less ((pool_at s p).blocks - 1) ((pool_at s p).area - a)) (ap (λ (x : Block). x.area) now_block ∙ k.lies.area)
