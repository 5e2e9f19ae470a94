-- A span is marked in a block that has room for it: the shape stays good, and the live count stays at or below the used units. Assumes nothing.
use Prim.Native.Nat.{ℕ, ◌+◌, ◌-◌, ◌≤◌, ◌<◌}
use mathlib.Core.Bool.{true, false}
use mathlib.Core.List.{List}
use mathlib.Core.Path.{◌≡◌, refl, sym, ap, subst}
use native.Mathlib.Omega.{arith}
use lib.ListN.{set}
use Rattle.numbers.specs.Pick.{pick}
use Rattle.block.specs.declared.Block.{Block}
use Rattle.block.specs.Marking.{marked}
use Rattle.sizes.specs.declared.Pool.{Pool}
use Rattle.state.specs.declared.State.{State}
use Rattle.state.specs.Table.{block_at, pool_at, one}
use Rattle.state.specs.Shape.{is_empty, good_shape}
use Rattle.shape.specs.Shaped.{Shaped}
use Rattle.shape_facts.proofs.Facts.{count_64, pool_3}
use Rattle.shape_facts.proofs.Search.{Fits}
use Rattle.shape_facts.proofs.Pool.{hit_ready}
use Rattle.machine.specs.Turn.{put_block, put_pool, with_counts}
use Rattle.machine.specs.Alloc.{alloc_marked}
use Rattle.shape_kept.specs.Sized.{Sized}
use Rattle.shape_kept.proofs.After.{put_block_lem, put_block_other, put_block_used, put_pool_lem, put_pool_other}
use Rattle.shape_kept.proofs.Sized.{sized_block}
use Rattle.shape_kept.proofs.Pools.{Recounted, empties_before}
use Rattle.shape_kept.proofs.Put.{put_good}
use Rattle.shape_kept.proofs.Records.{bare, Changed, marked_changed}

module _ (s : State) (v w : ℕ) (f : Shaped s v w) (z : Sized s) (j i n : ℕ) (h : j < s.count) (some : 0 < n) (fits : Fits (block_at s j) n i) where
  abbrev b : Block
  b = block_at s j

  abbrev p : ℕ
  p = b.pool

  abbrev c : Block
  c = marked b i (i + n)

  abbrev q : Pool
  q = with_counts (pool_at s p) ((pool_at s p).empty - one (is_empty b)) ((pool_at s p).used + n)

  low : j < 64
  low = omega (arith, h, count_64 s v w f)

  changed : Changed s b c (b.used + (i + n - i)) false
  changed = marked_changed s b (bare s b (f.sound j h)) i (i + n) (omega arith) fits.high (omega (arith, fits.room))

  counted : Recounted (pool_at s p) q b c
  counted =
      let e : one (is_empty c) ≡ 0 = ap one changed.empty_is in
      record {
        granularity = refl;
        blocks = refl;
        empty = omega (arith, e, (hit_ready s v w f j i n h fits some).empty);
        area = refl;
        used = omega (arith, changed.used_is);
      }

  own : pool_at (put_pool (put_block s j c) p q) p ≡ q
  own = put_pool_lem (put_block s j c) (sized_block s z j c) p q (pool_3 s v w f j h)

  pub mark_good : (u t : List ℕ) → good_shape (alloc_marked s u t j i n).state v w ≡ true
  mark_good u t =
      put_good s v w f j h c (s.live + 1) (set s.blocks j c) (set s.pools p q) (put_block_lem s z j c low) (put_block_other s z j c low) changed.lies changed.sound
      (subst (λ (x : Pool). Recounted (pool_at s p) x b c) (sym own) counted) (put_pool_other (put_block s j c) (sized_block s z j c) p q) few
      (omega (arith, put_block_used s z j c low h, changed.used_is, f.live))
    where
      few : (pool_at (put_pool (put_block s j c) p q) p).empty ≤ pick s.immediate 0 1
      few = subst (λ (x : Pool). x.empty ≤ pick s.immediate 0 1) (sym own) (omega (arith, empties_before s v w f p (pool_3 s v w f j h)))
