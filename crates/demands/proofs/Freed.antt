-- Used and empty counts after a marking and after a release. Assumes nothing.
use Prim.Native.Nat.{ℕ, ◌+◌, ◌-◌, ◌<◌}
use mathlib.Core.List.{List}
use mathlib.Core.Path.{◌≡◌, refl, sym, ap, subst, ◌∙◌}
use lib.Dec.{eqb}
use borrow.Author.Tests.{eqb-true}
use Rattle.numbers.proofs.Bools.{picked}
use Rattle.block.specs.declared.Block.{Block}
use Rattle.block.specs.Marking.{marked, released, emptied, widened}
use Rattle.sizes.specs.declared.Pool.{Pool}
use Rattle.state.specs.declared.State.{State}
use Rattle.state.specs.Table.{block_at, pool_at, one}
use Rattle.state.specs.Shape.{is_empty}
use Rattle.machine.specs.Turn.{with_live}
use Rattle.machine.specs.Alloc.{alloc_marked}
use Rattle.machine.specs.Release.{less_used}
use Rattle.shape_kept.specs.Sized.{Sized}
use Rattle.shape_kept.proofs.After.{put_pool_lem}

pub marked_used : (b : Block) (i e : ℕ) → (marked b i e).used ≡ b.used + (e - i)
unfolding marked
marked_used b i e = picked (λ (c : Block). c.used ≡ b.used + (e - i)) (eqb (b.used + (e - i)) b.area) _ _ (λ q. refl) (λ q. refl)

pub released_used : (b : Block) (i e : ℕ) → (released b i e).used ≡ b.used - (e - i)
unfolding released
released_used b i e =
    picked (λ (c : Block). c.used ≡ b.used - (e - i)) (eqb (b.used - (e - i)) 0) (emptied b) (widened b i e) (λ q. sym (eqb-true (b.used - (e - i)) 0 q)) (λ q. refl)

-- ---- a span marked in block j
module _ (s : State) (z : Sized s) (u t : List ℕ) (j i n : ℕ) where
  pub marked_empty : (block_at s j).pool < 3
      → (pool_at (alloc_marked s u t j i n).state (block_at s j).pool).empty ≡ (pool_at s (block_at s j).pool).empty - one (is_empty (block_at s j))
  marked_empty h = ap (λ (q : Pool). q.empty) (put_pool_lem s z (block_at s j).pool _ h)

-- ---- units of block j made free, whose record becomes c
abbrev pub less : State → ℕ → ℕ → ℕ → Block → State
less s j n live c = with_live (less_used s j c n) live

pub freed_empty : (s : State) → Sized s → (j n live : ℕ) (c : Block) (p : ℕ) → p ≡ (block_at s j).pool → p < 3
    → (pool_at (less s j n live c) p).empty ≡ (pool_at s (block_at s j).pool).empty
freed_empty s z j n live c p e h =
    ap (λ (k : ℕ). (pool_at (less s j n live c) k).empty) e
    ∙ ap (λ (q : Pool). q.empty) (put_pool_lem s z (block_at s j).pool _ (subst (λ (k : ℕ). k < 3) e h))
