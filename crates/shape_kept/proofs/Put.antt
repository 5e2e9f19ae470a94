-- A block's record and its pool's are replaced: if the block lies where it lay and the pool counts it, the shape stays good. Assumes nothing.
use Prim.Native.Nat.{ℕ, ◌+◌, ◌≤◌, ◌<◌}
use mathlib.Core.Bool.{true}
use mathlib.Core.List.{List}
use mathlib.Core.Path.{◌≡◌, refl, sym, ap, subst, ◌∙◌}
use native.Mathlib.Omega.{arith}
use lib.ListN.{get_or}
use Rattle.numbers.specs.Pick.{pick}
use Rattle.numbers.proofs.Split.{by_eq}
use Rattle.block.specs.declared.Block.{Block}
use Rattle.block.proofs.LiesAs.{LiesAs, lies_refl, lies_trans}
use Rattle.sizes.specs.declared.Pool.{Pool}
use Rattle.sizes.specs.Pools.{fresh_pool}
use Rattle.state.specs.declared.State.{State}
use Rattle.state.specs.Table.{zero_block, block_at, age_at, pool_at, sum}
use Rattle.state.specs.Shape.{is_zero, good_shape}
use Rattle.state.specs.Change.{with_rest}
use Rattle.shape.specs.Parts.{pool_sum}
use Rattle.shape.specs.Facts.{ShapedBlockIn}
use Rattle.shape.specs.Shaped.{Shaped}
use Rattle.shape.proofs.Enough.{enough_good}
use Rattle.shape_kept.proofs.Sums.{sum_put}
use Rattle.shape_kept.proofs.Head.{head_kept, lent_kept}
use Rattle.shape_kept.proofs.Pools.{blocks_in, empty_in, area_in, used_in, adds, Recounted, recounted, pool_after, empties_after, few_after}

module _ (s : State) (u t : ℕ) (f : Shaped s u t) (j : ℕ) (h : j < s.count) (b : Block) (live : ℕ) (blocks : List Block) (pool : List Pool)
    (here : get_or blocks j zero_block ≡ b) (there : (i : ℕ) → (i ≡ j → ⊥) → get_or blocks i zero_block ≡ block_at s i)
    (lies : LiesAs b (block_at s j)) (sound : ShapedBlockIn s b)
    (own : Recounted (pool_at s (block_at s j).pool) (get_or pool (block_at s j).pool (fresh_pool 0)) (block_at s j) b)
    (other : (p : ℕ) → (p ≡ (block_at s j).pool → ⊥) → get_or pool p (fresh_pool 0) ≡ pool_at s p)
    (few : (get_or pool (block_at s j).pool (fresh_pool 0)).empty ≤ pick s.immediate 0 1) where
  abbrev after : State
  after = with_rest s live s.count blocks s.order pool

  -- block i is where it was
  lie : (i : ℕ) → LiesAs (get_or blocks i zero_block) (block_at s i)
  lie i =
      by_eq i j
      (λ e. subst (λ (k : ℕ). LiesAs (get_or blocks k zero_block) (block_at s k)) (sym e) (lies_trans (lies_refl here) lies))
      (λ ne. lies_refl (there i ne))

  block_sound : (i : ℕ) → i < s.count → ShapedBlockIn s (get_or blocks i zero_block)
  block_sound i l =
      by_eq i j
      (λ e. subst (λ (k : ℕ). ShapedBlockIn s (get_or blocks k zero_block)) (sym e) (subst (ShapedBlockIn s) (sym here) sound))
      (λ ne. subst (ShapedBlockIn s) (sym (there i ne)) (f.sound i l))

  -- a sum over all blocks of what each adds
  moved : (g : Block → ℕ) → sum s.count (λ i. g (get_or blocks i zero_block)) + g (block_at s j) ≡ sum s.count (λ i. g (block_at s i)) + g b
  moved g =
      sum_put s.count (λ i. g (get_or blocks i zero_block)) (λ i. g (block_at s i)) j h (λ i l ne. ap g (there i ne))
      ∙ ap (λ (c : Block). sum s.count (λ i. g (block_at s i)) + g c) here

  pools_are : (p : ℕ) → p < 3 → pool_at after p ≡ pool_sum after s.count p
  pools_are p l =
      pool_after s after p (adds p (block_at s j)) (adds p b) refl (f.pools p l)
      (recounted p (pool_at s p) (get_or pool p (fresh_pool 0)) (block_at s j) b lies.pool lies.area
      (λ e. subst (λ (q : ℕ). Recounted (pool_at s q) (get_or pool q (fresh_pool 0)) (block_at s j) b) e own) (λ ne. other p (λ e. ne (sym e))))
      (moved (blocks_in p)) (moved (empty_in p)) (moved (area_in p)) (moved (used_in p))

  pub put_good : live ≤ sum s.count (λ i. (get_or blocks i zero_block).used) → good_shape after u t ≡ true
  put_good enough =
      enough_good after u t (record {
        head = head_kept s live s.count blocks s.order pool f.head f.head.count_slots;
        lent = lent_kept s live s.count blocks s.order pool u t f.lent;
        sound = block_sound;
        slots_apart = λ i k l m e. f.slots_apart i k l m (sym (lie i).slot ∙ e ∙ (lie k).slot);
        pools = pools_are;
        empties = λ p l. empties_after after p (pools_are p l) (few_after s u t f pool (block_at s j).pool other few p l);
        live = enough;
        age_low = f.age_low;
        next = λ i k e l.
            let a = lie (age_at s i) in
            let c = lie (age_at s k) in
            omega (arith, a.base, a.size, c.base, f.behind i k (omega arith) l);
        zeros = λ i l m. subst (λ (c : Block). is_zero c ≡ true) (sym (there i (λ e. omega arith))) (f.zeros i l m);
        zero_ages = f.zero_ages;
      })
