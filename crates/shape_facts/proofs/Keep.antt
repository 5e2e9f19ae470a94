-- A block's record is replaced by one that lies in the same place and has the same counts: the state keeps its shape. Assumes nothing.
use Prim.Native.Nat.{ℕ, ◌≤◌, ◌<◌}
use mathlib.Core.Bool.{Bool, true, ◌&&◌}
use mathlib.Core.Path.{◌≡◌, sym, ap, ap₂, subst, ◌∙◌}
use native.Mathlib.Omega.{arith}
use lib.Dec.{eqb}
use lib.ListN.{length, length-set}
use lib.Seq.{get_or-set_same, get_or-set_other}
use Rattle.numbers.specs.Pick.{pick}
use Rattle.numbers.proofs.Split.{by_eq}
use Rattle.block.specs.declared.Block.{Block}
use Rattle.block.proofs.LiesAs.{LiesAs, lies_refl, lies_trans}
use Rattle.sizes.specs.declared.Pool.{Pool}
use Rattle.state.specs.declared.State.{State}
use Rattle.state.specs.Table.{zero_block, block_at, age_at, one, only}
use Rattle.state.specs.Shape.{is_empty, in_pool, is_zero}
use Rattle.state.proofs.Tests.{sum_same}
use Rattle.shape.specs.Parts.{pool_sum}
use Rattle.shape.specs.Facts.{Headed, ShapedBlockIn}
use Rattle.shape.specs.Shaped.{Shaped, Enough}
use Rattle.shape.proofs.Shaped.{shaped_is}
use Rattle.shape.proofs.Enough.{enough_good}
use Rattle.machine.specs.Turn.{put_block}

-- two records of one block: where it lies, its slot and pool, its counts and whether it is flagged empty are the same
pub record Same (b c : Block) : Type 0 where
  pub lies : LiesAs b c
  pub used : b.used ≡ c.used
  pub empty : is_empty b ≡ is_empty c

pub same_refl : {b c : Block} → b ≡ c → Same b c
same_refl e = record { lies = lies_refl e; used = ap (λ (x : Block). x.used) e; empty = ap is_empty e }

pub same_trans : {a b c : Block} → Same a b → Same b c → Same a c
same_trans x y = record { lies = lies_trans x.lies y.lies; used = x.used ∙ y.used; empty = x.empty ∙ y.empty }

module _ (s : State) (j : ℕ) (c : Block) (len : length s.blocks ≡ 64) where
  -- the blocks afterwards
  pub put_here : j < 64 → block_at (put_block s j c) j ≡ c
  put_here h = get_or-set_same s.blocks j c zero_block (omega (arith, len))

  pub put_there : (i : ℕ) → (i ≡ j → ⊥) → block_at (put_block s j c) i ≡ block_at s i
  put_there i ne = get_or-set_other s.blocks j i c zero_block ne

  pub put-length : length (put_block s j c).blocks ≡ 64
  put-length = length-set s.blocks j c ∙ len

  module _ (u t : ℕ) (f : Shaped s u t) (h : j < s.count) (like : Same c (block_at s j)) (sound : ShapedBlockIn s c) where
    below : j < 64
    below = omega (arith, f.head.count_slots, f.head.slots_high)

    -- block i is what it was, but for its window
    alike : (i : ℕ) → Same (block_at (put_block s j c) i) (block_at s i)
    alike i =
        by_eq i j
        (λ e. subst (λ (k : ℕ). Same (block_at (put_block s j c) k) (block_at s k)) (sym e) (same_trans (same_refl (put_here below)) like))
        (λ ne. same_refl (put_there i ne))

    in_pool_lem : (p i : ℕ) → in_pool (put_block s j c) p i ≡ in_pool s p i
    in_pool_lem p i = ap (λ (q : ℕ). eqb q p) (alike i).lies.pool

    sums : (p : ℕ) → pool_sum (put_block s j c) s.count p ≡ pool_sum s s.count p
    sums p =
        let blocks = sum_same s.count (λ i. one (in_pool (put_block s j c) p i)) (λ i. one (in_pool s p i)) (λ i l. ap one (in_pool_lem p i)) in
        let empty = sum_same s.count (λ i. one (in_pool (put_block s j c) p i && is_empty (block_at (put_block s j c) i))) (λ i. one (in_pool s p i && is_empty (block_at s i)))
        (λ i l. ap₂ (λ (a b : Bool). one (a && b)) (in_pool_lem p i) (alike i).empty) in
        let area = sum_same s.count (λ i. only (in_pool (put_block s j c) p i) (block_at (put_block s j c) i).area) (λ i. only (in_pool s p i) (block_at s i).area)
        (λ i l. ap₂ (λ (a : Bool) (n : ℕ). only a n) (in_pool_lem p i) (alike i).lies.area) in
        let used = sum_same s.count (λ i. only (in_pool (put_block s j c) p i) (block_at (put_block s j c) i).used) (λ i. only (in_pool s p i) (block_at s i).used)
        (λ i l. ap₂ (λ (a : Bool) (n : ℕ). only a n) (in_pool_lem p i) (alike i).used) in
        pool_of s.granularity blocks empty area used
      where
        pool_of : (g : ℕ) {a b a' b' a'' b'' a''' b''' : ℕ} → a ≡ b → a' ≡ b' → a'' ≡ b'' → a''' ≡ b'''
            → ◌≡◌ {A = Pool} (record { granularity = g; blocks = a; empty = a'; area = a''; used = a''' }) (record { granularity = g; blocks = b; empty = b'; area = b''; used = b''' })
        pool_of g p q r s = cc

    head_kept : Headed (put_block s j c)
    head_kept = record {
      size_good = f.head.size_good;
      size_low = f.head.size_low;
      size_high = f.head.size_high;
      g_listed = f.head.g_listed;
      g_low = f.head.g_low;
      g_high = f.head.g_high;
      pools_listed = f.head.pools_listed;
      pools_low = f.head.pools_low;
      pools_high = f.head.pools_high;
      w_low = f.head.w_low;
      w_high = f.head.w_high;
      arena_low = f.head.arena_low;
      arena_whole = f.head.arena_whole;
      length_low = f.head.length_low;
      length_whole = f.head.length_whole;
      top = f.head.top;
      slots_low = f.head.slots_low;
      slots_high = f.head.slots_high;
      count_slots = f.head.count_slots;
    }

    enough : Enough (put_block s j c) u t
    enough = record {
      head = head_kept;
      lent = record { used_room = f.lent.used_room; stop_room = f.lent.stop_room };
      sound = λ i l. by_eq i j
          (λ e. subst (λ (k : ℕ). ShapedBlockIn s (block_at (put_block s j c) k)) (sym e) (subst (ShapedBlockIn s) (sym (put_here below)) sound))
          (λ ne. subst (ShapedBlockIn s) (sym (put_there i ne)) (f.sound i l));
      slots_apart = λ i k l m e. f.slots_apart i k l m (sym (alike i).lies.slot ∙ e ∙ (alike k).lies.slot);
      pools = λ p l. f.pools p l ∙ sym (sums p);
      empties = λ p l. subst (λ (n : ℕ). n ≤ pick s.immediate 0 1) (sym (ap (λ (q : Pool). q.empty) (sums p))) (f.empties p l);
      live = omega (arith, f.live, sum_same s.count (λ i. (block_at (put_block s j c) i).used) (λ i. (block_at s i).used) (λ i l. (alike i).used));
      age_low = f.age_low;
      next = λ i k e l.
          let a = (alike (age_at s i)).lies in
          let b = (alike (age_at s k)).lies in
          omega (arith, a.base, a.size, b.base, f.behind i k (omega arith) l);
      zeros = λ i l m. subst (λ (b : Block). is_zero b ≡ true) (sym (put_there i (λ e. omega arith))) (f.zeros i l m);
      zero_ages = f.zero_ages;
    }

    -- the state keeps its shape
    pub put_shaped : Shaped (put_block s j c) u t
    put_shaped = shaped_is (put_block s j c) u t (enough_good (put_block s j c) u t enough)
