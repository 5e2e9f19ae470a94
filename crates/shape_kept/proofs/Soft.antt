-- What a soft reset keeps: each pool's oldest block, as at used count 0, in the order of their ages. Assumes nothing.
use Prim.Native.Nat.{ℕ, zero, suc, ◌+◌, ◌≤◌, ◌<◌}
use mathlib.Core.Bool.{true, false}
use mathlib.Core.Path.{◌≡◌, refl, sym, ap, ◌∙◌}
use native.Mathlib.Omega.{arith}
use borrow.Author.Tests.{eq-eqb, ne_eqb}
use lib.Dec.{eqb}
use Rattle.numbers.specs.Pick.{pick}
use Rattle.numbers.proofs.Bools.{not_both, picked}
use Rattle.numbers.proofs.Split.{by_eq}
use Rattle.block.specs.declared.Block.{Block}
use Rattle.block.specs.Marking.{emptied}
use Rattle.state.specs.declared.State.{State}
use Rattle.state.specs.Table.{block_at, sum}
use Rattle.state.proofs.Tests.{sum_same}
use Rattle.shape.proofs.Pigeon.{sum_none}
use Rattle.machine.specs.Reset.{oldest, keep, kept}
use Rattle.shape_kept.specs.Sized.{Sized}
use Rattle.shape_kept.proofs.After.{inserted_new, inserted_old}
use Rattle.shape_kept.proofs.Sized.{sized_kept_blocks}

-- r holds the oldest blocks of their pools among the first n of s, each of them once, older ones first: block k is what block `from k` was
pub record KeptFrom (s : State) (n : ℕ) (r : State) : Type 0 where
  pub from : ℕ → ℕ
  pub few : r.count ≤ n
  pub is : (k : ℕ) → k < r.count → block_at r k ≡ emptied (block_at s (from k))
  pub low : (k : ℕ) → k < r.count → from k < n
  pub rises : (k l : ℕ) → k < l → l < r.count → from k < from l
  pub old : (k : ℕ) → k < r.count → oldest s (from k) ≡ true
  pub each : (i : ℕ) → i < n → oldest s i ≡ true → (k : ℕ) × (k < r.count) × (from k ≡ i)

module _ (s : State) (n : ℕ) (r : State) (f : KeptFrom s n r) where
  -- a block that isn't its pool's oldest goes
  skip : oldest s n ≡ false → KeptFrom s (suc n) r
  skip e = record {
    from = f.from;
    few = omega (arith, f.few);
    is = f.is;
    low = λ k l. omega (arith, f.low k l);
    rises = f.rises;
    old = f.old;
    each = λ i l o. by_eq i n (λ q. absurd (not_both (oldest s n) (sym (ap (oldest s) q) ∙ o) e)) (λ ne. f.each i (omega (arith, ne)) o);
  }

  module _ (z : Sized r) (h : n < 64) (e : oldest s n ≡ true) where
    abbrev source : ℕ → ℕ
    source k = pick (eqb k r.count) n (f.from k)

    source_new : source r.count ≡ n
    source_new = rw (eq-eqb r.count r.count refl)

    source_old : (k : ℕ) → (k ≡ r.count → ⊥) → source k ≡ f.from k
    source_old k ne = rw (ne_eqb k r.count ne)

    block_is : (k : ℕ) → k < r.count + 1 → block_at (keep r (block_at s n)) k ≡ emptied (block_at s (source k))
    block_is k l =
        by_eq k r.count
        (λ q.
        ap (λ (i : ℕ). block_at (keep r (block_at s n)) i) q ∙ inserted_new r z (emptied (block_at s n)) (omega (arith, f.few))
        ∙ ap (λ (i : ℕ). emptied (block_at s i)) (sym (ap source q ∙ source_new)))
        (λ ne.
        inserted_old r z (emptied (block_at s n)) k ne ∙ f.is k (omega (arith, ne)) ∙ ap (λ (i : ℕ). emptied (block_at s i)) (sym (source_old k ne)))

    source_low : (k : ℕ) → k < r.count + 1 → source k < suc n
    source_low k l =
        by_eq k r.count (λ q. omega (arith, ap source q ∙ source_new)) (λ ne. omega (arith, source_old k ne, f.low k (omega (arith, ne))))

    more : KeptFrom s (suc n) (keep r (block_at s n))
    more = record {
      from = source;
      few = omega (arith, f.few);
      is = block_is;
      low = source_low;
      rises = λ k l a b.
          let was = source_old k (λ q. omega arith) in
          by_eq l r.count
          (λ q. omega (arith, ap source q ∙ source_new, was, f.low k (omega arith)))
          (λ ne. omega (arith, was, source_old l ne, f.rises k l a (omega (arith, ne))));
      old = λ k l. by_eq k r.count (λ q. ap (oldest s) (ap source q ∙ source_new) ∙ e)
          (λ ne. ap (oldest s) (source_old k ne) ∙ f.old k (omega (arith, ne)));
      each = λ i l o. by_eq i n (λ q. (r.count, omega arith, source_new ∙ sym q))
          (λ ne.
          let w = f.each i (omega (arith, ne)) o in
          (w.0, omega (arith, w.1), source_old w.0 (λ q. omega (arith, w.1)) ∙ w.2));
    }

pub kept_from : (s : State) (n : ℕ) → n ≤ 64 → KeptFrom s n (kept s n)
unfolding kept
kept_from s zero h = record {
  from = λ k. k;
  few = omega arith;
  is = λ k l. absurd (omega arith);
  low = λ k l. absurd (omega arith);
  rises = λ k l a b. absurd (omega arith);
  old = λ k l. absurd (omega arith);
  each = λ i l o. absurd (omega arith);
}
kept_from s (suc n) h =
    picked (KeptFrom s (suc n)) (oldest s n) (keep (kept s n) (block_at s n)) (kept s n)
    (λ e. more s n (kept s n) (kept_from s n (omega arith)) (sized_kept_blocks s n) (omega arith) e)
    (λ e. skip s n (kept s n) (kept_from s n (omega arith)) e)

-- nothing is used
zeros : (n : ℕ) (f : ℕ → ℕ) → ((i : ℕ) → i < n → f i ≡ 0) → sum n f ≡ 0
zeros n f h = sum_same n f (λ i. 0) h ∙ sum_none n (λ i. false) (λ k l. refl)

pub kept_used : (s : State) (n : ℕ) → n ≤ 64 → sum (kept s n).count (λ i. (block_at (kept s n) i).used) ≡ 0
kept_used s n h = zeros (kept s n).count (λ i. (block_at (kept s n) i).used) (λ i l. ap (λ (b : Block). b.used) ((kept_from s n h).is i l))
