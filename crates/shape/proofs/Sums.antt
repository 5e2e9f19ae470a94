-- A pool's sums over its blocks: with one block more, their bounds, and the comparison of the empty count. Assumes nothing.
use Prim.Native.Nat.{ℕ, ◌+◌, ◌≤◌}
use mathlib.Core.Path.{◌≡◌, refl, sym}
use mathlib.Core.Bool.{Bool, true, false}
use native.Mathlib.Omega.{arith}
use lib.Dec.{leb, eqb}
use borrow.Author.Tests.{leb-true, eqb-true, eq-eqb, ne_eqb, le-leb}
use Rattle.numbers.proofs.Bools.{same_test}
use Rattle.state.specs.Table.{one, block_at, sum, only}
use native.Mathlib.Nat.{add-zero}
use Rattle.sizes.specs.Pools.{fresh_pool}
use Rattle.state.specs.declared.State.{State}
use Rattle.state.proofs.Tests.{sum_more}
use Rattle.shape.specs.Parts.{counted, pool_sum}

pub none_at_most : (n : ℕ) → eqb n 0 ≡ leb n 0
none_at_most n =
    same_test (eqb n 0) (leb n 0) (λ e. le-leb n 0 (omega (arith, eqb-true n 0 e))) (λ e. eq-eqb n 0 (omega (arith, leb-true n 0 e)))

pub one-le : (b : Bool) → one b ≤ 1
one-le true = omega arith
one-le false = omega arith

pub only-le : (b : Bool) (n m : ℕ) → n ≤ m → only b n ≤ m
only-le true n m h = h
only-le false n m h = omega arith

-- ---- no block, and one block more, in its pool and in another
pub no_sums : (s : State) (p : ℕ) → fresh_pool s.granularity ≡ pool_sum s 0 p
unfolding sum
no_sums s p = refl

pub sum_in : (s : State) (i p : ℕ) → (block_at s i).pool ≡ p → counted (pool_sum s i p) (block_at s i) ≡ pool_sum s (i + 1) p
sum_in s i p e = let t : eqb (block_at s i).pool p ≡ true = eq-eqb (block_at s i).pool p e in sym (simp (sum_more, t))

pub sum_out : (s : State) (i p : ℕ) → ((block_at s i).pool ≡ p → ⊥) → pool_sum s i p ≡ pool_sum s (i + 1) p
sum_out s i p ne = let t : eqb (block_at s i).pool p ≡ false = ne_eqb (block_at s i).pool p ne in sym (simp (sum_more, t, add-zero))
