-- Laws of the pools. Assumes nothing.
use Prim.Native.Nat.{ℕ, zero, suc, ◌+◌, ◌-◌, ◌*◌, ◌/◌, ◌%◌, ◌^◌, ◌≤◌, ◌<◌}
use mathlib.Core.Path.{◌≡◌, refl, sym, ap, ◌∙◌, subst}
use mathlib.Core.Bool.{true}
use mathlib.Core.Logic.{◌⊎◌, ⊎_elim, ◌↔◌}
use native.Mathlib.Nat.{mul_comm, div-add-mod', mul-mod_left}
use native.Mathlib.Omega.{arith}
use lib.Dec.{eqb}
use lib.Pow.{pow_pos, pow-add, pow_mono}
use borrow.Author.Tests.{eq-eqb, ne_eqb}
use Rattle.numbers.proofs.Bools.{picked}
use Rattle.numbers.proofs.Split.{by_eq}
use Rattle.numbers.proofs.Align.{up_pow}
use Rattle.numbers.proofs.Units.{units_whole}
use Rattle.numbers.specs.Align.{align_up}
use Rattle.numbers.specs.Pick.{pick}
use Rattle.sizes.specs.Limits.{is_granularity}
use Rattle.sizes.specs.Pools.{pool_of}
use Rattle.sizes.proofs.InForce.{granularity_is}

-- rounding up to a power of two changes what is no multiple of it, and nothing else
pub up_same : (x j : ℕ) → j ≤ 64 → x + (2 ^ j - 1) < 2 ^ 64 → (align_up x (2 ^ j) ≡ x) ↔ (x % 2 ^ j ≡ 0)
up_same x j k l = (
  λ e. ap (λ (y : ℕ). y % 2 ^ j) (sym e ∙ up_pow x j k l) ∙ mul-mod_left ((x + (2 ^ j - 1)) / 2 ^ j) (2 ^ j),
  λ e. up_pow x j k l ∙ ap (λ (q : ℕ). q * 2 ^ j) (units_whole x (2 ^ j) (pow_pos j) e) ∙ omega (arith, div-add-mod' x (2 ^ j)),
)

-- the code's test for pool k is document 01's
pub step_test :
    (size g k : ℕ) → size < 2 ^ 32 → is_granularity g ≡ true → k < 3 → eqb (align_up size (g * 2 ^ k)) size ≡ eqb (size % (2 ^ k * g)) 0
step_test size g k s h l =
    subst (λ (y : ℕ). eqb (align_up size y) size ≡ eqb (size % (2 ^ k * g)) 0) (sym is)
    (subst (λ (y : ℕ). eqb (align_up size (2 ^ (j + k))) size ≡ eqb (size % y) 0) (sym is ∙ mul_comm g (2 ^ k)) test)
  where
    j : ℕ
    j = (granularity_is g h).exponent

    is : g * 2 ^ k ≡ 2 ^ (j + k)
    is = ap (λ (y : ℕ). y * 2 ^ k) (granularity_is g h).is ∙ sym (pow-add 2 j k)

    small : j + k ≤ 10
    small = omega (arith, (granularity_is g h).high, l)

    iff : (align_up size (2 ^ (j + k)) ≡ size) ↔ (size % 2 ^ (j + k) ≡ 0)
    iff = up_same size (j + k) (omega (arith, small)) (omega (arith, s, pow_mono small))

    test : eqb (align_up size (2 ^ (j + k))) size ≡ eqb (size % 2 ^ (j + k)) 0
    test =
        by_eq (size % 2 ^ (j + k)) 0 (λ e. eq-eqb _ _ (iff.1 e) ∙ sym (eq-eqb _ _ e))
        (λ n. ne_eqb _ _ (λ e. n (iff.0 e)) ∙ sym (ne_eqb _ _ n))

-- the pool for a size, among those from k down
unfoldable pub pool_from : ℕ → ℕ → ℕ → ℕ
pool_from size g zero = 0
pool_from size g (suc k) = pick (eqb (size % (2 ^ suc k * g)) 0) (suc k) (pool_from size g k)

pub pool_first : (size g pools : ℕ) → (pools ≡ 1) ⊎ (pools ≡ 3) → pool_of size g pools ≡ pool_from size g (pools - 1)
unfolding pool_of pool_from
pool_first size g pools p = ⊎_elim (λ e. rw e refl) (λ e. rw e refl) p

pool_from_le : (size g k : ℕ) → pool_from size g k ≤ k
unfolding pool_from
pool_from_le size g zero = omega arith
pool_from_le size g (suc k) =
    picked (λ (i : ℕ). i ≤ suc k) (eqb (size % (2 ^ suc k * g)) 0) (suc k) (pool_from size g k) (λ e. omega arith)
    (λ e. omega (arith, pool_from_le size g k))

pub few : (pools : ℕ) → (pools ≡ 1) ⊎ (pools ≡ 3) → (0 < pools) × (pools ≤ 3)
few pools p = ⊎_elim (λ e. (omega arith, omega arith)) (λ e. (omega arith, omega arith)) p

-- there is such a pool
pub pool_below : (size g pools : ℕ) → (pools ≡ 1) ⊎ (pools ≡ 3) → pool_of size g pools < pools
pool_below size g pools p = omega (arith, pool_first size g pools p, pool_from_le size g (pools - 1), few pools p)
