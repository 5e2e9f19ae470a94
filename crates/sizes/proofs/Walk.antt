-- The walk over the pools, from the last one down: a pool's step, and what a test of it tells. Assumes nothing.
use Prim.Native.Nat.{ℕ, zero, suc, ◌-◌, ◌*◌, ◌%◌, ◌^◌, ◌≤◌, ◌<◌}
use mathlib.Core.Path.{◌≡◌, sym, ap, ◌∙◌}
use mathlib.Core.Bool.{Bool, true}
use native.Mathlib.Nat.{mul-pos, mul-le-mul}
use native.Mathlib.Omega.{arith}
use lib.Pow.{pow_pos, pow_mono}
use borrow.Author.Tests.{eq-eqb, ne_eqb}
use Rattle.numbers.specs.Align.{align_up}
use Rattle.numbers.specs.Pick.{pick}
use Rattle.sizes.specs.Limits.{is_granularity}
use Rattle.sizes.proofs.InForce.{granularity_is}
use Rattle.sizes.proofs.Pools.{step_test, pool_from}

-- the step of pool k, as the code shifts it
abbrev pub step : ℕ → ℕ → ℕ
step g k = (g * 2 ^ k) % 2 ^ 64

-- no digit is shifted out
step_is : (g k : ℕ) → is_granularity g ≡ true → k < 3 → step g k ≡ g * 2 ^ k
step_is g k listed l =
    let few : k ≤ 2 = omega arith in
    let r = granularity_is g listed in
    let most : g ≤ 2 ^ 8 = omega (arith, r.is, pow_mono r.high) in
    let two : 2 ^ k ≤ 2 ^ 2 = pow_mono (few) in
    omega (arith, mul-le-mul most two)

pub step_some : (g k : ℕ) → is_granularity g ≡ true → k < 3 → 0 < step g k
step_some g k listed l =
    let r = granularity_is g listed in
    let some : 0 < g = omega (arith, r.is, pow_pos r.exponent) in
    omega (arith, step_is g k listed l, mul-pos some (pow_pos k))

-- pool k's step divides the size: it is the pool of those from k down
pub pool_here : (size g k : ℕ) → size < 2 ^ 32 → is_granularity g ≡ true → 0 < k → k < 3 → align_up size (step g k) ≡ size → k ≡ pool_from size g k
unfolding pool_from
pool_here size g zero small listed some few e = absurd (omega arith)
pool_here size g (suc k) small listed some few e =
    ap (λ (t : Bool). pick t (suc k) (pool_from size g k))
    (sym (eq-eqb _ _ (sym (ap (align_up size) (step_is g (suc k) listed few)) ∙ e)) ∙ step_test size g (suc k) small listed few)

-- it does not: the pool is one below k
pub pool_after :
    (size g k : ℕ) → size < 2 ^ 32 → is_granularity g ≡ true → 0 < k → k < 3 → (align_up size (step g k) ≡ size → ⊥)
    → pool_from size g k ≡ pool_from size g (k - 1)
unfolding pool_from
pool_after size g zero small listed some few n = absurd (omega arith)
pool_after size g (suc k) small listed some few n =
    let back : k ≡ suc k - 1 = omega arith in
    ap (λ (t : Bool). pick t (suc k) (pool_from size g k))
    (sym (step_test size g (suc k) small listed few) ∙ ne_eqb _ _ (λ e. n (ap (align_up size) (step_is g (suc k) listed few) ∙ e)))
    ∙ ap (pool_from size g) back
