-- Powers of two, and the code's test for one. Assumes nothing.
use Prim.Native.Nat.{ℕ, zero, suc, ◌/◌, ◌%◌, ◌^◌, ◌<◌}
use mathlib.Core.Path.{◌≡◌, refl, sym, ap, ◌∙◌}
use mathlib.Core.Bool.{Bool, true, ◌||◌, or-true, false≢true}
use mathlib.Core.Logic.{⊎_elim}
use native.Mathlib.Nat.{pow-suc, eq-or-lt_of_le}
use native.Mathlib.Omega.{arith}
use lib.Count.{ones, ones_step}
use lib.Dec.{eqb}
use borrow.Author.Tests.{eq-eqb, ne_eqb}
use Rattle.std.proofs.lemmas.Nat.{zero_from_ones, ones_le_self}
use Rattle.numbers.proofs.Bools.{by_bool}
use Rattle.numbers.proofs.Split.{by_eq}
use Rattle.sizes.specs.Limits.{is_power_below, is_power_of_two}

pub record PowerBelow (n x : ℕ) : Type 0 where
  pub exponent : ℕ
  pub below : exponent < n
  pub is : x ≡ 2 ^ exponent

pub power_below : (n x k : ℕ) → k < n → x ≡ 2 ^ k → is_power_below n x ≡ true
unfolding is_power_below
power_below zero x k l e = absurd (omega arith)
power_below (suc n) x k l e =
    ⊎_elim (λ s. ap (λ (t : Bool). t || is_power_below n x) (eq-eqb x (2 ^ n) (e ∙ ap (λ (i : ℕ). 2 ^ i) s)))
    (λ m. ap (λ (t : Bool). eqb x (2 ^ n) || t) (power_below n x k m e) ∙ or-true (eqb x (2 ^ n)))
    (eq-or-lt_of_le {n = k} {m = n} (omega arith))

pub power_is : (n x : ℕ) → is_power_below n x ≡ true → PowerBelow n x
unfolding is_power_below
power_is zero x h = absurd (false≢true h)
power_is (suc n) x h =
    by_eq x (2 ^ n) (λ e. record { exponent = n; below = omega arith; is = e }) (λ ne.
    let r = power_is n x (rw (ne_eqb x (2 ^ n) ne) at h) in
    record { exponent = r.exponent; below = omega (arith, r.below); is = r.is })

-- a number has one digit only if it is a power of two
one_only : (n x : ℕ) → x < 2 ^ n → ones x ≡ 1 → PowerBelow n x
one_only zero x l e = absurd (omega (arith, ones_le_self x))
one_only (suc n) x l e =
    by_eq (x % 2) 0 (λ z.
    let r = one_only n (x / 2) (omega (arith, pow-suc 2 n)) (omega (arith, ones_step x)) in
    record { exponent = suc r.exponent; below = omega (arith, r.below); is = omega (arith, r.is, pow-suc 2 r.exponent) })
    (λ z.
    let none : x / 2 ≡ 0 = zero_from_ones (x / 2) (omega (arith, ones_step x)) in
    record { exponent = 0; below = omega arith; is = omega (arith, none) })

one_one : ones 1 ≡ 1
unfolding ones
one_one = refl

power_one : (k : ℕ) → ones (2 ^ k) ≡ 1
power_one zero = one_one
power_one (suc k) =
    let half : 2 ^ suc k / 2 ≡ 2 ^ k = omega (arith, pow-suc 2 k) in
    omega (arith, ones_step (2 ^ suc k), pow-suc 2 k, ap ones half, power_one k)

-- the library's test for a power of two is document 01's
pub one_bit : (x : ℕ) → x < 2 ^ 64 → eqb (ones x) 1 ≡ is_power_of_two x
one_bit x l = by_eq (ones x) 1 yes no
  where
    yes : ones x ≡ 1 → eqb (ones x) 1 ≡ is_power_of_two x
    yes e = let r = one_only 64 x l e in eq-eqb _ _ e ∙ sym (power_below 64 x r.exponent r.below r.is)

    no : (ones x ≡ 1 → ⊥) → eqb (ones x) 1 ≡ is_power_of_two x
    no ne =
        by_bool (is_power_of_two x) (λ t. let r = power_is 64 x t in absurd (ne (ap ones r.is ∙ power_one r.exponent))) (λ f. ne_eqb _ _ ne ∙ sym f)
