-- Laws of the granularities and the base block sizes. Assumes nothing.
use Prim.Native.Nat.{ℕ, ◌+◌, ◌-◌, ◌*◌, ◌%◌, ◌^◌, ◌≤◌}
use mathlib.Core.Path.{◌≡◌, refl, sym, ap, ◌∙◌}
use mathlib.Core.Bool.{true, ◌&&◌}
use mathlib.Core.Logic.{◌⊎◌, ⊎_elim}
use native.Mathlib.Nat.{mul-mod_left}
use native.Mathlib.Omega.{arith}
use lib.Dec.{leb}
use lib.Pow.{pow-lt, pow-add}
use borrow.Author.Tests.{eqb-true, ne_eqb, leb-true}
use Rattle.numbers.proofs.Bools.{picked, and_left, and_right}
use Rattle.numbers.proofs.Split.{by_eq, by_le}
use Rattle.sizes.specs.Limits.{is_granularity, granularity_in_force, is_power_below, is_power_of_two, is_base_size, base_size_in_force}
use Rattle.sizes.proofs.Powers.{PowerBelow, power_is}

-- ---- granularities

pub record Granularity (g : ℕ) : Type 0 where
  pub exponent : ℕ
  pub low : 6 ≤ exponent
  pub high : exponent ≤ 8
  pub is : g ≡ 2 ^ exponent

pub granularity_is : (g : ℕ) → is_granularity g ≡ true → Granularity g
unfolding is_granularity
granularity_is g h =
    by_eq g 64 (λ e. record { exponent = 6; low = omega arith; high = omega arith; is = e }) (λ n. by_eq g 128
    (λ e. record { exponent = 7; low = omega arith; high = omega arith; is = e }) (λ m. record {
      exponent = 8;
      low = omega arith;
      high = omega arith;
      is = eqb-true g 256 (rw (ne_eqb g 64 n, ne_eqb g 128 m) at h);
    }))

-- 32 of these units are a power of two
pub granularity_listed : (g : ℕ) → (g ≡ 64) ⊎ ((g ≡ 128) ⊎ (g ≡ 256)) → is_granularity g ≡ true
unfolding is_granularity
granularity_listed g l = ⊎_elim (λ e. rw e) (⊎_elim (λ e. rw e) (λ e. rw e)) l

pub granularity_word : (g : ℕ) → (h : is_granularity g ≡ true) → 32 * g ≡ 2 ^ (5 + (granularity_is g h).exponent)
granularity_word g h =
    let r = granularity_is g h in
    ap (λ (n : ℕ). 32 * n) r.is ∙ sym (pow-add 2 5 r.exponent)

pub granularity_in_force_good : (asked : ℕ) → is_granularity (granularity_in_force asked) ≡ true
unfolding granularity_in_force is_granularity
granularity_in_force_good asked =
    picked (λ (g : ℕ). is_granularity g ≡ true) (is_granularity asked) asked 64 (λ e. e) (λ e. refl)

-- ---- base block sizes

pub record BaseSize (size : ℕ) : Type 0 where
  pub at_least : 65536 ≤ size
  pub at_most : size ≤ 33554432
  pub exponent : ℕ
  pub low : 16 ≤ exponent
  pub high : exponent ≤ 25
  pub is : size ≡ 2 ^ exponent

pub base_size_is : (size : ℕ) → is_base_size size ≡ true → BaseSize size
unfolding is_base_size
base_size_is size h = record {
  at_least = least;
  at_most = most;
  exponent = r.exponent;
  low = by_le 16 r.exponent (λ l. l) (λ l. absurd (omega (arith, least, r.is, pow-lt l)));
  high = by_le r.exponent 25 (λ l. l) (λ l. absurd (omega (arith, most, r.is, pow-lt l)));
  is = r.is;
}
  where
    most : size ≤ 33554432
    most = leb-true size 33554432 (and_right (is_power_of_two size && leb 65536 size) (leb size 33554432) h)

    others : (is_power_of_two size && leb 65536 size) ≡ true
    others = and_left (is_power_of_two size && leb 65536 size) (leb size 33554432) h

    least : 65536 ≤ size
    least = leb-true 65536 size (and_right (is_power_of_two size) (leb 65536 size) others)

    r : PowerBelow 64 size
    r = power_is 64 size (and_left (is_power_of_two size) (leb 65536 size) others)

-- so it is a multiple of 65,536, and of every smaller power of two
pub base_size_divides : (size j : ℕ) → is_base_size size ≡ true → j ≤ 16 → size % 2 ^ j ≡ 0
base_size_divides size j h l =
    let r = base_size_is size h in
    let parts : r.exponent ≡ (r.exponent - j) + j = omega (arith, r.low) in
    ap (λ (n : ℕ). n % 2 ^ j) (r.is ∙ ap (λ (i : ℕ). 2 ^ i) parts ∙ pow-add 2 (r.exponent - j) j) ∙ mul-mod_left (2 ^ (r.exponent - j)) (2 ^ j)

pub base_size_in_force_good : (asked : ℕ) → is_base_size (base_size_in_force asked) ≡ true
unfolding base_size_in_force is_base_size is_power_below
base_size_in_force_good asked =
    picked (λ (size : ℕ). is_base_size size ≡ true) (is_base_size asked) asked 65536 (λ e. e) (λ e. refl)
