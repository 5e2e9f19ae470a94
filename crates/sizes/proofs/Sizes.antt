-- Laws of a request's rounded size and of the size of a new block. Assumes nothing.
use Prim.Native.Nat.{ℕ, ◌+◌, ◌-◌, ◌*◌, ◌%◌, ◌^◌, ◌≤◌, ◌<◌}
use mathlib.Core.Path.{◌≡◌, refl, sym, ap, ◌∙◌, subst}
use mathlib.Core.Bool.{true}
use mathlib.Core.Logic.{◌⊎◌, inl, inr, ⊎_elim, ◌↔◌}
use native.Mathlib.Nat.{mod_self, mod-eq-zero_of_dvd, dvd_of_mod-eq-zero, dvd-mul_right_of_dvd}
use native.Mathlib.Omega.{arith}
use lib.Dec.{ltb}
use lib.Pow.{pow_pos, pow_mono}
use borrow.Author.Tests.{eq-eqb, ne_eqb, lt-ltb, le-ltb, ltb-true, ltb-false}
use Rattle.numbers.proofs.Bools.{picked}
use Rattle.numbers.proofs.Align.{up_low, up_high, up_divides, up_zero}
use Rattle.numbers.proofs.Split.{by_eq, by_le}
use Rattle.numbers.specs.Align.{align_up}
use Rattle.sizes.specs.declared.SizeError.TheVariants.{InvalidArgument}
use Rattle.std.specs.declared.result.Result.TheVariants.{Ok, Err}
use Rattle.sizes.specs.Limits.{is_granularity}
use Rattle.sizes.specs.Sizes.{accepted, rounded, doubled, ideal_size}
use Rattle.sizes.proofs.InForce.{granularity_is}

-- ---- a request

pub record Accepted (up n : ℕ) : Type 0 where
  pub is : n ≡ up
  pub some : 0 < n
  pub small : n ≤ 2147483647

accepted_is : (up n : ℕ) → accepted up ≡ Ok n → Accepted up n
accepted_is up n h =
    by_eq up 0 (λ e. let r = rw (eq-eqb up 0 e) at h in let z : ◌≡◌ {A = ℕ} 0 1 = cc in absurd (omega arith)) (λ ne. by_le up 2147483647
    (λ l. let r = rw (ne_eqb up 0 ne, le-ltb 2147483647 up l) at h in let s : up ≡ n = cc in record {
      is = sym s;
      some = omega arith;
      small = omega arith;
    })
    (λ l. let r = rw (ne_eqb up 0 ne, lt-ltb 2147483647 up l) at h in let z : ◌≡◌ {A = ℕ} 0 1 = cc in absurd (omega arith)))

-- whatever the granularity
pub rounded_is : (size g n : ℕ) → rounded size g ≡ Ok n → Accepted (align_up size g) n
unfolding rounded
rounded_is size g n h = accepted_is (align_up size g) n h

-- at a power of two a request that is not refused was not wrapped: it is rounded to the next multiple
pub record RoundedTo (size unit n : ℕ) : Type 0 where
  pub some : 0 < n
  pub small : n ≤ 2147483647
  pub whole : n % unit ≡ 0
  pub low : size ≤ n
  pub high : n < size + unit

pub rounded_to : (size j n : ℕ) → j ≤ 64 → size < 2 ^ 64 → rounded size (2 ^ j) ≡ Ok n → RoundedTo size (2 ^ j) n
rounded_to size j n k l h = record {
  some = a.some;
  small = a.small;
  whole = ap (λ (m : ℕ). m % 2 ^ j) a.is ∙ up_divides size (2 ^ j) j (pow_pos j) (pow_mono k) k (mod_self (2 ^ j));
  low = omega (arith, a.is, up_low size (2 ^ j) (pow_pos j) room);
  high = omega (arith, a.is, up_high size (2 ^ j) (pow_pos j) room);
}
  where
    a : Accepted (align_up size (2 ^ j)) n
    a = rounded_is size (2 ^ j) n h

    room : size + (2 ^ j - 1) < 2 ^ 64
    room =
        by_le size (2 ^ 64 - 2 ^ j) (λ s. omega (arith, s, l, pow_pos j, pow_mono k))
        (λ s. let z = (up_zero size j k l).1 (inr s) in absurd (omega (arith, a.some, a.is, z)))

pub rounded_to_granularity : (size g n : ℕ) → is_granularity g ≡ true → size < 2 ^ 64 → rounded size g ≡ Ok n → RoundedTo size g n
rounded_to_granularity size g n good l h =
    let r = granularity_is g good in
    subst (λ (u : ℕ). RoundedTo size u n) (sym r.is)
    (rounded_to size r.exponent n (omega (arith, r.high)) l (subst (λ (u : ℕ). rounded size u ≡ Ok n) r.is h))

-- refusal 1 exactly for 0 and for what wraps
pub refused-one : (size j : ℕ) → j ≤ 64 → size < 2 ^ 64 → (rounded size (2 ^ j) ≡ Err InvalidArgument) ↔ ((size ≡ 0) ⊎ (2 ^ 64 - 2 ^ j < size))
unfolding rounded
refused-one size j k l = (
  λ h. by_eq (align_up size (2 ^ j)) 0 (λ e. (up_zero size j k l).0 e) (λ ne. absurd (not-one (align_up size (2 ^ j)) ne h)),
  λ c. simp (eq-eqb (align_up size (2 ^ j)) 0 ((up_zero size j k l).1 c)),
)
  where
    not-one : (up : ℕ) → (up ≡ 0 → ⊥) → accepted up ≡ Err InvalidArgument → ⊥
    not-one up ne h =
        by_le up 2147483647
        (λ s. let r = rw (ne_eqb up 0 ne, le-ltb 2147483647 up s) at h in let z : ◌≡◌ {A = ℕ} 0 1 = cc in omega arith)
        (λ s. let r = rw (ne_eqb up 0 ne, lt-ltb 2147483647 up s) at h in let z : ◌≡◌ {A = ℕ} 1 2 = cc in omega arith)

-- ---- a new block

pub doubled_bounds : (newest : ℕ) → newest ≤ 2 ^ 27 → (newest ≤ doubled newest) × (doubled newest ≤ 2 ^ 27)
doubled_bounds newest l =
    picked (λ (b : ℕ). (newest ≤ b) × (b ≤ 2 ^ 27)) (ltb newest 33554432) (newest * 2) newest
    (λ e. (omega arith, omega (arith, ltb-true newest 33554432 e)))
    (λ e. (omega arith, omega arith))

doubled_divides : (newest m : ℕ) → newest % m ≡ 0 → doubled newest % m ≡ 0
doubled_divides newest m e =
    picked (λ (b : ℕ). b % m ≡ 0) (ltb newest 33554432) (newest * 2) newest
    (λ t. mod-eq-zero_of_dvd m (dvd-mul_right_of_dvd m (dvd_of_mod-eq-zero m e) 2))
    (λ t. e)

module _ (newest size : ℕ) (some : 0 < newest) (low : newest ≤ 2 ^ 27) (small : size < 2 ^ 32) where
  room : size + (doubled newest - 1) < 2 ^ 64
  room = omega (arith, doubled_bounds newest low)

  positive : 0 < doubled newest
  positive = omega (arith, doubled_bounds newest low)

  -- the block holds the request: the Rust's test for a wrap never succeeds
  pub ideal_holds : size ≤ ideal_size newest size
  unfolding ideal_size
  ideal_holds =
      picked (λ (b : ℕ). size ≤ b) (ltb (doubled newest) size) (align_up size (doubled newest)) (doubled newest)
      (λ t. up_low size (doubled newest) positive room)
      (λ t. ltb-false (doubled newest) size t)

  -- and is no smaller than the newest one, doubled or not
  pub ideal_grows : doubled newest ≤ ideal_size newest size
  unfolding ideal_size
  ideal_grows =
      picked (λ (b : ℕ). doubled newest ≤ b) (ltb (doubled newest) size) (align_up size (doubled newest)) (doubled newest)
      (λ t. omega (arith, up_low size (doubled newest) positive room, ltb-true (doubled newest) size t))
      (λ t. omega arith)

  -- less than a block more than the request, or the newest one's doubled size
  pub ideal_high : (ideal_size newest size < size + doubled newest) ⊎ (ideal_size newest size ≡ doubled newest)
  unfolding ideal_size
  ideal_high =
      picked (λ (b : ℕ). (b < size + doubled newest) ⊎ (b ≡ doubled newest)) (ltb (doubled newest) size) (align_up size (doubled newest)) (doubled newest)
      (λ t. inl (up_high size (doubled newest) positive room))
      (λ t. inr refl)

  -- a power of two that divides the newest one's size divides it
  pub ideal_divides : (j : ℕ) → j ≤ 64 → newest % 2 ^ j ≡ 0 → ideal_size newest size % 2 ^ j ≡ 0
  unfolding ideal_size
  ideal_divides j k e =
      picked (λ (b : ℕ). b % 2 ^ j ≡ 0) (ltb (doubled newest) size) (align_up size (doubled newest)) (doubled newest)
      (λ t. up_divides size (doubled newest) j positive (omega (arith, doubled_bounds newest low)) k (doubled_divides newest (2 ^ j) e))
      (λ t. doubled_divides newest (2 ^ j) e)

  -- whole words of units, if that one is
  pub ideal_words : (unit j : ℕ) → j ≤ 64 → 32 * unit ≡ 2 ^ j → newest % (32 * unit) ≡ 0 → ideal_size newest size % (32 * unit) ≡ 0
  ideal_words unit j k is e =
      subst (λ (m : ℕ). ideal_size newest size % m ≡ 0) (sym is) (ideal_divides j k (subst (λ (m : ℕ). newest % m ≡ 0) is e))

-- a request that is not refused has a block below 2 ^ 32
pub ideal_fits : (newest size : ℕ) → 0 < newest → newest ≤ 2 ^ 27 → size ≤ 2147483647 → ideal_size newest size < 2 ^ 32
ideal_fits newest size some low small =
    ⊎_elim (λ h. omega (arith, doubled_bounds newest low)) (λ e. omega (arith, doubled_bounds newest low))
    (ideal_high newest size some low (omega arith))
