-- Laws of rounding by a mask. Assumes nothing.
use Rattle.std.proofs.Common.{◌≡◌, ℕ, zero, suc, ◌+◌, ◌-◌, ◌*◌, ◌/◌, ◌%◌, ◌^◌, ◌<◌, ◌≤◌, min, ◌⊎◌, ◌↔◌, sym, ap, ◌∙◌, subst, ap₂, inl, inr, ⊎_elim, mod-lt, mod-eq_of_lt, pow-suc, zero-mul, arith, pow_pos, pow_mono, pow-add}
use native.Mathlib.Nat.{div-eq_of_lt, lt-div-mul-add, dvd-sub, mod-eq-zero_of_dvd, dvd_of_mod-eq-zero, mul-mod_left}
use lib.Arith.{lt-one}
use lib.Bits.{bit_and, and_step, and_zero_l, and_zero_r, and_le_r, and_mod, and_high}
use lib.Pow.{shr_mod}
use Rattle.numbers.specs.Align.{without, align_down, align_up}
use Rattle.numbers.proofs.Split.{le-or-lt}

-- ---- the digits that m has, and those that it has not
not_half : (k m : ℕ) → m < 2 ^ suc k → ((2 ^ suc k - 1) - m) / 2 ≡ (2 ^ k - 1) - m / 2
not_half k m h = omega (arith, pow-suc 2 k, h)

not_low : (k m : ℕ) → m < 2 ^ suc k → ((2 ^ suc k - 1) - m) % 2 ≡ 1 - m % 2
not_low k m h = omega (arith, pow-suc 2 k, h)

apart : (k x m : ℕ) → x < 2 ^ k → m < 2 ^ k → bit_and x ((2 ^ k - 1) - m) + bit_and x m ≡ x
apart zero x m hx hm = rw (lt-one hx) (omega (arith, and_zero_l ((2 ^ 0 - 1) - m), and_zero_l m))
apart (suc k) x m hx hm =
    let half : x / 2 < 2 ^ k = omega (arith, pow-suc 2 k, hx) in
    let mhalf : m / 2 < 2 ^ k = omega (arith, pow-suc 2 k, hm) in
    let rest = apart k (x / 2) (m / 2) half mhalf in
    let off : bit_and x ((2 ^ suc k - 1) - m) ≡ bit_and (x / 2) ((2 ^ k - 1) - m / 2) * 2 + min (x % 2) (1 - m % 2) =
    and_step x ((2 ^ suc k - 1) - m) ∙ ap₂ (λ (a b : ℕ). bit_and (x / 2) a * 2 + min (x % 2) b) (not_half k m hm) (not_low k m hm) in
    omega (arith, off, and_step x m, rest)

pub without_is : (x m : ℕ) → x < 2 ^ 64 → m < 2 ^ 64 → without x m + bit_and x m ≡ x
without_is x m hx hm = apart 64 x m hx hm

-- ---- up, whatever the alignment: no less than x and less than one alignment more, where the sum does not wrap
pub up_low : (x a : ℕ) → 0 < a → x + (a - 1) < 2 ^ 64 → x ≤ align_up x a
up_low x a h l =
    subst (λ (y : ℕ). x ≤ without y (a - 1)) (sym (mod-eq_of_lt l))
    (omega (arith, without_is (x + (a - 1)) (a - 1) l (omega arith), and_le_r (x + (a - 1)) (a - 1)))

pub up_high : (x a : ℕ) → 0 < a → x + (a - 1) < 2 ^ 64 → align_up x a < x + a
up_high x a h l =
    subst (λ (y : ℕ). without y (a - 1) < x + a) (sym (mod-eq_of_lt l))
    (omega (arith, without_is (x + (a - 1)) (a - 1) l (omega arith)))

top_whole : (j : ℕ) → j ≤ 64 → 2 ^ 64 % 2 ^ j ≡ 0
top_whole j k =
    let s : 64 ≡ (64 - j) + j = omega arith in
    ap (λ (n : ℕ). 2 ^ n % 2 ^ j) s ∙ ap (λ (n : ℕ). n % 2 ^ j) (pow-add 2 (64 - j) j) ∙ mul-mod_left (2 ^ (64 - j)) (2 ^ j)

mask_whole : (a j : ℕ) → 0 < a → a ≤ 2 ^ 64 → j ≤ 64 → a % 2 ^ j ≡ 0 → (2 ^ 64 - 1 - (a - 1)) % 2 ^ j ≡ 0
mask_whole a j h l k e =
    let is : 2 ^ 64 - 1 - (a - 1) ≡ 2 ^ 64 - a = omega arith in
    ap (λ (c : ℕ). c % 2 ^ j) is
    ∙ mod-eq-zero_of_dvd (2 ^ j) (dvd-sub (2 ^ j) (dvd_of_mod-eq-zero (2 ^ j) (top_whole j k)) (dvd_of_mod-eq-zero (2 ^ j) e))

-- what divides the alignment, as a power of two, divides the answer: also where the sum wraps
pub up_divides : (x a j : ℕ) → 0 < a → a ≤ 2 ^ 64 → j ≤ 64 → a % 2 ^ j ≡ 0 → align_up x a % 2 ^ j ≡ 0
up_divides x a j h l k e =
    let y = (x + (a - 1)) % 2 ^ 64 in
    and_mod y (2 ^ 64 - 1 - (a - 1)) j
    ∙ ap (bit_and (y % 2 ^ j)) (mask_whole a j h l k e)
    ∙ and_zero_r (y % 2 ^ j)

-- ---- at a power of two: a multiple, the last one that is not above y
pub without-pow : (y j : ℕ) → j ≤ 64 → y < 2 ^ 64 → without y (2 ^ j - 1) ≡ y / 2 ^ j * 2 ^ j
without-pow y j k h =
    let s : (64 - j) + j ≡ 64 = omega arith in
    let mask : 2 ^ 64 - 1 - (2 ^ j - 1) ≡ 2 ^ ((64 - j) + j) - 2 ^ j = omega (arith, ap (λ (n : ℕ). 2 ^ n) s, pow_pos j) in
    ap (bit_and y) mask ∙ and_high y (64 - j) j
    ∙ ap (λ (q : ℕ). q * 2 ^ j) (shr_mod (64 - j) j (subst (λ (n : ℕ). y < 2 ^ n) (sym s) h))

pub down_pow : (x j : ℕ) → j ≤ 64 → x < 2 ^ 64 → align_down x (2 ^ j) ≡ x / 2 ^ j * 2 ^ j
down_pow = without-pow

pub up_pow : (x j : ℕ) → j ≤ 64 → x + (2 ^ j - 1) < 2 ^ 64 → align_up x (2 ^ j) ≡ (x + (2 ^ j - 1)) / 2 ^ j * 2 ^ j
up_pow x j k l =
    ap (λ (y : ℕ). without y (2 ^ j - 1)) (mod-eq_of_lt l) ∙ without-pow (x + (2 ^ j - 1)) j k l

-- zero exactly for 0 and for what lies above the last multiple
pub up_zero : (x j : ℕ) → j ≤ 64 → x < 2 ^ 64 → (align_up x (2 ^ j) ≡ 0) ↔ ((x ≡ 0) ⊎ (2 ^ 64 - 2 ^ j < x))
up_zero x j k h = (λ e. to (below (sym is ∙ e)), λ c. is ∙ from c)
  where
    top : 2 ^ j ≤ 2 ^ 64
    top = pow_mono k

    is : align_up x (2 ^ j) ≡ (x + (2 ^ j - 1)) % 2 ^ 64 / 2 ^ j * 2 ^ j
    is = without-pow ((x + (2 ^ j - 1)) % 2 ^ 64) j k (mod-lt (x + (2 ^ j - 1)) (pow_pos 64))

    below : (x + (2 ^ j - 1)) % 2 ^ 64 / 2 ^ j * 2 ^ j ≡ 0 → (x + (2 ^ j - 1)) % 2 ^ 64 < 2 ^ j
    below e = omega (arith, e, lt-div-mul-add {a = (x + (2 ^ j - 1)) % 2 ^ 64} (pow_pos j))

    to : (x + (2 ^ j - 1)) % 2 ^ 64 < 2 ^ j → (x ≡ 0) ⊎ (2 ^ 64 - 2 ^ j < x)
    to l = ⊎_elim (λ g. inr (omega (arith, top, pow_pos j))) (λ g. inl (omega (arith, l, mod-eq_of_lt g))) (le-or-lt (2 ^ 64) (x + (2 ^ j - 1)))

    small : (x ≡ 0) ⊎ (2 ^ 64 - 2 ^ j < x) → (x + (2 ^ j - 1)) % 2 ^ 64 < 2 ^ j
    small c = ⊎_elim (λ e. omega (arith, top, pow_pos j)) (λ l. omega (arith, top, pow_pos j, h)) c

    from : (x ≡ 0) ⊎ (2 ^ 64 - 2 ^ j < x) → (x + (2 ^ j - 1)) % 2 ^ 64 / 2 ^ j * 2 ^ j ≡ 0
    from c = ap (λ (q : ℕ). q * 2 ^ j) (div-eq_of_lt (small c)) ∙ zero-mul (2 ^ j)
