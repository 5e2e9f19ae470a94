-- Laws of a number's digits. Assumes nothing.
use Prim.Native.Nat.{ℕ, zero, suc, ◌+◌, ◌-◌, ◌*◌, ◌/◌, ◌%◌, ◌^◌, ◌≤◌, ◌<◌, min, max, suc-le-suc}
use mathlib.Core.Path.{◌≡◌, refl, sym, ap, ap₂, ◌∙◌, subst}
use mathlib.Core.Logic.{⊎_elim}
use native.Mathlib.Nat.{div-one, div-div-eq-div-mul, mul_comm, mul_assoc, pow-suc, mod-lt, div-add-mod', zero-lt-suc, zero-div, sub-zero, div_self, one-mul, mul-div_cancel, eq-or-lt_of_le, le_trans, mod-le, le_of_suc-le-suc, not-suc-le-zero, mul-le-mul_right, div-mul-le_self}
use native.Mathlib.Omega.{arith}
use native.Mathlib.Numerals.{add-one}
use lib.Arith.{lt-one, digits_div, digits_mod}
use lib.Bits.{bit_and, bit_or, bit_xor, differ, and_step, or_step, xor_step, shifted_even, shifted_half}
use lib.Count.{count_trailing_zeros, under, trailing_le}
use lib.Pow.{pow_pos, shr_lt, shr-shr, shl-shr, mod-pow-add}
use Rattle.bits.specs.Bits.{digit, put}

pub digit-lt : (w i : ℕ) → digit w i < 2
unfolding digit
digit-lt w i = mod-lt (w / 2 ^ i) (zero-lt-suc 1)

pub digit-zero : (w : ℕ) → digit w zero ≡ w % 2
unfolding digit
digit-zero w = ap (λ (x : ℕ). x % 2) (div-one w)

pub digit-suc : (w i : ℕ) → digit w (suc i) ≡ digit (w / 2) i
unfolding digit
digit-suc w i =
    ap (λ (x : ℕ). w / x % 2) (pow-suc 2 i ∙ mul_comm (2 ^ i) 2) ∙ ap (λ (x : ℕ). x % 2) (sym (div-div-eq-div-mul w 2 (2 ^ i)))

-- a number by its lowest digit and the rest
pub low_digit : (x c : ℕ) → c < 2 → digit (x * 2 + c) zero ≡ c
low_digit x c h = digit-zero (x * 2 + c) ∙ digits_mod x h

pub high_digit : (x c i : ℕ) → c < 2 → digit (x * 2 + c) (suc i) ≡ digit x i
high_digit x c i h = digit-suc (x * 2 + c) i ∙ ap (λ (n : ℕ). digit n i) (digits_div x h)

half_lt : (k w : ℕ) → w < 2 ^ suc k → w / 2 < 2 ^ k
half_lt k w h = shr_lt k 1 (subst (λ (x : ℕ). w < 2 ^ x) (sym (add-one k)) h)

shift_suc : (a k : ℕ) → a * 2 ^ suc k ≡ a * 2 ^ k * 2
shift_suc a k = ap (λ (x : ℕ). a * x) (pow-suc 2 k) ∙ sym (mul_assoc a (2 ^ k) 2)

mod-suc-pow : (k a : ℕ) → a % 2 ^ suc k ≡ (a / 2 % 2 ^ k) * 2 + a % 2
mod-suc-pow k a = ap (λ (x : ℕ). a % 2 ^ x) (sym (add-one k)) ∙ mod-pow-add a k 1

-- a digit in its place is no more than the number
pub digit-le : (w i : ℕ) → digit w i * 2 ^ i ≤ w
unfolding digit
digit-le w i = le_trans (mul-le-mul_right (2 ^ i) (mod-le (w / 2 ^ i) 2)) (div-mul-le_self w (2 ^ i))

-- ---- equal digits: equal numbers
pub digits_ext : (k a b : ℕ) → a < 2 ^ k → b < 2 ^ k → ((i : ℕ) → i < k → digit a i ≡ digit b i) → a ≡ b
digits_ext zero a b ha hb e = omega (arith, lt-one ha, lt-one hb)
digits_ext (suc k) a b ha hb e =
    sym (div-add-mod' a 2)
    ∙ ap₂ (λ (x y : ℕ). x * 2 + y)
    (digits_ext k (a / 2) (b / 2) (half_lt k a ha) (half_lt k b hb) (λ i h. sym (digit-suc a i) ∙ e (suc i) (suc-le-suc h) ∙ digit-suc b i))
    (sym (digit-zero a) ∙ e zero (zero-lt-suc k) ∙ digit-zero b)
    ∙ div-add-mod' b 2

-- ---- no digit past the length
pub digit_of_zero : (i : ℕ) → digit zero i ≡ zero
unfolding digit
digit_of_zero i = ap (λ (x : ℕ). x % 2) (zero-div (2 ^ i))

pub digit_above : (k w i : ℕ) → w < 2 ^ k → k ≤ i → digit w i ≡ zero
digit_above zero w i h l = ap (λ (x : ℕ). digit x i) (lt-one h) ∙ digit_of_zero i
digit_above (suc k) w zero h l = absurd (not-suc-le-zero l)
digit_above (suc k) w (suc i) h l = digit-suc w i ∙ digit_above k (w / 2) i (half_lt k w h) (le_of_suc-le-suc l)

-- ---- and, or, xor, digit by digit
min-lt : (x y : ℕ) → x < 2 → min x y < 2
min-lt x y h = omega arith

max-lt : (x y : ℕ) → x < 2 → y < 2 → max x y < 2
max-lt x y h g = omega arith

differ_lt : (x y : ℕ) → x < 2 → y < 2 → differ x y < 2
differ_lt zero y h g = g
differ_lt (suc x) zero h g = h
differ_lt (suc x) (suc y) h g = differ_lt x y (omega arith) (omega arith)

m2 : (a : ℕ) → a % 2 < 2
m2 a = mod-lt a (zero-lt-suc 1)

module _ (op : ℕ → ℕ → ℕ) (f : ℕ → ℕ → ℕ)
    (step : (a b : ℕ) → op a b ≡ op (a / 2) (b / 2) * 2 + f (a % 2) (b % 2))
    (small : (x y : ℕ) → x < 2 → y < 2 → f x y < 2) where
  digit_op : (a b i : ℕ) → digit (op a b) i ≡ f (digit a i) (digit b i)
  digit_op a b zero =
      ap (λ (x : ℕ). digit x zero) (step a b) ∙ low_digit (op (a / 2) (b / 2)) (f (a % 2) (b % 2)) (small (a % 2) (b % 2) (m2 a) (m2 b))
      ∙ ap₂ f (sym (digit-zero a)) (sym (digit-zero b))
  digit_op a b (suc i) =
      ap (λ (x : ℕ). digit x (suc i)) (step a b) ∙ high_digit (op (a / 2) (b / 2)) (f (a % 2) (b % 2)) i (small (a % 2) (b % 2) (m2 a) (m2 b))
      ∙ digit_op (a / 2) (b / 2) i ∙ ap₂ f (sym (digit-suc a i)) (sym (digit-suc b i))

pub digit-and : (a b i : ℕ) → digit (bit_and a b) i ≡ min (digit a i) (digit b i)
digit-and = digit_op bit_and min and_step (λ x y h g. min-lt x y h)

pub digit-or : (a b i : ℕ) → digit (bit_or a b) i ≡ max (digit a i) (digit b i)
digit-or = digit_op bit_or max or_step max-lt

pub digit-xor : (a b i : ℕ) → digit (bit_xor a b) i ≡ differ (digit a i) (digit b i)
digit-xor = digit_op bit_xor differ xor_step differ_lt

-- ---- shifts: `a >> b` is a / 2 ^ b, `a << b` is (a * 2 ^ b) % 2 ^ 32
pub digit-shr : (a b i : ℕ) → digit (a / 2 ^ b) i ≡ digit a (b + i)
unfolding digit
digit-shr a b i = ap (λ (x : ℕ). x % 2) (shr-shr a b i)

pub digit-shl_low : (a b i : ℕ) → i < b → digit (a * 2 ^ b) i ≡ zero
digit-shl_low a zero i h = absurd (not-suc-le-zero h)
digit-shl_low a (suc b) zero h = digit-zero (a * 2 ^ suc b) ∙ shifted_even a b
digit-shl_low a (suc b) (suc i) h =
    digit-suc (a * 2 ^ suc b) i ∙ ap (λ (x : ℕ). digit x i) (shifted_half a b) ∙ digit-shl_low a b i (le_of_suc-le-suc h)

pub digit-shl_high : (a b i : ℕ) → digit (a * 2 ^ b) (b + i) ≡ digit a i
digit-shl_high a b i = sym (digit-shr (a * 2 ^ b) b i) ∙ ap (λ (x : ℕ). digit x i) (shl-shr a b)

pub digit-mod : (k a i : ℕ) → i < k → digit (a % 2 ^ k) i ≡ digit a i
digit-mod zero a i h = absurd (not-suc-le-zero h)
digit-mod (suc k) a zero h =
    ap (λ (x : ℕ). digit x zero) (mod-suc-pow k a) ∙ low_digit (a / 2 % 2 ^ k) (a % 2) (m2 a) ∙ sym (digit-zero a)
digit-mod (suc k) a (suc i) h =
    ap (λ (x : ℕ). digit x (suc i)) (mod-suc-pow k a) ∙ high_digit (a / 2 % 2 ^ k) (a % 2) i (m2 a)
    ∙ digit-mod k (a / 2) i (le_of_suc-le-suc h) ∙ sym (digit-suc a i)

-- ---- not, all ones, a power of two
not_step : (k a : ℕ) → a < 2 ^ suc k → (2 ^ suc k - 1) - a ≡ ((2 ^ k - 1) - a / 2) * 2 + (1 - a % 2)
not_step k a h = omega (arith, pow-suc 2 k, h)

pub digit-not : (k a i : ℕ) → a < 2 ^ k → i < k → digit ((2 ^ k - 1) - a) i ≡ 1 - digit a i
digit-not zero a i g h = absurd (not-suc-le-zero h)
digit-not (suc k) a zero g h =
    ap (λ (x : ℕ). digit x zero) (not_step k a g) ∙ low_digit ((2 ^ k - 1) - a / 2) (1 - a % 2) (omega arith)
    ∙ ap (λ (x : ℕ). 1 - x) (sym (digit-zero a))
digit-not (suc k) a (suc i) g h =
    ap (λ (x : ℕ). digit x (suc i)) (not_step k a g) ∙ high_digit ((2 ^ k - 1) - a / 2) (1 - a % 2) i (omega arith)
    ∙ digit-not k (a / 2) i (half_lt k a g) (le_of_suc-le-suc h) ∙ ap (λ (x : ℕ). 1 - x) (sym (digit-suc a i))

pub digit_ones : (k i : ℕ) → i < k → digit (2 ^ k - 1) i ≡ 1
digit_ones k i h =
    ap (λ (x : ℕ). digit x i) (sym (sub-zero (2 ^ k - 1))) ∙ digit-not k zero i (pow_pos k) h ∙ ap (λ (x : ℕ). 1 - x) (digit_of_zero i)

pub digit-pow_same : (j : ℕ) → digit (2 ^ j) j ≡ 1
unfolding digit
digit-pow_same j = ap (λ (x : ℕ). x % 2) (div_self (pow_pos j))

pub digit-pow_other : (j i : ℕ) → (i ≡ j → ⊥) → digit (2 ^ j) i ≡ zero
digit-pow_other zero zero h = absurd (h refl)
digit-pow_other zero (suc i) h = digit-suc 1 i ∙ digit_of_zero i
digit-pow_other (suc j) zero h =
    ap (λ (x : ℕ). digit x zero) (sym (one-mul (2 ^ suc j))) ∙ digit-shl_low 1 (suc j) zero (zero-lt-suc j)
digit-pow_other (suc j) (suc i) h =
    digit-suc (2 ^ suc j) i ∙ ap (λ (x : ℕ). digit (x / 2) i) (pow-suc 2 j) ∙ ap (λ (x : ℕ). digit x i) (mul-div_cancel (2 ^ j) (zero-lt-suc 1))
    ∙ digit-pow_other j i (λ e. h (ap suc e))

-- ---- trailing zeros
pub tz_below : (k n i : ℕ) → i < count_trailing_zeros k n → digit n i ≡ zero
unfolding count_trailing_zeros
tz_below zero n i h = absurd (not-suc-le-zero h)
tz_below (suc k) n i h = go (λ j l. tz_below k (n / 2) j l) (n % 2) refl i h
  where
    go : ((j : ℕ) → j < count_trailing_zeros k (n / 2) → digit (n / 2) j ≡ zero) → (d : ℕ) → d ≡ n % 2 → (i : ℕ)
        → i < under d (count_trailing_zeros k (n / 2)) → digit n i ≡ zero
    go ih zero e zero h = digit-zero n ∙ sym e
    go ih zero e (suc i) h = digit-suc n i ∙ ih i (le_of_suc-le-suc h)
    go ih (suc d) e i h = absurd (not-suc-le-zero h)

pub tz_at : (k n : ℕ) → count_trailing_zeros k n < k → digit n (count_trailing_zeros k n) ≡ 1
unfolding count_trailing_zeros
tz_at zero n h = absurd (not-suc-le-zero h)
tz_at (suc k) n h = go (λ l. tz_at k (n / 2) l) (n % 2) refl h
  where
    go : (count_trailing_zeros k (n / 2) < k → digit (n / 2) (count_trailing_zeros k (n / 2)) ≡ 1) → (d : ℕ) → d ≡ n % 2
        → under d (count_trailing_zeros k (n / 2)) < suc k → digit n (under d (count_trailing_zeros k (n / 2))) ≡ 1
    go ih zero e h = digit-suc n (count_trailing_zeros k (n / 2)) ∙ ih (le_of_suc-le-suc h)
    go ih (suc d) e h = digit-zero n ∙ omega (arith, m2 n)

pub tz_lt : (k n : ℕ) → n < 2 ^ k → (n ≡ zero → ⊥) → count_trailing_zeros k n < k
tz_lt k n h ne =
    ⊎_elim (λ e. absurd (ne (digits_ext k n zero h (pow_pos k) (λ i l. tz_below k n i (rw e l) ∙ sym (digit_of_zero i))))) (λ l. l)
    (eq-or-lt_of_le (trailing_le k n))

-- ---- one digit put
put-zero : (w v : ℕ) → put w zero v ≡ w / 2 * 2 + v
unfolding put
put-zero w v = omega (arith, digit-zero w)

put-suc : (w i v : ℕ) → put w (suc i) v ≡ put (w / 2) i v * 2 + w % 2
unfolding put
put-suc w i v =
    omega (
      arith,
      ap (λ (x : ℕ). x * 2 ^ suc i) (digit-suc w i) ∙ shift_suc (digit (w / 2) i) i,
      shift_suc v i,
      digit-le (w / 2) i,
    )

pub put_same : (w i v : ℕ) → v < 2 → digit (put w i v) i ≡ v
put_same w zero v h = ap (λ (x : ℕ). digit x zero) (put-zero w v) ∙ low_digit (w / 2) v h
put_same w (suc i) v h =
    ap (λ (x : ℕ). digit x (suc i)) (put-suc w i v) ∙ high_digit (put (w / 2) i v) (w % 2) i (m2 w) ∙ put_same (w / 2) i v h

pub put_other : (w i v j : ℕ) → v < 2 → (j ≡ i → ⊥) → digit (put w i v) j ≡ digit w j
put_other w zero v zero h ne = absurd (ne refl)
put_other w zero v (suc j) h ne = ap (λ (x : ℕ). digit x (suc j)) (put-zero w v) ∙ high_digit (w / 2) v j h ∙ sym (digit-suc w j)
put_other w (suc i) v zero h ne =
    ap (λ (x : ℕ). digit x zero) (put-suc w i v) ∙ low_digit (put (w / 2) i v) (w % 2) (m2 w) ∙ sym (digit-zero w)
put_other w (suc i) v (suc j) h ne =
    ap (λ (x : ℕ). digit x (suc j)) (put-suc w i v) ∙ high_digit (put (w / 2) i v) (w % 2) j (m2 w)
    ∙ put_other (w / 2) i v j h (λ e. ne (ap suc e)) ∙ sym (digit-suc w j)

pub put-lt : (k w i v : ℕ) → w < 2 ^ k → i < k → v < 2 → put w i v < 2 ^ k
put-lt zero w i v h l g = absurd (not-suc-le-zero l)
put-lt (suc k) w zero v h l g = omega (arith, pow-suc 2 k, put-zero w v, half_lt k w h)
put-lt (suc k) w (suc i) v h l g =
    omega (arith, pow-suc 2 k, put-suc w i v, put-lt k (w / 2) i v (half_lt k w h) (le_of_suc-le-suc l) g)
