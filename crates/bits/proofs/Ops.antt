-- What the code's operations on a word are, digit by digit. Assumes nothing.
use Prim.Native.Nat.{ℕ, zero, suc, ◌-◌, ◌*◌, ◌/◌, ◌%◌, ◌^◌, ◌<◌}
use mathlib.Core.Path.{◌≡◌, refl, sym, ap, ◌∙◌}
use mathlib.Core.Bool.{not}
use mathlib.Core.Logic.{⊎_elim}
use native.Mathlib.Nat.{mod-lt, one-mul}
use native.Mathlib.Omega.{arith}
use mir.Val.{bool_byte}
use lib.Dec.{eqb, lit<}
use lib.Bits.{bit_and, bit_or, and_mask, and_lt, or_lt}
use lib.Pow.{pow_pos, ones_sub-lt}
use Rattle.bits.specs.Bits.{digit, put}
use Rattle.bits.proofs.Digits.{digit-lt, digits_ext, digit-and, digit-or, digit-mod, digit-not, digit-pow_same, digit-pow_other, put_same, put_other, put-lt}
use Rattle.numbers.proofs.Split.{eq-or-ne}

test_is : (n : ℕ) → n < 2 → bool_byte (not (eqb n 0)) ≡ n
test_is zero h = refl
test_is (suc zero) h = refl
test_is (suc (suc n)) h = absurd (omega arith)

-- `(w >> i) & 1 != 0`
pub get_is : (w i : ℕ) → bool_byte (not (eqb (bit_and (w / 2 ^ i) 1) 0)) ≡ digit w i
unfolding digit
get_is w i = ap (λ (x : ℕ). bool_byte (not (eqb x 0))) (and_mask (w / 2 ^ i) 1) ∙ test_is (w / 2 ^ i % 2) (mod-lt (w / 2 ^ i) (lit< tt))

-- `1 << i`
one_same : (i : ℕ) → i < 32 → digit (1 * 2 ^ i % 2 ^ 32) i ≡ 1
one_same i h = digit-mod 32 (1 * 2 ^ i) i h ∙ ap (λ (x : ℕ). digit x i) (one-mul (2 ^ i)) ∙ digit-pow_same i

one_other : (i j : ℕ) → j < 32 → (j ≡ i → ⊥) → digit (1 * 2 ^ i % 2 ^ 32) j ≡ 0
one_other i j h ne = digit-mod 32 (1 * 2 ^ i) j h ∙ ap (λ (x : ℕ). digit x j) (one-mul (2 ^ i)) ∙ digit-pow_other i j ne

one-lt : (i : ℕ) → 1 * 2 ^ i % 2 ^ 32 < 2 ^ 32
one-lt i = mod-lt (1 * 2 ^ i) (pow_pos 32)

-- a number of 32 digits that has w's digits but for v at i
pub is_put : (r w i v : ℕ) → r < 2 ^ 32 → w < 2 ^ 32 → i < 32 → v < 2 → digit r i ≡ v
    → ((j : ℕ) → j < 32 → (j ≡ i → ⊥) → digit r j ≡ digit w j) → r ≡ put w i v
is_put r w i v hr hw hi hv e f =
    digits_ext 32 r (put w i v) hr (put-lt 32 w i v hw hi hv)
    (λ j h.
    ⊎_elim (λ q. rw q (e ∙ sym (put_same w i v hv))) (λ ne. f j h ne ∙ sym (put_other w i v j hv ne)) (eq-or-ne j i))

-- `w | 1 << i`
pub or_put : (w i : ℕ) → w < 2 ^ 32 → i < 32 → bit_or w (1 * 2 ^ i % 2 ^ 32) ≡ put w i 1
or_put w i hw hi =
    is_put (bit_or w (1 * 2 ^ i % 2 ^ 32)) w i 1 (or_lt 32 w (1 * 2 ^ i % 2 ^ 32) hw (one-lt i)) hw hi (lit< tt)
    (omega (arith, digit-or w (1 * 2 ^ i % 2 ^ 32) i, one_same i hi, digit-lt w i))
    (λ j h ne. omega (arith, digit-or w (1 * 2 ^ i % 2 ^ 32) j, one_other i j h ne))

-- `w & !(1 << i)`
pub and_put : (w i : ℕ) → w < 2 ^ 32 → i < 32 → bit_and w ((2 ^ 32 - 1) - 1 * 2 ^ i % 2 ^ 32) ≡ put w i 0
and_put w i hw hi =
    is_put (bit_and w ((2 ^ 32 - 1) - 1 * 2 ^ i % 2 ^ 32)) w i 0
    (and_lt 32 w ((2 ^ 32 - 1) - 1 * 2 ^ i % 2 ^ 32) hw (ones_sub-lt 32 (1 * 2 ^ i % 2 ^ 32))) hw hi (lit< tt)
    (omega (
      arith,
      digit-and w ((2 ^ 32 - 1) - 1 * 2 ^ i % 2 ^ 32) i,
      digit-not 32 (1 * 2 ^ i % 2 ^ 32) i (one-lt i) hi,
      one_same i hi,
    ))
    (λ j h ne.
    omega (
      arith,
      digit-and w ((2 ^ 32 - 1) - 1 * 2 ^ i % 2 ^ 32) j,
      digit-not 32 (1 * 2 ^ i % 2 ^ 32) j (one-lt i) h,
      one_other i j h ne,
      digit-lt w j,
    ))
