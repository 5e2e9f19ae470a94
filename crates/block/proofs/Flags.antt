-- The two flags set and cleared. Assumes nothing.
use Prim.Native.Nat.{ℕ, zero, suc, ◌+◌, ◌-◌, ◌*◌, ◌/◌, ◌%◌, ◌^◌, ◌≤◌, ◌<◌, min}
use mathlib.Core.Bool.{true, false, not}
use mathlib.Core.Path.{◌≡◌, sym, ap, ap₂, ◌∙◌}
use native.Mathlib.Nat.{pow-suc, mul_assoc}
use native.Mathlib.Omega.{arith}
use borrow.Author.Tests.{eq-eqb, ne_eqb}
use lib.Bits.{bit_and, bit_or, and_step, and_mask, and_le_l}
use lib.Dec.{eqb, lit<}
use lib.Pow.{pow_pos}
use Rattle.bits.specs.Bits.{digit}
use Rattle.bits.proofs.Digits.{digit-zero, digit-suc, digit-lt, digit-and, digit-or, digit-not, digit-pow_same, digit-pow_other}
use Rattle.block.specs.Record.{empty_flag, dirty_flag, is_on, on, off}

-- a flag 2 ^ j is the digit j
and-pow : (f j : ℕ) → bit_and f (2 ^ j) ≡ digit f j * 2 ^ j
and-pow f zero = and_mask f 1 ∙ omega (arith, digit-zero f)
and-pow f (suc j) =
    let half : 2 ^ suc j / 2 ≡ 2 ^ j = ap (λ (x : ℕ). x / 2) (pow-suc 2 j) ∙ omega arith in
    let whole : 2 ^ suc j % 2 ≡ 0 = ap (λ (x : ℕ). x % 2) (pow-suc 2 j) ∙ omega arith in
    and_step f (2 ^ suc j)
    ∙ ap₂ (λ (x y : ℕ). bit_and (f / 2) x * 2 + min (f % 2) y) half whole
    ∙ ap (λ (x : ℕ). x * 2 + min (f % 2) 0) (and-pow (f / 2) j)
    ∙ omega (arith, ap (λ (x : ℕ). x * 2 ^ suc j) (digit-suc f j), ap (λ (x : ℕ). digit (f / 2) j * x) (pow-suc 2 j), sym (mul_assoc (digit (f / 2) j) (2 ^ j) 2))

on_is : (f j : ℕ) → digit f j ≡ 1 → is_on f (2 ^ j) ≡ true
on_is f j e = ap not (ne_eqb (bit_and f (2 ^ j)) 0 (λ z. omega (arith, and-pow f j, ap (λ (x : ℕ). x * 2 ^ j) e, pow_pos j)))

off_is : (f j : ℕ) → digit f j ≡ 0 → is_on f (2 ^ j) ≡ false
off_is f j e = ap not (eq-eqb (bit_and f (2 ^ j)) 0 (and-pow f j ∙ omega (arith, ap (λ (x : ℕ). x * 2 ^ j) e)))

pub flag_on : (f j : ℕ) → is_on (bit_or f (2 ^ j)) (2 ^ j) ≡ true
flag_on f j = on_is (bit_or f (2 ^ j)) j (omega (arith, digit-or f (2 ^ j) j, digit-pow_same j, digit-lt f j))

pub flag_off : (f j : ℕ) → j < 32 → 2 ^ j < 2 ^ 32 → is_on (bit_and f (2 ^ 32 - 1 - 2 ^ j)) (2 ^ j) ≡ false
flag_off f j h l =
    off_is (bit_and f (2 ^ 32 - 1 - 2 ^ j)) j
    (omega (arith, digit-and f (2 ^ 32 - 1 - 2 ^ j) j, digit-not 32 (2 ^ j) j l h, digit-pow_same j))

pub dirty_on : (f : ℕ) → is_on (on f dirty_flag) dirty_flag ≡ true
dirty_on f = flag_on f 1

pub dirty_off : (f : ℕ) → is_on (off f dirty_flag) dirty_flag ≡ false
dirty_off f = flag_off f 1 (lit< tt) (lit< tt)

-- the other flag stays
pub empty_kept : (f : ℕ) → is_on (off f dirty_flag) empty_flag ≡ is_on f empty_flag
empty_kept f =
    let ones : digit (2 ^ 32 - 1 - 2) 0 ≡ 1 = digit-not 32 2 0 (lit< tt) (lit< tt) ∙ ap (λ (x : ℕ). 1 - x) (digit-pow_other 1 0 (λ e. omega arith)) in
    let same : digit (off f dirty_flag) 0 ≡ digit f 0 = omega (arith, digit-and f (2 ^ 32 - 1 - 2) 0, ones, digit-lt f 0) in
    ap (λ (x : ℕ). not (eqb x 0)) (and-pow (off f dirty_flag) 0 ∙ ap (λ (x : ℕ). x * 2 ^ 0) same ∙ sym (and-pow f 0))

pub off-le : (f flag : ℕ) → off f flag ≤ f
off-le f flag = and_le_l f (2 ^ 32 - 1 - flag)
