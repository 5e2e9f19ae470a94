-- A search for the first bit of a value, a word at a time: what is known of a word's bits that are still to be looked at. Assumes nothing.
use Prim.Native.Nat.{ℕ, ◌+◌, ◌-◌, ◌*◌, ◌/◌, ◌%◌, ◌^◌, ◌≤◌, ◌<◌}
use mathlib.Core.Path.{◌≡◌, sym, ap, ◌∙◌, subst}
use mathlib.Core.Bool.{Bool, true, false}
use mathlib.Core.List.{List}
use mathlib.Core.Logic.{⊎_elim}
use native.Mathlib.Nat.{mod-lt}
use native.Mathlib.Omega.{arith}
use mir.Val.{bool_byte}
use lib.Bits.{bit_and, and_lt}
use lib.Count.{count_trailing_zeros}
use lib.ListN.{length, get_or}
use lib.Pow.{pow_pos, ones_sub-lt}
use Rattle.numbers.proofs.Split.{le-or-lt, same_of_not-lt}
use Rattle.bits.specs.Bits.{digit, bit, FirstAt}
use Rattle.bits.specs.Walk.{flipped, Seen}
use Rattle.bits.proofs.Digits.{digit-lt, digit_of_zero, digit-and, digit-mod, digit-not, digit_ones, digit-shl_low, digit-shl_high, tz_below, tz_at, tz_lt}
use Rattle.bits.proofs.Words.{bit_at}

-- ---- `if value { w } else { !w }`
pub flipped-lt : (w : ℕ) (b : Bool) → w < 2 ^ 32 → flipped w b < 2 ^ 32
flipped-lt w true h = h
flipped-lt w false h = ones_sub-lt 32 w

pub flip_one : (w : ℕ) (b : Bool) (j : ℕ) → w < 2 ^ 32 → j < 32 → digit (flipped w b) j ≡ 1 → digit w j ≡ bool_byte b
flip_one w true j h l e = e
flip_one w false j h l e = omega (arith, digit-not 32 w j h l)

pub flip_zero : (w : ℕ) (b : Bool) (j : ℕ) → w < 2 ^ 32 → j < 32 → digit (flipped w b) j ≡ 0 → digit w j ≡ bool_byte b → ⊥
flip_zero w true j h l e g = omega arith
flip_zero w false j h l e g = omega (arith, digit-not 32 w j h l)

-- ---- `0xffff_ffff << b`
pub mask_low : (b j : ℕ) → j < b → j < 32 → digit (4294967295 * 2 ^ b % 2 ^ 32) j ≡ 0
mask_low b j h l = digit-mod 32 (4294967295 * 2 ^ b) j l ∙ digit-shl_low 4294967295 b j h

pub mask_high : (b j : ℕ) → b ≤ j → j < 32 → digit (4294967295 * 2 ^ b % 2 ^ 32) j ≡ 1
mask_high b j h l =
    digit-mod 32 (4294967295 * 2 ^ b) j l ∙ ap (digit (4294967295 * 2 ^ b)) e ∙ digit-shl_high 4294967295 b (j - b)
    ∙ digit_ones 32 (j - b) (omega arith)
  where
    e : j ≡ b + (j - b)
    e = omega arith

-- ---- a walk from p to end (`Seen`)

-- at a word that p is not behind
pub seen_word : (ws : List ℕ) (end p : ℕ) (b : Bool) (at : ℕ) → get_or ws at 0 < 2 ^ 32 → at < length ws → p ≤ 32 * at
    → ((k : ℕ) → p ≤ k → k < 32 * at → k < end → bit ws k ≡ bool_byte b → ⊥)
    → Seen ws end p (bool_byte b) at (flipped (get_or ws at 0) b)
seen_word ws end p b at hw l s h = record {
  stands = omega arith;
  near = omega arith;
  fits = flipped-lt (get_or ws at 0) b hw;
  before = h;
  zeros = λ j g q t e f. flip_zero (get_or ws at 0) b j hw g e (sym (bit_at ws at j g) ∙ f);
  ones = λ j g e. (l, omega arith, bit_at ws at j g ∙ flip_one (get_or ws at 0) b j hw g e);
}

-- the digits from i on of a word: `x & (0xffff_ffff << i)`
abbrev pub from_digit : ℕ → ℕ → ℕ
from_digit x i = bit_and x (4294967295 * 2 ^ i % 2 ^ 32)

pub from_lt : (x i : ℕ) → x < 2 ^ 32 → from_digit x i < 2 ^ 32
from_lt x i h = and_lt 32 x (4294967295 * 2 ^ i % 2 ^ 32) h (mod-lt (4294967295 * 2 ^ i) (pow_pos 32))

pub from_low : (x i j : ℕ) → j < i → j < 32 → digit (from_digit x i) j ≡ 0
from_low x i j h l = omega (arith, digit-and x (4294967295 * 2 ^ i % 2 ^ 32) j, mask_low i j h l)

pub from_high : (x i j : ℕ) → i ≤ j → j < 32 → digit (from_digit x i) j ≡ digit x j
from_high x i j h l = omega (arith, digit-and x (4294967295 * 2 ^ i % 2 ^ 32) j, mask_high i j h l, digit-lt x j)

pub from_one : (x i j : ℕ) → j < 32 → digit (from_digit x i) j ≡ 1 → (i ≤ j) × (digit x j ≡ 1)
from_one x i j l e =
    ⊎_elim (λ p. (p, sym (from_high x i j p l) ∙ e)) (λ q. absurd (omega (arith, from_low x i j q l))) (le-or-lt i j)

-- the walk goes on from a later bit of the word: the digits before it go
pub seen_from : (ws : List ℕ) (end p v at bits i : ℕ) → Seen ws end p v at bits → p ≤ 32 * at + i → i ≤ 32
    → Seen ws end (32 * at + i) v at (from_digit bits i)
seen_from ws end p v at bits i s h l = record {
  stands = s.stands;
  near = omega arith;
  fits = from_lt bits i s.fits;
  before = λ k q r t e. omega arith;
  zeros = λ j g q t e f. s.zeros j g (omega arith) t (sym (from_high bits i j (omega arith) g) ∙ e) f;
  ones = λ j g e.
      let o = from_one bits i j g e in
      let was = s.ones j g o.1 in
      (was.0, omega (arith, o.0), was.2);
}

-- at a word that p is not behind, or in it: without the bits before p
pub seen_masked : (ws : List ℕ) (end p : ℕ) (b : Bool) (at mask : ℕ) → get_or ws at 0 < 2 ^ 32 → at < length ws → p ≤ 32 * at + 32
    → ((k : ℕ) → p ≤ k → k < 32 * at → k < end → bit ws k ≡ bool_byte b → ⊥) → mask ≡ 4294967295 * 2 ^ (p - 32 * at) % 2 ^ 32
    → Seen ws end p (bool_byte b) at (bit_and (flipped (get_or ws at 0) b) mask)
seen_masked ws end p b at mask hw l s h m =
    let w = flipped (get_or ws at 0) b in
    rw m record {
      stands = omega arith;
      near = s;
      fits = from_lt w (p - 32 * at) (flipped-lt (get_or ws at 0) b hw);
      before = h;
      zeros = λ j g q t e f.
          flip_zero (get_or ws at 0) b j hw g (sym (from_high w (p - 32 * at) j (omega arith) g) ∙ e) (sym (bit_at ws at j g) ∙ f);
      ones = λ j g e.
          let o = from_one w (p - 32 * at) j g e in
          (l, omega (arith, o.0), bit_at ws at j g ∙ flip_one (get_or ws at 0) b j hw g o.1);
    }

-- the first word, without the bits before p
pub seen_first : (ws : List ℕ) (end p : ℕ) (b : Bool) → get_or ws (p / 32) 0 < 2 ^ 32 → p < 32 * length ws
    → Seen ws end p (bool_byte b) (p / 32) (from_digit (flipped (get_or ws (p / 32) 0) b) (p % 32))
seen_first ws end p b hw l =
    subst (λ (n : ℕ). Seen ws end n (bool_byte b) (p / 32) (from_digit (flipped (get_or ws (p / 32) 0) b) (p % 32))) (whole p)
    (seen_from ws end (32 * (p / 32)) (bool_byte b) (p / 32) (flipped (get_or ws (p / 32) 0) b) (p % 32)
    (seen_word ws end (32 * (p / 32)) b (p / 32) hw (omega arith) (omega arith) (λ k q r t e. omega arith)) (omega arith) (omega arith))
  where
    whole : (p : ℕ) → 32 * (p / 32) + p % 32 ≡ p
    whole p = omega arith

back : (k at : ℕ) → 32 * at ≤ k → 32 * at + (k - 32 * at) ≡ k
back k at l = omega arith

-- no digit of the word up to digit t is one: no bit up to there is v
pub seen_upto : (ws : List ℕ) (end p v at bits t : ℕ) → Seen ws end p v at bits → t ≤ 32 → ((j : ℕ) → j < t → digit bits j ≡ 0)
    → (k : ℕ) → p ≤ k → k < 32 * at + t → k < end → bit ws k ≡ v → ⊥
seen_upto ws end p v at bits t s h z k q r l e =
    ⊎_elim
    (λ g. s.zeros (k - 32 * at) (omega arith) (omega arith) (omega arith) (z (k - 32 * at) (omega arith)) (ap (bit ws) (back k at g) ∙ e))
    (λ g. s.before k q g l e) (le-or-lt (32 * at) k)

-- a word with no ones left: none up to its end
pub seen_none : (ws : List ℕ) (end p v at bits : ℕ) → Seen ws end p v at bits → bits ≡ 0
    → (k : ℕ) → p ≤ k → k < 32 * (at + 1) → k < end → bit ws k ≡ v → ⊥
seen_none ws end p v at bits s z k q r l e =
    seen_upto ws end p v at bits 32 s (omega arith) (λ j g. ap (λ (x : ℕ). digit x j) z ∙ digit_of_zero j) k q (omega arith) l e

-- the words are at their end
pub found_none : (ws : List ℕ) (start v r : ℕ) → start ≤ r → r ≡ 32 * length ws → ((k : ℕ) → start ≤ k → k < r → bit ws k ≡ v → ⊥)
    → FirstAt ws start v r
found_none ws start v r p e h = record { low = p; high = omega arith; before = h; found = λ l. absurd (omega arith) }

-- a word with ones: the lowest
pub record Lowest (ws : List ℕ) (end p v at bits : ℕ) : Type 0 where
  pub inside : at < length ws
  pub short : count_trailing_zeros 32 bits < 32
  pub low : p ≤ 32 * at + count_trailing_zeros 32 bits
  pub is : bit ws (32 * at + count_trailing_zeros 32 bits) ≡ v
  pub before : (k : ℕ) → p ≤ k → k < 32 * at + count_trailing_zeros 32 bits → k < end → bit ws k ≡ v → ⊥

pub lowest : (ws : List ℕ) (end p v at bits : ℕ) → Seen ws end p v at bits → (bits ≡ 0 → ⊥) → Lowest ws end p v at bits
lowest ws end p v at bits s ne =
    let t = tz_lt 32 bits s.fits ne in
    let o = s.ones (count_trailing_zeros 32 bits) t (tz_at 32 bits t) in
    record {
      inside = o.0;
      short = t;
      low = o.1;
      is = o.2;
      before = seen_upto ws end p v at bits (count_trailing_zeros 32 bits) s (omega arith) (tz_below 32 bits);
    }

pub found-one : (ws : List ℕ) (start v at bits : ℕ) → Seen ws (32 * length ws) start v at bits → (bits ≡ 0 → ⊥)
    → FirstAt ws start v (at * 32 + count_trailing_zeros 32 bits)
found-one ws start v at bits s ne =
    let o = lowest ws (32 * length ws) start v at bits s ne in
    let e : at * 32 + count_trailing_zeros 32 bits ≡ 32 * at + count_trailing_zeros 32 bits = omega arith in
    record {
      low = omega (arith, o.low);
      high = omega (arith, o.inside, o.short);
      before = λ k p q r. o.before k p (omega arith) (omega (arith, o.inside, o.short)) r;
      found = λ l. ap (bit ws) e ∙ o.is;
    }

-- no second answer
pub first_unique : (ws : List ℕ) (start v r q : ℕ) → FirstAt ws start v r → FirstAt ws start v q → r ≡ q
first_unique ws start v r q a b =
    same_of_not-lt r q (λ g. b.before r a.low g (a.found (omega (arith, b.high)))) (λ g. a.before q b.low g (b.found (omega (arith, a.high))))
