-- A number's digits, one more at a time. Assumes nothing.
use Prim.Native.Nat.{ℕ, zero, suc, ◌/◌, ◌%◌, ◌^◌, ◌≤◌, ◌<◌}
use mathlib.Core.Bool.{Bool, true, false}
use mathlib.Core.List.{List, [], ◌∷◌, ◌++◌}
use mathlib.Core.Path.{◌≡◌, ap}
use native.Mathlib.Nat.{pow-suc, div-lt_iff_lt-mul}
use native.Mathlib.Omega.{arith}
use borrow.Author.Tests.{lt-ltb, le-ltb}
use lib.Dec.{ltb}
use lib.ListN.{length, length-append}
use Rattle.numbers.specs.Pick.{pick}
use Rattle.text.specs.Decimal.{digit, digits, decimal}

either : (b : Bool) (n k : ℕ) (d : List ℕ) → length d ≤ k → length (pick b (digit n ∷ []) (d ++ (digit (n % 10) ∷ []))) ≤ suc k
either true n k d h = omega arith
either false n k d h = omega (arith, length-append d (digit (n % 10) ∷ []))

-- no more digits than asked for
pub digits_most : (k n : ℕ) → length (digits k n) ≤ k
unfolding digits
digits_most zero n = omega arith
digits_most (suc k) n = either (ltb n 10) n k (digits k (n / 10)) (digits_most k (n / 10))

tenth : (k n : ℕ) → n < 10 ^ suc k → n / 10 < 10 ^ k
tenth k n h = (div-lt_iff_lt-mul {k = 10} {x = n} {y = 10 ^ k} (omega arith)).1 (omega (arith, pow-suc 10 k))

-- where the digits are enough, one more changes nothing
pub enough : (k n : ℕ) → n < 10 ^ suc k → digits (suc (suc k)) n ≡ digits (suc k) n
unfolding digits
enough zero n h = rw (lt-ltb n 10 (omega (arith, h)))
enough (suc k) n h = ap (λ (d : List ℕ). pick (ltb n 10) (digit n ∷ []) (d ++ (digit (n % 10) ∷ []))) (enough k (n / 10) (tenth (suc k) n h))

pub few : (n : ℕ) → n < 10 → digit n ∷ [] ≡ decimal n
unfolding digits
few n h = rw (lt-ltb n 10 h)

-- the digits of a tenth, and the last one
pub more : (n : ℕ) → 10 ≤ n → n < 2 ^ 64 → decimal (n / 10) ++ (digit (n % 10) ∷ []) ≡ decimal n
unfolding digits
more n l h = rw (le-ltb n 10 l) (ap (λ (d : List ℕ). d ++ (digit (n % 10) ∷ [])) (enough 18 (n / 10) (tenth 19 n (omega (arith, h)))))

pub tenth_most : (n : ℕ) → n < 2 ^ 64 → length (decimal (n / 10)) ≤ 19
tenth_most n h = omega (arith, ap length (enough 18 (n / 10) (tenth 19 n (omega (arith, h)))), digits_most 19 (n / 10))

pub most : (n : ℕ) → length (decimal n) ≤ 20
most n = digits_most 20 n
