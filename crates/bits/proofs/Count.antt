-- How many bits are set, before and after a run is filled or cleared. Assumes nothing.
use Prim.Native.Nat.{ℕ, zero, suc, ◌+◌, ◌-◌, ◌*◌, ◌≤◌, ◌<◌}
use mathlib.Core.Path.{◌≡◌, refl, sym, ap, ap₂, ◌∙◌}
use mathlib.Core.List.{List}
use native.Mathlib.Nat.{add-zero, add-suc, add_assoc, zero-mul, suc-mul}
use native.Mathlib.Omega.{arith}
use Rattle.numbers.proofs.Split.{by_eq}
use Rattle.bits.specs.Bits.{bit, Filled, ones}
use Rattle.bits.proofs.Words.{bit-lt}

pub ones-le : (ws : List ℕ) (a n : ℕ) → ones ws a n ≤ n
unfolding ones
ones-le ws a zero = omega arith
ones-le ws a (suc n) = omega (arith, ones-le ws a n, bit-lt ws (a + n))

pub ones-add : (ws : List ℕ) (a n m : ℕ) → ones ws a (n + m) ≡ ones ws a n + ones ws (a + n) m
unfolding ones
ones-add ws a n zero = ap (ones ws a) (add-zero n) ∙ sym (add-zero (ones ws a n))
ones-add ws a n (suc m) =
    ap (ones ws a) (add-suc n m)
    ∙ ap₂ (λ (x y : ℕ). x + bit ws y) (ones-add ws a n m) (sym (add_assoc a n m))
    ∙ add_assoc (ones ws a n) (ones ws (a + n) m) (bit ws (a + n + m))

pub ones_same : (ws vs : List ℕ) (a n : ℕ) → ((k : ℕ) → a ≤ k → k < a + n → bit ws k ≡ bit vs k) → ones ws a n ≡ ones vs a n
unfolding ones
ones_same ws vs a zero h = refl
ones_same ws vs a (suc n) h =
    ap₂ (λ (x y : ℕ). x + y) (ones_same ws vs a n (λ k p q. h k p (omega arith))) (h (a + n) (omega arith) (omega arith))

pub ones_all : (ws : List ℕ) (a n v : ℕ) → ((k : ℕ) → a ≤ k → k < a + n → bit ws k ≡ v) → ones ws a n ≡ n * v
unfolding ones
ones_all ws a zero v h = sym (zero-mul v)
ones_all ws a (suc n) v h =
    ap₂ (λ (x y : ℕ). x + y) (ones_all ws a n v (λ k p q. h k p (omega arith))) (h (a + n) (omega arith) (omega arith)) ∙ sym (suc-mul n v)

-- a range in three parts
ones_parts : (s : List ℕ) (lo x a n y m : ℕ) → m ≡ x + (n + y) → lo + x ≡ a → ones s lo m ≡ ones s lo x + (ones s a n + ones s (a + n) y)
ones_parts s lo x a n y m whole back =
    ap (ones s lo) whole ∙ ones-add s lo x (n + y) ∙ ap (λ (k : ℕ). ones s lo x + ones s k (n + y)) back
    ∙ ap (λ (k : ℕ). ones s lo x + k) (ones-add s a n y)

-- n bits that were all u are made v: the count over a range that holds them changes by them. From 0 to 1 it grows by n, from 1 to 0 it falls by n
pub ones_filled : {ws vs : List ℕ} {a n v : ℕ} (u lo m : ℕ) → Filled ws a n v vs → lo ≤ a → a + n ≤ lo + m
    → ((k : ℕ) → a ≤ k → k < a + n → bit ws k ≡ u) → ones vs lo m + n * u ≡ ones ws lo m + n * v
ones_filled {ws} {vs} {a} {n} {v} u lo m f p q e =
    let x = a - lo in
    let y = lo + m - (a + n) in
    let whole : m ≡ x + (n + y) = omega arith in
    let back : lo + x ≡ a = omega arith in
    let one = ones_same vs ws lo x (λ k s t. f.below k (omega arith)) in
    let two = ones_all vs a n v f.inside in
    let was = ones_all ws a n u e in
    let three = ones_same vs ws (a + n) y (λ k s t. f.above k s) in
    omega (arith, ones_parts vs lo x a n y m whole back, ones_parts ws lo x a n y m whole back, one, two, was, three)

-- all of them, and none of them
pub ones_all-one : (ws : List ℕ) (a n k : ℕ) → ones ws a n ≡ n → a ≤ k → k < a + n → bit ws k ≡ 1
unfolding ones
ones_all-one ws a zero k e p q = absurd (omega arith)
ones_all-one ws a (suc n) k e p q =
    by_eq k (a + n) (λ f. ap (bit ws) f ∙ omega (arith, ones-le ws a n, bit-lt ws (a + n)))
    (λ ne. ones_all-one ws a n k (omega (arith, ones-le ws a n, bit-lt ws (a + n))) p (omega (arith, ne)))

pub ones_none : (ws : List ℕ) (a n k : ℕ) → ones ws a n ≡ 0 → a ≤ k → k < a + n → bit ws k ≡ 0
unfolding ones
ones_none ws a zero k e p q = absurd (omega arith)
ones_none ws a (suc n) k e p q =
    by_eq k (a + n) (λ f. ap (bit ws) f ∙ omega arith) (λ ne. ones_none ws a n k (omega arith) p (omega (arith, ne)))
