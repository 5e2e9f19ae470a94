-- The pigeonhole law, by counting: n different numbers below n hit each number below n exactly once, and the other way round. Assumes nothing.
use Prim.Native.Nat.{ℕ, zero, suc, ◌+◌, ◌*◌, ◌≤◌, ◌<◌}
use mathlib.Core.Path.{◌≡◌, refl, sym, ap, ◌∙◌}
use mathlib.Core.Bool.{Bool, true, false}
use native.Mathlib.Nat.{not-suc-le-zero, suc-mul}
use native.Mathlib.Omega.{arith}
use lib.Dec.{eqb}
use borrow.Author.Tests.{eq-eqb, ne_eqb, eqb-true}
use Rattle.numbers.proofs.Bools.{by_bool, refute}
use Rattle.numbers.proofs.Split.{by_eq, by_le}
use Rattle.state.specs.Table.{sum, one}
use Rattle.state.proofs.Tests.{sum_same, sum_bound}

-- ---- sums
sum_const : (n m : ℕ) → sum n (λ i. m) ≡ n * m
unfolding sum
sum_const zero m = omega arith
sum_const (suc n) m = omega (arith, sum_const n m, suc-mul n m)

sum-add : (n : ℕ) (f g : ℕ → ℕ) → sum n (λ i. f i + g i) ≡ sum n f + sum n g
unfolding sum
sum-add zero f g = refl
sum-add (suc n) f g = omega (arith, sum-add n f g)

-- rows by columns, or columns by rows
pub sum_swap : (n m : ℕ) (f : ℕ → ℕ → ℕ) → sum n (λ i. sum m (f i)) ≡ sum m (λ k. sum n (λ i. f i k))
unfolding sum
sum_swap zero m f = sym (sum_const m 0 ∙ omega arith)
sum_swap (suc n) m f = omega (arith, sum_swap n m f, sum-add m (λ k. sum n (λ i. f i k)) (f n))

pub sum_none : (n : ℕ) (t : ℕ → Bool) → ((k : ℕ) → k < n → t k ≡ false) → sum n (λ k. one (t k)) ≡ 0
sum_none n t h = sum_same n (λ k. one (t k)) (λ k. 0) (λ k l. ap one (h k l)) ∙ sum_const n 0 ∙ omega arith

-- at most one of them passes
pub sum_few : (n : ℕ) (t : ℕ → Bool) → ((k l : ℕ) → k < l → l < n → t k ≡ true → t l ≡ true → ⊥) → sum n (λ k. one (t k)) ≤ 1
unfolding sum
sum_few zero t h = omega arith
sum_few (suc n) t h =
    by_bool (t n)
    (λ e. omega (arith, ap one e, sum_none n t (λ k l. refute (t k) (λ p. h k n l (omega arith) p e))))
    (λ e. omega (arith, ap one e, sum_few n t (λ k l a b. h k l a (omega arith))))

-- where any passes, one can be named
pub sum_some : (n : ℕ) (t : ℕ → Bool) → 0 < sum n (λ k. one (t k)) → (k : ℕ) × (k < n) × (t k ≡ true)
unfolding sum
sum_some zero t h = absurd (not-suc-le-zero h)
sum_some (suc n) t h =
    by_bool (t n)
    (λ e. (n, omega arith, e))
    (λ e. let r = sum_some n t (omega (arith, ap one e)) in (r.0, omega (arith, r.1), r.2))

-- n numbers, none above 1, that make n
pub sum_full : (n : ℕ) (f : ℕ → ℕ) → ((i : ℕ) → i < n → f i ≤ 1) → sum n f ≡ n → (i : ℕ) → i < n → f i ≡ 1
unfolding sum
sum_full zero f h e i l = absurd (not-suc-le-zero l)
sum_full (suc n) f h e i l =
    let rest = sum_bound n 1 f (λ j k. h j (omega arith)) in
    let last = h n (omega arith) in
    by_eq i n
    (λ q. ap f q ∙ omega (arith, rest, last))
    (λ ne. sum_full n f (λ j k. h j (omega arith)) (omega (arith, rest, last)) i (omega (arith, ne)))

-- ---- one number, hit among those below n
hit_out : (n a : ℕ) → n ≤ a → sum n (λ i. one (eqb a i)) ≡ 0
hit_out n a h = sum_none n (λ i. eqb a i) (λ i l. ne_eqb a i (λ e. omega arith))

hit_in : (n a : ℕ) → a < n → sum n (λ i. one (eqb a i)) ≡ 1
unfolding sum
hit_in zero a h = absurd (not-suc-le-zero h)
hit_in (suc n) a h =
    by_eq a n
    (λ q. omega (arith, ap one (eq-eqb a n q), hit_out n a (omega arith)))
    (λ ne. omega (arith, ap one (ne_eqb a n ne), hit_in n a (omega (arith, ne))))

-- ---- the law, both ways, over the numbers a 0 .. a (n - 1)
pub each_once : (n : ℕ) (a : ℕ → ℕ)
    → ((k : ℕ) → k < n → a k < n)
    → ((k l : ℕ) → k < l → l < n → a k ≡ a l → ⊥)
    → (i : ℕ) → i < n → sum n (λ k. one (eqb (a k) i)) ≡ 1
each_once n a low apart =
    sum_full n (λ i. sum n (λ k. one (eqb (a k) i)))
    (λ i l. sum_few n (λ k. eqb (a k) i) (λ k m h hm p q. apart k m h hm (eqb-true (a k) i p ∙ sym (eqb-true (a m) i q))))
    (sum_swap n n (λ i k. one (eqb (a k) i))
    ∙ sum_same n (λ k. sum n (λ i. one (eqb (a k) i))) (λ k. 1) (λ k l. hit_in n (a k) (low k l))
    ∙ sum_const n 1 ∙ omega arith)

pub once_below : (n : ℕ) (a : ℕ → ℕ)
    → ((i : ℕ) → i < n → sum n (λ k. one (eqb (a k) i)) ≡ 1)
    → (k : ℕ) → k < n → a k < n
once_below n a once k l = by_le n (a k) (λ h. absurd (never h)) (λ h. h)
  where
    at_most : (j : ℕ) → j < n → sum n (λ i. one (eqb (a j) i)) ≤ 1
    at_most j m = by_le n (a j) (λ h. omega (arith, hit_out n (a j) h)) (λ h. omega (arith, hit_in n (a j) h))

    total : sum n (λ j. sum n (λ i. one (eqb (a j) i))) ≡ n
    total =
        sym (sum_swap n n (λ i j. one (eqb (a j) i)))
        ∙ sum_same n (λ i. sum n (λ j. one (eqb (a j) i))) (λ i. 1) once
        ∙ sum_const n 1 ∙ omega arith

    never : n ≤ a k → ⊥
    never h = omega (arith, hit_out n (a k) h, sum_full n (λ j. sum n (λ i. one (eqb (a j) i))) at_most total k l)

-- and each of them has a place
pub place : (n : ℕ) (a : ℕ → ℕ) (i : ℕ) → sum n (λ k. one (eqb (a k) i)) ≡ 1 → (k : ℕ) × (k < n) × (a k ≡ i)
place n a i e = let r = sum_some n (λ k. eqb (a k) i) (omega arith) in (r.0, r.1, eqb-true (a r.0) i r.2)
