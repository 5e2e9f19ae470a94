-- Laws of tests: of a list, of every index, and of sums. Assumes nothing.
use Prim.Native.Nat.{ℕ, zero, suc, ◌+◌, ◌*◌, ◌≤◌, ◌<◌}
use mathlib.Core.Bool.{Bool, true, false, ◌&&◌}
use mathlib.Core.List.{List, [], ◌∷◌}
use mathlib.Core.Path.{◌≡◌, refl, sym, ap, ap₂, ◌∙◌}
use native.Mathlib.Nat.{not-suc-le-zero, suc-mul}
use native.Mathlib.Numerals.{add-one}
use native.Mathlib.Omega.{arith}
use lib.ListN.{get_or}
use Rattle.numbers.proofs.Bools.{and_left, and_right, and_both, and_fails_left, and_fails_right}
use Rattle.numbers.proofs.Split.{by_eq}
use Rattle.state.specs.Table.{all, all_pairs, sum}
use Rattle.state.specs.Shape.{every}

-- ---- a list of tests that all pass, at place k
pub every_at : (ts : List Bool) (k : ℕ) → every ts ≡ true → get_or ts k true ≡ true
every_at [] k e = refl
every_at (t ∷ ts) zero e = and_left t (every ts) e
every_at (t ∷ ts) (suc k) e = every_at ts k (and_right t (every ts) e)

-- one that fails is enough, whichever it is
pub every_fails : (ts : List Bool) (k : ℕ) → get_or ts k true ≡ false → every ts ≡ false
every_fails [] k e = e
every_fails (t ∷ ts) zero e = rw e
every_fails (true ∷ ts) (suc k) e = every_fails ts k e
every_fails (false ∷ ts) (suc k) e = refl

-- ---- every index
pub all_at : (n : ℕ) (t : ℕ → Bool) (i : ℕ) → all n t ≡ true → i < n → t i ≡ true
unfolding all
all_at zero t i e h = absurd (not-suc-le-zero h)
all_at (suc n) t i e h =
    by_eq i n (λ q. ap t q ∙ and_right (all n t) (t n) e) (λ ne. all_at n t i (and_left (all n t) (t n) e) (omega (arith, ne)))

pub all_of : (n : ℕ) (t : ℕ → Bool) → ((i : ℕ) → i < n → t i ≡ true) → all n t ≡ true
unfolding all
all_of zero t f = refl
all_of (suc n) t f = and_both (all n t) (t n) (all_of n t (λ i h. f i (omega arith))) (f n (omega arith))

pub all_fails : (n : ℕ) (t : ℕ → Bool) (i : ℕ) → i < n → t i ≡ false → all n t ≡ false
unfolding all
all_fails zero t i h e = absurd (not-suc-le-zero h)
all_fails (suc n) t i h e =
    by_eq i n (λ q. and_fails_right (all n t) (t n) (sym (ap t q) ∙ e)) (λ ne. and_fails_left (all n t) (t n) (all_fails n t i (omega (arith, ne)) e))

pub pairs_at : (n : ℕ) (t : ℕ → ℕ → Bool) (i j : ℕ) → all_pairs n t ≡ true → i < j → j < n → t i j ≡ true
pairs_at n t i j e h l = all_at j (λ i. t i j) i (all_at n (λ j. all j (λ i. t i j)) j e l) h

pub pairs_of : (n : ℕ) (t : ℕ → ℕ → Bool) → ((i j : ℕ) → i < j → j < n → t i j ≡ true) → all_pairs n t ≡ true
pairs_of n t f = all_of n (λ j. all j (λ i. t i j)) (λ j l. all_of j (λ i. t i j) (λ i h. f i j h l))

pub pairs_fail : (n : ℕ) (t : ℕ → ℕ → Bool) (i j : ℕ) → i < j → j < n → t i j ≡ false → all_pairs n t ≡ false
pairs_fail n t i j h l e = all_fails n (λ j. all j (λ i. t i j)) j l (all_fails j (λ i. t i j) i h e)

-- ---- sums
pub sum_same : (n : ℕ) (f g : ℕ → ℕ) → ((i : ℕ) → i < n → f i ≡ g i) → sum n f ≡ sum n g
unfolding sum
sum_same zero f g h = refl
sum_same (suc n) f g h = ap₂ (λ (x y : ℕ). x + y) (sum_same n f g (λ i l. h i (omega arith))) (h n (omega arith))

pub sum_more : (n : ℕ) (f : ℕ → ℕ) → sum (n + 1) f ≡ sum n f + f n
unfolding sum
sum_more n f = ap (λ (m : ℕ). sum m f) (add-one n)

-- each term is part of the sum
pub sum_term : (n : ℕ) (f : ℕ → ℕ) (i : ℕ) → i < n → f i ≤ sum n f
unfolding sum
sum_term zero f i h = absurd (not-suc-le-zero h)
sum_term (suc n) f i h = by_eq i n (λ q. omega (arith, ap f q)) (λ ne. omega (arith, sum_term n f i (omega (arith, ne))))

pub sum-le : (n : ℕ) (f g : ℕ → ℕ) → ((i : ℕ) → i < n → f i ≤ g i) → sum n f ≤ sum n g
unfolding sum
sum-le zero f g h = omega arith
sum-le (suc n) f g h = omega (arith, sum-le n f g (λ i l. h i (omega arith)), h n (omega arith))

-- terms that are at most m
pub sum_bound : (n m : ℕ) (f : ℕ → ℕ) → ((i : ℕ) → i < n → f i ≤ m) → sum n f ≤ n * m
unfolding sum
sum_bound zero m f h = omega arith
sum_bound (suc n) m f h = omega (arith, sum_bound n m f (λ i l. h i (omega arith)), h n (omega arith), suc-mul n m)

-- ---- one index more
pub all_more : (n : ℕ) (t : ℕ → Bool) → all (n + 1) t ≡ all n t && t n
unfolding all
all_more n t = ap (λ (m : ℕ). all m t) (add-one n)
