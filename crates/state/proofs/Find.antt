-- Least means least, and none means none: both directions. Assumes nothing.
use Rattle.std.specs.Prelude.{Option, Some, None}
use Prim.Native.Nat.{ℕ, zero, suc, ◌+◌, ◌≤◌, ◌<◌}
use mathlib.Core.Bool.{Bool, true, false}
use mathlib.Core.Path.{◌≡◌, refl, ap, subst, ◌∙◌}
use native.Mathlib.Nat.{zero-add}
use native.Mathlib.Numerals.{add-one}
use native.Mathlib.Omega.{arith}
use Rattle.numbers.specs.Pick.{pick}
use Rattle.numbers.proofs.Bools.{not_both}
use Rattle.numbers.proofs.Split.{by_eq, same_of_not-lt}
use Rattle.state.specs.Find.{least_from, least, latest}

-- i is the lowest number from k on, below e, that passes
pub record LeastIn (k e : ℕ) (test : ℕ → Bool) (i : ℕ) : Type 0 where
  pub low : k ≤ i
  pub high : i < e
  pub passes : test i ≡ true
  pub before : (j : ℕ) → k ≤ j → j < i → test j ≡ false

-- what an answer says
abbrev pub Least : ℕ → ℕ → (ℕ → Bool) → Option ℕ → Type 0
Least k e test (Some i) = LeastIn k e test i
Least k e test None = (j : ℕ) → k ≤ j → j < e → test j ≡ false

least_more : (k n : ℕ) (test : ℕ → Bool) → test k ≡ false → (r : Option ℕ) → Least (suc k) (suc k + n) test r → Least k (k + suc n) test r
least_more k n test e (Some i) q = record {
  low = omega (arith, q.low);
  high = omega (arith, q.high);
  passes = q.passes;
  before = λ j a b. by_eq j k (λ z. ap test z ∙ e) (λ ne. q.before j (omega (arith, ne)) b);
}
least_more k n test e None q = λ j a b. by_eq j k (λ z. ap test z ∙ e) (λ ne. q j (omega (arith, ne)) (omega arith))

pub least_is : (k n : ℕ) (test : ℕ → Bool) → Least k (k + n) test (least_from k n test)
unfolding least_from
least_is k zero test = λ j a b. absurd (omega arith)
least_is k (suc n) test = go (least_is (suc k) n test) (test k) refl
  where
    go : Least (suc k) (suc k + n) test (least_from (suc k) n test) → (b : Bool) → test k ≡ b → Least k (k + suc n) test (pick b (Some k) (least_from (suc k) n test))
    go q true e = record { low = omega arith; high = omega arith; passes = e; before = λ j a b. absurd (omega arith) }
    go q false e = least_more k n test e (least_from (suc k) n test) q

-- no second answer
pub least_unique : (k e : ℕ) (test : ℕ → Bool) (r s : Option ℕ) → Least k e test r → Least k e test s → r ≡ s
least_unique k e test (Some i) (Some j) x y =
    ap Some
    (same_of_not-lt i j (λ l. not_both (test i) x.passes (y.before i x.low l)) (λ l. not_both (test j) y.passes (x.before j y.low l)))
least_unique k e test (Some i) None x y = absurd (not_both (test i) x.passes (y i x.low x.high))
least_unique k e test None (Some j) x y = absurd (not_both (test j) y.passes (x j y.low y.high))
least_unique k e test None None x y = refl

-- whoever has the lowest, as the code does, answers what the function says
pub least_only : (n : ℕ) (test : ℕ → Bool) (r : Option ℕ) → Least 0 n test r → r ≡ least n test
least_only n test r q =
    least_unique 0 n test r (least n test) q (subst (λ (e : ℕ). Least 0 e test (least n test)) (zero-add n) (least_is 0 n test))

pub least_of : (n : ℕ) (test : ℕ → Bool) → Least 0 n test (least n test)
least_of n test = subst (λ (e : ℕ). Least 0 e test (least n test)) (zero-add n) (least_is 0 n test)

-- ---- the highest
pub record LatestIn (e : ℕ) (test : ℕ → Bool) (i : ℕ) : Type 0 where
  pub high : i < e
  pub passes : test i ≡ true
  pub after : (j : ℕ) → i < j → j < e → test j ≡ false

abbrev pub Latest : ℕ → (ℕ → Bool) → Option ℕ → Type 0
Latest e test (Some i) = LatestIn e test i
Latest e test None = (j : ℕ) → j < e → test j ≡ false

latest_more : (n : ℕ) (test : ℕ → Bool) → test n ≡ false → (r : Option ℕ) → Latest n test r → Latest (suc n) test r
latest_more n test e (Some i) q = record {
  high = omega (arith, q.high);
  passes = q.passes;
  after = λ j a b. by_eq j n (λ z. ap test z ∙ e) (λ ne. q.after j a (omega (arith, ne)));
}
latest_more n test e None q = λ j b. by_eq j n (λ z. ap test z ∙ e) (λ ne. q j (omega (arith, ne)))

pub latest_of : (n : ℕ) (test : ℕ → Bool) → Latest n test (latest n test)
unfolding latest
latest_of zero test = λ j b. absurd (omega arith)
latest_of (suc n) test = go (latest_of n test) (test n) refl
  where
    go : Latest n test (latest n test) → (b : Bool) → test n ≡ b → Latest (suc n) test (pick b (Some n) (latest n test))
    go q true e = record { high = omega arith; passes = e; after = λ j a b. absurd (omega arith) }
    go q false e = latest_more n test e (latest n test) q

pub latest_unique : (e : ℕ) (test : ℕ → Bool) (r s : Option ℕ) → Latest e test r → Latest e test s → r ≡ s
latest_unique e test (Some i) (Some j) x y =
    ap Some
    (same_of_not-lt i j (λ l. not_both (test j) y.passes (x.after j l y.high)) (λ l. not_both (test i) x.passes (y.after i l x.high)))
latest_unique e test (Some i) None x y = absurd (not_both (test i) x.passes (y i x.high))
latest_unique e test None (Some j) x y = absurd (not_both (test j) y.passes (x j y.high))
latest_unique e test None None x y = refl

pub latest_only : (n : ℕ) (test : ℕ → Bool) (r : Option ℕ) → Latest n test r → r ≡ latest n test
latest_only n test r q = latest_unique n test r (latest n test) q (latest_of n test)

-- one number more
pub latest_here : (n : ℕ) (test : ℕ → Bool) → test n ≡ true → latest (n + 1) test ≡ Some n
unfolding latest
latest_here n test e = ap (λ (m : ℕ). latest m test) (add-one n) ∙ rw e

pub latest_skip : (n : ℕ) (test : ℕ → Bool) → test n ≡ false → latest (n + 1) test ≡ latest n test
unfolding latest
latest_skip n test e = ap (λ (m : ℕ). latest m test) (add-one n) ∙ rw e
