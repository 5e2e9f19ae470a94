-- Sums of which one term changes, or goes. Assumes nothing.
use Prim.Native.Nat.{ℕ, zero, suc, ◌+◌, ◌-◌, ◌≤◌, ◌<◌}
use mathlib.Core.Path.{◌≡◌, sym, ap, ◌∙◌}
use native.Mathlib.Nat.{not-suc-le-zero}
use native.Mathlib.Omega.{arith}
use Rattle.numbers.proofs.Split.{by_eq, by_le}
use Rattle.state.specs.Table.{sum}
use Rattle.state.specs.Change.{past, fallen}
use Rattle.state.proofs.Tests.{sum_same}
use Rattle.table.proofs.Shift.{past_below, past_above, fallen_below, fallen_above}

-- ---- one term is another
pub sum_put : (n : ℕ) (f g : ℕ → ℕ) (j : ℕ) → j < n → ((i : ℕ) → i < n → (i ≡ j → ⊥) → f i ≡ g i) → sum n f + g j ≡ sum n g + f j
unfolding sum
sum_put zero f g j h e = absurd (not-suc-le-zero h)
sum_put (suc n) f g j h e =
    by_eq j n
    (λ q. omega (arith, sum_same n f g (λ i l. e i (omega arith) (λ z. omega arith)), ap f q, ap g q))
    (λ ne. omega (arith, sum_put n f g j (omega (arith, ne)) (λ i l d. e i (omega arith) d), e n (omega arith) (λ z. ne (sym z))))

-- ---- one term less: what stands from place j on moves up
-- every number but j is passed once, in order
pub past-ne : (j k : ℕ) → past j k ≡ j → ⊥
past-ne j k e = by_le j k (λ h. omega (arith, past_above j k h)) (λ h. omega (arith, past_below j k h))

pub past_rises : (j k l : ℕ) → k < l → past j k < past j l
past_rises j k l h =
    by_le j k
    (λ a. omega (arith, past_above j k a, past_above j l (omega arith)))
    (λ a. by_le j l (λ b. omega (arith, past_below j k a, past_above j l b)) (λ b. omega (arith, past_below j k a, past_below j l b)))

pub past_low : (j k n : ℕ) → k < n - 1 → past j k < n
past_low j k n h = by_le j k (λ a. omega (arith, past_above j k a)) (λ a. omega (arith, past_below j k a))

pub past_fallen : (j i : ℕ) → (i ≡ j → ⊥) → past j (fallen j i) ≡ i
past_fallen j i ne =
    by_le i j
    (λ a. ap (past j) (fallen_below j i a) ∙ past_below j i (omega (arith, ne)))
    (λ a. ap (past j) (fallen_above j i a) ∙ past_above j (i - 1) (omega arith) ∙ omega arith)

pub fallen_low : (j i n : ℕ) → j < n → i < n → (i ≡ j → ⊥) → fallen j i < n - 1
fallen_low j i n h l ne = by_le i j (λ a. omega (arith, fallen_below j i a, ne)) (λ a. omega (arith, fallen_above j i a))

one_less : (n : ℕ) (f : ℕ → ℕ) (j : ℕ) → j ≤ n → sum n (λ k. f (past j k)) + f j ≡ sum (suc n) f
unfolding sum
one_less zero f j h = let e : j ≡ 0 = omega arith in omega (arith, ap f e)
one_less (suc n) f j h =
    by_eq j (suc n)
    (λ q. omega (arith, sum_same (suc n) (λ k. f (past j k)) f (λ k l. ap f (past_below j k (omega arith))), ap f q))
    (λ ne. omega (arith, one_less n f j (omega (arith, ne)), ap f (past_above j n (omega (arith, ne)) ∙ suc_is n)))
  where
    suc_is : (n : ℕ) → n + 1 ≡ suc n
    suc_is n = omega arith

pub sum_without : (n : ℕ) (f : ℕ → ℕ) (j : ℕ) → j < n → sum (n - 1) (λ k. f (past j k)) + f j ≡ sum n f
sum_without n f j h =
    let e : suc (n - 1) ≡ n = omega arith in
    one_less (n - 1) f j (omega arith) ∙ ap (λ (m : ℕ). sum m f) e
