-- The search as a function finds what `Sought` says; so whatever else meets `Sought` is that function's answer. Assumes nothing.
use Prim.Native.Nat.{ℕ, zero, suc, ◌+◌, ◌-◌, ◌≤◌, ◌<◌, max}
use mathlib.Core.List.{List}
use mathlib.Core.Path.{◌≡◌, ap, subst, ◌∙◌}
use native.Mathlib.Omega.{arith}
use borrow.Author.Tests.{le-leb, lt-leb, eq-eqb, ne_eqb}
use Rattle.numbers.proofs.Split.{by_eq, by_le}
use Rattle.bits.specs.Bits.{bit}
use Rattle.bits.proofs.Words.{bit-lt}
use Rattle.runs.specs.declared.Search.{Search}
use Rattle.runs.specs.Window.{FreeAt, NoFit, Lowest, Sought}
use Rattle.runs.specs.Seek.{Fit, fits, none, free_from, lowest_fit, longest_run, last_end, tight_or, place_or, seek}
use Rattle.runs.proofs.Unique.{sought_unique}

pub free-le : (u : List ℕ) (k m : ℕ) → free_from u k m ≤ m
unfolding free_from
free-le u k zero = omega arith
free-le u k (suc m) =
    by_eq (bit u k) 0 (λ e. rw (eq-eqb (bit u k) 0 e) (omega (arith, free-le u (suc k) m))) (λ ne. rw (ne_eqb (bit u k) 0 ne) (omega arith))

pub free_at : (u : List ℕ) (k m n : ℕ) → n ≤ free_from u k m → FreeAt u n k
unfolding free_from
free_at u k zero n h j p q = absurd (omega arith)
free_at u k (suc m) n h j p q =
    by_eq (bit u k) 0
    (λ e.
    let g : n ≤ suc (free_from u (suc k) m) = rw (eq-eqb (bit u k) 0 e) at h in
    by_eq j k (λ f. ap (bit u) f ∙ e) (λ ne. free_at u (suc k) m (n - 1) (omega arith) j (omega (arith, ne)) (omega (arith, ne))))
    (λ ne. let g : n ≤ 0 = rw (ne_eqb (bit u k) 0 ne) at h in absurd (omega arith))

pub free_run : (u : List ℕ) (k m n : ℕ) → n ≤ m → FreeAt u n k → n ≤ free_from u k m
unfolding free_from
free_run u k zero n h f = omega arith
free_run u k (suc m) n h f =
    by_eq (bit u k) 0 (λ e. rw (eq-eqb (bit u k) 0 e) (omega (arith, free_run u (suc k) m (n - 1) (omega arith) (λ j p q. f j (omega arith) (omega arith)))))
    (λ ne. by_eq n 0 (λ z. omega arith) (λ nz. absurd (ne (f k (omega arith) (omega (arith, nz))))))

-- ---- the lowest fit
-- what the lowest fit of n units in the window from a to end is
abbrev pub Fits : List ℕ → ℕ → ℕ → ℕ → Fit → Type 0
Fits u a end n (fits i) = Lowest u a end n i
Fits u a end n none = NoFit u end n a end

fit_more : (u : List ℕ) (n k m : ℕ) (r : Fit) → (FreeAt u n k → k + n ≤ k + suc m → ⊥) → Fits u (suc k) (suc k + m) n r → Fits u k (k + suc m) n r
fit_more u n k m (fits i) not-here q =
    record {
      low = omega (arith, q.low);
      high = omega (arith, q.high);
      free = q.free;
      least = λ j a b c f. by_eq j k (λ e. not-here (subst (FreeAt u n) e f) (omega arith)) (λ ne. q.least j (omega (arith, ne)) b (omega arith) f);
    }
fit_more u n k m none not-here q =
    λ j a b c f. by_eq j k (λ e. not-here (subst (FreeAt u n) e f) (omega arith)) (λ ne. q j (omega (arith, ne)) (omega arith) (omega arith) f)

pub fit_is : (u : List ℕ) (n k m : ℕ) → 0 < n → Fits u k (k + m) n (lowest_fit u n k m)
unfolding lowest_fit
fit_is u n k zero pos = λ i a b c f. omega arith
fit_is u n k (suc m) pos =
    by_le n (free_from u k (suc m))
    (λ h.
    rw (le-leb n (free_from u k (suc m)) h)
    (record { low = omega arith; high = omega (arith, free-le u k (suc m)); free = free_at u k (suc m) n h; least = λ j a b c f. omega arith }))
    (λ h.
    rw (lt-leb n (free_from u k (suc m)) h)
    (fit_more u n k m (lowest_fit u n (suc k) m) (λ f g. omega (arith, free_run u k (suc m) n (omega arith) f)) (fit_is u n (suc k) m pos)))

-- ---- the longest run
pub longest_place : (u : List ℕ) (k m : ℕ) → (i : ℕ) × (k ≤ i) × (i + longest_run u k m ≤ k + m) × FreeAt u (longest_run u k m) i
unfolding longest_run
longest_place u k zero = (k, omega arith, omega arith, λ j p q. absurd (omega arith))
longest_place u k (suc m) =
    let r = longest_place u (suc k) m in
    let x = free_from u k (suc m) in
    let y = longest_run u (suc k) m in
    by_le x y
    (λ h. let e : max x y ≡ y = omega arith in rw e (r.0, omega (arith, r.1), omega (arith, r.2), r.3))
    (λ h. let e : max x y ≡ x = omega arith in rw e (k, omega arith, omega (arith, free-le u k (suc m)), free_at u k (suc m) x (omega arith)))

pub longest_most : (u : List ℕ) (k m n i : ℕ) → k ≤ i → i + n ≤ k + m → FreeAt u n i → n ≤ longest_run u k m
unfolding longest_run
longest_most u k zero n i p q f = omega arith
longest_most u k (suc m) n i p q f =
    by_eq i k (λ e. omega (arith, free_run u k (suc m) n (omega arith) (subst (FreeAt u n) e f)))
    (λ ne. omega (arith, longest_most u (suc k) m n i (omega (arith, ne)) (omega arith) f))

-- ---- the end of the last run
pub last_le : (u : List ℕ) (k m : ℕ) → (k ≤ last_end u k m) × (last_end u k m ≤ k + m)
unfolding last_end
last_le u k zero = (omega arith, omega arith)
last_le u k (suc m) =
    by_eq (bit u (k + m)) 0 (λ e. rw (eq-eqb (bit u (k + m)) 0 e) (omega arith, omega arith))
    (λ ne. let r = last_le u k m in rw (ne_eqb (bit u (k + m)) 0 ne) (r.0, omega (arith, r.1)))

pub last_after : (u : List ℕ) (k m j : ℕ) → last_end u k m ≤ j → j < k + m → bit u j ≡ 1
unfolding last_end
last_after u k zero j p q = absurd (omega arith)
last_after u k (suc m) j p q =
    by_eq (bit u (k + m)) 0
    (λ e. let g : k + suc m ≤ j = rw (eq-eqb (bit u (k + m)) 0 e) at p in absurd (omega arith))
    (λ ne.
    let g : last_end u k m ≤ j = rw (ne_eqb (bit u (k + m)) 0 ne) at p in
    by_eq j (k + m) (λ f. ap (bit u) f ∙ omega (arith, ne, bit-lt u (k + m))) (λ nf. last_after u k m j g (omega (arith, nf))))

pub last_closes : (u : List ℕ) (k m : ℕ) → k < last_end u k m → bit u (last_end u k m - 1) ≡ 0
unfolding last_end
last_closes u k zero h = absurd (omega arith)
last_closes u k (suc m) h =
    by_eq (bit u (k + m)) 0
    (λ e. let z : k + suc m - 1 ≡ k + m = omega arith in rw (eq-eqb (bit u (k + m)) 0 e, z) e)
    (λ ne. rw (ne_eqb (bit u (k + m)) 0 ne) (last_closes u k m (rw (ne_eqb (bit u (k + m)) 0 ne) at h)))

-- ---- the search
tight_is : (u : List ℕ) (n a m : ℕ) → 0 < n → NoFit u (a + m) n a (a + m) → (r : Fit) → Fits u a (a + m) 1 r → Sought u a (a + m) n (tight_or u a m r)
tight_is u n a m pos unfit (fits f) q =
    let ll = last_le u a m in
    let lp = longest_place u a m in
    let o = q.free f (omega arith) (omega arith) in
    let some : f < last_end u a m = by_le (last_end u a m) f (λ h. absurd (omega (arith, last_after u a m f h (omega (arith, q.high))))) (λ h. h) in (
      record {
        low = q.low;
        some = some;
        high = ll.1;
        before = λ k x y.
            by_eq (bit u k) 0
            (λ e. absurd (q.least k x y (omega (arith, q.high)) (λ j c d. let z : j ≡ k = omega arith in ap (bit u) z ∙ e)))
            (λ ne. omega (arith, ne, bit-lt u k));
        opens = o;
        closes = last_closes u a m (omega (arith, q.low));
        after = λ k x y. last_after u a m k x y;
        place = lp;
        none_longer = λ i x y z g. omega (arith, longest_most u a m (longest_run u a m + 1) i x z g);
      },
      by_le n (longest_run u a m) (λ h. absurd (unfit lp.0 lp.1 (omega (arith, lp.2)) (omega (arith, lp.2)) (λ k x y. lp.3 k x (omega arith)))) (λ h. h),
    )
tight_is u n a m pos unfit none q =
    λ k x y.
    by_eq (bit u k) 0 (λ e. absurd (q k x y (omega arith) (λ j c d. let z : j ≡ k = omega arith in ap (bit u) z ∙ e))) (λ ne. omega (arith, ne, bit-lt u k))

place_is : (u : List ℕ) (n a m : ℕ) → 0 < n → (r : Fit) → Fits u a (a + m) n r → Sought u a (a + m) n (place_or u a m r)
place_is u n a m pos (fits i) q = q
place_is u n a m pos none q = tight_is u n a m pos q (lowest_fit u 1 a m) (fit_is u 1 a m (omega arith))

pub seek_is : (u : List ℕ) (low high n : ℕ) → 0 < n → Sought u low high n (seek u low high n)
unfolding seek lowest_fit
seek_is u low high n pos =
    by_le low high
    (λ h.
    let e : low + (high - low) ≡ high = omega arith in
    subst (λ (x : ℕ). Sought u low x n (place_or u low (high - low) (lowest_fit u n low (high - low)))) e
    (place_is u n low (high - low) pos (lowest_fit u n low (high - low)) (fit_is u n low (high - low) pos)))
    (λ h. let e : high - low ≡ 0 = omega arith in rw e (λ k x y. absurd (omega arith)))

-- whoever meets `Sought`, as the code does, answers what the function says
pub seek_only : (u : List ℕ) (low high n : ℕ) (r : Search) → 0 < n → Sought u low high n r → r ≡ seek u low high n
seek_only u low high n r pos q = sought_unique u low high n pos r (seek u low high n) q (seek_is u low high n pos)
