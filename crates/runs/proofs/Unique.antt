-- No second answer of a search: what `Sought` says of an answer fixes it. Assumes nothing.
use Prim.Native.Nat.{ℕ, ◌+◌, ◌-◌, ◌≤◌, ◌<◌}
use mathlib.Core.Path.{◌≡◌, refl, ap}
use mathlib.Core.List.{List}
use native.Mathlib.Omega.{arith}
use Rattle.numbers.proofs.Split.{same_of_not-lt}
use Rattle.runs.specs.Window.{FreeAt, UsedIn, Lowest, Tightened, Sought}
use Rattle.runs.specs.declared.Search.{Search}
use Rattle.runs.specs.declared.Search.TheVariants.{At, Tight, Full}

module _ (ws : List ℕ) (a end n : ℕ) (pos : 0 < n) where
  lowest_not : (i j : ℕ) → Lowest ws a end n i → Lowest ws a end n j → i < j → ⊥
  lowest_not i j x y l = y.least i x.low l x.high x.free

  first-not : {f l m f' l' m' : ℕ} → Tightened ws a end f l m → Tightened ws a end f' l' m' → f < f' → ⊥
  first-not {f} x y l = omega (arith, y.before f x.low l, x.opens)

  last_not : {f l m f' l' m' : ℕ} → Tightened ws a end f l m → Tightened ws a end f' l' m' → l < l' → ⊥
  last_not {l = l} {l' = l'} x y g = omega (arith, x.after (l' - 1) (omega arith) (omega (arith, y.high)), y.closes)

  fit_not : {f l m : ℕ} (i k : ℕ) → Tightened ws a end f l m → m < k → a ≤ i → i + k ≤ end → FreeAt ws k i → ⊥
  fit_not i k x g p q t = x.none_longer i p (omega arith) (omega arith) (λ j u v. t j u (omega arith))

  most-not : {f l m f' l' m' : ℕ} → Tightened ws a end f l m → Tightened ws a end f' l' m' → m < m' → ⊥
  most-not {m' = m'} x y g = fit_not y.place.0 m' x g y.place.1 y.place.2 y.place.3

  tight_same : {f l m f' l' m' : ℕ} → Tightened ws a end f l m → Tightened ws a end f' l' m' → Tight f l m ≡ Tight f' l' m'
  tight_same {f} {l} {m} {f'} {l'} {m'} x y =
      let p : f ≡ f' = same_of_not-lt f f' (first-not x y) (first-not y x) in
      let q : l ≡ l' = same_of_not-lt l l' (last_not x y) (last_not y x) in
      let r : m ≡ m' = same_of_not-lt m m' (most-not x y) (most-not y x) in
      cc

  full_place : (i : ℕ) → UsedIn ws a end → Lowest ws a end n i → ⊥
  full_place i h x = omega (arith, h i x.low (omega (arith, x.high)), x.free i (omega arith) (omega arith))

  full_tight : {f l m : ℕ} → UsedIn ws a end → Tightened ws a end f l m → ⊥
  full_tight {f} h x = omega (arith, h f x.low (omega (arith, x.some, x.high)), x.opens)

  pub sought_unique : (r s : Search) → Sought ws a end n r → Sought ws a end n s → r ≡ s
  sought_unique (At i) (At j) x y = ap At (same_of_not-lt i j (lowest_not i j x y) (lowest_not j i y x))
  sought_unique (At i) (Tight f l m) x y = absurd (fit_not i n y.0 y.1 x.low x.high x.free)
  sought_unique (At i) Full x y = absurd (full_place i y x)
  sought_unique (Tight f l m) (At j) x y = absurd (fit_not j n x.0 x.1 y.low y.high y.free)
  sought_unique (Tight f l m) (Tight f' l' m') x y = tight_same x.0 y.0
  sought_unique (Tight f l m) Full x y = absurd (full_tight y x.0)
  sought_unique Full (At j) x y = absurd (full_place j x y)
  sought_unique Full (Tight f l m) x y = absurd (full_tight x y.0)
  sought_unique Full Full x y = refl
