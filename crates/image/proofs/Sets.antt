-- A run of stores, element by element: those in it, and those outside, which stay. Assumes nothing.
use Prim.Native.Nat.{ℕ, zero, suc, ◌+◌, ◌≤◌, ◌<◌}
use mathlib.Core.List.{List, [], ◌∷◌}
use mathlib.Core.Logic.{◌⊎◌, inl, inr, ⊎_elim}
use mathlib.Core.Path.{◌≡◌, refl, sym, ap, ◌∙◌}
use native.Mathlib.Nat.{add-zero, add-suc, suc-add}
use native.Mathlib.Omega.{arith}
use lib.ListN.{length, get_or, set, length-set}
use lib.Seq.{sets, get_or-set_same, get_or-set_other}

pub sets_out : (vs l : List ℕ) (i j : ℕ) → (j < i) ⊎ (i + length vs ≤ j) → get_or (sets l i vs) j 0 ≡ get_or l j 0
sets_out [] l i j h = refl
sets_out (v ∷ vs) l i j h =
    sets_out vs (set l i v) (suc i) j (⊎_elim (λ p. inl (omega (arith, p))) (λ p. inr (omega (arith, p))) h)
    ∙ get_or-set_other l i j v 0 (λ e. ⊎_elim (λ p. omega (arith, p, e)) (λ p. omega (arith, p, e)) h)

pub sets_in : (vs l : List ℕ) (i j : ℕ) → j < length vs → i + length vs ≤ length l → get_or (sets l i vs) (i + j) 0 ≡ get_or vs j 0
sets_in [] l i j h f = absurd (omega (arith, h))
sets_in (v ∷ vs) l i zero h f =
    ap (λ (k : ℕ). get_or (sets (set l i v) (suc i) vs) k 0) (add-zero i)
    ∙ sets_out vs (set l i v) (suc i) i (inl (omega arith)) ∙ get_or-set_same l i v 0 (omega (arith, f))
sets_in (v ∷ vs) l i (suc j) h f =
    ap (λ (k : ℕ). get_or (sets (set l i v) (suc i) vs) k 0) (add-suc i j ∙ sym (suc-add i j))
    ∙ sets_in vs (set l i v) (suc i) j (omega (arith, h)) (omega (arith, f, length-set l i v))
