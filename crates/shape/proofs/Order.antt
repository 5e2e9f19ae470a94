-- Neighbours in order, and so every two. Assumes nothing.
use Prim.Native.Nat.{ℕ, zero, suc, ◌+◌, ◌≤◌, ◌<◌}
use mathlib.Core.Path.{◌≡◌, ap}
use native.Mathlib.Nat.{not-suc-le-zero}
use native.Mathlib.Omega.{arith}
use Rattle.numbers.proofs.Split.{by_eq}

-- pieces from `base k` up to `end k`, each of which starts where the one before ends or behind it
pub chain : (n : ℕ) (base end : ℕ → ℕ)
    → ((k : ℕ) → k < n → base k ≤ end k)
    → ((j k : ℕ) → k ≡ j + 1 → k < n → end j ≤ base k)
    → (k l : ℕ) → k < l → l < n → end k ≤ base l
chain n base end sized next k zero h m = absurd (not-suc-le-zero h)
chain n base end sized next k (suc l) h m =
    by_eq k l
    (λ e. omega (arith, ap end e, next l (suc l) (omega arith) m))
    (λ ne. omega (arith, chain n base end sized next k l (omega (arith, ne)) (omega arith), sized l (omega arith), next l (suc l) (omega arith) m))
