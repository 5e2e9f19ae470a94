-- Marking undone by release: both maps are as they were, word by word (`strike_new` says it of the pieces). Assumes nothing.
use Prim.Native.Nat.{ℕ, ◌+◌, ◌-◌, ◌*◌, ◌≤◌, ◌<◌}
use mathlib.Core.List.{List}
use mathlib.Core.Path.{◌≡◌, sym}
use native.Mathlib.Omega.{arith}
use lib.Dec.{lit<}
use lib.ListN.{length}
use Rattle.bits.specs.Bits.{bit, filled, Words}
use Rattle.bits.proofs.Filled.{filled_has, filled_is, words_filled}
use Rattle.ledger.specs.Paint.{Piece, Paints}
use Rattle.ledger.proofs.Paints.{stop_used}

-- n bits that were all v are made x, and then v again
pub filled_back : (ws : List ℕ) (a n v x : ℕ) → v < 2 → x < 2 → Words ws → a + n ≤ 32 * length ws → ((k : ℕ) → a ≤ k → k < a + n → bit ws k ≡ v)
    → filled (filled ws a n x) a n v ≡ ws
filled_back ws a n v x hv hx hw h f =
    let g = filled_has ws a n x hx h in
    sym (filled_is (record { size = sym g.size; inside = f; below = λ k q. sym (g.below k q); above = λ k q. sym (g.above k q) })
    (words_filled ws a n x hw hx) hw hv (omega (arith, g.size)))

pub used_back : (u : List ℕ) (i e : ℕ) → Words u → i < e → e ≤ 32 * length u → ((k : ℕ) → i ≤ k → k < e → bit u k ≡ 0)
    → filled (filled u i (e - i) 1) i (e - i) 0 ≡ u
used_back u i e hw some h f = filled_back u i (e - i) 0 1 (lit< tt) (lit< tt) hw (omega arith) (λ k a b. f k a (omega arith))

-- a free unit has no stop bit
pub stop_back : (l : List Piece) (area : ℕ) (u t : List ℕ) → Paints l area u t → Words t → (i e : ℕ) → i < e → e ≤ 32 * length t
    → ((k : ℕ) → i ≤ k → k < e → bit u k ≡ 0) → filled (filled t (e - 1) 1 1) (e - 1) 1 0 ≡ t
stop_back l area u t p hw i e some h f =
    filled_back t (e - 1) 1 0 1 (lit< tt) (lit< tt) hw (omega arith)
    (λ k a b. omega (arith, stop_used l area u t p k, f k (omega arith) (omega arith)))
