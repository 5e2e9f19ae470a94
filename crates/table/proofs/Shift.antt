-- Elements that move by one place. Assumes nothing.
use Rattle.std.specs.Prelude.{Option, Some, None, unwrap_or}
use Prim.Native.Nat.{ℕ, ◌+◌, ◌-◌, ◌≤◌, ◌<◌}
use mathlib.Core.List.{List}
use mathlib.Core.Path.{◌≡◌, refl}
use native.Mathlib.Omega.{arith}
use borrow.Author.Tests.{lt-ltb, le-ltb, eq-eqb, ne_eqb}
use lib.ListN.{get_or}
use mathlib.Core.Bool.{Bool}
use Rattle.state.specs.Find.{least}
use Rattle.state.specs.Change.{moved_up, past, fallen}
use Rattle.state.proofs.Find.{Least, least_of}

pub moved_below : (order : List ℕ) (k age j : ℕ) → j < k → moved_up order k age j ≡ get_or order j 0
moved_below order k age j h = rw (lt-ltb j k h)

pub moved_here : (order : List ℕ) (k age : ℕ) → moved_up order k age k ≡ age
moved_here order k age = rw (le-ltb k k (omega arith), eq-eqb k k refl)

pub moved_above : (order : List ℕ) (k age j : ℕ) → k < j → moved_up order k age j ≡ get_or order (j - 1) 0
moved_above order k age j h = rw (le-ltb j k (omega arith), ne_eqb j k (λ e. omega arith))

pub past_below : (i k : ℕ) → k < i → past i k ≡ k
past_below i k h = rw (lt-ltb k i h)

pub past_above : (i k : ℕ) → i ≤ k → past i k ≡ k + 1
past_above i k h = rw (le-ltb k i h)

pub fallen_below : (i age : ℕ) → age ≤ i → fallen i age ≡ age
fallen_below i age h = rw (le-ltb i age h)

pub fallen_above : (i age : ℕ) → i < age → fallen i age ≡ age - 1
fallen_above i age h = rw (lt-ltb i age h)

-- a place that is looked for below n is at most n
pub unwrap_or_le : (n : ℕ) (test : ℕ → Bool) → unwrap_or (least n test) n ≤ n
unwrap_or_le n test = go (least n test) (least_of n test)
  where
    go : (r : Option ℕ) → Least 0 n test r → unwrap_or r n ≤ n
    go (Some k) q = omega (arith, q.high)
    go None q = omega arith
