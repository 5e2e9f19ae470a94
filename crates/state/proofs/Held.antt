-- Two spans that are the same have the same units. Assumes nothing.
use Rattle.std.specs.Prelude.{Ok, Err}
use Prim.Native.Nat.{ℕ}
use mathlib.Core.Path.{◌≡◌, ap}
use Rattle.state.specs.Held.{Held, range}

from_of : Held → ℕ
from_of (Ok r) = r.from
from_of (Err why) = 0

to_of : Held → ℕ
to_of (Ok r) = r.to
to_of (Err why) = 0

pub same_range : (i j k l : ℕ) → ◌≡◌ {A = Held} (Ok (range i j)) (Ok (range k l)) → (i ≡ k) × (j ≡ l)
unfolding from_of to_of
same_range i j k l e = (ap from_of e, ap to_of e)
