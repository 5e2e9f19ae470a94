-- `|` with the bit, and `&` with its complement, put the digit into its word and keep the others (`or_put`, `and_put`). Only that word is
-- written, so only that bit changes. Assumes nothing.
use Prim.Native.Nat.{ℕ, ◌*◌, ◌/◌, ◌%◌, ◌<◌}
use mathlib.Core.List.{List}
use mathlib.Core.Path.{◌≡◌}
use native.Mathlib.Nat.{mod-lt}
use native.Mathlib.Omega.{arith}
use lib.Dec.{lit<}
use lib.ListN.{length, get_or, set}
use Rattle.bits.specs.Bits.{put, set_bit, Filled}
use Rattle.bits.proofs.Filled.{filled_bit}
use Rattle.bits.proofs.Ops.{or_put, and_put}
use Rattle.bits.proofs.bit_vector_set_bit.Goals as goal

-- the word that holds the bit, stored with the bit put
stored : (ws : List ℕ) (k : ℕ) {v x : ℕ} → v < 2 → k < 32 * length ws → x ≡ put (get_or ws (k / 32) 0) (k % 32) v
    → Filled ws k 1 v (set ws (k / 32) x)
unfolding set_bit
stored ws k {v} h l e = rw e (filled_bit ws k v h l)

pub returns-then-value : goal.returns-then-value
returns-then-value c =
    let a = c.args in
    rw c.if-value.true
    (stored a.buf.now a.index (lit< tt) (omega arith)
    (or_put (get_or a.buf.now (a.index / 32) 0) (a.index % 32) (c.slice_known-1.given (a.index / 32)).fits (mod-lt a.index (lit< tt))))

pub returns-else-value : goal.returns-else-value
returns-else-value c =
    let a = c.args in
    rw c.if-value.false
    (stored a.buf.now a.index (lit< tt) (omega arith)
    (and_put (get_or a.buf.now (a.index / 32) 0) (a.index % 32) (c.slice_known-else-value-1.given (a.index / 32)).fits (mod-lt a.index (lit< tt))))
