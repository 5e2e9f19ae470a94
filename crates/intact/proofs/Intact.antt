-- The promise, over any number of acts: what was written into a live span is there until somebody writes there again, or a shrink, a release, a reset or a creation
-- takes the bytes away. Assumes nothing.
use Prim.Native.Nat.{ℕ, ◌+◌, ◌≤◌, ◌<◌}
use mathlib.Core.List.{List, [], ◌∷◌}
use mathlib.Core.Path.{◌≡◌, refl, ◌∙◌}
use native.Mathlib.Omega.{arith}
use lib.ListN.{length, get_or}
use Rattle.state.specs.declared.Span.{Span}
use Rattle.state.specs.declared.Answer.TheVariants.{Shown}
use Rattle.ledger.specs.Ledger.{In}
use Rattle.demands.proofs.Spans.{one_entry}
use Rattle.filling.specs.Copying.{copy_answer}
use Rattle.filling.proofs.Written.{copied_in}
use Rattle.intact.specs.Acts.{Act, copy, World, act, acts, ReachedBy, byte_at, Live, Leave}
use Rattle.intact.proofs.Step.{act_reached, act_stays}

live_now : (a at : ℕ) (w : World) (xs : List Act) → Leave a at w xs → Live a w
unfolding Leave
live_now a at w [] h = h
live_now a at w (x ∷ xs) h = h.0

stays : (a at : ℕ) → a ≤ at → (xs : List Act) (w : World) → ReachedBy w → Leave a at w xs → (z' z : ℕ) → In a z' w.ledger → In a z (acts w xs).ledger → at < a + z
    → (z ≤ z') × (byte_at (acts w xs) at ≡ byte_at w at)
unfolding acts Leave
stays a at low [] w r h z' z was is high = (omega (arith, one_entry r a z z' is was), refl)
stays a at low (x ∷ xs) w r h z' z was is high =
    let y = live_now a at (act w x) xs h.2 in
    let rest = stays a at low xs (act w x) (act_reached w x r) h.2 y.0 z y.1 is high in
    let first = act_stays w x r a y.0 z' at was y.1 h.1 low (omega (arith, rest.0, high)) in
    (omega (arith, rest.0, first.0), rest.1 ∙ first.1)

-- ---- the statements
-- acts with images reach what calls without one reach, and write the same ledger
pub acts_reached : (xs : List Act) (w : World) → ReachedBy w → ReachedBy (acts w xs)
unfolding acts
acts_reached [] w r = r
acts_reached (x ∷ xs) w r = acts_reached xs (act w x) (act_reached w x r)

-- a byte that a live span still has is what it was, whatever else was called, refused or written
pub bytes_stay : (w : World) (xs : List Act) (a at : ℕ) → ReachedBy w → Leave a at w xs → (z : ℕ) → In a z (acts w xs).ledger → a ≤ at → at < a + z
    → byte_at (acts w xs) at ≡ byte_at w at
bytes_stay w xs a at r h z is low high = let y = live_now a at w xs h in (stays a at low xs w r h y.0 z y.1 is high).1

-- so what was written is read
pub writing_stays : (w : World) (xs : List Act) (a offset : ℕ) (bytes : List ℕ) (x : Span) → ReachedBy w
    → copy_answer w.state w.used w.stop (length w.image) a offset (length bytes) ≡ Shown x
    → (j : ℕ) → j < length bytes → Leave a (a + offset + j) (act w (copy a offset bytes)) xs
    → (z : ℕ) → In a z (acts (act w (copy a offset bytes)) xs).ledger → offset + j < z
    → byte_at (acts (act w (copy a offset bytes)) xs) (a + offset + j) ≡ get_or bytes j 0
writing_stays w xs a offset bytes x r granted j low h z is high =
    bytes_stay (act w (copy a offset bytes)) xs a (a + offset + j) r h z is (omega arith) (omega (arith, high))
    ∙ (copied_in w.state w.used w.stop a w.image offset bytes x granted j low).2
