-- The states that calls reach from a granted creation, each with its two maps and its ledger. Assumes nothing.
use Rattle.std.specs.Prelude.{ℕ, List, [], ◌≡◌}
use Rattle.bits.specs.Bits.{Words}
use Rattle.state.specs.declared.State.{State}
use Rattle.state.specs.declared.Span.{Span}
use Rattle.state.specs.declared.Answer.TheVariants.{Created}
use Rattle.state.specs.declared.Asked.{Asked}
use Rattle.machine.specs.Create.{create_turn}
use Rattle.machine.specs.Machine.{Call, step}
use Rattle.ledger.specs.Ledger.{enter}

-- each call gets what the one before it left; also a call that is refused, and a later creation
pub data Reached : State → List ℕ → List ℕ → List Span → Type 0 where
  created : (a : Asked) (u t : List ℕ) → Words u → Words t → (size g pools : ℕ) → (create_turn a u t).answer ≡ Created size g pools
      → Reached (create_turn a u t).state (create_turn a u t).used (create_turn a u t).stop []
  called : {s : State} {u t : List ℕ} {l : List Span} → Reached s u t l → (c : Call)
      → Reached (step s u t c).state (step s u t c).used (step s u t c).stop (enter (step s u t c).answer l)
