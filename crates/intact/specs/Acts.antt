-- Acts one after another, and what they leave: calls with an image of the arena or without one, and writes into spans. Assumes nothing.
use Rattle.std.specs.Prelude.{ℕ, ◌+◌, ◌-◌, ◌≤◌, ◌<◌, List, [], ◌∷◌, ◌≡◌, length, get_or}
use Rattle.numbers.specs.Names.{Address}
use Rattle.state.specs.declared.State.{State}
use Rattle.state.specs.declared.Span.{Span}
use Rattle.machine.specs.Turn.{Turn}
use Rattle.machine.specs.Machine.{Call, step}
use Rattle.ledger.specs.Ledger.{enter, In}
use Rattle.ledger.specs.Reached.{Reached}
use Rattle.filling.specs.Unused.{lent_step, image_after}
use Rattle.filling.specs.Copying.{copy_image}

-- a call without an image; a call with the image and a pattern; a write of bytes to the span at an address, from an offset on. A creation
-- and a query take no image: no function makes these two with an image.
pub data Act : Type 0 where
  plain : Call → Act
  call : ℕ → Call → Act
  copy : ℕ → ℕ → List ℕ → Act

-- what there is between two acts
pub record World : Type 0 where
  pub state : State
  pub used : List ℕ
  pub stop : List ℕ
  pub ledger : List Span
  pub image : List ℕ

abbrev pub turned : Turn → List Span → List ℕ → World
turned x l image = record { state = x.state; used = x.used; stop = x.stop; ledger = enter x.answer l; image = image }

abbrev pub act : World → Act → World
act w (plain c) = turned (step w.state w.used w.stop c) w.ledger w.image
act w (call pattern c) =
    turned (lent_step w.state w.used w.stop (length w.image) c) w.ledger (image_after w.state w.used w.stop pattern w.image c)
act w (copy a offset bytes) = record {
  state = w.state;
  used = w.used;
  stop = w.stop;
  ledger = w.ledger;
  image = copy_image w.state w.used w.stop w.image a offset bytes;
}

unfoldable pub acts : World → List Act → World
acts w [] = w
acts w (x ∷ xs) = acts (act w x) xs

-- calls without an image reach its record, maps and ledger
abbrev pub ReachedBy : World → Type 0
ReachedBy w = Reached w.state w.used w.stop w.ledger

-- the byte at an address of the arena
abbrev pub byte_at : World → Address → ℕ
byte_at w k = get_or w.image (k - w.state.arena) 0

-- ---- acts that don't write one byte, at address at, of the span at address a
-- the span is live
abbrev pub Live : Address → World → Type 0
Live a w = (z : ℕ) × In a z w.ledger

-- the act is a write to the span, granted or not, that covers the byte
abbrev pub Writes : Address → Address → Act → Type 0
Writes a at (plain c) = ⊥
Writes a at (call pattern c) = ⊥
Writes a at (copy b offset bytes) = (b ≡ a) × (a + offset ≤ at) × (at < a + offset + length bytes)

-- the span is live before and after each act, and none writes the byte
unfoldable pub Leave : Address → Address → World → List Act → Type 0
Leave a at w [] = Live a w
Leave a at w (x ∷ xs) = Live a w × (Writes a at x → ⊥) × Leave a at (act w x) xs
