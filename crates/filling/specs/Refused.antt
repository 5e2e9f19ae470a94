-- Document 01, Refusal numbers: exactly when each is given to a call with an image. Assumes nothing.
use Rattle.std.specs.Prelude.{true, false, ◌⊎◌, ◌≡◌, length}
use Rattle.numbers.specs.Names.{Bytes, Map}
use Rattle.state.specs.declared.State.{State}
use Rattle.state.specs.declared.Refusal.{Refusal}
use Rattle.state.specs.declared.Refusal.TheVariants.{InvalidArgument, BadShape}
use Rattle.state.specs.declared.Answer.TheVariants.{Refused}
use Rattle.state.specs.Shape.{bad_shape}
use Rattle.machine.specs.Machine.{Call, step}

-- 5 for a bad shape; then 1 if the image's length, room, isn't the arena's; then as the call without an image
abbrev pub LentWhen : State → Map → Map → Bytes → Call → Refusal → Type 0
LentWhen s u t room c why =
    ((bad_shape s (length u) (length t) ≡ true) × (why ≡ BadShape))
    ⊎ (((bad_shape s (length u) (length t) ≡ false) × (room ≡ s.length → ⊥) × (why ≡ InvalidArgument))
    ⊎ ((bad_shape s (length u) (length t) ≡ false) × (room ≡ s.length) × ((step s u t c).answer ≡ Refused why)))
