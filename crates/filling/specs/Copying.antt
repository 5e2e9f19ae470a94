-- Document 01, Filling: a write into a span. Assumes nothing.
use Rattle.std.specs.Prelude.{ℕ, ◌+◌, ◌-◌, ◌<◌, List, ◌⊎◌, ◌≡◌, leb, length}
use Rattle.std.proofs.lemmas.List.Edits.{sets}
use Rattle.numbers.specs.Names.{Address, Bytes, Map}
use Rattle.numbers.specs.Pick.{pick}
use Rattle.state.specs.declared.State.{State}
use Rattle.state.specs.declared.Span.{Span}
use Rattle.state.specs.declared.Refusal.{Refusal}
use Rattle.state.specs.declared.Refusal.TheVariants.{InvalidArgument}
use Rattle.state.specs.declared.Answer.{Answer}
use Rattle.state.specs.declared.Answer.TheVariants.{Created, Granted, Released, Shrunk, Shown, Reset, Refused}
use Rattle.machine.specs.Span.{query_turn}
use Rattle.machine.specs.Machine.{query}
use Rattle.filling.specs.Unused.{lent}
use Rattle.filling.specs.Refused.{LentWhen}

-- the answer to a write of n bytes from an offset on, given what the query shows: refused 1 if offset plus length passes the span
abbrev pub fits : Bytes → Bytes → Answer → Answer
fits offset n (Shown x) = pick (leb (offset + n) x.size) (Shown x) (Refused InvalidArgument)
fits offset n (Created size g pools) = Created size g pools
fits offset n (Granted x) = Granted x
fits offset n (Released x) = Released x
fits offset n (Shrunk x) = Shrunk x
fits offset n Reset = Reset
fits offset n (Refused why) = Refused why

-- the image after the write: the bytes are in the span from the offset on; if the write is refused, none is written
abbrev pub written : Address → Bytes → List ℕ → List ℕ → Answer → List ℕ
written arena offset bytes image (Shown x) = sets image (x.address - arena + offset) bytes
written arena offset bytes image (Created size g pools) = image
written arena offset bytes image (Granted x) = image
written arena offset bytes image (Released x) = image
written arena offset bytes image (Shrunk x) = image
written arena offset bytes image Reset = image
written arena offset bytes image (Refused why) = image

-- looked up as in a query and refused as there; an image whose length isn't the arena's is refusal 1, straight after 5
abbrev pub looked_up : State → Map → Map → Bytes → Address → Answer
looked_up s u t room a = (lent s u t room (query_turn s u t a)).answer

abbrev pub copy_answer : State → Map → Map → Bytes → Address → Bytes → Bytes → Answer
copy_answer s u t room a offset n = fits offset n (looked_up s u t room a)

-- when a write is refused: where the query with the image is; and with 1 if the bytes pass the span that the query shows
abbrev pub CopyWhen : State → Map → Map → Bytes → Address → Bytes → Bytes → Refusal → Type 0
CopyWhen s u t room a offset n why =
    LentWhen s u t room (query a) why ⊎ ((x : Span) × (looked_up s u t room a ≡ Shown x) × (x.size < offset + n) × (why ≡ InvalidArgument))

abbrev pub copy_image : State → Map → Map → List ℕ → Address → Bytes → List ℕ → List ℕ
copy_image s u t image a offset bytes = written s.arena offset bytes image (copy_answer s u t (length image) a offset (length bytes))
