-- Document 01, Filling: a call with an image of the arena lent to it, and the bytes that it fills. Assumes nothing.
use Rattle.std.specs.Prelude.{ℕ, zero, suc, ◌+◌, ◌-◌, List, [], ◌∷◌, ◌++◌, eqb, ltb, length}
use Rattle.numbers.specs.Names.{Address, Bytes, Map}
use Rattle.numbers.specs.Pick.{pick}
use Rattle.image.specs.Image.{filled_at}
use Rattle.block.specs.declared.Block.{Block}
use Rattle.state.specs.declared.State.{State}
use Rattle.state.specs.declared.Span.{Span}
use Rattle.state.specs.declared.Refusal.TheVariants.{InvalidArgument, BadShape}
use Rattle.state.specs.declared.Answer.{Answer}
use Rattle.state.specs.declared.Answer.TheVariants.{Created, Granted, Released, Shrunk, Shown, Reset, Refused}
use Rattle.state.specs.Table.{block_at}
use Rattle.state.specs.Shape.{bad_shape}
use Rattle.machine.specs.Turn.{Turn, refuse, span}
use Rattle.machine.specs.Span.{query_turn}
use Rattle.machine.specs.Machine.{Call, create, alloc, release, shrink, query, soft_reset, hard_reset, step}

-- ---- the call
-- an image whose length, room, isn't the arena's is refusal 1, straight after 5
abbrev pub lent : State → Map → Map → Bytes → Turn → Turn
lent s u t room x =
    pick (bad_shape s (length u) (length t)) (refuse BadShape s u t) (pick (eqb room s.length) x (refuse InvalidArgument s u t))

abbrev pub lent_step : State → Map → Map → Bytes → Call → Turn
lent_step s u t room c = lent s u t room (step s u t c)

-- ---- the bytes that it fills
abbrev pub bytes_of_block : Block → Span
bytes_of_block b = span b.base b.size

-- the bytes of a new block; there is one if there are more blocks than before
abbrev pub made : ℕ → State → List Span
made before r = pick (ltb before r.count) (bytes_of_block (block_at r before) ∷ []) []

-- the bytes that a release frees
abbrev pub freed : Answer → List Span
freed (Released x) = x ∷ []
freed (Created size g pools) = []
freed (Granted x) = []
freed (Shrunk x) = []
freed (Shown x) = []
freed Reset = []
freed (Refused r) = []

-- the bytes from the end of the shortened span x to the end of the span that the query showed
abbrev pub tail_of : Span → Answer → List Span
tail_of x (Shown y) = span (x.address + x.size) (y.size - x.size) ∷ []
tail_of x (Created size g pools) = []
tail_of x (Granted y) = []
tail_of x (Released y) = []
tail_of x (Shrunk y) = []
tail_of x Reset = []
tail_of x (Refused r) = []

-- the bytes that a shrink cuts off; was is what a query shows before it
abbrev pub cut_off : Answer → Answer → List Span
cut_off was (Shrunk x) = tail_of x was
cut_off was (Created size g pools) = []
cut_off was (Granted x) = []
cut_off was (Released x) = []
cut_off was (Shown x) = []
cut_off was Reset = []
cut_off was (Refused r) = []

-- all bytes of the first n blocks
unfoldable pub blocks_up_to : State → ℕ → List Span
blocks_up_to r zero = []
blocks_up_to r (suc n) = blocks_up_to r n ++ (bytes_of_block (block_at r n) ∷ [])

abbrev pub kept_bytes : State → Answer → List Span
kept_bytes r Reset = blocks_up_to r r.count
kept_bytes r (Created size g pools) = []
kept_bytes r (Granted x) = []
kept_bytes r (Released x) = []
kept_bytes r (Shrunk x) = []
kept_bytes r (Shown x) = []
kept_bytes r (Refused why) = []

-- the bytes that a call leaves unused; a shrink to 0 is a release
abbrev pub unused : State → Map → Map → Call → Turn → List Span
unused s u t (alloc size) x = made s.count x.state
unused s u t (release a) x = freed x.answer
unused s u t (shrink a size) x = freed x.answer ++ cut_off (query_turn s u t a).answer x.answer
unused s u t soft_reset x = kept_bytes x.state x.answer
unused s u t hard_reset x = kept_bytes x.state x.answer
unused s u t (create a) x = []
unused s u t (query a) x = []

-- ---- the image afterwards; its first byte is the arena's first
unfoldable pub filled_image : Address → ℕ → List ℕ → List Span → List ℕ
filled_image arena pattern image [] = image
filled_image arena pattern image (x ∷ xs) = filled_image arena pattern (filled_at image (x.address - arena) x.size pattern) xs

-- the image that the call leaves
abbrev pub image_after : State → Map → Map → ℕ → List ℕ → Call → List ℕ
image_after s u t pattern image c = filled_image s.arena pattern image (unused s u t c (lent_step s u t (length image) c))
