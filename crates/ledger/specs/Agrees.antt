-- When the record and the two maps agree with the ledger. Assumes nothing.
use Rattle.std.specs.Prelude.{ℕ, ◌+◌, ◌-◌, ◌/◌, ◌<◌, Bool, true, ◌&&◌, List, [], ◌∷◌, ◌≡◌, leb, ltb, length, get_or}
use Rattle.numbers.specs.Names.{Address, Bytes, Age, Map}
use Rattle.numbers.specs.Pick.{pick}
use Rattle.numbers.specs.Units.{bytes_of}
use Rattle.bits.specs.Bits.{bit}
use Rattle.slots.specs.Slots.{slot_of}
use Rattle.block.specs.declared.Block.{Block}
use Rattle.state.specs.declared.State.{State}
use Rattle.state.specs.declared.Span.{Span}
use Rattle.state.specs.Table.{zero_block}
use Rattle.state.specs.Shape.{good_shape}
use Rattle.ledger.specs.Paint.{Piece, piece, SoundBlock}

-- ---- the ledger seen from one block
-- the address is one of the size bytes from base on
abbrev pub within : Address → Bytes → Address → Bool
within base size a = leb base a && ltb a (base + size)

-- the spans of the ledger that start there, in units from base
unfoldable pub view : Bytes → Address → Bytes → List Span → List Piece
view g base size [] = []
view g base size (x ∷ l) =
    pick (within base size x.address) (piece ((x.address - base) / g) (x.size / g) ∷ view g base size l) (view g base size l)

abbrev pub view_of : Bytes → Block → List Span → List Piece
view_of g b l = view g b.base b.size l

-- the span lies in the block, at whole units
abbrev pub Lies : Bytes → Block → Span → Type 0
Lies g b x = (i : ℕ) × (n : ℕ) × (i < b.area) × (x.address ≡ b.base + bytes_of i g) × (x.size ≡ bytes_of n g)

-- ---- the table
-- the block of age j
abbrev pub at : List Block → Age → Block
at blocks j = get_or blocks j zero_block

-- every span of the ledger lies in one of the first count blocks
abbrev pub Homes : Bytes → ℕ → List Block → List Span → Type 0
Homes g count blocks [] = Unit {0}
Homes g count blocks (x ∷ l) = ((j : ℕ) × (j < count) × Lies g (at blocks j) x) × Homes g count blocks l

-- no bit is set
abbrev pub Clear : Map → Type 0
Clear ws = (k : ℕ) → bit ws k ≡ 0

-- each block agrees with the ledger's spans in it, no span lies elsewhere, and the slots that no block has are clear
pub record Agrees (g w slots count : ℕ) (blocks : List Block) (u t : List ℕ) (l : List Span) : Type 0 where
  pub each : (j : ℕ) → j < count → SoundBlock (at blocks j) (slot_of w (at blocks j).slot u) (slot_of w (at blocks j).slot t) (view_of g (at blocks j) l)
  pub idle : (k : ℕ) → k < slots → ((j : ℕ) → j < count → (at blocks j).slot ≡ k → ⊥) → Clear (slot_of w k u) × Clear (slot_of w k t)
  pub homes : Homes g count blocks l

-- ---- the whole: the record is not BadShape, record and maps agree with the ledger, and the live count is the ledger's length
pub record Sound (s : State) (u t : List ℕ) (l : List Span) : Type 0 where
  pub shape : good_shape s (length u) (length t) ≡ true
  pub agrees : Agrees s.granularity s.w s.slots s.count s.blocks u t l
  pub live : s.live ≡ length l
