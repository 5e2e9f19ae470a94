-- The live spans of one block, in units from its base, and the bits that they set in its two maps. Assumes nothing.
use Rattle.std.specs.Prelude.{ℕ, ◌+◌, ◌≤◌, ◌<◌, List, [], ◌∷◌, false, ◌⊎◌, ◌≡◌, leb, ltb, eqb}
use Rattle.numbers.specs.Names.{Units}
use Rattle.numbers.specs.Pick.{pick}
use Rattle.bits.specs.Bits.{bit}
use Rattle.block.specs.declared.Block.{Block}
use Rattle.block.specs.Search.{is_dirty}
use Rattle.block.specs.Window.{Longest}

-- len units from start on
pub record Piece : Type 0 where
  pub start : ℕ
  pub len : ℕ

abbrev pub piece : Units → Units → Piece
piece start len = record { start = start; len = len }

-- 1 if the piece has unit k, otherwise 0
unfoldable pub has : Piece → Units → ℕ
has x k = pick (leb x.start k) (pick (ltb k (x.start + x.len)) 1 0) 0

-- 1 if unit k is the piece's last one, otherwise 0
unfoldable pub ends : Piece → Units → ℕ
ends x k = pick (eqb (x.start + x.len) (k + 1)) 1 0

-- how many pieces have unit k
unfoldable pub holders : List Piece → Units → ℕ
holders [] k = 0
holders (x ∷ l) k = has x k + holders l k

-- how many pieces end with unit k
unfoldable pub enders : List Piece → Units → ℕ
enders [] k = 0
enders (x ∷ l) k = ends x k + enders l k

-- the units of all pieces
unfoldable pub units : List Piece → Units
units [] = 0
units (x ∷ l) = x.len + units l

-- every piece has a unit, and none lies past the area
abbrev pub InsideArea : List Piece → Units → Type 0
InsideArea [] area = Unit {0}
InsideArea (x ∷ l) area = (0 < x.len) × (x.start + x.len ≤ area) × InsideArea l area

-- A unit's used bit is the number of pieces that have it, its stop bit the number of pieces that end with it, on all the words of the
-- slot. A bit is 0 or 1, so no two pieces have the same unit; and a unit that no piece has is 0 in both maps.
pub record Paints (l : List Piece) (area : ℕ) (u t : List ℕ) : Type 0 where
  pub inside : InsideArea l area
  pub used : (k : ℕ) → bit u k ≡ holders l k
  pub stop : (k : ℕ) → bit t k ≡ enders l k

-- the n units from start on are a piece of the list
abbrev pub InPieces : Units → Units → List Piece → Type 0
InPieces start n [] = ⊥
InPieces start n (x ∷ l) = ((x.start ≡ start) × (x.len ≡ n)) ⊎ InPieces start n l

-- the list without its piece at start
unfoldable pub strike_piece : Units → List Piece → List Piece
strike_piece start [] = []
strike_piece start (x ∷ l) = pick (eqb x.start start) l (x ∷ strike_piece start l)

-- A block's record and its words u and t agree with the pieces: both maps are what they paint, the used count is the pieces' units, no
-- free unit lies outside the window, and a block that isn't dirty has its exact largest run
pub record SoundBlock (b : Block) (u t : List ℕ) (l : List Piece) : Type 0 where
  pub paints : Paints l b.area u t
  pub count : b.used ≡ units l
  pub window : (k : ℕ) → k < b.area → bit u k ≡ 0 → (b.start ≤ k) × (k < b.end)
  pub exact : is_dirty b ≡ false → Longest u b.area b.largest
