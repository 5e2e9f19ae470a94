-- Document 01, Search, without windows: the oldest block of a pool that has enough free units in a row, and their lowest start.
-- Assumes nothing.
use Rattle.std.specs.Prelude.{ℕ, ◌≤◌, ◌<◌, ◌≡◌, Option, Some, None}
use Rattle.numbers.specs.Names.{Units, Age, Map}
use Rattle.runs.specs.Window.{NoFit, Lowest}
use Rattle.slots.specs.Slots.{slot_of}
use Rattle.block.specs.declared.Block.{Block}
use Rattle.state.specs.declared.State.{State}
use Rattle.state.specs.declared.Hit.{Hit}
use Rattle.state.specs.Table.{block_at}

-- the block's whole area has no n free units in a row
abbrev pub NoPlace : ℕ → Map → Units → Block → Type 0
NoPlace w u n b = NoFit (slot_of w b.slot u) b.area n 0 b.area

-- the n units from i on are the lowest n free units in a row of the block's whole area
abbrev pub LowestPlace : ℕ → Map → Units → Block → Units → Type 0
LowestPlace w u n b i = Lowest (slot_of w b.slot u) 0 b.area n i

-- of the blocks from age i on: the oldest of the pool that has a place, and its lowest place; or none has one
abbrev pub FirstFrom : State → Map → ℕ → Units → Age → Option Hit → Type 0
FirstFrom s u p n i (Some hit) =
    (i ≤ hit.age) × (hit.age < s.count) × ((block_at s hit.age).pool ≡ p) × LowestPlace s.w u n (block_at s hit.age) hit.unit
    × ((o : ℕ) → i ≤ o → o < hit.age → (block_at s o).pool ≡ p → NoPlace s.w u n (block_at s o))
FirstFrom s u p n i None = (o : ℕ) → i ≤ o → o < s.count → (block_at s o).pool ≡ p → NoPlace s.w u n (block_at s o)

abbrev pub First : State → Map → ℕ → Units → Option Hit → Type 0
First s u p n hit = FirstFrom s u p n 0 hit
