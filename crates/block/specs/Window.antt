-- What a block's window, largest-run field and used count say of its words u of the used map, in every state that calls reach.
-- Assumes nothing.
use Rattle.std.specs.Prelude.{ℕ, ◌+◌, ◌*◌, ◌≤◌, ◌<◌, false, List, ◌≡◌, length}
use Rattle.bits.specs.Bits.{bit, ones}
use Rattle.runs.specs.Window.{FreeAt}
use Rattle.block.specs.declared.Block.{Block}
use Rattle.block.specs.Search.{is_dirty}

-- m is the length of the longest free run of the whole area
pub record Longest (u : List ℕ) (area m : ℕ) : Type 0 where
  pub place : (i : ℕ) × (i + m ≤ area) × FreeAt u m i
  pub none_longer : (i : ℕ) → i + (m + 1) ≤ area → FreeAt u (m + 1) i → ⊥

-- the used count is the units in use, every free unit lies in the window, and a block that isn't dirty has its exact largest run
pub record Windowed (b : Block) (u : List ℕ) : Type 0 where
  pub room : b.area ≤ 32 * length u
  pub count : b.used ≡ ones u 0 b.area
  pub window : (k : ℕ) → k < b.area → bit u k ≡ 0 → (b.start ≤ k) × (k < b.end)
  pub within : b.end ≤ b.area
  pub exact : is_dirty b ≡ false → Longest u b.area b.largest
