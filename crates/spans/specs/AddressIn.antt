-- An address that lies in a block of whole units. Assumes nothing.
use Rattle.std.specs.Prelude.{ℕ, ◌+◌, ◌*◌, ◌^◌, ◌≤◌, ◌<◌, ◌≡◌}
use Rattle.block.specs.declared.Block.{Block}

pub record AddressIn (b : Block) (unit a : ℕ) : Type 0 where
  pub some : 0 < unit
  pub few : b.area < 2 ^ 32
  pub size : b.area * unit ≡ b.size
  pub low : b.base ≤ a
  pub high : a < b.base + b.size
