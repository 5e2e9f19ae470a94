-- Document 01, Pool, and a fresh pool's record. Assumes nothing.
use Rattle.std.specs.Prelude.{ℕ, ◌*◌, ◌%◌, eqb}
use Rattle.numbers.specs.Names.{Bytes}
use Rattle.numbers.specs.Pick.{pick}
use Rattle.sizes.specs.declared.Pool.{Pool}

-- no block, so no area and nothing used
abbrev pub fresh_pool : Bytes → Pool
fresh_pool g = record { granularity = g; blocks = 0; empty = 0; area = 0; used = 0 }

-- one pool: 0; three: pool 2 if the rounded size is a multiple of 4g, else 1 if of 2g, else 0
unfoldable pub pool_of : Bytes → Bytes → ℕ → ℕ
pool_of size g pools =
    pick (eqb pools 1) 0 (pick (eqb (size % (4 * g)) 0) 2 (pick (eqb (size % (2 * g)) 0) 1 0))
