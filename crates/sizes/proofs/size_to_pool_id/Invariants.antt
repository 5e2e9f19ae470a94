-- No pool from `id` up has a step that divides the size. Assumes nothing.
use Prim.Native.Nat.{◌-◌}
use mathlib.Core.Path.{◌≡◌}
use Rattle.sizes.specs.Pools.{pool_of}
use Rattle.sizes.proofs.Pools.{pool_from}
use Rattle.sizes.proofs.size_to_pool_id.Given as goal

abbrev pub invariant-loop-id : goal.invariant-loop-id
invariant-loop-id l = pool_of l.size l.granularity l.poolcount ≡ pool_from l.size l.granularity (l.id - 1)
