-- A state of good shape has a granularity of the list, and a size that is not refused is above 0, at most MAX_SIZE and a multiple of it
-- (`rounded_to_granularity`), as `alloc_rounded` requires. Assumes nothing.
use mathlib.Core.Path.{sym, ◌∙◌}
use native.Mathlib.Omega.{arith}
use lib.ListN.{length}
use Rattle.sizes.proofs.Sizes.{rounded_to_granularity}
use Rattle.sizes.proofs.InForce.{granularity_listed}
use Rattle.shape.specs.Shaped.{Shaped}
use Rattle.shape.proofs.Shaped.{shaped_is}
use Rattle.alloc.proofs.alloc.Goals.{Else-not-shape_ok}
use Rattle.alloc.proofs.alloc.Goals as goal

-- the state has its shape
shaped : (c : Else-not-shape_ok) → let a = c.args in Shaped a.s (length a.used.now) (length a.stop.now)
shaped c = let a = c.args in shaped_is a.s (length a.used.now) (length a.stop.now) (sym c.shape_ok.ensures ∙ c.if-not-shape_ok.false)

pub round_size-requires : goal.round_size-requires
round_size-requires c = omega (arith, (shaped (goal.at.round_size-requires c).Else-not-shape_ok).head.g_low)

pub alloc_rounded-requires : goal.alloc_rounded-requires
alloc_rounded-requires c =
    let a = c.args in
    let f = shaped (goal.at.alloc_rounded-requires c).Else-not-shape_ok in
    let q = rounded_to_granularity a.size a.s.granularity c.in-Ok.bytes (granularity_listed a.s.granularity f.head.g_listed) c.ranges.size.fits (sym c.in-Ok.ensures) in
    record { shaped = f; some = q.some; most = q.small; whole = q.whole }
