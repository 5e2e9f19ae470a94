-- The turn is the call's own, so a released span lies in the arena (`asks`) and may be filled. Assumes nothing.
use native.Mathlib.Omega.{arith}
use lib.ListN.{length}
use Rattle.machine.specs.Turn.{turn}
use Rattle.shape_kept.proofs.Sized.{sized_is}
use Rattle.filling.proofs.Lent.{asks}
use Rattle.machine.specs.Machine.{release}
use Rattle.filling.proofs.release.Goals as goal

pub fill_freed-requires : goal.fill_freed-requires
fill_freed-requires c =
    let a = c.args in
    let k = c.release-r in
    let x = turn k.result.answer k.result.state k.new.used k.new.stop in
    let z = sized_is a.s _ c.well_formed.0 in
    asks a.s a.used.now a.stop.now z (release a.address) x k.ensures (length a.image.now) (omega arith)
