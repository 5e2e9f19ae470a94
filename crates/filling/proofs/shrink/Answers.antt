-- The turn is the call's own, so what it freed or cut off lies in the arena (`shrink_asks`) and may be filled. Assumes nothing.
use mathlib.Core.Path.{ap, ◌∙◌}
use native.Mathlib.Omega.{arith}
use lib.ListN.{length}
use Rattle.machine.specs.Turn.{turn}
use Rattle.filling.specs.Unused.{freed}
use Rattle.filling.proofs.Unused.{length_filled_all}
use Rattle.shape_kept.proofs.Sized.{sized_is}
use Rattle.filling.proofs.Lent.{shrink_asks}
use Rattle.filling.proofs.shrink.Goals as goal

pub fill_freed-requires : goal.fill_freed-requires
fill_freed-requires c =
    let a = c.args in
    let z = sized_is a.s _ c.well_formed.0 in
    let q = c.query-was in
    let k = c.shrink-after in
    let x = turn k.result.answer k.result.state k.new.used k.new.stop in
    (shrink_asks a.s a.used.now a.stop.now z a.address a.size q.result q.ensures x k.ensures (length a.image.now) (omega arith)).0

pub fill_cut_off-requires : goal.fill_cut_off-requires
fill_cut_off-requires c =
    let a = c.args in
    let z = sized_is a.s _ c.well_formed.0 in
    let q = c.query-was in
    let k = c.shrink-after in
    let x = turn k.result.answer k.result.state k.new.used k.new.stop in
    let f = c.fill_freed in
    let same = c.if-image-s.false in
    let long = ap length f.ensures ∙ length_filled_all a.s.arena a.pattern a.image.now (freed k.result.answer) in
    (shrink_asks a.s a.used.now a.stop.now z a.address a.size q.result q.ensures x k.ensures (length f.new.image) (omega (arith, long, same))).1
