-- The turn is the call's own, so the kept blocks are at most 64 (`kept_few`), lie in the arena (`asks`) and may be filled. Assumes nothing.
use Prim.Native.Nat.{◌≤◌}
use mathlib.Core.Path.{◌≡◌, sym, subst}
use native.Mathlib.Omega.{arith}
use lib.ListN.{length}
use Rattle.machine.specs.Turn.{Turn, turn}
use Rattle.shape_kept.proofs.Sized.{sized_is}
use mathlib.Core.Bool.{false}
use Rattle.state.specs.declared.Answer.TheVariants.{Reset}
use Rattle.filling.proofs.Lent.{asks, kept_few}
use Rattle.machine.specs.Machine.{soft_reset}
use Rattle.filling.proofs.soft_reset.Goals as goal

pub fill_kept-requires : goal.fill_kept-requires
fill_kept-requires c =
    let a = c.args in
    let k = c.soft_reset-r in
    let x = turn k.result.answer k.result.state k.new.used k.new.stop in
    let z = sized_is a.s _ c.well_formed.0 in
    record {
      few = subst (λ (y : Turn). y.answer ≡ Reset → y.state.count ≤ 64) (sym k.ensures) (kept_few a.s a.used.now a.stop.now z false);
      in_arena = asks a.s a.used.now a.stop.now z soft_reset x k.ensures (length a.image.now) (omega arith);
    }
