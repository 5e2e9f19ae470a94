-- The turn is the call's own, so a new block lies in the arena (`asks`) and may be filled. Assumes nothing.
use Prim.Native.Nat.{◌<◌}
use mathlib.Core.Path.{sym, subst}
use native.Mathlib.Omega.{arith}
use lib.ListN.{length}
use Rattle.machine.specs.Turn.{Turn, turn}
use Rattle.shape_kept.proofs.Sized.{sized_is}
use Rattle.filling.proofs.Lent.{asks, made_few}
use Rattle.machine.specs.Machine.{alloc}
use Rattle.filling.proofs.alloc.Goals as goal

pub fill_made-requires : goal.fill_made-requires
fill_made-requires c =
    let a = c.args in
    let k = c.alloc-r in
    let x = turn k.result.answer k.result.state k.new.used k.new.stop in
    let z = sized_is a.s _ c.well_formed.0 in
    record {
      in_table = subst (λ (y : Turn). a.s.count < y.state.count → a.s.count < 64) (sym k.ensures) (made_few a.s a.used.now a.stop.now z a.size);
      in_arena = asks a.s a.used.now a.stop.now z (alloc a.size) x k.ensures (length a.image.now) (omega arith);
    }
