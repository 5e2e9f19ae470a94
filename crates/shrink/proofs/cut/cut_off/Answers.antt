-- In a good shape the used count of the block's pool covers the block's (`less_ready`). Assumes nothing.
use Prim.Native.Nat.{◌-◌}
use lib.ListN.{length}
use Rattle.shape_facts.proofs.Leaves.{less_ready}
use Rattle.shrink.proofs.cut.cut_off.Goals as goal

pub less_used-requires : goal.less_used-requires
less_used-requires c =
    let a = c.args in
    let p = less_ready a.s (length a.used.now) (length a.stop.now) c.requires.shaped a.j c.requires.stands (a.tail.to - a.tail.from) c.requires.counted in
    record { in_table = p.0; counted = p.1 }
