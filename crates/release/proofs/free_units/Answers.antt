-- The block's new record keeps pool, slot and area (`released_stays`), so after its units are no longer counted the block may settle
-- (`settles_after`). `settle` promises its turn for every answer, so this does too. Assumes nothing.
use Prim.Native.Nat.{ℕ, ◌-◌}
use mathlib.Core.Path.{◌≡◌, sym, ap, subst, ◌∙◌}
use native.Mathlib.Omega.{arith}
use lib.ListN.{length}
use Rattle.block.specs.declared.Block.{Block}
use Rattle.block.specs.Marking.{Painted, painted, released, mark_released}
use Rattle.state.specs.declared.State.{State}
use Rattle.state.specs.Table.{block_at}
use Rattle.state.proofs.Lengths.{blocks_64, order_64}
use Rattle.state.proofs.Lengths as lengths
use Rattle.shape_facts.proofs.Facts.{placed}
use Rattle.machine.specs.Turn.{with_live}
use Rattle.machine.specs.Release.{less_used, settle}
use Rattle.shape_facts.specs.Ready.{Settles}
use Rattle.shape_facts.proofs.Leaves.{Stays, released_stays, less_ready, settles_after}
use Rattle.release.proofs.free_units.Goals.{After-less_used-r, After-mark_released_area-less}
use Rattle.release.proofs.free_units.Goals as goal

painting : (c : After-mark_released_area-less) → let a = c.args in
    painted c.mark_released_area-less.result c.mark_released_area-less.new.used c.mark_released_area-less.new.stop
    ≡ mark_released a.s.w (block_at a.s a.j) a.units.from a.units.to a.used.now a.stop.now
painting c =
    let a = c.args in
    c.mark_released_area-less.ensures ∙ ap (λ (b : Block). mark_released a.s.w b a.units.from a.units.to a.used.now a.stop.now) c.block_at-b.ensures

-- the record is what marking leaves
less : (c : After-mark_released_area-less) → let a = c.args in c.mark_released_area-less.result ≡ released (block_at a.s a.j) a.units.from a.units.to
less c = ap (λ (p : Painted). p.block) (painting (c))

stays : (c : After-mark_released_area-less) → let a = c.args in Stays c.mark_released_area-less.result (block_at a.s a.j)
stays c = let a = c.args in subst (λ (b : Block). Stays b (block_at a.s a.j)) (sym (less (c))) (released_stays (block_at a.s a.j) a.units.from a.units.to)

pub less_used-r-requires : goal.less_used-r-requires
less_used-r-requires c =
    let a = c.args in
    let p = less_ready a.s (length a.used.now) (length a.stop.now) c.requires.shaped a.j c.requires.stands (a.units.to - a.units.from) c.requires.counted in
    record { in_table = p.0; counted = p.1 }

-- whatever the live count is
settles : (c : After-less_used-r) (live : ℕ) → let m = c.mark_released_area-less in Stays m.result (block_at c.args.s c.args.j)
    → Settles (with_live c.less_used-r.result live) c.args.j (length m.new.used) (length m.new.stop)
settles c live st =
    let a = c.args in
    let f = c.requires.shaped in
    let h = c.requires.stands in
    let p = placed a.s (length a.used.now) (length a.stop.now) f a.j h in
    let m = c.mark_released_area-less in
    subst (λ (r : State). Settles (with_live r live) a.j (length m.new.used) (length m.new.stop)) (sym c.less_used-r.ensures)
    (settles_after a.s (length a.used.now) (length a.stop.now) f a.j h (blocks_64 a.s _ c.well_formed.0) (order_64 a.s _ c.well_formed.0)
    (lengths.pool_3 a.s _ c.well_formed.0) m.result (a.units.to - a.units.from) live st (length m.new.used) (length m.new.stop)
    (omega (arith, p.room)) (omega (arith, p.stop_room)))

pub settle-requires : goal.settle-requires
settle-requires c = let p = goal.at.settle-requires c in settles p.After-less_used-r _ (stays p.After-mark_released_area-less)

pub returns : goal.returns
returns c = λ x.
    let a = c.args in
    let m = c.mark_released_area-less in
    let live = a.s.live - 1 in
    c.settle.ensures x
    ∙ ap (λ (r : State). settle x (with_live r live) m.new.used m.new.stop a.j) c.less_used-r.ensures
    ∙ ap (λ (p : Painted). settle x (with_live (less_used a.s a.j p.block (a.units.to - a.units.from)) live) p.used p.stop a.j) (painting (goal.at.returns c).After-mark_released_area-less)
