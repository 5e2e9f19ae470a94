-- The words that are filled are the rule's (`filled_is`); with the fresh record they are its granted turn (`granted_is`). Assumes nothing.
use Prim.Native.Nat.{ℕ, ◌*◌}
use mathlib.Core.List.{◌++◌}
use mathlib.Core.Path.{sym, ap, ap₂, ◌∙◌}
use native.Mathlib.Omega.{arith}
use lib.ListN.{length, drop}
use Rattle.state.specs.declared.State.{State}
use Rattle.state.specs.declared.Answer.{Answer}
use Rattle.machine.specs.Turn.{turn}
use Rattle.shape_facts.proofs.Cleared.{slots_room}
use Rattle.create.proofs.Turns.{granted_is, filled_is}
use Rattle.create.proofs.create.Goals as goal

pub returns : goal.returns
returns c =
    let a = c.args in
    let n = c.slots_of-slots.result * a.asked.w in
    let room = slots_room a.asked.w (length a.used.now) (length a.stop.now) in
    let same = ap (λ (k : ℕ). k * a.asked.w) c.slots_of-slots.ensures in
    ap₂ (λ (x : Answer) (y : State). turn x y (c.fill.new.self ++ drop n a.used.now) (c.fill-2.new.self ++ drop n a.stop.now)) c.created.ensures.1 c.created.ensures.0
    ∙ granted_is a.asked a.used.now a.stop.now c.fresh_state.result c.slots_of-slots.result _ _
    (sym c.is_grantable.ensures ∙ c.if-not-is_grantable.false)
    c.slots_of-slots.ensures c.fresh_state.ensures
    (filled_is n a.used.now _ (omega (arith, same, room.0)) (c.fill.ensures.after (λ y e. e)))
    (filled_is n a.stop.now _ (omega (arith, same, room.1)) (c.fill-2.ensures.after (λ y e. e)))
