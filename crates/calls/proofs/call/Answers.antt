-- Each kind of call is one case of `step`, and the contract of its function is that case. A query changes nothing (`query_still`), so the
-- state and the maps are those given. Assumes nothing.
use mathlib.Core.Path.{sym, ap, ◌∙◌}
use Rattle.machine.specs.Turn.{turn}
use Rattle.machine.specs.Machine.{step}
use Rattle.state.specs.declared.Answer.{Answer}
use Rattle.records.specs.declared.Call.{Call}
use Rattle.calls.specs.Calls.{call_by}
use Rattle.calls.proofs.Calls.{query_still}
use Rattle.calls.proofs.call.Goals as goal

pub returns-in-Query : goal.returns-in-Query
returns-in-Query c = let a = c.args in
    ap (λ (x : Answer). turn x a.s a.used.now a.stop.now) c.query-answer.ensures
    ∙ query_still a.s a.used.now a.stop.now c.in-Query.address
    ∙ sym (ap (λ (x : Call). step c.args.s c.args.used.now c.args.stop.now (call_by x)) c.in-Query.is)
