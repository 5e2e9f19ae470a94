-- The loop keeps `Searches`: what is known of the runs that were passed, all shorter than `n`. So the first run of `n` units is the lowest
-- place (`fits`); if none comes, the window is tight or full. Assumes nothing.
use Rattle.std.proofs.Common.{◌∙◌, Some, None, subst, arith}
use Rattle.runs.specs.Steps.{RunFrom}
use Rattle.runs.specs.Window.{UsedIn, Lowest}
use Rattle.runs.proofs.Passed.{passed_to, stepped, fits, full, tight, first_run, next_run}
use Rattle.runs.proofs.window.search_window.Goals.{In-Some, In_default}
use Rattle.runs.proofs.window.search_window.Goals as goal

-- the run that a step answers
run_of : (c : In-Some) → let a = c.args in let l = c.loop-run in let r = c.in-Some.run' in
    RunFrom a.words.now a.end a.n (passed_to a.start l.passed) r.start r.end c.next_range.new.self
run_of c =
    let a = c.args in
    let l = c.loop-run in
    stepped a.words.now a.start a.end a.n l.passed l.runs c.next_range.new.self (Some c.in-Some.run') l.invariant c.in-Some.ensures.answer

-- no run is left
none_from : (c : In_default) → let a = c.args in UsedIn a.words.now (passed_to a.start c.loop-run.passed) a.end
none_from c =
    let a = c.args in
    let l = c.loop-run in
    (stepped a.words.now a.start a.end a.n l.passed l.runs c.next_range.new.self None l.invariant c.in_default.ensures.answer).0

pub overflow_sub-length : goal.overflow_sub-length
overflow_sub-length c = omega (arith, (run_of (goal.at.overflow_sub-length c).In-Some).ends.some)

pub returns-then-n-length : goal.returns-then-n-length
returns-then-n-length c =
    let a = c.args in
    let l = c.loop-run in
    let r = c.in-Some.run' in
    subst (Lowest a.words.now a.start a.end a.n) (grind arith)
    (fits a.words.now a.start a.end a.n l.passed r.start r.end c.next_range.new.self (omega arith) l.invariant.known
    (run_of (goal.at.returns-then-n-length c).In-Some) c.if-n-length.true)

pub loop-run-preserved-in-None : goal.loop-run-preserved-in-None
loop-run-preserved-in-None c =
    let a = c.args in
    let l = c.loop-run in
    let r = c.in-Some.run' in
    let run = run_of (goal.at.loop-run-preserved-in-None c).In-Some in
    record {
      words = c.in-Some.ensures.same_window.words ∙ l.invariant.words;
      until = c.in-Some.ensures.same_window.end ∙ l.invariant.until;
      known = first_run a.words.now a.start a.end a.n l.passed r.start r.end c.next_range.new.self c.in-None.is run c.if-n-length.false;
      seen = run.ends.next;
    }

pub loop-run-preserved : goal.loop-run-preserved
loop-run-preserved c =
    let a = c.args in
    let l = c.loop-run in
    let r = c.in-Some.run' in
    let run = run_of (goal.at.loop-run-preserved c).In-Some in
    record {
      words = c.in-Some.ensures.same_window.words ∙ l.invariant.words;
      until = c.in-Some.ensures.same_window.end ∙ l.invariant.until;
      known = next_run a.words.now a.start a.end a.n l.passed c.in-Some-passed.p r.start r.end c.max.result c.next_range.new.self
          c.in-Some-passed.is l.invariant.known run c.if-n-length.false c.max.ensures;
      seen = run.ends.next;
    }

pub returns-in-None-passed : goal.returns-in-None-passed
returns-in-None-passed c =
    let a = c.args in
    full a.words.now a.start a.end a.n c.loop-run.passed c.in-None-passed.is (none_from (goal.at.returns-in-None-passed c).In_default)

pub returns-in-Some-passed-2 : goal.returns-in-Some-passed-2
returns-in-Some-passed-2 c =
    let a = c.args in
    let l = c.loop-run in
    tight a.words.now a.start a.end a.n l.passed c.in-Some-passed-2.p c.in-Some-passed-2.is l.invariant.known
    (none_from (goal.at.returns-in-Some-passed-2 c).In_default)
