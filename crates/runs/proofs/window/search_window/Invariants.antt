use Rattle.runs.specs.Steps.{left}
use Rattle.runs.proofs.Passed.{Searches}
use Rattle.runs.proofs.window.search_window.Given as goal

abbrev pub invariant-loop-run : goal.invariant-loop-run
invariant-loop-run l = Searches l.words l.start l.end l.n l.passed l.runs

abbrev pub decreases-loop-run : goal.decreases-loop-run
decreases-loop-run l = left l.runs
