-- `play` takes at most the bytes lent to it, which are those that wait, and writes at most the length of `out`. `go_on`, `last` and
-- `read_on` keep both bounds. A read comes only after `play` took nothing, and then it made no call. Assumes nothing.
use Rattle.std.proofs.Common.{◌≡◌, arith}
use Rattle.std.specs.Prelude.{Result, Ok, Err, OnErr}
use Rattle.feed.proofs.Nothing.{nothing_played}
use Rattle.feed.proofs.turn.Goals as goal

on_err : {T E P : Type 0} (r : Result T E) → P → OnErr r P
on_err (Ok x) p = tt
on_err (Err e) p = p

pub returns-clause-err : goal.returns-clause-err
returns-clause-err g c =
    let none : c.play-p.result.taken ≡ 0 = omega (arith, c.if-p-gt0.false) in
    on_err c.read_on.result (nothing_played _ _ _ _ _ (rw none at c.play-p.ensures.plays))
