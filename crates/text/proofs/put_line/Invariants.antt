-- The loop keeps: the word and the numbers so far are in `out` from `at` on, and take no more than 8 bytes and 21 for each number. Assumes
-- nothing.
use Rattle.std.proofs.Common.{◌+◌, ◌*◌, ◌≤◌, ◌++◌, take}
use Rattle.text.specs.Line.{spaced}
use Rattle.text.specs.Put.{Puts}
use Rattle.text.proofs.put_line.Given as goal

abbrev pub invariant-loop-n : goal.invariant-loop-n
invariant-loop-n l = record {
  written : Puts l.fn.out l.at (l.word ++ spaced (take l.n-index l.numbers)) l.out l.end;
  room : l.end ≤ l.at + 8 + 21 * l.n-index;
}
