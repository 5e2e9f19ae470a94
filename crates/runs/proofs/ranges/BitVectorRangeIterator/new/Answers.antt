-- The ones of the first word, masked below `start`, are its free units from `start` on (`seen_first`). If that word starts at or after
-- `end`, the window is empty, and there is nothing to see. Assumes nothing.
use Rattle.std.proofs.Common.{ℕ, ◌/◌, false, lit<, sym, subst, arith}
use Rattle.bits.specs.Walk.{Seen}
use Rattle.bits.proofs.Digits.{digit_of_zero}
use Rattle.bits.proofs.Find.{seen_first}
use Rattle.runs.proofs.ranges.BitVectorRangeIterator.new.Goals.{then-at-end, else-at-end}
use Rattle.runs.proofs.ranges.BitVectorRangeIterator.new.Goals as goal

pub returns-clause-seen : goal.returns-clause-seen
returns-clause-seen c =
    let a = c.args in
    let P : ℕ → Type 0 = Seen a.slice.now a.end a.start 0 (a.start / 32) in
    elim c.if-at-end.branch [
      | then-at-end w ↦ subst P (sym w.word-is) (seen_first a.slice.now a.end a.start false (c.type_inv.slice (a.start / 32)).fits (omega arith))
      | else-at-end w ↦ subst P (sym w.word-is) record {
        stands = omega arith;
        near = omega arith;
        fits = lit< tt;
        before = λ k p q r e. omega arith;
        zeros = λ j g p q e f. omega arith;
        ones = λ j g e. absurd (omega (arith, digit_of_zero j));
      }
    ]
