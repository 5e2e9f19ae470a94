-- The loop keeps: the units from `from` up to `to` are free, and `to` is the end of the walk's word or of the window. A word without used
-- units adds its own (`zero_word`); in another one the lowest used unit ends the run (`ends_later`). Assumes nothing.
use Rattle.std.proofs.Common.{◌≡◌, ℕ, ◌+◌, ◌*◌, ◌-◌, ◌<◌, List, ⊎_elim, arith}
use Rattle.numbers.proofs.Split.{le-or-lt}
use Rattle.bits.specs.Bits.{bit}
use Rattle.runs.specs.Walk.{ClearIn, Ends}
use Rattle.runs.proofs.Laws.{in_window, seen_past, ends_later, zero_word}
use Rattle.runs.proofs.ranges.BitVectorRangeIterator.extend.Goals.{At-loop-to}
use Rattle.runs.proofs.ranges.BitVectorRangeIterator.extend.Goals as goal

-- what a return in the loop has to show: the run ends at e, and the walk goes on at word number at
abbrev EndsAt : At-loop-to → ℕ → ℕ → ℕ → List ℕ → ℕ → Type 0
EndsAt c e at word ws end = ClearIn ws c.args.from (32 * c.args.self.now.at + 32) end → Ends ws c.args.from end c.args.hint e at word

-- it is shown of the walk as the loop has it
kept : (c : At-loop-to) (e at word : ℕ) → EndsAt c e at word c.loop-to.self.slice.now c.loop-to.self.end
    → EndsAt c e at word c.args.self.now.slice.now c.args.self.now.end
kept c e at word h = in_window (EndsAt c e at word) c.args.self.now c.loop-to.self c.loop-to.invariant.window h

-- the walk stops at the end of a word, or at the window's end
stopped : (c : At-loop-to)
    → (c.loop-to.to < c.loop-to.self.end → c.loop-to.to - c.args.from < c.args.hint → bit c.loop-to.self.slice.now c.loop-to.to ≡ 1)
    → EndsAt c c.loop-to.to c.loop-to.self.at c.loop-to.self.word c.args.self.now.slice.now c.args.self.now.end
stopped c f =
    let l = c.loop-to in
    let i = l.invariant in
    kept c l.to l.self.at l.self.word (λ b. rw i.nothing record {
      some = i.some;
      inside = omega (arith, i.stop);
      free = i.free b;
      stop = f;
      next = seen_past l.self.slice.now l.self.end l.to 0 l.self.at l.self.stands.word i.stop;
    })

pub returns-then-to-self-clause-run_end : goal.returns-then-to-self-clause-run_end
returns-then-to-self-clause-run_end c = stopped (goal.at.returns-then-to-self-clause-run_end c).At-loop-to (λ p q. absurd (omega (arith, c.if-to-self.true)))

pub returns-clause-run_end : goal.returns-clause-run_end
returns-clause-run_end c = stopped (goal.at.returns-clause-run_end c).At-loop-to (λ p q. absurd (omega (arith, c.loop-to-test.false)))

pub returns-then-w-ne0-clause-run_end : goal.returns-then-w-ne0-clause-run_end
returns-then-w-ne0-clause-run_end c =
    let l = c.loop-to in
    let i = l.invariant in
    let w = l.self in
    let full : l.to ≡ 32 * (w.at + 1) = omega (arith, i.stop, c.if-to-self.false) in
    kept (goal.at.returns-then-w-ne0-clause-run_end c).At-loop-to _ _ _ (λ b.
    ends_later w.slice.now c.args.from w.end c.args.hint (w.at + 1) c.min.result (omega arith) (omega (arith, w.stands.within, i.stop, c.if-to-self.false))
    c.if-w-ne0.true (omega (arith, i.some)) (omega arith) (λ k p q r. i.free b k p (omega arith)) (omega (arith, c.min.ensures)))

pub loop-to-preserved : goal.loop-to-preserved
loop-to-preserved c =
    let l = c.loop-to in
    let i = l.invariant in
    let w = l.self in
    let full : l.to ≡ 32 * (w.at + 1) = omega (arith, i.stop, c.if-to-self.false) in
    record {
      window = record { words = i.window.words; end = i.window.end };
      onward = omega (arith, i.onward);
      nothing = i.nothing;
      some = omega (arith, c.min-to-in-loop-to.ensures, i.some, i.stop, c.if-to-self.false);
      stop = omega (arith, c.min-to-in-loop-to.ensures);
      free = λ b k p q.
          ⊎_elim
          (λ g. zero_word w.slice.now (w.at + 1) k c.if-w-ne0.false (omega arith) (omega (arith, c.min-to-in-loop-to.ensures)))
          (λ g. i.free b k p g) (le-or-lt l.to k);
    }
