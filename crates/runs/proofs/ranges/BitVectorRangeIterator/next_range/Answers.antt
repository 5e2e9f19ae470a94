-- All units before the lowest free one that is left are used (`lowest`), so the run starts there. It ends at the next used unit of its word
-- (`ends_here`), or else `extend` follows it. If no free unit is left, all units up to the window's end are used. Assumes nothing.
use Rattle.std.proofs.Common.{ℕ, ◌+◌, ◌*◌, ◌<◌, ◌^◌, Some, None, refl, ap, ◌∙◌, arith}
use lib.Count.{count_trailing_zeros}
use Rattle.bits.specs.Bits.{digit}
use Rattle.bits.proofs.Digits.{digit_of_zero}
use Rattle.bits.proofs.Find.{seen_none, lowest}
use Rattle.runs.specs.Steps.{SameWindow}
use Rattle.runs.proofs.Laws.{step_after, used_is, run_clear, ends_here, run_taken}
use Rattle.runs.proofs.ranges.BitVectorRangeIterator.next_range.Goals as goal

pub returns-then-self-eq0-clause-answer : goal.returns-then-self-eq0-clause-answer
returns-then-self-eq0-clause-answer c =
    let w = c.skip.new.self in
    let s = c.skip.ensures in
    let same : SameWindow c.args.self.now w = record { words = s.same_window.words; end = omega (arith, s.same_window.end) } in
    step_after c.args.self.now w w c.args.hint None same s.seen (λ p t. (
      λ k q r. used_is w.slice.now k
          (seen_none w.slice.now w.end p 0 w.at w.word t c.if-self-eq0.true k q (omega (arith, s.word_or_last c.if-self-eq0.true)) r),
      t,
    ))

pub returns-then-self-from-clause-answer : goal.returns-then-self-from-clause-answer
returns-then-self-from-clause-answer c =
    let w = c.skip.new.self in
    let s = c.skip.ensures in
    let same : SameWindow c.args.self.now w = record { words = s.same_window.words; end = omega (arith, s.same_window.end) } in
    step_after c.args.self.now w w c.args.hint None same s.seen (λ p t.
    let o = lowest w.slice.now w.end p 0 w.at w.word t c.if-self-eq0.false in
    (λ k q r. used_is w.slice.now k (o.before k q (omega arith) r), t))

pub returns-then-used-eq0-clause-answer : goal.returns-then-used-eq0-clause-answer
returns-then-used-eq0-clause-answer c =
    let w = c.skip.new.self in
    let s = c.skip.ensures in
    let same : SameWindow c.args.self.now w = record { words = s.same_window.words; end = omega (arith, s.same_window.end) } in
    step_after c.args.self.now w c.extend-to.new.self c.args.hint
    (Some record { start = w.at * 32 + count_trailing_zeros 32 w.word; end = c.extend-to.result }) same s.seen (λ p t.
    let o = lowest w.slice.now w.end p 0 w.at w.word t c.if-self-eq0.false in
    record {
      low = omega (arith, o.low);
      used = λ k q r. used_is w.slice.now k (o.before k q (omega arith) (omega arith));
      ends = c.extend-to.ensures.run_end
          (λ k q r u. run_clear w.slice.now w.end p w.at w.word 32 t (omega arith)
          (λ j g. ap (λ (x : ℕ). digit x j) c.if-used-eq0.true ∙ digit_of_zero j) k (omega arith) (omega arith));
      same = c.extend-to.ensures.same_window.end;
    })

pub returns-clause-answer : goal.returns-clause-answer
returns-clause-answer c =
    let w = c.skip.new.self in
    let s = c.skip.ensures in
    let same : SameWindow c.args.self.now w = record { words = s.same_window.words; end = omega (arith, s.same_window.end) } in
    step_after c.args.self.now w _ c.args.hint
    (Some record { start = w.at * 32 + count_trailing_zeros 32 w.word; end = c.min-to.result }) same s.seen (λ p t.
    let o = lowest w.slice.now w.end p 0 w.at w.word t c.if-self-eq0.false in
    record {
      low = omega (arith, o.low);
      used = λ k q r. used_is w.slice.now k (o.before k q (omega arith) (omega arith));
      ends = ends_here w.slice.now w.end c.args.hint p w.at w.word (w.at * 32 + count_trailing_zeros 32 w.word) c.min-to.result t
          c.if-self-eq0.false c.if-used-eq0.false (omega arith) c.if-self-from.false (omega (arith, c.min-to.ensures));
      same = refl;
    })

pub returns-clause-fewer_left : goal.returns-clause-fewer_left
returns-clause-fewer_left c =
    let w = c.skip.new.self in
    let fits : w.word < 2 ^ 32 = omega arith in
    omega (arith, c.skip.ensures.no_more_left, run_taken w.word fits c.if-self-eq0.false c.if-used-eq0.false)
