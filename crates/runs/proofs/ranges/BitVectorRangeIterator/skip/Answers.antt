-- The loop keeps: what the walk had seen at the start it has seen. A word with no ones has no free unit left (`seen_none`), so the walk may
-- go on to the next word (`seen_word`). Assumes nothing.
use Rattle.std.proofs.Common.{◌+◌, ◌<◌, ◌^◌, length, get_or, false, arith}
use Rattle.bits.proofs.Find.{seen_word, seen_none}
use Rattle.runs.proofs.ranges.BitVectorRangeIterator.skip.Goals as goal

pub loop-self-preserved : goal.loop-self-preserved
loop-self-preserved c =
    let l = c.loop-self in
    let i = l.invariant in
    let w = l.self in
    let bound : w.at + 1 < length w.slice.now = omega (arith, w.stands.within) in
    let fits : get_or w.slice.now (w.at + 1) 0 < 2 ^ 32 = omega arith in
    record {
      window = record { words = i.window.words; end = i.window.end };
      seen = λ p s.
          let t = i.seen p s in
          seen_word w.slice.now w.end p false (w.at + 1) fits bound (omega (arith, t.near))
          (seen_none w.slice.now w.end p 0 w.at w.word t c.loop-self-test.true);
      no_more = omega (arith, i.no_more, fits, bound);
    }
