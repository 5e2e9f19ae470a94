-- The loop keeps `Going`: the whole run is what was played so far, and then a run of at most as many records as turns are left; `out` has room
-- for their lines. Assumes nothing.
use Rattle.std.proofs.Common.{◌≡◌, ◌-◌, ◌/◌, length, false}
use Rattle.trace.specs.Play.{play}
use Rattle.trace.proofs.Going.{Going}
use Rattle.trace.proofs.play.Given as goal

abbrev pub invariant-loop : goal.invariant-loop
invariant-loop l = record {
  going :
      Going (play (length l.fn.out / 80) l.fn.s l.fn.used l.fn.stop l.bytes) l.bytes l.fn.out (l.end - l.counter) l.p.state l.used l.stop l.p.taken l.out l.p.written;
  good : l.p.bad ≡ false;
}
