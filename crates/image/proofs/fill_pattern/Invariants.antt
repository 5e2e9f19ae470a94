use Rattle.std.proofs.Common.{◌≡◌}
use Rattle.image.specs.Image.{filled_at}
use Rattle.image.proofs.fill_pattern.Given as goal

abbrev pub invariant-loop-i : goal.invariant-loop-i
invariant-loop-i l = l.byte-items ≡ filled_at l.initial.byte-items 0 l.i l.pattern
