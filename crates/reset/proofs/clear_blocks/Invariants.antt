use mathlib.Core.Path.{◌≡◌}
use Rattle.machine.specs.Reset.{clear_blocks}
use Rattle.reset.proofs.clear_blocks.Given as goal

-- the map is the given one with the slots of the first blocks cleared
abbrev pub invariant-loop-b : goal.invariant-loop-b
invariant-loop-b l = l.words ≡ clear_blocks l.fn.s l.b-index l.fn.words
