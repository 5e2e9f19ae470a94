use mathlib.Core.Path.{◌≡◌}
use Rattle.filling.specs.Unused.{blocks_up_to, filled_image}
use Rattle.filling.proofs.fill.fill_blocks.Given as goal

-- the image is the given one with the first blocks filled
abbrev pub invariant-loop-b : goal.invariant-loop-b
invariant-loop-b l = l.image ≡ filled_image l.arena l.pattern l.fn.image (blocks_up_to l.fn.r l.b-index)
