-- The exception is met: a state that is not BadShape, and a granted release that leaves one that is. Assumes nothing.
use mathlib.Core.Bool.{true, false}
use mathlib.Core.List.{[], ◌∷◌}
use mathlib.Core.Path.{◌≡◌, refl}
use lib.ListN.{length, replicate}
use Rattle.bits.specs.Bits.{digit, bit, put, set_bit, filled}
use Rattle.block.specs.Marking.{released}
use Rattle.sizes.specs.Limits.{is_granularity, is_power_below, is_base_size}
use Rattle.sizes.specs.Pools.{fresh_pool}
use Rattle.state.specs.declared.State.{State}
use Rattle.state.specs.declared.Answer.TheVariants.{Released}
use Rattle.state.specs.Table.{zero_block, all, sum}
use Rattle.state.specs.Shape.{clauses, good_shape}
use Rattle.state.specs.Find.{least_from}
use Rattle.machine.specs.Turn.{Turn, span}
use Rattle.machine.specs.Release.{release_turn}
use Rattle.machine.specs.Machine.{release, step}

-- one block of 32 units, units 0 and 1 used, one stop bit at unit 1: one span, but live says two
abbrev two_live : State
two_live = record {
  size = 65536;
  granularity = 64;
  poolcount = 1;
  immediate = false;
  w = 1;
  slots = 1;
  arena = 65536;
  length = 65536;
  live = 2;
  count = 1;
  blocks = record { base = 65536; size = 2048; pool = 0; slot = 0; flags = 2; area = 32; used = 2; start = 2; end = 32; largest = 30 } ∷ replicate 63 zero_block;
  order = replicate 64 0;
  pools = record { granularity = 64; blocks = 1; empty = 0; area = 32; used = 2 } ∷ fresh_pool 64 ∷ fresh_pool 64 ∷ [];
}

abbrev left : Turn
left = step two_live (3 ∷ []) (2 ∷ []) (release 65536)

pub good_before : good_shape two_live 1 1 ≡ true
unfolding is_granularity is_power_below is_base_size all sum clauses
good_before = refl

pub released_then : left.answer ≡ Released (span 65536 128)
unfolding is_granularity is_power_below is_base_size digit bit put set_bit filled released all sum clauses least_from release_turn
released_then = refl

pub bad_after : good_shape left.state (length left.used) (length left.stop) ≡ false
unfolding is_granularity is_power_below is_base_size digit bit put set_bit filled released all sum clauses least_from release_turn
bad_after = refl
