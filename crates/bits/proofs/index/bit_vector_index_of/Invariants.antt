use Rattle.std.proofs.Common.{◌≡◌, ℕ, ◌-◌, ◌*◌, ◌%◌, ◌^◌, ◌≤◌, ◌<◌}
use mir.Val.{bool_byte}
use Rattle.bits.specs.Bits.{bit}
use Rattle.bits.proofs.index.bit_vector_index_of.Given as goal

abbrev pub invariant-loop-i : goal.invariant-loop-i
invariant-loop-i l = record {
  mask : l.mask ≡ 4294967295 * 2 ^ (l.start - 32 * l.i) % 2 ^ 32;
  none : (k : ℕ) → l.start ≤ k → k < 32 * l.i → bit l.buf k ≡ bool_byte l.value → ⊥;
}
