-- A new block for a pool: its units, its words, and that it may enter. Assumes nothing.
use Rattle.std.specs.Prelude.{Some}
use Prim.Native.Nat.{ℕ, ◌-◌, ◌*◌, ◌^◌, ◌≤◌}
use mathlib.Core.Path.{◌≡◌, refl}
use native.Mathlib.Nat.{mul-le-mul, le_of_mul-le-mul_right}
use native.Mathlib.Omega.{arith}
use lib.ListN.{length}
use Rattle.numbers.specs.Units.{units_of}
use Rattle.numbers.proofs.Units.{units_hold, units_tight}
use Rattle.block.specs.declared.Block.{Block}
use Rattle.block.specs.Marking.{fresh}
use Rattle.state.specs.declared.State.{State}
use Rattle.state.specs.Table.{pool_at}
use Rattle.state.specs.Find.{lowest_slot, lowest_place}
use Rattle.shape.specs.Shaped.{Shaped}
use Rattle.shape_facts.proofs.Facts.{unit_g, slot_room}
use Rattle.shape_facts.proofs.Room.{slot_is, place_in, room_left, pool_small, live_small, enters}
use Rattle.shape_facts.specs.Ready.{Makeable, Makes}

module _ (s : State) (u t p n bytes : ℕ) (m : Makes s u t p n bytes) where
  abbrev f : Shaped s u t
  f = m.shaped

  abbrev unit : ℕ
  unit = (pool_at s p).granularity

  pub unit_low : 64 ≤ unit
  unit_low = omega (arith, unit_g s u t f p m.pool, f.head.g_low)

  unit_high : unit ≤ 256
  unit_high = omega (arith, unit_g s u t f p m.pool, f.head.g_high)

  -- the units fit 32 bits
  pub bytes_range : bytes ≤ (2 ^ 32 - 1) * unit
  bytes_range = omega (arith, m.bytes_high, mul-le-mul {n₁ = 2 ^ 32 - 1} {m₁ = 64} {n₂ = 2 ^ 32 - 1} {m₂ = unit} (omega arith) unit_low)

  -- and hold the span's
  pub span_fits : n ≤ units_of bytes unit
  span_fits = le_of_mul-le-mul_right {m = n} {n = units_of bytes unit} {k = unit} (omega (arith, m.fits, units_hold bytes unit (omega (arith, unit_low)))) (omega (arith, unit_low))

  module _ (at k : ℕ) (ea : Some at ≡ lowest_place s bytes) (ek : Some k ≡ lowest_slot s) (words : units_of (units_of bytes unit) 32 ≤ s.w)
      (blocks : length s.blocks ≡ 64) (order : length s.order ≡ 64) (pools : length s.pools ≡ 3) where
    abbrev new : Block
    new = fresh at bytes p k (units_of bytes unit) n

    area_high : units_of bytes unit ≤ 32 * s.w
    area_high = omega (arith, words, units_hold (units_of bytes unit) 32 (omega arith))

    pub makeable : Makeable s u t new n
    makeable =
        let c = slot_is s k ek in
        let r = slot_room s u t f k c.0 in
        let q = pool_small s u t f p m.pool in
        let w = f.head.w_high in
        record {
          enters = enters s u t f new order (room_left s u t f k c.0 c.1) m.pool (omega (arith, area_high, w));
          size = blocks;
          pools = pools;
          placed = record {
            words = omega (arith, w);
            room = r.0;
            stop_room = r.1;
            area = area_high;
            used = omega arith;
            start = span_fits;
            end = omega arith;
          };
          some = m.some;
          fits = span_fits;
          unused = refl;
          not_empty = refl;
          few = omega (arith, area_high, w);
          top = omega (arith, place_in s bytes at ea, f.head.top, units_tight bytes unit (omega (arith, unit_low)), unit_high);
          used = omega (arith, q.2, span_fits, area_high, w);
          live = omega (arith, live_small s u t f);
        }
