-- A new block enters a state of good shape: there is room in the table, its slot and place are free, and the sums stay in range. Assumes nothing.
use Rattle.std.specs.Prelude.{Option, Some, None}
use Prim.Native.Nat.{ℕ, ◌+◌, ◌/◌, ◌≤◌, ◌<◌}
use mathlib.Core.Bool.{true, not}
use mathlib.Core.Path.{◌≡◌, sym, ap, subst}
use native.Mathlib.Omega.{arith}
use borrow.Author.Tests.{leb-true, eq-eqb}
use lib.Dec.{leb, eqb}
use lib.ListN.{length, get_or-eq_default}
use Rattle.numbers.proofs.Bools.{not_both, and_left}
use Rattle.numbers.proofs.Split.{by_le}
use Rattle.block.specs.declared.Block.{Block}
use Rattle.sizes.specs.declared.Pool.{Pool}
use Rattle.state.specs.declared.State.{State}
use Rattle.state.specs.Table.{block_at, pool_at, all, one, only}
use Rattle.state.specs.Shape.{in_pool}
use Rattle.state.specs.Find.{least, slot_free, lowest_slot, place_at, place_free, placed, lowest_place, clear}
use Rattle.state.proofs.Tests.{all_at, sum_bound}
use Rattle.state.proofs.Find.{Least, least_of}
use Rattle.shape.specs.Shaped.{Shaped}
use Rattle.shape.proofs.Pigeon.{each_once, place}
use Rattle.shape.proofs.Sums.{one-le, only-le}
use Rattle.table.specs.Changeable.{Insertable}
use Rattle.shape_facts.proofs.Facts.{count_64}

-- ---- the lowest slot is free, and one of those in force
pub slot_is : (s : State) (k : ℕ) → Some k ≡ lowest_slot s → (k < s.slots) × (slot_free s k ≡ true)
slot_is s k e =
    let q = subst (Least 0 s.slots (slot_free s)) (sym e) (least_of s.slots (slot_free s)) in
    (q.high, q.passes)

-- the lowest place holds the block within the arena
pub place_in : (s : State) (size a : ℕ) → Some a ≡ lowest_place s size → a + size ≤ s.arena + s.length
place_in s size a e = go (least (s.length / 65536) (place_free s size)) (least_of (s.length / 65536) (place_free s size)) e
  where
    go : (r : Option ℕ) → Least 0 (s.length / 65536) (place_free s size) r → Some a ≡ placed s r → a + size ≤ s.arena + s.length
    go (Some k) q z =
        let at : a ≡ place_at s k = cc in
        omega (arith, at, leb-true (place_at s k + size) (s.arena + s.length) (and_left (leb (place_at s k + size) (s.arena + s.length)) (all s.count (λ i. clear (block_at s i) (place_at s k) size)) q.passes))
    go None q z = let z : ◌≡◌ {A = ℕ} 0 1 = cc in absurd (omega arith)

module _ (s : State) (u t : ℕ) (f : Shaped s u t) where
  -- a slot is free: there are fewer blocks than slots
  pub room_left : (k : ℕ) → k < s.slots → slot_free s k ≡ true → s.count < s.slots
  room_left k h free =
      by_le s.slots s.count
      (λ g.
      let e : s.slots ≡ s.count = omega (arith, f.head.count_slots) in
      let once = each_once s.count (λ i. (block_at s i).slot) (λ i l. omega (arith, (f.sound i l).slot)) f.slots_apart k (omega arith) in
      let w = place s.count (λ i. (block_at s i).slot) k once in
      absurd (not_both (not (eqb (block_at s w.0).slot k)) (all_at s.count (λ i. not (eqb (block_at s i).slot k)) w.0 free w.1) (ap not (eq-eqb (block_at s w.0).slot k w.2))))
      (λ g. g)

  -- a pool's sums are small
  pub pool_small : (p : ℕ) → p < 3 → ((pool_at s p).blocks ≤ 64) × ((pool_at s p).area ≤ 33554432) × ((pool_at s p).used ≤ 33554432)
  pool_small p h =
      let c = count_64 s u t f in
      let q = f.pools p h in
      let blocks = sum_bound s.count 1 (λ i. one (in_pool s p i)) (λ i l. one-le (in_pool s p i)) in
      let area = sum_bound s.count 524288 (λ i. only (in_pool s p i) (block_at s i).area)
      (λ i l. only-le (in_pool s p i) (block_at s i).area 524288 (omega (arith, (f.sound i l).area_high, f.head.w_high))) in
      let used = sum_bound s.count 524288 (λ i. only (in_pool s p i) (block_at s i).used)
      (λ i l. only-le (in_pool s p i) (block_at s i).used 524288 (omega (arith, (f.sound i l).used, (f.sound i l).area_high, f.head.w_high))) in
      (omega (arith, ap (λ (x : Pool). x.blocks) q, blocks), omega (arith, ap (λ (x : Pool). x.area) q, area), omega (arith, ap (λ (x : Pool). x.used) q, used))

  pub live_small : s.live ≤ 33554432
  live_small =
      let c = count_64 s u t f in
      let used = sum_bound s.count 524288 (λ i. (block_at s i).used) (λ i l. omega (arith, (f.sound i l).used, (f.sound i l).area_high, f.head.w_high)) in
      omega (arith, f.live, used)

  -- a block of at most 524,288 units of a pool in force may enter
  pub enters : (b : Block) → length s.order ≡ 64 → s.count < s.slots → b.pool < 3 → b.area ≤ 524288 → Insertable s b
  enters b len h p a =
      let q = pool_small b.pool p in
      record {
        room = omega (arith, f.head.slots_high);
        age = λ k l. omega (arith, f.age_low k l, count_64 s u t f);
        order_rest = λ k l. by_le 64 k (λ g. get_or-eq_default s.order 0 {n = k} (omega (arith, len))) (λ g. f.zero_ages k l g);
        pool = p;
        blocks = omega (arith, q.0);
        area = omega (arith, q.1);
      }
