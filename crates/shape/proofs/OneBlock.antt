-- One block's tests as plain facts. Assumes nothing.
use Prim.Native.Nat.{ℕ, ◌+◌, ◌*◌, ◌%◌, ◌<◌}
use mathlib.Core.Path.{◌≡◌, refl, sym, ◌∙◌}
use mathlib.Core.Bool.{Bool, true, false, not}
use mathlib.Core.List.{List, [], ◌∷◌}
use native.Mathlib.Omega.{arith}
use native.Mathlib.Nat.{mul-le-mul}
use lib.Dec.{leb, ltb, eqb}
use lib.ListN.{get_or}
use borrow.Author.Tests.{leb-true, ltb-true, eqb-true, eq-eqb, not-true}
use Rattle.numbers.specs.Pick.{pick}
use Rattle.numbers.proofs.Bools.{not_both, and_left, and_right}
use Rattle.block.specs.declared.Block.{Block}
use Rattle.state.specs.declared.State.{State}
use Rattle.state.specs.Table.{block_at}
use Rattle.state.specs.Shape.{is_empty}
use Rattle.state.proofs.Tests.{every_at}
use Rattle.shape.specs.Parts.{block_tests, block_ok}
use Rattle.shape.specs.Facts.{Headed, ShapedBlockIn, Laid}
use Rattle.shape.proofs.Head.{not-zero}

empty_unused : (e : Bool) (n : ℕ) → pick e (eqb n 0) (not (eqb n 0)) ≡ true → e ≡ true → n ≡ 0
empty_unused true n p q = eqb-true n 0 p
empty_unused false n p q = absurd (not_both false q refl)

unused_empty : (e : Bool) (n : ℕ) → pick e (eqb n 0) (not (eqb n 0)) ≡ true → n ≡ 0 → e ≡ true
unused_empty true n p q = sym (eq-eqb n 0 q) ∙ p
unused_empty false n p q = absurd (not_both (eqb n 0) (eq-eqb n 0 q) (not-true (eqb n 0) p))

abbrev area_tests : State → Block → List Bool
area_tests s b = not (eqb b.area 0) ∷ eqb (b.area % 32) 0 ∷ eqb (b.area * s.granularity) b.size ∷ leb b.area (32 * s.w) ∷ []

abbrev field_tests : Block → List Bool
field_tests b = leb b.used b.area ∷ leb b.start b.area ∷ leb b.end b.area ∷ leb b.largest b.area ∷ []

pub sound : (s : State) (b : Block) → block_ok s b ≡ true → ShapedBlockIn s b
unfolding block_ok
sound s b e = record {
  slot = ltb-true b.slot s.slots (and_left (ltb b.slot s.slots) (ltb b.pool s.poolcount) (at 0));
  pool = ltb-true b.pool s.poolcount (and_right (ltb b.slot s.slots) (ltb b.pool s.poolcount) (at 0));
  base = eqb-true (b.base % 65536) 0 (at 1);
  area_low = not-zero b.area (area 0);
  area_whole = eqb-true (b.area % 32) 0 (area 1);
  area_size = eqb-true (b.area * s.granularity) b.size (area 2);
  area_high = leb-true b.area (32 * s.w) (area 3);
  used = leb-true b.used b.area (field 0);
  start = leb-true b.start b.area (field 1);
  end = leb-true b.end b.area (field 2);
  largest = leb-true b.largest b.area (field 3);
  above = leb-true s.arena b.base (and_left (leb s.arena b.base) (leb (b.base + b.size) (s.arena + s.length)) (at 4));
  below = leb-true (b.base + b.size) (s.arena + s.length) (and_right (leb s.arena b.base) (leb (b.base + b.size) (s.arena + s.length)) (at 4));
  empty_unused = empty_unused (is_empty b) b.used (at 5);
  unused_empty = unused_empty (is_empty b) b.used (at 5);
  flags = leb-true b.flags 3 (at 6);
}
  where
    at : (k : ℕ) → get_or (block_tests s b) k true ≡ true
    at k = every_at (block_tests s b) k e

    area : (k : ℕ) → get_or (area_tests s b) k true ≡ true
    area k = every_at (area_tests s b) k (at 2)

    field : (k : ℕ) → get_or (field_tests b) k true ≡ true
    field k = every_at (field_tests b) k (at 3)

-- a unit has g bytes, so no block is without bytes
pub sized : (s : State) (b : Block) → Headed s → ShapedBlockIn s b → 0 < b.size
sized s b h k = omega (arith, k.area_size, mul-le-mul {n₁ = 1} {m₁ = 64} {n₂ = b.area} {m₂ = s.granularity} k.area_low h.g_low)

pub laid : (s : State) → Headed s → ((i : ℕ) → i < s.count → ShapedBlockIn s (block_at s i)) → Laid s
laid s h k = record {
  count = omega (arith, h.count_slots, h.slots_high);
  sized = λ i l. sized s (block_at s i) h (k i l);
  top = λ i l. omega (arith, (k i l).below, h.top);
}
