-- A block's record after marking, release and shrink: sound, and where it was. Assumes nothing.
use Prim.Native.Nat.{ℕ, zero, suc, ◌+◌, ◌-◌, ◌*◌, ◌%◌, ◌≤◌, ◌<◌, min, max}
use mathlib.Core.Bool.{Bool, true, false}
use mathlib.Core.Path.{◌≡◌, refl, sym, ◌∙◌}
use native.Mathlib.Omega.{arith}
use borrow.Author.Tests.{eqb-true, eqb-false}
use lib.Dec.{eqb, lit<}
use Rattle.numbers.specs.Pick.{pick}
use Rattle.numbers.proofs.Bools.{not_both, picked, refute}
use Rattle.block.specs.declared.Block.{Block}
use Rattle.block.specs.Record.{empty_flag, dirty_flag, is_on, on, off, with_numbers}
use Rattle.block.specs.Marking.{moved, marked, emptied, widened, released}
use Rattle.block.proofs.LiesAs.{LiesAs}
use Rattle.block.proofs.Kept.{moved-le}
use Rattle.state.specs.declared.State.{State}
use Rattle.state.specs.Shape.{is_empty}
use Rattle.shape.specs.Facts.{ShapedBlockIn}

-- ---- the flags, of which there are four values
four : (P : ℕ → Type 0) (n : ℕ) → n ≤ 3 → P 0 → P 1 → P 2 → P 3 → P n
four P zero h a b c d = a
four P (suc zero) h a b c d = b
four P (suc (suc zero)) h a b c d = c
four P (suc (suc (suc zero))) h a b c d = d
four P (suc (suc (suc (suc n)))) h a b c d = absurd (omega arith)

module _ (f : ℕ) (h : f ≤ 3) where
  full_flags : (is_on (off (off f empty_flag) dirty_flag) empty_flag ≡ false) × (off (off f empty_flag) dirty_flag < 4)
  full_flags =
      four (λ n. (is_on (off (off n empty_flag) dirty_flag) empty_flag ≡ false) × (off (off n empty_flag) dirty_flag < 4)) f h
      (refl, lit< tt) (refl, lit< tt) (refl, lit< tt) (refl, lit< tt)

  part_flags : (is_on (on (off f empty_flag) dirty_flag) empty_flag ≡ false) × (on (off f empty_flag) dirty_flag < 4)
  part_flags =
      four (λ n. (is_on (on (off n empty_flag) dirty_flag) empty_flag ≡ false) × (on (off n empty_flag) dirty_flag < 4)) f h
      (refl, lit< tt) (refl, lit< tt) (refl, lit< tt) (refl, lit< tt)

  emptied_flags : (is_on (off (on f empty_flag) dirty_flag) empty_flag ≡ true) × (off (on f empty_flag) dirty_flag < 4)
  emptied_flags =
      four (λ n. (is_on (off (on n empty_flag) dirty_flag) empty_flag ≡ true) × (off (on n empty_flag) dirty_flag < 4)) f h
      (refl, lit< tt) (refl, lit< tt) (refl, lit< tt) (refl, lit< tt)

  widened_flags : (is_on (on f dirty_flag) empty_flag ≡ is_on f empty_flag) × (on f dirty_flag < 4)
  widened_flags =
      four (λ n. (is_on (on n dirty_flag) empty_flag ≡ is_on n empty_flag) × (on n dirty_flag < 4)) f h
      (refl, lit< tt) (refl, lit< tt) (refl, lit< tt) (refl, lit< tt)

-- ---- a block in its place, whatever its used count and empty flag
pub record Bare (s : State) (b : Block) : Type 0 where
  pub slot : b.slot < s.slots
  pub pool : b.pool < s.poolcount
  pub base : b.base % 65536 ≡ 0
  pub area_low : 0 < b.area
  pub area_whole : b.area % 32 ≡ 0
  pub area_size : b.area * s.granularity ≡ b.size
  pub area_high : b.area ≤ 32 * s.w
  pub start : b.start ≤ b.area
  pub end : b.end ≤ b.area
  pub largest : b.largest ≤ b.area
  pub above : s.arena ≤ b.base
  pub below : b.base + b.size ≤ s.arena + s.length
  pub flags : b.flags ≤ 3

pub bare : (s : State) (b : Block) → ShapedBlockIn s b → Bare s b
bare s b q = record {
  slot = q.slot;
  pool = q.pool;
  base = q.base;
  area_low = q.area_low;
  area_whole = q.area_whole;
  area_size = q.area_size;
  area_high = q.area_high;
  start = q.start;
  end = q.end;
  largest = q.largest;
  above = q.above;
  below = q.below;
  flags = q.flags;
}

-- c is b with another used count, sound, and flagged empty or not
pub record Changed (s : State) (b c : Block) (used : ℕ) (empty : Bool) : Type 0 where
  pub sound : ShapedBlockIn s c
  pub lies : LiesAs c b
  pub used_is : c.used ≡ used
  pub empty_is : is_empty c ≡ empty

module _ (s : State) (b : Block) (q : Bare s b) (flags used start end largest : ℕ) (u : used ≤ b.area) (x : start ≤ b.area) (y : end ≤ b.area) (z : largest ≤ b.area)
    (few : flags < 4) where
  numbers : (is_on flags empty_flag ≡ true → used ≡ 0) → (used ≡ 0 → is_on flags empty_flag ≡ true) → ShapedBlockIn s (with_numbers b flags used start end largest)
  numbers f g = record {
    slot = q.slot;
    pool = q.pool;
    base = q.base;
    area_low = q.area_low;
    area_whole = q.area_whole;
    area_size = q.area_size;
    area_high = q.area_high;
    used = u;
    start = x;
    end = y;
    largest = z;
    above = q.above;
    below = q.below;
    empty_unused = f;
    unused_empty = g;
    flags = omega arith;
  }

  numbers_used : is_on flags empty_flag ≡ false → 0 < used → Changed s b (with_numbers b flags used start end largest) used false
  numbers_used e pos = record {
    sound = numbers (λ t. absurd (not_both (is_on flags empty_flag) t e)) (λ t. absurd (omega arith));
    lies = record { base = refl; size = refl; pool = refl; slot = refl; area = refl };
    used_is = refl;
    empty_is = e;
  }

  numbers_empty : is_on flags empty_flag ≡ true → used ≡ 0 → Changed s b (with_numbers b flags used start end largest) 0 true
  numbers_empty e none = record {
    sound = numbers (λ t. none) (λ t. e);
    lies = record { base = refl; size = refl; pool = refl; slot = refl; area = refl };
    used_is = none;
    empty_is = e;
  }

-- ---- marking
pub marked_changed : (s : State) (b : Block) → Bare s b → (i e : ℕ) → i < e → e ≤ b.area → b.used + (e - i) ≤ b.area → Changed s b (marked b i e) (b.used + (e - i)) false
unfolding marked
marked_changed s b q i e h l room =
    picked (λ (c : Block). Changed s b c (b.used + (e - i)) false) (eqb (b.used + (e - i)) b.area) _ _
    (λ t.
    let w = full_flags b.flags q.flags in
    numbers_used s b q _ (b.used + (e - i)) b.area 0 0 room (omega arith) (omega arith) (omega arith) w.1 w.0 (omega arith))
    (λ t.
    numbers_used s b q _ (b.used + (e - i)) (moved b.start i e) (moved b.end e i) b.largest room (moved-le b.start i e b.area q.start l)
    (moved-le b.end e i b.area q.end (omega arith)) q.largest (part_flags b.flags q.flags).1 (part_flags b.flags q.flags).0 (omega arith))

-- ---- units made free
pub emptied_changed : (s : State) (b : Block) → Bare s b → Changed s b (emptied b) 0 true
emptied_changed s b q =
    let w = emptied_flags b.flags q.flags in
    numbers_empty s b q _ 0 0 b.area b.area (omega arith) (omega arith) (omega arith) (omega arith) w.1 w.0 refl

pub widened_changed : (s : State) (b : Block) → ShapedBlockIn s b → (i e : ℕ) → i < e → e ≤ b.area → 0 < b.used - (e - i) → Changed s b (widened b i e) (b.used - (e - i)) false
widened_changed s b q i e h l pos =
    let w = widened_flags b.flags q.flags in
    numbers_used s b (bare s b q) _ (b.used - (e - i)) (min b.start i) (max b.end e) b.largest
    (omega (arith, q.used)) (omega (arith, q.start)) (omega (arith, q.end)) q.largest w.1
    (w.0 ∙ refute (is_empty b) (λ t. omega (arith, q.empty_unused t))) pos

-- what a release leaves, by its used count
abbrev pub empty_at : ℕ → Bool
empty_at n = eqb n 0

pub released_changed : (s : State) (b : Block) → ShapedBlockIn s b → (i e : ℕ) → i < e → e ≤ b.area → Changed s b (released b i e) (b.used - (e - i)) (empty_at (b.used - (e - i)))
unfolding released
released_changed s b q i e h l = go (eqb (b.used - (e - i)) 0) refl
  where
    go : (t : Bool) → eqb (b.used - (e - i)) 0 ≡ t → Changed s b (pick t (emptied b) (widened b i e)) (b.used - (e - i)) t
    go true t =
        let none = eqb-true (b.used - (e - i)) 0 t in
        let c = emptied_changed s b (bare s b q) in
        record { sound = c.sound; lies = c.lies; used_is = sym none; empty_is = c.empty_is }
    go false t = widened_changed s b q i e h l (omega (arith, eqb-false (b.used - (e - i)) 0 t))
