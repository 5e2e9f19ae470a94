-- An offset that is no multiple of the unit is `NoSpan` in both. Otherwise rounding up is dividing (`units_whole`), and the address lies in
-- the block, so the unit lies in the area. Assumes nothing.
use native.Mathlib.Nat.{div-lt_iff_lt-mul, mul-le-mul_right}
use Prim.Native.Nat.{ℕ, ◌+◌, ◌-◌, ◌*◌, ◌/◌, ◌%◌, ◌^◌, ◌≤◌, ◌<◌}
use mathlib.Core.List.{List}
use mathlib.Core.Path.{◌≡◌, ap, ap₂, ◌∙◌}
use native.Mathlib.Omega.{arith}
use borrow.Author.Tests.{eq-eqb, ne_eqb}
use lib.ListN.{length}
use Rattle.numbers.proofs.Units.{units_whole}
use Rattle.numbers.specs.Units.{units_of}
use Rattle.slots.specs.Slots.{slot_of}
use Rattle.slots.proofs.Laws.{length_slot}
use Rattle.machine.specs.Span.{held_at}
use Rattle.spans.proofs.held_of.Goals as goal

-- the unit is a unit of the block
unit_in : (area unit offset : ℕ) → 0 < unit → offset < area * unit → offset % unit ≡ 0 → (at : ℕ) → at ≡ units_of offset unit → (at ≡ offset / unit) × (at < area)
unit_in area unit offset h l e at q =
    let r : at ≡ offset / unit = q ∙ units_whole offset unit h e in
    (r, omega (arith, r, (div-lt_iff_lt-mul {k = unit} {x = offset} {y = area} h).1 l))

-- its units fit 32 bits
in_range : (area unit offset : ℕ) → area < 2 ^ 32 → offset < area * unit → offset ≤ (2 ^ 32 - 1) * unit
in_range area unit offset h l = omega (arith, mul-le-mul_right {m = area} {n = 2 ^ 32 - 1} unit (omega arith))

-- the offset lies within the area
inside : (area size unit base a : ℕ) → area * unit ≡ size → base ≤ a → a < base + size → a - base < area * unit
inside area size unit base a e l h = omega arith

pub returns-then-offset-unit-ne0 : goal.returns-then-offset-unit-ne0
returns-then-offset-unit-ne0 c = rw (ne_eqb _ _ c.if-offset-unit-ne0.true)

pub area_size_from_byte_size-at-requires : goal.area_size_from_byte_size-at-requires
area_size_from_byte_size-at-requires c =
    let w = c.requires.1 in
    let a = c.args in
    (w.some, in_range a.b.area a.unit (a.address - a.b.base) w.few (inside a.b.area a.b.size a.unit a.b.base a.address w.size w.low w.high))

pub held_at-requires : goal.held_at-requires
held_at-requires c =
    let p = c.requires.0 in
    let w = c.requires.1 in
    let a = c.args in
    let i = unit_in a.b.area a.unit (a.address - a.b.base) w.some (inside a.b.area a.b.size a.unit a.b.base a.address w.size w.low w.high) c.if-offset-unit-ne0.false c.area_size_from_byte_size-at.result c.area_size_from_byte_size-at.ensures in
    let mine = ap length c.slot-mine.ensures ∙ length_slot a.w a.b.slot a.used.now p.room in
    let ends = ap length c.slot-ends.ensures ∙ length_slot a.w a.b.slot a.stop.now p.stop_room in
    (i.1, omega (arith, mine, p.area), omega (arith, ends, p.area), omega (arith, ends, p.words))

pub returns : goal.returns
returns c =
    let w = c.requires.1 in
    let a = c.args in
    let i = unit_in a.b.area a.unit (a.address - a.b.base) w.some (inside a.b.area a.b.size a.unit a.b.base a.address w.size w.low w.high) c.if-offset-unit-ne0.false c.area_size_from_byte_size-at.result c.area_size_from_byte_size-at.ensures in
    rw (eq-eqb _ _ c.if-offset-unit-ne0.false)
    (c.held_at.ensures ∙ ap₂ (λ (u t : List ℕ). held_at u t a.b.area c.area_size_from_byte_size-at.result) c.slot-mine.ensures c.slot-ends.ensures
    ∙ ap (held_at (slot_of a.w a.b.slot a.used.now) (slot_of a.w a.b.slot a.stop.now) a.b.area) i.0)
