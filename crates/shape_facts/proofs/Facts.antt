-- What a good shape gives to the functions that the calls are made of. Assumes nothing.
use Rattle.std.specs.Prelude.{Option, Some, None, Ok, Err}
use Prim.Native.Nat.{ℕ, ◌+◌, ◌-◌, ◌*◌, ◌/◌, ◌%◌, ◌^◌, ◌≤◌, ◌<◌}
use mathlib.Core.Bool.{Bool, true, false}
use mathlib.Core.Path.{◌≡◌, refl, sym, ap, subst, ◌∙◌}
use native.Mathlib.Nat.{mul-le-mul_right, mul-le-mul, div-add-mod'}
use native.Mathlib.Omega.{arith}
use borrow.Author.Tests.{leb-true, ltb-true, eqb-true}
use lib.Dec.{leb, ltb, eqb}
use mathlib.Core.List.{List}
use Rattle.numbers.specs.Pick.{pick}
use Rattle.numbers.proofs.Bools.{and_left, and_right}
use Rattle.bits.specs.Bits.{bit}
use Rattle.slots.specs.Slots.{slot_of}
use Rattle.block.specs.declared.Block.{Block}
use Rattle.block.specs.Record.{Placed}
use Rattle.sizes.specs.declared.Pool.{Pool}
use Rattle.state.specs.declared.State.{State}
use Rattle.state.specs.InTable.{InTable}
use Rattle.state.specs.Table.{block_at, pool_at}
use Rattle.state.specs.declared.NotHeld.TheVariants.{NoSpan}
use Rattle.state.specs.Held.{range}
use Rattle.state.specs.Find.{holds, least_from, lookup}
use Rattle.state.proofs.Held.{same_range}
use Rattle.state.proofs.Find.{Least, least_is, least_of}
use Rattle.shape.specs.Shaped.{Shaped}
use Rattle.table.specs.Ordered.{Ordered, Arranged, Slotted}
use Rattle.machine.specs.Turn.{unit_of}
use Rattle.machine.specs.Span.{starts, up_to, held_at, held_of}
use Rattle.spans.specs.AddressIn.{AddressIn}

module _ (s : State) (u t : ℕ) (f : Shaped s u t) where
  pub count_64 : s.count ≤ 64
  count_64 = omega (arith, f.head.count_slots, f.head.slots_high)

  pub ordered : Ordered s
  ordered = record { few = count_64; age = f.age_low; behind = f.behind; has = f.place_of }

  pub arranged : Arranged s
  arranged = record {
    ordered = ordered;
    top = f.head.top;
    arena = f.head.arena_whole;
    length = f.head.length_whole;
    base = λ i h. (f.sound i h).base;
    some = f.sized;
    low = λ i h. (f.sound i h).above;
    high = λ i h. (f.sound i h).below;
  }

  pub slotted : Slotted s
  slotted = record { few = count_64; slots = f.head.slots_high; slot = λ i h. omega (arith, (f.sound i h).slot, f.head.slots_high) }

  -- a slot lies within both maps
  pub slot_room : (k : ℕ) → k < s.slots → ((k + 1) * s.w ≤ u) × ((k + 1) * s.w ≤ t)
  slot_room k h =
      let m = mul-le-mul_right {m = k + 1} {n = s.slots} s.w (omega arith) in
      (omega (arith, m, f.lent.used_room), omega (arith, m, f.lent.stop_room))

  pub placed : (i : ℕ) → i < s.count → Placed (block_at s i) s.w u t
  placed i h =
      let b = f.sound i h in
      let r = slot_room (block_at s i).slot b.slot in
      record {
        words = omega (arith, f.head.w_high);
        room = r.0;
        stop_room = r.1;
        area = b.area_high;
        used = b.used;
        start = b.start;
        end = b.end;
      }

  pub pool_3 : (i : ℕ) → i < s.count → (block_at s i).pool < 3
  pool_3 i h = omega (arith, (f.sound i h).pool, f.head.pools_high)

  pub in_table : (i : ℕ) → i < s.count → InTable s i
  in_table i h = record { age = omega (arith, h, count_64); pool = pool_3 i h }

  -- every pool's unit is g
  pub unit_g : (p : ℕ) → p < 3 → (pool_at s p).granularity ≡ s.granularity
  unit_g p h = ap (λ (q : Pool). q.granularity) (f.pools p h)

  pub within : (j a : ℕ) → j < s.count → holds (block_at s j) a ≡ true → AddressIn (block_at s j) (unit_of s (block_at s j)) a
  within j a h e =
      let b = f.sound j h in
      let g = unit_g (block_at s j).pool (pool_3 j h) in
      record {
        some = omega (arith, g, f.head.g_low);
        few = omega (arith, b.area_high, f.head.w_high);
        size = ap (λ (n : ℕ). (block_at s j).area * n) g ∙ b.area_size;
        low = leb-true _ _ (and_left (leb (block_at s j).base a) (ltb a ((block_at s j).base + (block_at s j).size)) e);
        high = ltb-true _ _ (and_right (leb (block_at s j).base a) (ltb a ((block_at s j).base + (block_at s j).size)) e);
      }

  -- what stands there may be asked
  pub askable : (j a : ℕ) → j < s.count → holds (block_at s j) a ≡ true
      → InTable s j × Placed (block_at s j) s.w u t × AddressIn (block_at s j) (unit_of s (block_at s j)) a
  askable j a h e = (in_table j h, placed j h, within j a h e)

-- ---- a block that the lookup finds holds the address
pub found_in : (s : State) (a j : ℕ) → Some j ≡ lookup s a → (j < s.count) × (holds (block_at s j) a ≡ true)
found_in s a j e =
    let q = subst (Least 0 s.count (λ i. holds (block_at s i) a)) (sym e) (least_of s.count (λ i. holds (block_at s i) a)) in
    (q.high, q.passes)

-- ---- a span that stands at an address starts there and lies in its block
module _ (t : List ℕ) (area : ℕ) where
  up_to_in : (i : ℕ) (r : Option ℕ) → Least i (i + (area - i)) (λ k. eqb (bit t k) 1) r → (j e : ℕ) → up_to i r ≡ Ok (range j e) → (i ≡ j) × (j < e) × (e ≤ area)
  up_to_in i (Some k) q j e z =
      let p = same_range i (k + 1) j e z in
      (p.0, omega (arith, q.low, p.0, p.1), omega (arith, q.low, q.high, p.1))
  up_to_in i None q j e z = let z : ◌≡◌ {A = ℕ} 0 1 = cc in absurd (omega arith)

  held_at_in : (i : ℕ) (b : Bool) (j e : ℕ) → pick b (up_to i (least_from i (area - i) (λ k. eqb (bit t k) 1))) (Err NoSpan) ≡ Ok (range j e) → (i ≡ j) × (j < e) × (e ≤ area)
  held_at_in i true j e z = up_to_in i (least_from i (area - i) (λ k. eqb (bit t k) 1)) (least_is i (area - i) (λ k. eqb (bit t k) 1)) j e z
  held_at_in i false j e z = let z : ◌≡◌ {A = ℕ} 0 1 = cc in absurd (omega arith)

pub held_is : (w : ℕ) (b : Block) (unit : ℕ) (u t : List ℕ) (a i e : ℕ) → held_of w b unit u t a ≡ Ok (range i e) → (a - b.base ≡ i * unit) × (i < e) × (e ≤ b.area)
held_is w b unit u t a i e z = go (eqb ((a - b.base) % unit) 0) refl z
  where
    go : (c : Bool) → eqb ((a - b.base) % unit) 0 ≡ c
        → pick c (held_at (slot_of w b.slot u) (slot_of w b.slot t) b.area ((a - b.base) / unit)) (Err NoSpan) ≡ Ok (range i e)
        → (a - b.base ≡ i * unit) × (i < e) × (e ≤ b.area)
    go true q z =
        let r = held_at_in (slot_of w b.slot t) b.area ((a - b.base) / unit)
        (starts (slot_of w b.slot u) (slot_of w b.slot t) ((a - b.base) / unit)) i e z in
        (omega (arith, div-add-mod' (a - b.base) unit, eqb-true ((a - b.base) % unit) 0 q, ap (λ (n : ℕ). n * unit) r.0), r.1, r.2)
    go false q z = let z : ◌≡◌ {A = ℕ} 0 1 = cc in absurd (omega arith)

pub held_in_range : (w : ℕ) (b : Block) (unit : ℕ) (u t : List ℕ) (a i e : ℕ) → held_of w b unit u t a ≡ Ok (range i e) → (i < e) × (e ≤ b.area)
held_in_range w b unit u t a i e z = let r = held_is w b unit u t a i e z in (r.1, r.2)

-- bytes of some units of a block fit an address
pub bytes_fit : (s : State) (u t : ℕ) → Shaped s u t → (p n : ℕ) → p < 3 → n ≤ 32 * s.w → n * (pool_at s p).granularity ≤ 2 ^ 27
bytes_fit s u t f p n h l =
    omega (
      arith,
      ap (λ (k : ℕ). n * k) (unit_g s u t f p h),
      mul-le-mul {n₁ = n} {m₁ = s.granularity} {n₂ = 524288} {m₂ = 256} (omega (arith, f.head.w_high)) f.head.g_high,
    )

-- some units of a block make a span
pub spannable : (s : State) (u t : ℕ) → Shaped s u t → (j : ℕ) → j < s.count → (n : ℕ) → n ≤ (block_at s j).area
    → InTable s j × (n * unit_of s (block_at s j) < 2 ^ 64)
spannable s u t f j h n l =
    (in_table s u t f j h, omega (arith, bytes_fit s u t f (block_at s j).pool n (pool_3 s u t f j h) (omega (arith, (f.sound j h).area_high))))
