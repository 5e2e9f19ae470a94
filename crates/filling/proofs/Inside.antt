-- The bytes that a call fills lie in the arena. Assumes nothing.
use Prim.Native.Nat.{ℕ, zero, suc, ◌+◌, ◌-◌, ◌*◌, ◌≤◌, ◌<◌}
use mathlib.Core.List.{List, [], ◌∷◌, ◌++◌}
use mathlib.Core.Path.{◌≡◌, ap, ◌∙◌}
use native.Mathlib.Nat.{add-mul, mul-le-mul_right}
use native.Mathlib.Omega.{arith}
use borrow.Author.Tests.{leb-true, ltb-true}
use lib.Dec.{leb, ltb}
use lib.ListN.{length}
use Rattle.numbers.specs.Units.{bytes_of}
use Rattle.numbers.proofs.Bools.{picked, and_left}
use Rattle.state.specs.declared.State.{State}
use Rattle.state.specs.declared.Span.{Span}
use Rattle.state.specs.Table.{block_at}
use Rattle.shape.specs.Shaped.{Shaped}
use Rattle.shape.proofs.Shaped.{shaped_is}
use Rattle.machine.specs.Turn.{span, unit_of}
use Rattle.machine.proofs.Cases.{Holds}
use Rattle.shape_facts.proofs.Facts.{unit_g, pool_3, found_in, held_is}
use Rattle.filling.specs.Unused.{bytes_of_block, blocks_up_to, made}
use Rattle.filling.specs.InArena.{InArena, AllInArena}

-- ---- a span that stands at an address
module _ (s : State) (u t : List ℕ) (a j i e : ℕ) (h : Holds s u t a j i e) where
  abbrev unit : ℕ
  unit = unit_of s (block_at s j)

  shaped : Shaped s (length u) (length t)
  shaped = shaped_is s (length u) (length t) h.good

  -- it ends with its block at the latest
  ends : (s.arena ≤ a) × (a + (e - i) * unit ≤ s.arena + s.length)
  ends =
      let f = found_in s a j h.found in
      let b = shaped.sound j f.0 in
      let r = held_is s.w (block_at s j) unit u t a i e h.held in
      let low : (block_at s j).base ≤ a = leb-true (block_at s j).base a (and_left (leb (block_at s j).base a) (ltb a ((block_at s j).base + (block_at s j).size)) f.1) in
      let g = unit_g s (length u) (length t) shaped (block_at s j).pool (pool_3 s (length u) (length t) shaped j f.0) in
      let sum : e * unit ≡ i * unit + (e - i) * unit = ap (λ (k : ℕ). k * unit) (omega (arith, r.1)) ∙ add-mul i (e - i) unit in (
        omega (arith, low, b.above),
        omega (arith, low, r.0, sum, mul-le-mul_right unit r.2, ap (λ (k : ℕ). (block_at s j).area * k) g, b.area_size, b.below),
      )

  pub span_inside : InArena s.arena s.length (span a (bytes_of (e - i) unit))
  span_inside = record { low = ends.0; high = ends.1; top = omega (arith, ends.1, shaped.head.top) }

  -- and so does what is behind its first n units
  pub tail_inside : (n : ℕ) → n ≤ e - i → InArena s.arena s.length (span (a + bytes_of n unit) (bytes_of (e - i) unit - bytes_of n unit))
  tail_inside n l = record {
    low = omega (arith, ends.0);
    high = omega (arith, ends.1, mul-le-mul_right unit l);
    top = omega (arith, ends.1, mul-le-mul_right unit l, shaped.head.top);
  }

-- ---- blocks
block_inside : (r : State) (u t : ℕ) → Shaped r u t → (i : ℕ) → i < r.count → InArena r.arena r.length (bytes_of_block (block_at r i))
block_inside r u t f i h = record { low = (f.sound i h).above; high = (f.sound i h).below; top = omega (arith, (f.sound i h).below, f.head.top) }

within_snoc : (arena length : ℕ) (xs : List Span) (x : Span) → AllInArena arena length xs → InArena arena length x → AllInArena arena length (xs ++ (x ∷ []))
within_snoc arena length [] x w o = (o, tt)
within_snoc arena length (y ∷ xs) x w o = (w.0, within_snoc arena length xs x w.1 o)

pub blocks_inside : (r : State) (u t : ℕ) → Shaped r u t → (n : ℕ) → n ≤ r.count → AllInArena r.arena r.length (blocks_up_to r n)
unfolding blocks_up_to
blocks_inside r u t f zero h = tt
blocks_inside r u t f (suc n) h =
    within_snoc r.arena r.length (blocks_up_to r n) (bytes_of_block (block_at r n)) (blocks_inside r u t f n (omega (arith, h))) (block_inside r u t f n (omega (arith, h)))

pub made_inside : (r : State) (u t : ℕ) → Shaped r u t → (before : ℕ) → AllInArena r.arena r.length (made before r)
made_inside r u t f before =
    picked (AllInArena r.arena r.length) (ltb before r.count) (bytes_of_block (block_at r before) ∷ []) []
    (λ e. (block_inside r u t f before (ltb-true before r.count e), tt)) (λ e. tt)
