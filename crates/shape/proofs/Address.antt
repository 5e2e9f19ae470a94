-- The walk by address: neighbours in order say that every block has one place, that bases rise and that no two blocks share a byte; and what is
-- so arranged has neighbours in order. Assumes nothing.
use Prim.Native.Nat.{ℕ, ◌+◌, ◌-◌, ◌≤◌, ◌<◌}
use mathlib.Core.Path.{◌≡◌, refl, sym, ap, ◌∙◌}
use mathlib.Core.Bool.{Bool, true, false, not, and-true}
use mathlib.Core.List.{List, [], ◌∷◌}
use mathlib.Core.Logic.{◌⊎◌, inl, inr, ⊎_elim}
use native.Mathlib.Omega.{arith}
use lib.Dec.{ltb, eqb}
use borrow.Author.Tests.{ltb-true, ltb-false, lt-ltb, le-ltb, eqb-true, eq-eqb, not-true}
use Rattle.numbers.proofs.Bools.{not_both, by_bool, refute, not_of_false, and_left, and_right, and_both, and_fails_left, and_fails_right, and_then}
use Rattle.numbers.proofs.Split.{by_eq, by_le}
use Rattle.block.specs.declared.Block.{Block}
use Rattle.state.specs.declared.State.{State}
use Rattle.state.specs.Table.{block_at, age_at, all, all_pairs, sum, one}
use Rattle.state.specs.Shape.{meet, once_ok, rising_ok, order_ok, zero_ok}
use Rattle.state.proofs.Tests.{every_at, all_at, all_of, pairs_at, pairs_of}
use Rattle.shape.specs.Parts.{bytes_apart, layout_ok}
use Rattle.shape.specs.Facts.{Laid}
use Rattle.shape.proofs.Pigeon.{each_once, once_below, place}
use Rattle.shape.proofs.Order.{chain}

-- where the block at place k starts and ends
abbrev pub base_of : State → ℕ → ℕ
base_of s k = (block_at s (age_at s k)).base

abbrev pub end_of : State → ℕ → ℕ
end_of s k = (block_at s (age_at s k)).base + (block_at s (age_at s k)).size

abbrev pub layout_tests : State → List Bool
layout_tests s = order_ok s ∷ all_pairs s.count (bytes_apart s) ∷ all 64 (zero_ok s) ∷ []

-- ---- two blocks
abbrev pub Apart : Block → Block → Type 0
Apart a b = (a.base + a.size ≤ b.base) ⊎ (b.base + b.size ≤ a.base)

pub apart_is : (a b : Block) → not (meet a b) ≡ true → Apart a b
apart_is a b e =
    let m = not-true (meet a b) e in
    by_bool (ltb a.base (b.base + b.size))
    (λ p. by_bool (ltb b.base (a.base + a.size))
    (λ q. absurd (not_both (meet a b) (and_both (ltb a.base (b.base + b.size)) (ltb b.base (a.base + a.size)) p q) m))
    (λ q. inl (ltb-false b.base (a.base + a.size) q)))
    (λ p. inr (ltb-false a.base (b.base + b.size) p))

pub apart_of : (a b : Block) → Apart a b → not (meet a b) ≡ true
apart_of a b h =
    not_of_false (meet a b)
    (⊎_elim
    (λ l. and_fails_right (ltb a.base (b.base + b.size)) (ltb b.base (a.base + a.size)) (le-ltb b.base (a.base + a.size) l))
    (λ l. and_fails_left (ltb a.base (b.base + b.size)) (ltb b.base (a.base + a.size)) (le-ltb a.base (b.base + b.size) l))
    h)

swap : (a b : Block) → Apart a b → Apart b a
swap a b h = ⊎_elim (λ l. inr l) (λ l. inl l) h

-- ---- what an arranged table says
module _ (s : State) (good : layout_ok s ≡ true) where
  order_good : order_ok s ≡ true
  unfolding layout_ok
  order_good = every_at (layout_tests s) 0 good

  pub once : (i : ℕ) → i < s.count → sum s.count (λ k. one (eqb (age_at s k) i)) ≡ 1
  once i l =
      eqb-true (sum s.count (λ k. one (eqb (age_at s k) i))) 1
      (all_at s.count (once_ok s) i (and_left (all s.count (once_ok s)) (all (s.count - 1) (rising_ok s)) order_good) l)

  pub ages_low : (k : ℕ) → k < s.count → age_at s k < s.count
  ages_low = once_below s.count (age_at s) once

  rising : (k : ℕ) → k + 1 < s.count → base_of s k < base_of s (k + 1)
  rising k l =
      ltb-true (base_of s k) (base_of s (k + 1))
      (all_at (s.count - 1) (rising_ok s) k (and_right (all s.count (once_ok s)) (all (s.count - 1) (rising_ok s)) order_good) (omega arith))

  pub pair_apart : (i j : ℕ) → i < j → j < s.count → Apart (block_at s i) (block_at s j)
  unfolding layout_ok
  pair_apart i j h l = apart_is (block_at s i) (block_at s j) (pairs_at s.count (bytes_apart s) i j (every_at (layout_tests s) 1 good) h l)

  any_apart : (i j : ℕ) → i < s.count → j < s.count → (i ≡ j → ⊥) → Apart (block_at s i) (block_at s j)
  any_apart i j hi hj ne =
      by_le i j (λ l. pair_apart i j (omega (arith, ne)) hj) (λ l. swap (block_at s j) (block_at s i) (pair_apart j i l hi))

  -- neighbours in order
  next_good : (j k : ℕ) → k ≡ j + 1 → k < s.count → end_of s j ≤ base_of s k
  next_good j k e l =
      let up : base_of s j < base_of s k = omega (arith, rising j (omega arith), ap (base_of s) e) in
      let other : age_at s j ≡ age_at s k → ⊥ = λ q. omega (arith, ap (λ (i : ℕ). (block_at s i).base) q) in
      ⊎_elim (λ h. h) (λ h. omega arith) (any_apart (age_at s j) (age_at s k) (ages_low j (omega arith)) (ages_low k l) other)

  pub behind : (k l : ℕ) → k < l → l < s.count → end_of s k ≤ base_of s l
  behind = chain s.count (base_of s) (end_of s) (λ k l. omega arith) next_good

-- ---- the walk, before place k; `end` is where the block before ends
pub record Ordered (s : State) (k end : ℕ) : Type 0 where
  pub here : k ≤ s.count
  pub low : (j : ℕ) → j < k → age_at s j < s.count
  pub next : (i j : ℕ) → j ≡ i + 1 → j < k → end_of s i ≤ base_of s j
  pub first : k ≡ 0 → end ≡ 0
  pub last : (j : ℕ) → k ≡ j + 1 → end ≡ end_of s j

pub order_start : (s : State) → Ordered s 0 0
order_start s = record {
  here = omega arith;
  low = λ j l. absurd (none j l);
  next = λ i j e l. absurd (none j l);
  first = λ e. refl;
  last = λ j e. absurd (omega arith);
}
  where
    none : (j : ℕ) → j < 0 → ⊥
    none j l = omega arith

pub order_step : (s : State) (k end : ℕ) → Ordered s k end → k < s.count → age_at s k < s.count → end ≤ base_of s k → Ordered s (k + 1) (end_of s k)
order_step s k end o l low above = record {
  here = omega arith;
  low = λ j h. by_eq j k (λ q. omega (arith, ap (age_at s) q)) (λ ne. o.low j (omega (arith, ne)));
  next = λ i j e h. by_eq j k (λ q. omega (arith, o.last i (omega arith), ap (base_of s) q)) (λ ne. o.next i j e (omega (arith, ne)));
  first = λ e. absurd (omega arith);
  last = λ j e. let q : k ≡ j = omega arith in ap (end_of s) q;
}

-- a place that holds no age
pub age_fails : (s : State) (k : ℕ) → k < s.count → s.count ≤ age_at s k → layout_ok s ≡ false
age_fails s k l h = refute (layout_ok s) (λ e. omega (arith, ages_low s e k l))

-- a block that starts before the end of the one before it
pub gap_fails : (s : State) (k end : ℕ) → Ordered s k end → k < s.count → base_of s k < end → layout_ok s ≡ false
gap_fails s k end o l h =
    refute (layout_ok s)
    (λ e.
    by_eq k 0
    (λ q. omega (arith, o.first q))
    (λ ne.
    let one_up : k ≡ (k - 1) + 1 = omega (arith, ne) in
    omega (arith, o.last (k - 1) one_up, next_good s e (k - 1) k one_up l)))

-- ---- neighbours in order are enough
module _ (s : State) (laid : Laid s) (low : (k : ℕ) → k < s.count → age_at s k < s.count)
    (next : (j k : ℕ) → k ≡ j + 1 → k < s.count → end_of s j ≤ base_of s k) where
  all_behind : (k l : ℕ) → k < l → l < s.count → end_of s k ≤ base_of s l
  all_behind = chain s.count (base_of s) (end_of s) (λ k l. omega arith) next

  has_bytes : (k : ℕ) → k < s.count → base_of s k < end_of s k
  has_bytes k l = omega (arith, laid.sized (age_at s k) (low k l))

  differ : (k l : ℕ) → k < l → l < s.count → age_at s k ≡ age_at s l → ⊥
  differ k l h m q = omega (arith, all_behind k l h m, has_bytes k (omega arith), ap (λ (i : ℕ). (block_at s i).base) q)

  each : (i : ℕ) → i < s.count → sum s.count (λ k. one (eqb (age_at s k) i)) ≡ 1
  each = each_once s.count (age_at s) low differ

  pub order_done : order_ok s ≡ true
  order_done =
      and_both (all s.count (once_ok s)) (all (s.count - 1) (rising_ok s))
      (all_of s.count (once_ok s) (λ i l. eq-eqb (sum s.count (λ k. one (eqb (age_at s k) i))) 1 (each i l)))
      (all_of (s.count - 1) (rising_ok s) (λ k l. lt-ltb (base_of s k) (base_of s (k + 1)) (omega (arith, all_behind k (k + 1) (omega arith) (omega arith), has_bytes k (omega arith)))))

  apart_at : (i j p q : ℕ) → p < s.count → q < s.count → age_at s p ≡ i → age_at s q ≡ j → (i ≡ j → ⊥) → Apart (block_at s i) (block_at s j)
  apart_at i j p q hp hq ep eq ne =
      let bi = ap (λ (n : ℕ). (block_at s n).base) ep in
      let bj = ap (λ (n : ℕ). (block_at s n).base) eq in
      let si = ap (λ (n : ℕ). (block_at s n).size) ep in
      let sj = ap (λ (n : ℕ). (block_at s n).size) eq in
      by_eq p q
      (λ e. absurd (ne (sym ep ∙ ap (age_at s) e ∙ eq)))
      (λ d. by_le p q (λ l. inl (omega (arith, all_behind p q (omega (arith, d)) hq))) (λ l. inr (omega (arith, all_behind q p l hp))))

  pub bytes_done : all_pairs s.count (bytes_apart s) ≡ true
  bytes_done =
      pairs_of s.count (bytes_apart s)
      (λ i j h l.
      let p = place s.count (age_at s) i (each i (omega arith)) in
      let q = place s.count (age_at s) j (each j l) in
      apart_of (block_at s i) (block_at s j) (apart_at i j p.0 q.0 p.1 q.1 p.2 q.2 (λ e. omega arith)))

  pub layout_done : all 64 (zero_ok s) ≡ layout_ok s
  unfolding layout_ok
  layout_done = and_then (order_ok s) _ _ order_done (and_then (all_pairs s.count (bytes_apart s)) _ _ bytes_done (sym (and-true (all 64 (zero_ok s)))))
