-- The live spans are no more than the units in use: every span lies in a block and has a unit. Assumes nothing.
use Prim.Native.Nat.{ℕ, zero, suc, ◌+◌, ◌*◌, ◌≤◌, ◌<◌}
use mathlib.Core.List.{List, [], ◌∷◌}
use mathlib.Core.Path.{◌≡◌, sym, subst}
use native.Mathlib.Nat.{not-suc-le-zero}
use native.Mathlib.Omega.{arith}
use lib.ListN.{length}
use Rattle.numbers.proofs.Bools.{by_bool, picked}
use Rattle.numbers.proofs.Split.{by_eq}
use Rattle.block.specs.declared.Block.{Block}
use Rattle.state.specs.declared.Span.{Span}
use Rattle.state.specs.Table.{sum}
use Rattle.state.proofs.Tests.{sum-le, sum_same}
use Rattle.ledger.specs.Paint.{Piece, piece, units, InsideArea}
use Rattle.ledger.specs.Agrees.{within, view, view_of, at, Homes, Agrees}
use Rattle.ledger.proofs.View.{view_lies}

-- one term grows by one at least
sum_grows : (n : ℕ) (f g : ℕ → ℕ) (k : ℕ) → k < n → ((i : ℕ) → i < n → f i ≤ g i) → f k + 1 ≤ g k → sum n f + 1 ≤ sum n g
unfolding sum
sum_grows zero f g k h le more = absurd (not-suc-le-zero h)
sum_grows (suc n) f g k h le more =
    by_eq k n
    (λ e. omega (arith, sum-le n f g (λ i l. le i (omega arith)), subst (λ (i : ℕ). f i + 1 ≤ g i) e more))
    (λ ne. omega (arith, sum_grows n f g k (omega (arith, ne)) (λ i l. le i (omega arith)) more, le n (omega arith)))

-- a span more in the ledger: no view has fewer units, and none has a piece outside for having one less
view_grows : (g : ℕ) (b : Block) (x : Span) (l : List Span) → units (view_of g b l) ≤ units (view_of g b (x ∷ l))
unfolding view units
view_grows g b x l = by_bool (within b.base b.size x.address) (λ e. rw e (omega arith)) (λ e. rw e (omega arith))

pub view_inside : (g : ℕ) (b : Block) (x : Span) (l : List Span) → InsideArea (view_of g b (x ∷ l)) b.area → InsideArea (view_of g b l) b.area
unfolding view
view_inside g b x l =
    picked (λ (m : List Piece). InsideArea m b.area → InsideArea (view_of g b l) b.area) (within b.base b.size x.address) _ _ (λ e p. p.2) (λ e p. p)

units_more : (x : Piece) (l : List Piece) → 0 < x.len → units l + 1 ≤ units (x ∷ l)
unfolding units
units_more x l h = omega arith

module _ (g n : ℕ) (bs : List Block) (pos : 0 < g) (whole : (j : ℕ) → j < n → (at bs j).area * g ≡ (at bs j).size) where
  spans_units : (l : List Span) → Homes g n bs l → ((j : ℕ) → j < n → InsideArea (view_of g (at bs j) l) (at bs j).area) → length l ≤ sum n (λ j. units (view_of g (at bs j) l))
  spans_units [] h f = omega arith
  spans_units (x ∷ l) h f =
      let k = h.0.0 in
      let y = h.0.2 in
      let v = view_lies g pos (at bs k) (whole k h.0.1) x l y in
      let i = subst (λ (m : List Piece). InsideArea m (at bs k).area) v (f k h.0.1) in
      omega (
        arith,
        spans_units l h.1 (λ j p. view_inside g (at bs j) x l (f j p)),
        sum_grows n (λ j. units (view_of g (at bs j) l)) (λ j. units (view_of g (at bs j) (x ∷ l))) k h.0.1 (λ j p. view_grows g (at bs j) x l) (subst (λ (m : List Piece). units (view_of g (at bs k) l) + 1 ≤ units m) (sym v) (units_more (piece y.0 y.1) (view_of g (at bs k) l) i.0)),
      )

  pub live_units : (w slots : ℕ) (u t : List ℕ) (l : List Span) → Agrees g w slots n bs u t l → length l ≤ sum n (λ j. (at bs j).used)
  live_units w slots u t l s =
      omega (
        arith,
        spans_units l s.homes (λ j p. (s.each j p).paints.inside),
        sum_same n (λ j. (at bs j).used) (λ j. units (view_of g (at bs j) l)) (λ j p. (s.each j p).count),
      )
