-- Counted over the maps: the used bits are the pieces' units, the stop bits the pieces. Assumes nothing.
use Prim.Native.Nat.{ℕ, zero, suc, ◌+◌, ◌-◌, ◌<◌, min}
use mathlib.Core.List.{List, [], ◌∷◌}
use mathlib.Core.Logic.{⊎_elim}
use mathlib.Core.Path.{◌≡◌, refl, ap, ap₂, ◌∙◌}
use native.Mathlib.Nat.{zero-add}
use native.Mathlib.Omega.{arith}
use lib.ListN.{length}
use Rattle.numbers.proofs.Split.{by_eq, by_le}
use Rattle.bits.specs.Bits.{bit, ones}
use Rattle.ledger.specs.Paint.{Piece, has, ends, holders, enders, units, InsideArea, Paints}
use Rattle.ledger.proofs.Pieces.{by_range, has_in, has_out, ends_at, ends-not}

-- the sum of f below m
total : (ℕ → ℕ) → ℕ → ℕ
total f zero = 0
total f (suc m) = total f m + f m

total_ones : (ws : List ℕ) (f : ℕ → ℕ) (m : ℕ) → ((k : ℕ) → bit ws k ≡ f k) → ones ws 0 m ≡ total f m
unfolding ones total
total_ones ws f zero h = refl
total_ones ws f (suc m) h = ap₂ (λ (x y : ℕ). x + y) (total_ones ws f m h) (ap (bit ws) (zero-add m) ∙ h m)

total_zero : (f : ℕ → ℕ) (m : ℕ) → ((k : ℕ) → f k ≡ 0) → total f m ≡ 0
unfolding total
total_zero f zero h = refl
total_zero f (suc m) h = omega (arith, total_zero f m h, h m)

total_add : (f g h : ℕ → ℕ) (m : ℕ) → ((k : ℕ) → f k ≡ g k + h k) → total f m ≡ total g m + total h m
unfolding total
total_add f g h zero e = refl
total_add f g h (suc m) e = omega (arith, total_add f g h m e, e m)

total_has : (x : Piece) (m : ℕ) → total (has x) m + min m x.start ≡ min m (x.start + x.len)
unfolding total
total_has x zero = omega arith
total_has x (suc m) =
    by_range x.start x.len m (λ p q. omega (arith, total_has x m, has_in x m p q))
    (λ o. ⊎_elim (λ p. omega (arith, total_has x m, has_out x m o)) (λ p. omega (arith, total_has x m, has_out x m o)) o)

total_ends : (x : Piece) (m : ℕ) → 0 < x.len → total (ends x) m ≡ min 1 (m + 1 - (x.start + x.len))
unfolding total
total_ends x zero h = omega arith
total_ends x (suc m) h =
    by_eq (x.start + x.len) (m + 1) (λ e. omega (arith, total_ends x m h, ends_at x m e))
    (λ ne.
    by_le (x.start + x.len) m (λ p. omega (arith, total_ends x m h, ends-not x m ne))
    (λ p. omega (arith, total_ends x m h, ends-not x m ne, ne)))

total_held : (l : List Piece) (area : ℕ) → InsideArea l area → total (holders l) area ≡ units l
unfolding holders units
total_held [] area h = total_zero (holders []) area (λ k. refl)
total_held (x ∷ l) area h =
    total_add (holders (x ∷ l)) (has x) (holders l) area (λ k. refl) ∙ omega (arith, total_has x area, total_held l area h.2)

total_ended : (l : List Piece) (area : ℕ) → InsideArea l area → total (enders l) area ≡ length l
unfolding enders
total_ended [] area h = total_zero (enders []) area (λ k. refl)
total_ended (x ∷ l) area h =
    total_add (enders (x ∷ l)) (ends x) (enders l) area (λ k. refl) ∙ omega (arith, total_ends x area h.0, total_ended l area h.2)

module _ (l : List Piece) (area : ℕ) (u t : List ℕ) (p : Paints l area u t) where
  pub used_units : ones u 0 area ≡ units l
  used_units = total_ones u (holders l) area p.used ∙ total_held l area p.inside

  pub stops_pieces : ones t 0 area ≡ length l
  stops_pieces = total_ones t (enders l) area p.stop ∙ total_ended l area p.inside
