-- What stands at a unit by its bits (01, Span start) is the piece that starts there. So the maps fix the pieces. Assumes nothing.
use Rattle.std.specs.Prelude.{Some, Ok, Err}
use Prim.Native.Nat.{ℕ, ◌+◌, ◌-◌, ◌≤◌, ◌<◌}
use mathlib.Core.Bool.{Bool, true, false, ◌||◌}
use mathlib.Core.List.{List}
use mathlib.Core.Logic.{⊎_elim}
use mathlib.Core.Path.{◌≡◌, refl, sym, ap, subst, ◌∙◌}
use native.Mathlib.Omega.{arith}
use lib.Dec.{eqb}
use borrow.Author.Tests.{eq-eqb, ne_eqb, eqb-true}
use Rattle.numbers.proofs.Bools.{not_both, and_left, and_right, or_cases, or_left, or_right}
use Rattle.numbers.proofs.Split.{by_eq}
use Rattle.bits.specs.Bits.{bit}
use Rattle.state.specs.declared.NotHeld.TheVariants.{NoSpan, NoStop}
use Rattle.state.specs.Held.{Held, range}
use Rattle.state.specs.Find.{least_from}
use Rattle.state.proofs.Find.{least_is, least_unique}
use Rattle.machine.specs.Span.{starts, up_to, held_at}
use Rattle.ledger.specs.Paint.{Piece, Paints, InPieces}
use Rattle.ledger.proofs.Pieces.{in_inside, held_in}
use Rattle.ledger.proofs.Paints.{in_used, in_stop, in_last, before}

-- what an answer says of the pieces
abbrev pub Stands : List Piece → ℕ → ℕ → Held → Type 0
Stands l area i (Ok units) = (units.from ≡ i) × (i < units.to) × (units.to ≤ area) × InPieces i (units.to - i) l
Stands l area i (Err NoStop) = ⊥
Stands l area i (Err NoSpan) = (n : ℕ) → InPieces i n l → ⊥

module _ (l : List Piece) (area : ℕ) (u t : List ℕ) (p : Paints l area u t) where
  -- ---- a span starts where a piece starts
  pub in_starts : (i n : ℕ) → InPieces i n l → starts u t i ≡ true
  in_starts i n m =
      let f = in_inside l area i n p.inside m in
      rw (eq-eqb (bit u i) 1 (in_used l area u t p i n i m (omega arith) (omega arith)))
      (by_eq i 0
      (λ e. or_left (eqb i 0 || eqb (bit u (i - 1)) 0) (eqb (bit t (i - 1)) 1) (or_left (eqb i 0) (eqb (bit u (i - 1)) 0) (eq-eqb i 0 e)))
      (λ ne.
      by_eq (bit u (i - 1)) 0
      (λ e. or_left (eqb i 0 || eqb (bit u (i - 1)) 0) (eqb (bit t (i - 1)) 1) (or_right (eqb i 0) (eqb (bit u (i - 1)) 0) (eq-eqb (bit u (i - 1)) 0 e)))
      (λ nf. or_right (eqb i 0 || eqb (bit u (i - 1)) 0) (eqb (bit t (i - 1)) 1) (eq-eqb (bit t (i - 1)) 1 (before l area u t p i n m ne nf)))))

  -- the piece that has such a unit starts with it
  begins : (i s n : ℕ) → starts u t i ≡ true → InPieces s n l → s ≤ i → i < s + n → s ≡ i
  begins i s n y m a b =
      by_eq s i (λ e. e)
      (λ ne.
      let v = in_used l area u t p s n (i - 1) m (omega (arith, ne)) (omega arith) in
      absurd
      (⊎_elim
      (λ y. ⊎_elim (λ e. omega (arith, ne, eqb-true i 0 e)) (λ e. omega (arith, eqb-true (bit u (i - 1)) 0 e)) (or_cases (eqb i 0) (eqb (bit u (i - 1)) 0) y))
      (λ e. omega (arith, ne, in_last l area u t p s n (i - 1) m (omega (arith, ne)) (omega arith) (eqb-true (bit t (i - 1)) 1 e)))
      (or_cases (eqb i 0 || eqb (bit u (i - 1)) 0) (eqb (bit t (i - 1)) 1) (and_right (eqb (bit u i) 1) (eqb i 0 || eqb (bit u (i - 1)) 0 || eqb (bit t (i - 1)) 1) y))))

  pub starts_in : (i : ℕ) → starts u t i ≡ true → (n : ℕ) × InPieces i n l
  starts_in i y =
      let v = eqb-true (bit u i) 1 (and_left (eqb (bit u i) 1) (eqb i 0 || eqb (bit u (i - 1)) 0 || eqb (bit t (i - 1)) 1) y) in
      let r = held_in l i (omega (arith, p.used i)) in
      (r.1, subst (λ (s : ℕ). InPieces s r.1 l) (begins i r.0 r.1 y r.2 r.3 r.4) r.2)

  -- ---- and ends with the next stop bit
  stop_at : (i n : ℕ) → InPieces i n l → least_from i (area - i) (λ k. eqb (bit t k) 1) ≡ Some (i + n - 1)
  stop_at i n m =
      let f = in_inside l area i n p.inside m in
      least_unique i (i + (area - i)) (λ k. eqb (bit t k) 1) (least_from i (area - i) (λ k. eqb (bit t k) 1)) (Some (i + n - 1))
      (least_is i (area - i) (λ k. eqb (bit t k) 1))
      (record {
        low = omega arith;
        high = omega arith;
        passes = eq-eqb (bit t (i + n - 1)) 1 (in_stop l area u t p i n (i + n - 1) m (omega arith));
        before = λ j a b. ne_eqb (bit t j) 1 (λ e. omega (arith, in_last l area u t p i n j m a (omega arith) e));
      })

  pub in_stands : (i n : ℕ) → InPieces i n l → held_at u t area i ≡ Ok (range i (i + n))
  in_stands i n m =
      let f = in_inside l area i n p.inside m in
      let e : i + n - 1 + 1 ≡ i + n = omega arith in
      rw (in_starts i n m) (ap (up_to i) (stop_at i n m) ∙ ap (λ (x : ℕ). Ok (range i x)) e)

  pub stands : (i : ℕ) → Stands l area i (held_at u t area i)
  stands i = go (starts u t i) refl
    where
      go : (b : Bool) → starts u t i ≡ b → Stands l area i (held_at u t area i)
      go true y =
          let r = starts_in i y in
          let f = in_inside l area i r.0 p.inside r.1 in
          let e : i + r.0 - i ≡ r.0 = omega arith in
          subst (Stands l area i) (sym (in_stands i r.0 r.1)) (refl, omega arith, omega arith, subst (λ (n : ℕ). InPieces i n l) (sym e) r.1)
      go false y = rw y (λ n m. not_both (starts u t i) (in_starts i n m) y)

  -- ---- by the answer
  pub units_stand : (i x e : ℕ) → held_at u t area i ≡ Ok (range x e) → (x ≡ i) × (i < e) × (e ≤ area) × InPieces i (e - i) l
  units_stand i x e h = subst (Stands l area i) h (stands i)

  pub stop_never_missing : (i : ℕ) → held_at u t area i ≡ Err NoStop → ⊥
  stop_never_missing i h = subst (Stands l area i) h (stands i)

  pub none_stands : (i n : ℕ) → held_at u t area i ≡ Err NoSpan → InPieces i n l → ⊥
  none_stands i n h = subst (Stands l area i) h (stands i) n

-- two lists that paint the same maps have the same pieces
pub same_pieces : (l m : List Piece) (area : ℕ) (u t : List ℕ) → Paints l area u t → Paints m area u t → (i n : ℕ) → InPieces i n l → InPieces i n m
same_pieces l m area u t p q i n a =
    let r = units_stand m area u t q i i (i + n) (in_stands l area u t p i n a) in
    let e : i + n - i ≡ n = omega arith in
    subst (λ (k : ℕ). InPieces i k m) e r.3
