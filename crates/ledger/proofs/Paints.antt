-- What holds of every list of pieces that paints: no unit twice, each piece's units used and only its last with a stop bit. Assumes nothing.
use Prim.Native.Nat.{ℕ, ◌+◌, ◌-◌, ◌≤◌, ◌<◌}
use mathlib.Core.List.{List}
use mathlib.Core.Path.{◌≡◌, ◌∙◌}
use native.Mathlib.Omega.{arith}
use Rattle.numbers.proofs.Split.{by_eq}
use Rattle.bits.specs.Bits.{bit}
use Rattle.bits.proofs.Words.{bit-lt}
use Rattle.ledger.specs.Paint.{Piece, piece, holders, enders, Paints, InPieces, strike_piece}
use Rattle.ledger.proofs.Pieces.{has_in, ended-le, held_past, in_inside, in_held, in_ended, held_in, ended_in, one_holder, Struck, struck}

module _ (l : List Piece) (area : ℕ) (u t : List ℕ) (p : Paints l area u t) where
  pub held_one : (k : ℕ) → holders l k < 2
  held_one k = omega (arith, p.used k, bit-lt u k)

  -- a stop bit stands at a used unit
  pub stop_used : (k : ℕ) → bit t k ≤ bit u k
  stop_used k = omega (arith, p.used k, p.stop k, ended-le l area k p.inside)

  pub free_past : (k : ℕ) → area ≤ k → bit u k ≡ 0
  free_past k h = p.used k ∙ held_past l area k p.inside h

  -- two pieces that have one unit are one piece
  pub disjoint : (k s n s' n' : ℕ) → InPieces s n l → InPieces s' n' l → s ≤ k → k < s + n → s' ≤ k → k < s' + n' → (s ≡ s') × (n ≡ n')
  disjoint k s n s' n' = one_holder l k s n s' n' (held_one k)

  -- no two start at one unit
  pub one_start : (i n m : ℕ) → InPieces i n l → InPieces i m l → n ≡ m
  one_start i n m a b =
      let f = in_inside l area i n p.inside a in
      let g = in_inside l area i m p.inside b in
      (disjoint i i n i m a b (omega arith) (omega arith) (omega arith) (omega arith)).1

  -- the units of a piece are used, and only its last has a stop bit
  pub in_used : (s n k : ℕ) → InPieces s n l → s ≤ k → k < s + n → bit u k ≡ 1
  in_used s n k i a b = omega (arith, p.used k, bit-lt u k, in_held l s n k i a b)

  pub in_stop : (s n k : ℕ) → InPieces s n l → s + n ≡ k + 1 → bit t k ≡ 1
  in_stop s n k i e = omega (arith, p.stop k, bit-lt t k, in_ended l s n k i e)

  pub in_last : (s n k : ℕ) → InPieces s n l → s ≤ k → k < s + n → bit t k ≡ 1 → s + n ≡ k + 1
  in_last s n k i a b e =
      let r = ended_in l k (omega (arith, p.stop k)) in
      let f = in_inside l area r.0 r.1 p.inside r.2 in
      let d = disjoint k s n r.0 r.1 i r.2 a b (omega arith) (omega arith) in
      omega arith

  -- the unit before a piece is free, or ends another
  pub before : (k n : ℕ) → InPieces k n l → (k ≡ 0 → ⊥) → (bit u (k - 1) ≡ 0 → ⊥) → bit t (k - 1) ≡ 1
  before k n i ne nf =
      let f = in_inside l area k n p.inside i in
      let r = held_in l (k - 1) (omega (arith, p.used (k - 1), nf)) in
      by_eq (r.0 + r.1) k (λ e. in_stop r.0 r.1 (k - 1) r.2 (omega (arith, ne)))
      (λ g.
      let d = disjoint k k n r.0 r.1 i r.2 (omega arith) (omega arith) (omega (arith, ne)) (omega (arith, ne, g)) in
      absurd (omega (arith, ne)))

  -- ---- a piece struck
  pub struck_out : (i n : ℕ) → InPieces i n l → Struck l (strike_piece i l) area i n
  struck_out i n = struck l area i n p.inside (held_one i)

  -- it is there no more
  pub strike_gone : (i n m : ℕ) → InPieces i n l → InPieces i m (strike_piece i l) → ⊥
  strike_gone i n m a b =
      let r = struck_out i n a in
      let f = in_inside l area i n p.inside a in
      let g = in_inside (strike_piece i l) area i m r.inside b in
      omega (
        arith,
        held_one i,
        r.helds i,
        has_in (piece i n) i (omega arith) (omega arith),
        in_held (strike_piece i l) i m i b (omega arith) (omega arith),
      )

  -- no other piece ends inside it
  pub struck_alone : (i n k : ℕ) → InPieces i n l → i ≤ k → k < i + n → enders (strike_piece i l) k ≡ 0
  struck_alone i n k m a b =
      let r = struck_out i n m in
      omega (arith, ended-le (strike_piece i l) area k r.inside, r.helds k, has_in (piece i n) k a b, held_one k)
