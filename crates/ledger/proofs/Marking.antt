-- Marking, release and shrink keep a block's maps painted by its pieces. A span is the units from i up to e. Assumes nothing.
use Prim.Native.Nat.{ℕ, ◌+◌, ◌-◌, ◌*◌, ◌≤◌, ◌<◌}
use mathlib.Core.List.{List, [], ◌∷◌}
use mathlib.Core.Logic.{◌⊎◌, inl, inr}
use mathlib.Core.Path.{◌≡◌, sym, ◌∙◌}
use native.Mathlib.Omega.{arith}
use lib.Dec.{lit<}
use lib.ListN.{length, replicate, length-replicate}
use Rattle.numbers.proofs.Split.{by_eq, by_le}
use Rattle.bits.specs.Bits.{bit, filled, Filled, Words}
use Rattle.bits.proofs.Words.{bit-lt, words_ext}
use Rattle.bits.proofs.Filled.{filled_has, length_filled, bit_zeros, words_zeros}
use Rattle.ledger.specs.Paint.{Piece, piece, holders, enders, Paints, InPieces, strike_piece}
use Rattle.ledger.proofs.Pieces.{by_range, has_in, has_out, ends_at, ends-not, in_inside}
use Rattle.ledger.proofs.Paints.{held_one, stop_used, struck_out, struck_alone}

-- a block with no piece: both maps are zero
pub no_pieces : (area w : ℕ) → Paints [] area (replicate w 0) (replicate w 0)
unfolding holders enders
no_pieces area w = record { inside = tt; used = bit_zeros w; stop = bit_zeros w }

-- and only zero words are painted by no piece
pub no_pieces_zero : (area : ℕ) (u t : List ℕ) → Paints [] area u t → Words u → Words t
    → (u ≡ replicate (length u) 0) × (t ≡ replicate (length t) 0)
unfolding holders enders
no_pieces_zero area u t p hu ht = (zeros u hu p.used, zeros t ht p.stop)
  where
    zeros : (ws : List ℕ) → Words ws → ((k : ℕ) → bit ws k ≡ 0) → ws ≡ replicate (length ws) 0
    zeros ws h f =
        words_ext ws (replicate (length ws) 0) (sym (length-replicate {A = ℕ} (length ws) 0)) h (words_zeros (length ws))
        (λ k q. f k ∙ sym (bit_zeros (length ws) k))

-- what a filled run leaves as it was, and one bit of it
out : {ws vs : List ℕ} {a n v : ℕ} → Filled ws a n v vs → (k : ℕ) → (k < a) ⊎ (a + n ≤ k) → bit vs k ≡ bit ws k
out f k (inl p) = f.below k p
out f k (inr p) = f.above k p

here : {ws vs : List ℕ} {a v : ℕ} → Filled ws a 1 v vs → (k : ℕ) → k ≡ a → bit vs k ≡ v
here f k e = f.inside k (omega arith) (omega arith)

there : {ws vs : List ℕ} {a v : ℕ} → Filled ws a 1 v vs → (k : ℕ) → (k ≡ a → ⊥) → bit vs k ≡ bit ws k
there {a = a} f k ne = by_le k a (λ p. f.below k (omega (arith, ne))) (λ p. f.above k (omega arith))

module _ (l : List Piece) (area : ℕ) (u t : List ℕ) (p : Paints l area u t) where
  -- ---- n units from i on, of which z is the last; v and r are the maps afterwards
  mark_filled : (i n z : ℕ) (v r : List ℕ) → 0 < n → i + n ≤ area → z + 1 ≡ i + n → Filled u i n 1 v → Filled t z 1 1 r
      → ((k : ℕ) → i ≤ k → k < i + n → bit u k ≡ 0) → Paints (piece i n ∷ l) area v r
  unfolding holders enders
  mark_filled i n z v r pos h last fu ft free = record {
    inside = (pos, h, p.inside);
    used = λ k.
        by_range i n k (λ a b. fu.inside k a b ∙ omega (arith, has_in (piece i n) k a b, p.used k, free k a b))
        (λ o. out fu k o ∙ omega (arith, has_out (piece i n) k o, p.used k));
    stop = λ k.
        by_eq k z
        (λ e. here ft k e ∙ omega (arith, ends_at (piece i n) k (omega arith), p.stop k, stop_used l area u t p k, free k (omega arith) (omega arith)))
        (λ ne. there ft k ne ∙ omega (arith, ends-not (piece i n) k (λ e. ne (omega arith)), p.stop k));
  }

  -- the stop bit of a piece off: the stop bits are those of the others
  stop_off : (i n z : ℕ) (r : List ℕ) → InPieces i n l → z + 1 ≡ i + n → Filled t z 1 0 r → (k : ℕ) → bit r k ≡ enders (strike_piece i l) k
  stop_off i n z r m last ft k =
      let s = struck_out l area u t p i n m in
      by_eq k z (λ e. here ft k e ∙ omega (arith, ends_at (piece i n) k (omega arith), s.endeds k, p.stop k, bit-lt t k))
      (λ ne. there ft k ne ∙ omega (arith, ends-not (piece i n) k (λ e. ne (omega arith)), s.endeds k, p.stop k))

  release_filled : (i n z : ℕ) (v r : List ℕ) → InPieces i n l → z + 1 ≡ i + n → Filled u i n 0 v → Filled t z 1 0 r → Paints (strike_piece i l) area v r
  release_filled i n z v r m last fu ft =
      let s = struck_out l area u t p i n m in
      record {
        inside = s.inside;
        used = λ k.
            by_range i n k (λ a b. fu.inside k a b ∙ omega (arith, has_in (piece i n) k a b, s.helds k, held_one l area u t p k))
            (λ o. out fu k o ∙ omega (arith, has_out (piece i n) k o, s.helds k, p.used k));
        stop = stop_off i n z r m last ft;
      }

  -- of the n units the first m stay, of which y is the last
  shrink_filled : (i n m z y : ℕ) (v r r' : List ℕ) → InPieces i n l → 0 < m → m ≤ n → z + 1 ≡ i + n → y + 1 ≡ i + m
      → Filled u (i + m) (n - m) 0 v → Filled t z 1 0 r → Filled r y 1 1 r' → Paints (piece i m ∷ strike_piece i l) area v r'
  unfolding holders enders
  shrink_filled i n m z y v r r' mem pos le last left fu ft fr =
      let f = in_inside l area i n p.inside mem in
      let s = struck_out l area u t p i n mem in
      record {
        inside = (pos, omega arith, s.inside);
        used = λ k.
            by_range i n k
            (λ a b.
            by_le (i + m) k
            (λ c. fu.inside k c (omega arith)
            ∙ omega (arith, has_in (piece i n) k a b, has_out (piece i m) k (inr c), s.helds k, held_one l area u t p k))
            (λ c. fu.below k c ∙ omega (arith, has_in (piece i n) k a b, has_in (piece i m) k a c, s.helds k, p.used k)))
            (λ o. out fu k (past k o) ∙ omega (arith, has_out (piece i n) k o, has_out (piece i m) k (less k o), s.helds k, p.used k));
        stop = λ k.
            by_eq k y
            (λ e. here fr k e ∙ omega (arith, ends_at (piece i m) k (omega arith), struck_alone l area u t p i n k mem (omega arith) (omega arith)))
            (λ ne. there fr k ne ∙ stop_off i n z r mem last ft k ∙ omega (arith, ends-not (piece i m) k (λ e. ne (omega arith))));
      }
    where
      past : (k : ℕ) → (k < i) ⊎ (i + n ≤ k) → (k < i + m) ⊎ (i + m + (n - m) ≤ k)
      past k (inl a) = inl (omega arith)
      past k (inr a) = inr (omega arith)

      less : (k : ℕ) → (k < i) ⊎ (i + n ≤ k) → (k < i) ⊎ (i + m ≤ k)
      less k (inl a) = inl a
      less k (inr a) = inr (omega arith)

  -- ---- as the rules fill the maps
  module _ (room : area ≤ 32 * length u) (stop_room : area ≤ 32 * length t) where
    pub mark_paints : (i e : ℕ) → i < e → e ≤ area → ((k : ℕ) → i ≤ k → k < e → bit u k ≡ 0)
        → Paints (piece i (e - i) ∷ l) area (filled u i (e - i) 1) (filled t (e - 1) 1 1)
    mark_paints i e some fits free =
        mark_filled i (e - i) (e - 1) (filled u i (e - i) 1) (filled t (e - 1) 1 1) (omega arith) (omega arith) (omega arith)
        (filled_has u i (e - i) 1 (lit< tt) (omega arith)) (filled_has t (e - 1) 1 1 (lit< tt) (omega arith)) (λ k a b. free k a (omega arith))

    pub release_paints : (i e : ℕ) → i < e → InPieces i (e - i) l → Paints (strike_piece i l) area (filled u i (e - i) 0) (filled t (e - 1) 1 0)
    release_paints i e some m =
        let f = in_inside l area i (e - i) p.inside m in
        release_filled i (e - i) (e - 1) (filled u i (e - i) 0) (filled t (e - 1) 1 0) m (omega arith)
        (filled_has u i (e - i) 0 (lit< tt) (omega arith)) (filled_has t (e - 1) 1 0 (lit< tt) (omega arith))

    pub shrink_paints : (i m e : ℕ) → i < m → m < e → InPieces i (e - i) l
        → Paints (piece i (m - i) ∷ strike_piece i l) area (filled u m (e - m) 0) (filled (filled t (e - 1) 1 0) (m - 1) 1 1)
    shrink_paints i m e some less mem =
        let f = in_inside l area i (e - i) p.inside mem in
        let x : i + (m - i) ≡ m = omega arith in
        let y : e - i - (m - i) ≡ e - m = omega arith in
        shrink_filled i (e - i) (m - i) (e - 1) (m - 1) (filled u m (e - m) 0) (filled t (e - 1) 1 0) (filled (filled t (e - 1) 1 0) (m - 1) 1 1) mem
        (omega arith) (omega arith) (omega arith) (omega arith)
        (rw (x, y) (filled_has u m (e - m) 0 (lit< tt) (omega arith)))
        (filled_has t (e - 1) 1 0 (lit< tt) (omega arith))
        (filled_has (filled t (e - 1) 1 0) (m - 1) 1 1 (lit< tt) (omega (arith, length_filled t (e - 1) 1 0)))
