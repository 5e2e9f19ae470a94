-- A block's record and words that agree with its pieces still do so after a marking, a release, a shrink and a search that misses. Assumes nothing.
use Prim.Native.Nat.{ℕ, ◌-◌, ◌*◌, ◌≤◌, ◌<◌}
use mathlib.Core.List.{List, [], ◌∷◌}
use mathlib.Core.Logic.{⊎_elim}
use mathlib.Core.Path.{◌≡◌, refl, sym, subst, ◌∙◌}
use native.Mathlib.Omega.{arith}
use lib.Dec.{lit<}
use lib.ListN.{length, replicate, length-replicate}
use Rattle.bits.specs.Bits.{bit, filled}
use Rattle.bits.proofs.Filled.{filled_has, bit_zeros}
use Rattle.bits.proofs.Count.{ones_all}
use Rattle.slots.specs.Slots.{slot_of}
use Rattle.block.specs.declared.Block.{Block}
use Rattle.std.specs.Prelude.{Err}
use Rattle.block.specs.Marking.{marked, emptied, released, shrunk, fresh}
use Rattle.block.specs.Search.{look_into}
use Rattle.block.specs.Window.{Windowed}
use Rattle.block.proofs.Window.{look_missed}
use Rattle.block.proofs.Kept.{windowed_ready, marked_kept, released_kept, shrunk_kept}
use Rattle.block.proofs.LiesAs.{marked_lies, released_lies, missed_lies}
use Rattle.ledger.specs.Paint.{Piece, piece, units, Paints, InPieces, strike_piece, SoundBlock}
use Rattle.ledger.proofs.Pieces.{no_units, in_inside}
use Rattle.ledger.proofs.Paints.{in_used, struck_out}
use Rattle.ledger.proofs.Marking.{no_pieces, mark_paints, release_paints, shrink_paints}
use Rattle.ledger.proofs.Pieced.{used_units}

-- ---- what a block's window promises, and what its pieces paint
pub sound_windowed : (b : Block) (u t : List ℕ) (l : List Piece) → SoundBlock b u t l → b.area ≤ 32 * length u → b.end ≤ b.area → Windowed b u
sound_windowed b u t l s room within = record {
  room = room;
  count = s.count ∙ sym (used_units l b.area u t s.paints);
  window = s.window;
  within = within;
  exact = s.exact;
}

pub windowed_sound : (b : Block) (u t : List ℕ) (l : List Piece) → Windowed b u → Paints l b.area u t → SoundBlock b u t l
windowed_sound b u t l q p = record { paints = p; count = q.count ∙ used_units l b.area u t p; window = q.window; exact = q.exact }

-- the record of a block whose area was a
windowed_as : (c : Block) (a : ℕ) (u t : List ℕ) (l : List Piece) → c.area ≡ a → Windowed c u → Paints l a u t → SoundBlock c u t l
windowed_as c a u t l e q p = windowed_sound c u t l q (subst (λ (n : ℕ). Paints l n u t) (sym e) p)

-- ---- an empty block has no piece
module _ (b : Block) (u t : List ℕ) (l : List Piece) (s : SoundBlock b u t l) where
  -- the block's last span: no piece is left
  pub release_last : (i e : ℕ) → i < e → InPieces i (e - i) l → b.used - (e - i) ≡ 0 → strike_piece i l ≡ []
  release_last i e some m z =
      let r = struck_out l b.area u t s.paints i (e - i) m in
      no_units (strike_piece i l) b.area r.inside (omega (arith, r.all, s.count))

  -- no unit used: no piece
  pub empty_none : b.used ≡ 0 → l ≡ []
  empty_none z = no_units l b.area s.paints.inside (sym s.count ∙ z)

-- ---- the calls at one block
module _ (b : Block) (u t : List ℕ) (l : List Piece) (s : SoundBlock b u t l) (room : b.area ≤ 32 * length u) (stop_room : b.area ≤ 32 * length t)
    (within : b.end ≤ b.area) where
  pub mark_sound : (i e : ℕ) → i < e → e ≤ b.area → ((k : ℕ) → i ≤ k → k < e → bit u k ≡ 0)
      → SoundBlock (marked b i e) (filled u i (e - i) 1) (filled t (e - 1) 1 1) (piece i (e - i) ∷ l)
  mark_sound i e some fits free =
      windowed_as (marked b i e) b.area (filled u i (e - i) 1) (filled t (e - 1) 1 1) (piece i (e - i) ∷ l) (marked_lies b i e).area
      (marked_kept b u (filled u i (e - i) 1) i e (windowed_ready i e (sound_windowed b u t l s room within) some fits free)
      (filled_has u i (e - i) 1 (lit< tt) (omega arith)))
      (mark_paints l b.area u t s.paints room stop_room i e some fits free)

  pub release_sound : (i e : ℕ) → i < e → InPieces i (e - i) l
      → SoundBlock (released b i e) (filled u i (e - i) 0) (filled t (e - 1) 1 0) (strike_piece i l)
  release_sound i e some m =
      let f = in_inside l b.area i (e - i) s.paints.inside m in
      windowed_as (released b i e) b.area (filled u i (e - i) 0) (filled t (e - 1) 1 0) (strike_piece i l) (released_lies b i e).area
      (released_kept b u (filled u i (e - i) 0) i e (sound_windowed b u t l s room within) some (omega arith)
      (λ k x y. in_used l b.area u t s.paints i (e - i) k m x (omega arith)) (filled_has u i (e - i) 0 (lit< tt) (omega arith)))
      (release_paints l b.area u t s.paints room stop_room i e some m)

  -- of the units from i up to e those up to m stay
  pub shrink_sound : (i m e : ℕ) → i < m → m < e → InPieces i (e - i) l
      → SoundBlock (shrunk b m e) (filled u m (e - m) 0) (filled (filled t (e - 1) 1 0) (m - 1) 1 1) (piece i (m - i) ∷ strike_piece i l)
  shrink_sound i m e some less mem =
      let f = in_inside l b.area i (e - i) s.paints.inside mem in
      windowed_sound (shrunk b m e) (filled u m (e - m) 0) (filled (filled t (e - 1) 1 0) (m - 1) 1 1) (piece i (m - i) ∷ strike_piece i l)
      (shrunk_kept b u (filled u m (e - m) 0) m e (sound_windowed b u t l s room within) less (omega arith)
      (λ k x y. in_used l b.area u t s.paints i (e - i) k mem (omega arith) (omega arith)) (filled_has u m (e - m) 0 (lit< tt) (omega arith)))
      (shrink_paints l b.area u t s.paints room stop_room i m e some less mem)

-- ---- a block with no piece, and a new one with its span at unit 0
pub emptied_sound : (b : Block) (w : ℕ) → SoundBlock (emptied b) (replicate w 0) (replicate w 0) []
unfolding units
emptied_sound b w = record {
  paints = no_pieces b.area w;
  count = refl;
  window = λ k h f. (omega arith, h);
  exact = λ d. record { place = (0, omega arith, λ k x y. bit_zeros w k); none_longer = λ j h f. omega arith };
}

pub fresh_sound : (base size pool slot area n w : ℕ) → 0 < n → n ≤ area → area ≤ 32 * w
    → SoundBlock (marked (fresh base size pool slot area n) 0 n) (filled (replicate w 0) 0 n 1) (filled (replicate w 0) (n - 1) 1 1) (piece 0 n ∷ [])
fresh_sound base size pool slot area n w pos fits h =
    let b = fresh base size pool slot area n in
    let z : List ℕ = replicate w 0 in
    let long : length z ≡ w = length-replicate {A = ℕ} w 0 in
    let all : n - 0 ≡ n = omega arith in
    subst (λ (m : ℕ). SoundBlock (marked b 0 n) (filled z 0 m 1) (filled z (n - 1) 1 1) (piece 0 m ∷ [])) all
    (windowed_as (marked b 0 n) area (filled z 0 (n - 0) 1) (filled z (n - 1) 1 1) (piece 0 (n - 0) ∷ []) (marked_lies b 0 n).area
    (marked_kept b z (filled z 0 (n - 0) 1) 0 n
    (record {
      room = omega arith;
      count = omega (arith, ones_all z 0 area 0 (λ k x y. bit_zeros w k));
      window = λ k x y o. (⊎_elim (λ q. absurd (omega arith)) (λ q. q) o, x);
      within = omega arith;
      some = pos;
      fits = fits;
      free = λ k x y. bit_zeros w k;
    })
    (filled_has z 0 (n - 0) 1 (lit< tt) (omega arith)))
    (mark_paints [] area z z (no_pieces area w) (omega arith) (omega arith) 0 n pos fits (λ k x y. bit_zeros w k)))

-- ---- a search that misses
pub tight_sound : (w : ℕ) (b : Block) (ws t : List ℕ) (l : List Piece) (n : ℕ) → SoundBlock b (slot_of w b.slot ws) t l
    → b.area ≤ 32 * length (slot_of w b.slot ws) → b.end ≤ b.area → 0 < n
    → (c : Block) → look_into w b ws n ≡ Err c → SoundBlock c (slot_of w b.slot ws) t l
tight_sound w b ws t l n s room within pos c e =
    let u = slot_of w b.slot ws in
    windowed_as c b.area u t l (missed_lies w b ws n c e).area (look_missed w b ws n (sound_windowed b u t l s room within) pos c e).1 s.paints
