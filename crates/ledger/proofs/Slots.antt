-- What the rules do to a block and to its slot of both maps keeps the slot's words painted by the block's pieces. Assumes nothing.
use Prim.Native.Nat.{ℕ, ◌+◌, ◌-◌, ◌*◌, ◌≤◌, ◌<◌}
use mathlib.Core.List.{List, [], ◌∷◌}
use mathlib.Core.Path.{◌≡◌, subst, ◌∙◌}
use native.Mathlib.Nat.{zero-add}
use native.Mathlib.Omega.{arith}
use lib.ListN.{length, replicate, length-replicate}
use Rattle.bits.specs.Bits.{filled}
use Rattle.bits.proofs.Filled.{length_filled}
use Rattle.runs.specs.Window.{FreeAt}
use Rattle.slots.specs.Slots.{slot_of, fill_slot}
use Rattle.slots.proofs.Laws.{length_slot, length_put_slot, slot_own}
use Rattle.block.specs.declared.Block.{Block}
use Rattle.std.specs.Prelude.{Err}
use Rattle.block.specs.Record.{Placed}
use Rattle.block.specs.Marking.{Painted, marked, shrunk, mark_allocated, mark_released, mark_shrunk, emptied, fresh}
use Rattle.block.specs.Search.{look_into}
use Rattle.machine.specs.Turn.{clear_slot}
use Rattle.shape_kept.proofs.Words.{length_fill_slot}
use Rattle.ledger.specs.Paint.{Piece, piece, InPieces, strike_piece, SoundBlock}
use Rattle.ledger.proofs.SoundBlock.{mark_sound, release_sound, shrink_sound, emptied_sound, fresh_sound, tight_sound}

-- the words of a slot that was filled
filled_slot : (w s : ℕ) (ws : List ℕ) (i n v : ℕ) → (s + 1) * w ≤ length ws → slot_of w s (fill_slot w s ws i n v) ≡ filled (slot_of w s ws) i n v
filled_slot w s ws i n v h = slot_own w s ws (filled (slot_of w s ws) i n v) h (length_filled (slot_of w s ws) i n v ∙ length_slot w s ws h)

-- the words of a slot that was cleared
cleared_slot : (w s : ℕ) (ws : List ℕ) → (s + 1) * w ≤ length ws → slot_of w s (clear_slot w s ws) ≡ replicate w 0
cleared_slot w s ws h = slot_own w s ws (replicate w 0) h (length-replicate {A = ℕ} w 0)

-- the record and both slots of a marking, release or shrink
abbrev pub SoundAfter : ℕ → Block → Painted → List Piece → Type 0
SoundAfter w b x l = SoundBlock x.block (slot_of w b.slot x.used) (slot_of w b.slot x.stop) l

module _ (w : ℕ) (b : Block) (u t : List ℕ) (l : List Piece) (p : Placed b w (length u) (length t))
    (s : SoundBlock b (slot_of w b.slot u) (slot_of w b.slot t) l) where
  room : b.area ≤ 32 * length (slot_of w b.slot u)
  room = omega (arith, length_slot w b.slot u p.room, p.area)

  stop_room : b.area ≤ 32 * length (slot_of w b.slot t)
  stop_room = omega (arith, length_slot w b.slot t p.stop_room, p.area)

  -- n units from i on are granted
  pub mark_slot : (i n : ℕ) → 0 < n → i + n ≤ b.area → FreeAt (slot_of w b.slot u) n i
      → SoundAfter w b (mark_allocated w b i (i + n) u t) (piece i n ∷ l)
  mark_slot i n pos fits free =
      let e : i + n - i ≡ n = omega arith in
      rw (filled_slot w b.slot u i (i + n - i) 1 p.room, filled_slot w b.slot t (i + n - 1) 1 1 p.stop_room)
      (subst (λ (m : ℕ). SoundBlock (marked b i (i + n)) (filled (slot_of w b.slot u) i (i + n - i) 1) (filled (slot_of w b.slot t) (i + n - 1) 1 1) (piece i m ∷ l)) e
      (mark_sound b (slot_of w b.slot u) (slot_of w b.slot t) l s room stop_room p.end i (i + n) (omega arith) fits free))

  -- the span from i up to e is released
  pub release_slot : (i e : ℕ) → i < e → InPieces i (e - i) l → SoundAfter w b (mark_released w b i e u t) (strike_piece i l)
  release_slot i e some m =
      rw (filled_slot w b.slot u i (e - i) 0 p.room, filled_slot w b.slot t (e - 1) 1 0 p.stop_room)
      (release_sound b (slot_of w b.slot u) (slot_of w b.slot t) l s room stop_room p.end i e some m)

  -- of the span from i up to e the first n units stay
  pub shrink_slot : (i n e : ℕ) → 0 < n → i + n < e → InPieces i (e - i) l → SoundAfter w b (mark_shrunk w b (i + n) e u t) (piece i n ∷ strike_piece i l)
  shrink_slot i n e pos less m =
      let f : i + n - i ≡ n = omega arith in
      rw (
        filled_slot w b.slot u (i + n) (e - (i + n)) 0 p.room,
        filled_slot w b.slot (fill_slot w b.slot t (e - 1) 1 0) (i + n - 1) 1 1
            (omega (arith, length_fill_slot w b.slot t (e - 1) 1 0 p.stop_room, p.stop_room)),
        filled_slot w b.slot t (e - 1) 1 0 p.stop_room,
      )
      (subst
      (λ (m : ℕ). SoundBlock (shrunk b (i + n) e) (filled (slot_of w b.slot u) (i + n) (e - (i + n)) 0)
      (filled (filled (slot_of w b.slot t) (e - 1) 1 0) (i + n - 1) 1 1) (piece i m ∷ strike_piece i l)) f
      (shrink_sound b (slot_of w b.slot u) (slot_of w b.slot t) l s room stop_room p.end i (i + n) e (omega arith) less m))

  -- a search for n units misses, and the record becomes c
  pub miss_slot : (n : ℕ) → 0 < n → (c : Block) → look_into w b u n ≡ Err c → SoundBlock c (slot_of w b.slot u) (slot_of w b.slot t) l
  miss_slot n pos c e = tight_sound w b u (slot_of w b.slot t) l n s room p.end pos c e

-- ---- in a slot that was cleared
module _ (w slot : ℕ) (u t : List ℕ) (hu : (slot + 1) * w ≤ length u) (ht : (slot + 1) * w ≤ length t) where
  pub empty_slot : (b : Block) → SoundBlock (emptied b) (slot_of w slot (clear_slot w slot u)) (slot_of w slot (clear_slot w slot t)) []
  empty_slot b = rw (cleared_slot w slot u hu, cleared_slot w slot t ht) (emptied_sound b w)

  -- a new block with its first span of n units
  pub new_slot : (base size pool area n : ℕ) → 0 < n → n ≤ area → area ≤ 32 * w
      → SoundAfter w (fresh base size pool slot area n)
      (mark_allocated w (fresh base size pool slot area n) 0 (0 + n) (clear_slot w slot u) (clear_slot w slot t)) (piece 0 n ∷ [])
  new_slot base size pool area n pos fits h =
      let long = length_put_slot w slot u (replicate w 0) hu (length-replicate {A = ℕ} w 0) in
      let stop-long = length_put_slot w slot t (replicate w 0) ht (length-replicate {A = ℕ} w 0) in
      let e : n - 0 ≡ n = omega arith in
      rw (
        zero-add n,
        e,
        filled_slot w slot (clear_slot w slot u) 0 n 1 (omega arith),
        filled_slot w slot (clear_slot w slot t) (n - 1) 1 1 (omega arith),
        cleared_slot w slot u hu,
        cleared_slot w slot t ht,
      )
      (fresh_sound base size pool slot area n w pos fits h)
