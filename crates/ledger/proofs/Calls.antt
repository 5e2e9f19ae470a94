-- Marking, release, shrink and a missed search at one block: the table and the maps agree with the ledger afterwards. Assumes nothing.
use Prim.Native.Nat.{ℕ, ◌+◌, ◌-◌, ◌*◌, ◌≤◌, ◌<◌}
use mathlib.Core.List.{List, ◌∷◌}
use mathlib.Core.Bool.{false}
use mathlib.Core.Path.{◌≡◌, refl, sym, ap, subst, subst₂, ◌∙◌}
use native.Mathlib.Omega.{arith}
use lib.ListN.{length, set}
use Rattle.bits.specs.Bits.{bit, filled}
use Rattle.bits.proofs.Filled.{length_filled}
use Rattle.slots.specs.Slots.{slot_of, put_slot, fill_slot}
use Rattle.slots.proofs.Laws.{length_slot, slot_own, put_put_slot, put_slot_same}
use Rattle.block.specs.declared.Block.{Block}
use Rattle.std.specs.Prelude.{Err}
use Rattle.block.specs.Marking.{marked, released, shrunk}
use Rattle.block.specs.Search.{look_into}
use Rattle.block.proofs.LiesAs.{numbers_lie, marked_lies, released_lies, missed_lies}
use Rattle.state.specs.declared.Span.{Span}
use Rattle.machine.specs.Turn.{span}
use Rattle.ledger.specs.Paint.{Piece, piece, strike_piece}
use Rattle.ledger.proofs.SoundBlock.{mark_sound, release_sound, shrink_sound, tight_sound}
use Rattle.ledger.specs.Ledger.{In, strike}
use Rattle.ledger.specs.Agrees.{within, view_of, at, Agrees}
use Rattle.ledger.proofs.View.{in_unit, view_new, view_other, view_strike, view_strike_other, in_view}
use Rattle.ledger.proofs.Table.{Stands, slot_room, homes_strike, one_block, aligned, put-one, sound_moved}

module _ (g w slots n : ℕ) (bs : List Block) (u t : List ℕ) (st : Stands g w slots n bs (length u) (length t)) (l : List Span)
    (s : Agrees g w slots n bs u t l) (j : ℕ) (h : j < n) where
  abbrev b : Block
  b = at bs j

  abbrev pu : List ℕ
  pu = slot_of w (at bs j).slot u

  abbrev pt : List ℕ
  pt = slot_of w (at bs j).slot t

  pub part_u : length pu ≡ w
  part_u = length_slot w b.slot u (slot_room w slots b.slot (length u) (st.slot j h) st.used_room)

  pub part_t : length pt ≡ w
  part_t = length_slot w b.slot t (slot_room w slots b.slot (length t) (st.slot j h) st.stop_room)

  pub room_u : b.area ≤ 32 * length pu
  room_u = omega (arith, part_u, st.fits j h)

  pub room_t : b.area ≤ 32 * length pt
  room_t = omega (arith, part_t, st.fits j h)

  -- an address of the block is in no other
  away : (i k : ℕ) → i < b.area → k < n → (k ≡ j → ⊥) → within (at bs k).base (at bs k).size (b.base + i * g) ≡ false
  away i k inside p ne = one_block g w slots n bs (length u) (length t) st k j (b.base + i * g) p h ne (in_unit g st.unit b (st.whole j h) i inside)

  module _ (within-area : b.end ≤ b.area) where
    pub mark_agrees : (i m : ℕ) → 0 < m → i + m ≤ b.area → ((k : ℕ) → i ≤ k → k < i + m → bit pu k ≡ 0)
        → Agrees g w slots n (set bs j (marked b i (i + m))) (fill_slot w b.slot u i (i + m - i) 1) (fill_slot w b.slot t (i + m - 1) 1 1)
        (span (b.base + i * g) (m * g) ∷ l)
    mark_agrees i m pos fits free =
        let inside : i < b.area = omega arith in
        let em : i + m - i ≡ m = omega arith in
        let c = marked b i (i + m) in
        let x = filled pu i (i + m - i) 1 in
        let y = filled pt (i + m - 1) 1 1 in
        let new : piece i (i + m - i) ∷ view_of g b l ≡ view_of g b (span (b.base + i * g) (m * g) ∷ l) =
        ap (λ (k : ℕ). piece i k ∷ view_of g b l) em ∙ sym (view_new g st.unit b (st.whole j h) i m l inside) in
        put-one g w slots n bs (length u) (length t) st j h c
        (marked_lies b i (i + m)) u t refl refl l s x y (span (b.base + i * g) (m * g) ∷ l)
        (length_filled pu i (i + m - i) 1 ∙ part_u) (length_filled pt (i + m - 1) 1 1 ∙ part_t)
        (sound_moved c refl refl new (mark_sound b pu pt (view_of g b l) (s.each j h) room_u room_t within-area i (i + m) (omega arith) fits free))
        (λ k p ne. view_other g (at bs k).base (at bs k).size (span (b.base + i * g) (m * g)) l (away i k inside p ne))
        ((j, h, (i, m, inside, refl, refl)), s.homes)

    pub release_agrees : (i e : ℕ) → i < e → i < b.area → In (b.base + i * g) ((e - i) * g) l
        → Agrees g w slots n (set bs j (released b i e)) (fill_slot w b.slot u i (e - i) 0) (fill_slot w b.slot t (e - 1) 1 0)
        (strike (b.base + i * g) l)
    release_agrees i e some inside mem =
        let a = b.base + i * g in
        let c = released b i e in
        put-one g w slots n bs (length u) (length t) st j h c
        (released_lies b i e) u t refl refl l s (filled pu i (e - i) 0) (filled pt (e - 1) 1 0) (strike a l)
        (length_filled pu i (e - i) 0 ∙ part_u) (length_filled pt (e - 1) 1 0 ∙ part_t)
        (sound_moved c refl refl (sym (view_strike g st.unit b (st.whole j h) l i inside (aligned g w slots n bs (length u) (length t) st j h l s.homes)))
        (release_sound b pu pt (view_of g b l) (s.each j h) room_u room_t within-area i e some (in_view g st.unit b (st.whole j h) l i (e - i) inside mem)))
        (λ k p ne. view_strike_other g (at bs k).base (at bs k).size l a (away i k inside p ne))
        (homes_strike g n bs l a s.homes)

    -- of the units from i up to e the first m stay
    pub shrink_agrees : (i m e : ℕ) → 0 < m → i + m < e → i < b.area → In (b.base + i * g) ((e - i) * g) l
        → Agrees g w slots n (set bs j (shrunk b (i + m) e)) (fill_slot w b.slot u (i + m) (e - (i + m)) 0)
        (fill_slot w b.slot (fill_slot w b.slot t (e - 1) 1 0) (i + m - 1) 1 1)
        (span (b.base + i * g) (m * g) ∷ strike (b.base + i * g) l)
    shrink_agrees i m e pos less inside mem =
        let a = b.base + i * g in
        let c = shrunk b (i + m) e in
        let r = slot_room w slots b.slot (length t) (st.slot j h) st.stop_room in
        let z = filled pt (e - 1) 1 0 in
        let lz : length z ≡ w = length_filled pt (e - 1) 1 0 ∙ part_t in
        let y = filled z (i + m - 1) 1 1 in
        let em : i + m - i ≡ m = omega arith in
        let new : piece i (i + m - i) ∷ strike_piece i (view_of g b l) ≡ view_of g b (span a (m * g) ∷ strike a l) =
        ap (λ (k : ℕ). piece i k ∷ strike_piece i (view_of g b l)) em
        ∙ ap (λ (v : List Piece). piece i m ∷ v) (sym (view_strike g st.unit b (st.whole j h) l i inside (aligned g w slots n bs (length u) (length t) st j h l s.homes)))
        ∙ sym (view_new g st.unit b (st.whole j h) i m (strike a l) inside) in
        let twice : put_slot w b.slot t y ≡ fill_slot w b.slot (fill_slot w b.slot t (e - 1) 1 0) (i + m - 1) 1 1 =
        sym (ap (λ (v : List ℕ). put_slot w b.slot (put_slot w b.slot t z) (filled v (i + m - 1) 1 1)) (slot_own w b.slot t z r lz) ∙ put_put_slot w b.slot t z r lz y) in
        subst (λ (v : List ℕ). Agrees g w slots n (set bs j c) (fill_slot w b.slot u (i + m) (e - (i + m)) 0) v (span a (m * g) ∷ strike a l)) twice
        (put-one g w slots n bs (length u) (length t) st j h c (numbers_lie b _ _ _ _ _)
        u t refl refl l s (filled pu (i + m) (e - (i + m)) 0) y (span a (m * g) ∷ strike a l)
        (length_filled pu (i + m) (e - (i + m)) 0 ∙ part_u) (length_filled z (i + m - 1) 1 1 ∙ lz)
        (sound_moved c refl refl new
        (shrink_sound b pu pt (view_of g b l) (s.each j h) room_u room_t within-area i (i + m) e (omega arith) less (in_view g st.unit b (st.whole j h) l i (e - i) inside mem)))
        (λ k p ne.
        view_other g (at bs k).base (at bs k).size (span a (m * g)) (strike a l) (away i k inside p ne)
        ∙ view_strike_other g (at bs k).base (at bs k).size l a (away i k inside p ne))
        ((j, h, (i, m, inside, refl, refl)), homes_strike g n bs l a s.homes))

    -- a look that found nothing leaves the block tightened, or as it was
    pub missed_agrees : (k : ℕ) → 0 < k → (c : Block) → look_into w b u k ≡ Err c
        → Agrees g w slots n (set bs j c) u t l
    missed_agrees k pos c e =
        subst₂ (λ (x y : List ℕ). Agrees g w slots n (set bs j c) x y l) (put_slot_same w b.slot u) (put_slot_same w b.slot t)
        (put-one g w slots n bs (length u) (length t) st j h c (missed_lies w b u k c e) u t refl refl l s pu pt l part_u part_t
        (tight_sound w b u pt (view_of g b l) k (s.each j h) room_u within-area pos c e)
        (λ k p ne. refl) s.homes)
