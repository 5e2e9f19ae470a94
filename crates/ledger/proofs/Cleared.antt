-- Slots cleared, by a creation and by a reset; and a table of emptied blocks with an empty ledger. Assumes nothing.
use Prim.Native.Nat.{ℕ, zero, suc, ◌+◌, ◌*◌, ◌≤◌, ◌<◌}
use mathlib.Core.List.{List, []}
use mathlib.Core.Logic.{◌⊎◌, inl, inr, ⊎_elim}
use mathlib.Core.Path.{◌≡◌, refl, sym, ap, subst, ◌∙◌}
use native.Mathlib.Omega.{arith}
use lib.ListN.{length, get_or, drop, replicate, length-replicate, get_or-append}
use lib.Seq.{ext_get_or}
use Rattle.numbers.proofs.Split.{by_eq}
use Rattle.bits.proofs.Filled.{bit_zeros}
use Rattle.slots.specs.Slots.{slot_of}
use Rattle.slots.proofs.Laws.{length_slot, slot_word, slot_own, slot_other}
use Rattle.block.specs.declared.Block.{Block}
use Rattle.block.specs.Marking.{emptied}
use Rattle.state.specs.declared.State.{State}
use Rattle.state.specs.Table.{block_at}
use Rattle.state.proofs.Lists.{get_or-replicate}
use Rattle.shape_facts.proofs.Cleared.{length_cleared}
use Rattle.machine.specs.Turn.{clear_slot}
use Rattle.machine.specs.Create.{cleared}
use Rattle.machine.specs.Reset.{clear_blocks}
use Rattle.shape_facts.proofs.Clear.{length_clear}
use Rattle.ledger.specs.Paint.{SoundBlock}
use Rattle.ledger.proofs.SoundBlock.{emptied_sound}
use Rattle.ledger.specs.Agrees.{view, view_of, at, Clear, Agrees}
use Rattle.ledger.proofs.Table.{slot_room, sound_moved}

abbrev pub zeros : ℕ → List ℕ
zeros w = replicate w 0

pub long : (w : ℕ) → length (zeros w) ≡ w
long w = length-replicate {A = ℕ} w 0

-- a slot of zeros is clear
pub zeros_clear : (w k : ℕ) (ws : List ℕ) → slot_of w k ws ≡ zeros w → Clear (slot_of w k ws)
zeros_clear w k ws e = subst Clear (sym e) (bit_zeros w)

-- ---- one slot cleared
module _ (w k : ℕ) (ws : List ℕ) (h : (k + 1) * w ≤ length ws) where
  pub clear_own : slot_of w k (clear_slot w k ws) ≡ zeros w
  clear_own = slot_own w k ws (zeros w) h (long w)

  pub clear_other : (r : ℕ) → (r ≡ k → ⊥) → (r + 1) * w ≤ length ws → slot_of w r (clear_slot w k ws) ≡ slot_of w r ws
  clear_other r ne g = slot_other w k r ws (zeros w) h (long w) ne g

-- ---- the slots of the first n blocks cleared: a slot is zeros, or no such block has it and it is as it was
module _ (s : State) (ws : List ℕ) (few : (i : ℕ) → i < s.count → ((block_at s i).slot + 1) * s.w ≤ length ws) where
  abbrev Either : ℕ → ℕ → Type 0
  Either n r =
      (slot_of s.w r (clear_blocks s n ws) ≡ zeros s.w)
      ⊎ (((i : ℕ) → i < n → (block_at s i).slot ≡ r → ⊥) × (slot_of s.w r (clear_blocks s n ws) ≡ slot_of s.w r ws))

  pub clear_either : (n r : ℕ) → n ≤ s.count → (r + 1) * s.w ≤ length ws → Either n r
  unfolding clear_blocks
  clear_either zero r l h = inr (λ i p. absurd (omega arith), refl)
  clear_either (suc n) r l h =
      let e = length_clear s n ws (λ i p. few i (omega arith)) in
      let room : ((block_at s n).slot + 1) * s.w ≤ length (clear_blocks s n ws) = omega (arith, e, few n (omega arith)) in
      by_eq r (block_at s n).slot
      (λ q. inl (subst (λ (k : ℕ). slot_of s.w k (clear_slot s.w (block_at s n).slot (clear_blocks s n ws)) ≡ zeros s.w) (sym q) (clear_own s.w (block_at s n).slot (clear_blocks s n ws) room)))
      (λ ne.
      let o = clear_other s.w (block_at s n).slot (clear_blocks s n ws) room r ne (omega (arith, e)) in
      ⊎_elim (λ z. inl (o ∙ z)) (λ z. inr (λ i p c. by_eq i n (λ q. ne (sym c ∙ ap (λ (k : ℕ). (block_at s k).slot) q)) (λ nq. z.0 i (omega (arith, nq)) c), o ∙ z.1))
      (clear_either n r (omega arith) h))

-- ---- a creation clears all slots
pub created_zeros : (w slots k : ℕ) (ws : List ℕ) → k < slots → slots * w ≤ length ws → slot_of w k (cleared (slots * w) ws) ≡ zeros w
created_zeros w slots k ws h room =
    ext_get_or 0 (slot_of w k (cleared (slots * w) ws)) (zeros w) (length_slot w k (cleared (slots * w) ws) in_cleared ∙ sym (long w)) each_word
  where
    own : (k + 1) * w ≤ slots * w
    own = slot_room w slots k (slots * w) h (omega arith)

    in_cleared : (k + 1) * w ≤ length (cleared (slots * w) ws)
    in_cleared = omega (arith, own, room, length_cleared (slots * w) ws room)

    each_word : (i : ℕ) → i < length (slot_of w k (cleared (slots * w) ws)) → get_or (slot_of w k (cleared (slots * w) ws)) i 0 ≡ get_or (zeros w) i 0
    each_word i q =
        let l : i < w = omega (arith, length_slot w k (cleared (slots * w) ws) in_cleared) in
        slot_word w k (cleared (slots * w) ws) i l
        ∙ get_or-append (replicate (slots * w) 0) (drop (slots * w) ws) 0 (k * w + i) (omega (arith, own, length-replicate {A = ℕ} (slots * w) 0))
        ∙ get_or-replicate (slots * w) 0 (k * w + i) ∙ sym (get_or-replicate w 0 i)

-- ---- no span is out: emptied blocks whose slots are zeros, and every other slot clear
pub emptied_agrees : (g w slots n : ℕ) (bs : List Block) (u t : List ℕ)
    → ((j : ℕ) → j < n → (b : Block) × (at bs j ≡ emptied b) × (slot_of w b.slot u ≡ zeros w) × (slot_of w b.slot t ≡ zeros w))
    → ((k : ℕ) → k < slots → Clear (slot_of w k u) × Clear (slot_of w k t))
    → Agrees g w slots n bs u t []
emptied_agrees g w slots n bs u t f c = record {
  each = λ j h.
      let r = f j h in
      let b = r.0 in
      subst (λ (c : Block). SoundBlock c (slot_of w c.slot u) (slot_of w c.slot t) (view_of g c [])) (sym r.1)
      (sound_moved (emptied b) (sym r.2) (sym r.3) (nothing (emptied b)) (emptied_sound b w));
  idle = λ k h o. c k h;
  homes = tt;
}
  where
    nothing : (b : Block) → [] ≡ view_of g b []
    nothing b = unfold view in refl
