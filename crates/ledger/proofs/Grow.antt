-- A block more and a block less: the table and the maps agree with the ledger afterwards. Assumes nothing.
use Prim.Native.Nat.{ℕ, ◌+◌, ◌-◌, ◌*◌, ◌<◌}
use mathlib.Core.List.{List, [], ◌∷◌}
use mathlib.Core.Path.{◌≡◌, refl, sym, ap, subst, ◌∙◌}
use native.Mathlib.Omega.{arith}
use lib.ListN.{length}
use Rattle.numbers.proofs.Split.{by_eq}
use Rattle.slots.specs.Slots.{slot_of}
use Rattle.block.specs.declared.Block.{Block}
use Rattle.state.specs.declared.Span.{Span}
use Rattle.state.specs.Change.{past, fallen}
use Rattle.ledger.specs.Paint.{Piece, piece, SoundBlock}
use Rattle.shape_kept.proofs.Sums.{past-ne, past_low, past_fallen, fallen_low}
use Rattle.ledger.specs.Agrees.{view, view_of, Lies, at, Homes, Clear, Agrees}
use Rattle.ledger.proofs.View.{lies_in, view_other, view_lies}
use Rattle.ledger.proofs.Table.{Stands, Beside, beside_out, one_block, sound_moved}

-- a block beside all others has none of their spans
pub view_none : (g n : ℕ) (bs : List Block) (pos : 0 < g) (whole : (j : ℕ) → j < n → (at bs j).area * g ≡ (at bs j).size) (b : Block) (l : List Span)
    → ((j : ℕ) → j < n → Beside (at bs j) b) → Homes g n bs l → view_of g b l ≡ []
view_none g n bs pos whole b [] f h = unfold view in refl
view_none g n bs pos whole b (x ∷ l) f h =
    let j = h.0.0 in
    view_other g b.base b.size x l (beside_out (at bs j) b x.address (f j h.0.1) (lies_in g pos (at bs j) (whole j h.0.1) x h.0.2))
    ∙ view_none g n bs pos whole b l f h.1

cons-not : (x : Piece) (l : List Piece) → x ∷ l ≡ [] → ⊥
cons-not x l e = let z : ◌≡◌ {A = ℕ} 0 1 = cc in omega arith

-- v and y are the maps u and t but for slot k
abbrev pub Elsewhere : ℕ → ℕ → ℕ → List ℕ → List ℕ → Type 0
Elsewhere w slots k u v = (r : ℕ) → r < slots → (r ≡ k → ⊥) → slot_of w r v ≡ slot_of w r u

module _ (g w slots n : ℕ) (bs : List Block) (u t : List ℕ) (st : Stands g w slots n bs (length u) (length t)) (l : List Span)
    (s : Agrees g w slots n bs u t l) (cs : List Block) (v y : List ℕ) where
  -- ---- a block more, the newest
  pub add_agrees : (b : Block) (m : List Span) → ((i : ℕ) → i < n → at cs i ≡ at bs i) → at cs n ≡ b
      → ((j : ℕ) → j < n → (at bs j).slot ≡ b.slot → ⊥)
      → Elsewhere w slots b.slot u v → Elsewhere w slots b.slot t y
      → SoundBlock b (slot_of w b.slot v) (slot_of w b.slot y) (view_of g b m)
      → ((i : ℕ) → i < n → view_of g (at bs i) m ≡ view_of g (at bs i) l)
      → Homes g (n + 1) cs m → Agrees g w slots (n + 1) cs v y m
  add_agrees b m old new ds eu et so others homes = record {
    each = λ i p. by_eq i n
        (λ e. subst (λ (c : Block). SoundBlock c (slot_of w c.slot v) (slot_of w c.slot y) (view_of g c m)) (sym (ap (at cs) e ∙ new)) so)
        (λ ne.
        let q : i < n = omega (arith, ne) in
        let r = st.slot i q in
        subst (λ (c : Block). SoundBlock c (slot_of w c.slot v) (slot_of w c.slot y) (view_of g c m)) (sym (old i q))
        (sound_moved (at bs i) (sym (eu (at bs i).slot r (ds i q))) (sym (et (at bs i).slot r (ds i q))) (sym (others i q)) (s.each i q)));
    idle = λ r p f.
        let d : r ≡ b.slot → ⊥ = λ e. f n (omega arith) (ap (λ (c : Block). c.slot) new ∙ sym e) in
        let c = s.idle r p (λ i q e. f i (omega arith) (ap (λ (c : Block). c.slot) (old i q) ∙ e)) in
        (subst Clear (sym (eu r p d)) c.0, subst Clear (sym (et r p d)) c.1);
    homes = homes;
  }

  -- ---- a block less: one without spans goes, and its slot is cleared
  module _ (j : ℕ) (h : j < n) where
    -- the place afterwards
    now_at : (i : ℕ) → i < n → (i ≡ j → ⊥) → (k : ℕ) × (k < n - 1) × (past j k ≡ i)
    now_at i p ne = (fallen j i, fallen_low j i n h p ne, past_fallen j i ne)

    module _ (stays : (k : ℕ) → k < n - 1 → at cs k ≡ at bs (past j k)) where
      drop_homes : (m : List Span) → view_of g (at bs j) m ≡ [] → Homes g n bs m → Homes g (n - 1) cs m
      drop_homes [] e q = tt
      drop_homes (x ∷ m) e q =
          let i = q.0.0 in
          let p = q.0.1 in
          let z = q.0.2 in
          by_eq i j
          (λ f.
          let y : Lies g (at bs j) x = subst (λ (c : ℕ). Lies g (at bs c) x) f z in
          absurd (cons-not (piece y.0 y.1) (view_of g (at bs j) m) (sym (view_lies g st.unit (at bs j) (st.whole j h) x m y) ∙ e)))
          (λ ne.
          let o = one_block g w slots n bs (length u) (length t) st j i x.address h p (λ r. ne (sym r)) (lies_in g st.unit (at bs i) (st.whole i p) x z) in
          let k = now_at i p ne in (
            (k.0, k.1, subst (λ (c : Block). Lies g c x) (sym (stays k.0 k.1 ∙ ap (at bs) k.2)) z),
            drop_homes m (sym (view_other g (at bs j).base (at bs j).size x m o) ∙ e) q.1,
          ))

      pub drop_agrees : Elsewhere w slots (at bs j).slot u v → Elsewhere w slots (at bs j).slot t y
          → Clear (slot_of w (at bs j).slot v) → Clear (slot_of w (at bs j).slot y)
          → view_of g (at bs j) l ≡ [] → Agrees g w slots (n - 1) cs v y l
      drop_agrees eu et cu ct none = record {
        each = λ k p.
            let i = past j k in
            let q = past_low j k n p in
            let r = st.slot i q in
            let d = st.slots_differ i j q h (past-ne j k) in
            subst (λ (c : Block). SoundBlock c (slot_of w c.slot v) (slot_of w c.slot y) (view_of g c l)) (sym (stays k p))
            (sound_moved (at bs i) (sym (eu (at bs i).slot r d)) (sym (et (at bs i).slot r d)) refl (s.each i q));
        idle = λ r p f.
            by_eq r (at bs j).slot
            (λ e. subst (λ (c : ℕ). Clear (slot_of w c v) × Clear (slot_of w c y)) (sym e) (cu, ct))
            (λ ne.
            let c = s.idle r p
            (λ i q e. by_eq i j (λ z. ne (sym e ∙ ap (λ (c : ℕ). (at bs c).slot) z))
            (λ nz. let k = now_at i q nz in f k.0 k.1 (ap (λ (c : Block). c.slot) (stays k.0 k.1 ∙ ap (at bs) k.2) ∙ e))) in
            (subst Clear (sym (eu r p ne)) c.0, subst Clear (sym (et r p ne)) c.1));
        homes = drop_homes l none s.homes;
      }
