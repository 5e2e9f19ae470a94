-- From one block to the table: a change in one block, its slot's words and its spans keeps the rest. Assumes nothing.
use Prim.Native.Nat.{ℕ, ◌+◌, ◌*◌, ◌≤◌, ◌<◌}
use mathlib.Core.List.{List, [], ◌∷◌}
use mathlib.Core.Bool.{true, false}
use mathlib.Core.Logic.{◌⊎◌, inl, inr, ⊎_elim}
use mathlib.Core.Path.{◌≡◌, sym, ap, subst, subst₂, ◌∙◌}
use native.Mathlib.Nat.{mul-le-mul_right}
use native.Mathlib.Omega.{arith}
use lib.ListN.{length, set, length-set}
use lib.Seq.{get_or-set_same, get_or-set_other}
use Rattle.numbers.proofs.Bools.{not_both}
use Rattle.numbers.proofs.Split.{by_eq, by_le}
use Rattle.slots.specs.Slots.{slot_of, put_slot}
use Rattle.slots.proofs.Laws.{slot_own, slot_other}
use Rattle.block.specs.declared.Block.{Block}
use Rattle.block.proofs.LiesAs.{LiesAs as LiesAt}
use Rattle.state.specs.declared.State.{State}
use Rattle.state.specs.declared.Span.{Span}
use Rattle.state.specs.Table.{zero_block, block_at}
use Rattle.shape.specs.Shaped.{Shaped}
use Rattle.ledger.specs.Paint.{Piece, SoundBlock}
use Rattle.ledger.specs.Ledger.{In, strike}
use Rattle.ledger.specs.Agrees.{within, view_of, Lies, at, Homes, Clear, Agrees}
use Rattle.ledger.proofs.View.{within_false, within_range, lies_in, Aligned, view_same, lies_same, strike_head, strike_tail}

-- two blocks share no byte
abbrev pub Beside : Block → Block → Type 0
Beside b c = (b.base + b.size ≤ c.base) ⊎ (c.base + c.size ≤ b.base)

-- What the table's laws ask of the places of blocks and slots: all of it from the shape
pub record Stands (g w slots count : ℕ) (blocks : List Block) (usedWords stopWords : ℕ) : Type 0 where
  pub unit : 0 < g
  pub used_room : slots * w ≤ usedWords
  pub stop_room : slots * w ≤ stopWords
  pub few : count ≤ length blocks
  pub slot : (j : ℕ) → j < count → (at blocks j).slot < slots
  pub whole : (j : ℕ) → j < count → (at blocks j).area * g ≡ (at blocks j).size
  pub fits : (j : ℕ) → j < count → (at blocks j).area ≤ 32 * w
  pub slots_differ : (i j : ℕ) → i < count → j < count → (i ≡ j → ⊥) → (at blocks i).slot ≡ (at blocks j).slot → ⊥
  pub apart : (i j : ℕ) → i < count → j < count → (i ≡ j → ⊥) → Beside (at blocks i) (at blocks j)

pub beside_swap : (b c : Block) → Beside b c → Beside c b
beside_swap b c (inl p) = inr p
beside_swap b c (inr p) = inl p

-- two blocks beside one another hold no address both
pub beside_out : (b c : Block) (a : ℕ) → Beside b c → within b.base b.size a ≡ true → within c.base c.size a ≡ false
beside_out b c a o e =
    let r = within_range b.base b.size a e in
    within_false c.base c.size a (⊎_elim (λ p. inl (omega arith)) (λ p. inr (omega arith)) o)

pub stands_of : (s : State) (u t : ℕ) → Shaped s u t → length s.blocks ≡ 64 → Stands s.granularity s.w s.slots s.count s.blocks u t
stands_of s u t f len = record {
  unit = omega (arith, f.head.g_low);
  used_room = f.lent.used_room;
  stop_room = f.lent.stop_room;
  few = omega (arith, f.head.count_slots, f.head.slots_high, len);
  slot = λ j h. (f.sound j h).slot;
  whole = λ j h. (f.sound j h).area_size;
  fits = λ j h. (f.sound j h).area_high;
  slots_differ = λ i j p q ne e. by_le i j (λ l. f.slots_apart i j (omega (arith, ne)) q e) (λ l. f.slots_apart j i l p (sym e));
  apart = λ i j p q ne. by_le i j (λ l. f.bytes_apart i j (omega (arith, ne)) q)
      (λ l. beside_swap (block_at s j) (block_at s i) (f.bytes_apart j i l p));
}

pub slot_room : (w slots k n : ℕ) → k < slots → slots * w ≤ n → (k + 1) * w ≤ n
slot_room w slots k n h g = omega (arith, mul-le-mul_right {m = k + 1} {n = slots} w (omega arith))

-- ---- where spans lie
pub homes_strike : (g n : ℕ) (bs : List Block) (l : List Span) (a : ℕ) → Homes g n bs l → Homes g n bs (strike a l)
homes_strike g n bs [] a h = unfold strike in tt
homes_strike g n bs (x ∷ l) a h =
    by_eq x.address a (λ e. subst (Homes g n bs) (sym (strike_head x l a e)) h.1)
    (λ ne. subst (Homes g n bs) (sym (strike_tail x l a ne)) (h.0, homes_strike g n bs l a h.1))

-- a table in which every block stands at the place where one stood before
pub homes-set : (g n m : ℕ) (bs cs : List Block) (l : List Span)
    → ((j : ℕ) → j < n → (j < m) × ((at bs j).base ≡ (at cs j).base) × ((at bs j).area ≡ (at cs j).area)) → Homes g n bs l → Homes g m cs l
homes-set g n m bs cs [] f h = tt
homes-set g n m bs cs (x ∷ l) f h =
    let j = h.0.0 in
    let e = f j h.0.1 in
    ((j, e.0, lies_same g (at bs j) (at cs j) x e.1 e.2 h.0.2), homes-set g n m bs cs l f h.1)

-- where a span of the ledger lies
pub home_of : (g n : ℕ) (bs : List Block) (l : List Span) (a z : ℕ) → Homes g n bs l → In a z l
    → (j : ℕ) × (j < n) × ((i : ℕ) × (k : ℕ) × (i < (at bs j).area) × (a ≡ (at bs j).base + i * g) × (z ≡ k * g))
home_of g n bs [] a z h i = absurd i
home_of g n bs (x ∷ l) a z h (inl e) =
    let y = h.0.2 in
    (h.0.0, h.0.1, (y.0, y.1, y.2, sym e.0 ∙ y.3, sym e.1 ∙ y.4))
home_of g n bs (x ∷ l) a z h (inr i) = home_of g n bs l a z h.1 i

module _ (g w slots n : ℕ) (bs : List Block) (lu lt : ℕ) (st : Stands g w slots n bs lu lt) where
  -- an address is in one block at most
  pub one_block : (i j a : ℕ) → i < n → j < n → (i ≡ j → ⊥) → within (at bs j).base (at bs j).size a ≡ true → within (at bs i).base (at bs i).size a ≡ false
  one_block i j a hi hj ne e = beside_out (at bs j) (at bs i) a (st.apart j i hj hi (λ z. ne (sym z))) e

  pub aligned : (j : ℕ) → j < n → (m : List Span) → Homes g n bs m → Aligned g (at bs j) m
  aligned j h [] q = tt
  aligned j h (x ∷ m) q =
      let k = q.0.0 in
      let y = q.0.2 in (
        (λ e.
            by_eq k j (λ f. subst (λ (i : ℕ). Lies g (at bs i) x) f y)
            (λ ne.
            absurd
            (not_both (within (at bs k).base (at bs k).size x.address) (lies_in g st.unit (at bs k) (st.whole k q.0.1) x y)
            (one_block k j x.address q.0.1 h ne e)))),
        aligned j h m q.1,
      )

-- the same words and the same pieces
pub sound_moved : (c : Block) {p q p' q' : List ℕ} {v v' : List Piece} → p ≡ p' → q ≡ q' → v ≡ v' → SoundBlock c p q v → SoundBlock c p' q' v'
sound_moved c {p} {q} {p'} {q'} {v} {v'} a b d so =
    subst (λ (x : List Piece). SoundBlock c p' q' x) d (subst₂ (λ (x y : List ℕ). SoundBlock c x y v) a b so)

-- ---- block j becomes b, in the same place
module _ (g w slots n : ℕ) (bs : List Block) (lu lt : ℕ) (st : Stands g w slots n bs lu lt) (j : ℕ) (h : j < n) (b : Block)
    (same : LiesAt b (at bs j)) where
  pub set_here : at (set bs j b) j ≡ b
  set_here = get_or-set_same bs j b zero_block (omega (arith, st.few))

  pub set_there : (i : ℕ) → (i ≡ j → ⊥) → at (set bs j b) i ≡ at bs i
  set_there i ne = get_or-set_other bs j i b zero_block ne

  like : (f : Block → ℕ) → f b ≡ f (at bs j) → (i : ℕ) → f (at (set bs j b) i) ≡ f (at bs i)
  like f e i = by_eq i j (λ q. ap (λ (k : ℕ). f (at (set bs j b) k)) q ∙ ap f set_here ∙ e ∙ ap (λ (k : ℕ). f (at bs k)) (sym q)) (λ ne. ap f (set_there i ne))

  pub set_base : (i : ℕ) → (at (set bs j b) i).base ≡ (at bs i).base
  set_base = like (λ c. c.base) same.base

  pub set_size : (i : ℕ) → (at (set bs j b) i).size ≡ (at bs i).size
  set_size = like (λ c. c.size) same.size

  pub set_slot : (i : ℕ) → (at (set bs j b) i).slot ≡ (at bs i).slot
  set_slot = like (λ c. c.slot) same.slot

  pub set_area : (i : ℕ) → (at (set bs j b) i).area ≡ (at bs i).area
  set_area = like (λ c. c.area) same.area

  pub set_stands : Stands g w slots n (set bs j b) lu lt
  set_stands = record {
    unit = st.unit;
    used_room = st.used_room;
    stop_room = st.stop_room;
    few = omega (arith, st.few, length-set bs j b);
    slot = λ i p. omega (arith, set_slot i, st.slot i p);
    whole = λ i p. ap (λ (x : ℕ). x * g) (set_area i) ∙ st.whole i p ∙ sym (set_size i);
    fits = λ i p. omega (arith, set_area i, st.fits i p);
    slots_differ = λ i k p q ne e. st.slots_differ i k p q ne (sym (set_slot i) ∙ e ∙ set_slot k);
    apart = λ i k p q ne. ⊎_elim
        (λ l. inl (omega (arith, set_base i, set_size i, set_base k)))
        (λ l. inr (omega (arith, set_base i, set_base k, set_size k)))
        (st.apart i k p q ne);
  }

  module _ (u t : List ℕ) (lu-is : length u ≡ lu) (lt-is : length t ≡ lt) (l : List Span) (s : Agrees g w slots n bs u t l) where
    abbrev k : ℕ
    k = (at bs j).slot

    room_u : (r : ℕ) → r < slots → (r + 1) * w ≤ length u
    room_u r p = slot_room w slots r (length u) p (omega (arith, st.used_room))

    room_t : (r : ℕ) → r < slots → (r + 1) * w ≤ length t
    room_t r p = slot_room w slots r (length t) p (omega (arith, st.stop_room))

    pub put-one : (x y : List ℕ) (m : List Span) → length x ≡ w → length y ≡ w
        → SoundBlock b x y (view_of g (at bs j) m)
        → ((i : ℕ) → i < n → (i ≡ j → ⊥) → view_of g (at bs i) m ≡ view_of g (at bs i) l)
        → Homes g n bs m
        → Agrees g w slots n (set bs j b) (put_slot w k u x) (put_slot w k t y) m
    put-one x y m lx ly so others homes =
        let kj = st.slot j h in
        let ou : (r : ℕ) → r < slots → (r ≡ k → ⊥) → slot_of w r (put_slot w k u x) ≡ slot_of w r u = λ r p ne. slot_other w k r u x (room_u k kj) lx ne (room_u r p) in
        let ot : (r : ℕ) → r < slots → (r ≡ k → ⊥) → slot_of w r (put_slot w k t y) ≡ slot_of w r t = λ r p ne. slot_other w k r t y (room_t k kj) ly ne (room_t r p) in
        record {
          each = λ i p.
              by_eq i j
              (λ e. subst (λ (i : ℕ). SoundBlock (at (set bs j b) i) (slot_of w (at (set bs j b) i).slot (put_slot w k u x)) (slot_of w (at (set bs j b) i).slot (put_slot w k t y)) (view_of g (at (set bs j b) i) m)) (sym e) (here x y m lx ly so))
              (λ ne.
              let d = st.slots_differ i j p h ne in
              let v = st.slot i p in
              subst (λ (c : Block). SoundBlock c (slot_of w c.slot (put_slot w k u x)) (slot_of w c.slot (put_slot w k t y)) (view_of g c m)) (sym (set_there i ne))
              (there i m (ou (at bs i).slot v d) (ot (at bs i).slot v d) (others i p ne) (s.each i p)));
          idle = λ r p f.
              let d : r ≡ k → ⊥ = λ e. f j h (set_slot j ∙ sym e) in
              let c = s.idle r p (λ i q e. f i q (set_slot i ∙ e)) in
              (subst Clear (sym (ou r p d)) c.0, subst Clear (sym (ot r p d)) c.1);
          homes = homes-set g n n bs (set bs j b) m (λ i p. (p, sym (set_base i), sym (set_area i))) homes;
        }
      where
        here : (x y : List ℕ) (m : List Span) → length x ≡ w → length y ≡ w → SoundBlock b x y (view_of g (at bs j) m)
            → SoundBlock (at (set bs j b) j) (slot_of w (at (set bs j b) j).slot (put_slot w k u x)) (slot_of w (at (set bs j b) j).slot (put_slot w k t y)) (view_of g (at (set bs j b) j) m)
        here x y m lx ly so =
            let kj = st.slot j h in
            let eu : slot_of w b.slot (put_slot w k u x) ≡ x = ap (λ (r : ℕ). slot_of w r (put_slot w k u x)) same.slot ∙ slot_own w k u x (room_u k kj) lx in
            let et : slot_of w b.slot (put_slot w k t y) ≡ y = ap (λ (r : ℕ). slot_of w r (put_slot w k t y)) same.slot ∙ slot_own w k t y (room_t k kj) ly in
            subst (λ (c : Block). SoundBlock c (slot_of w c.slot (put_slot w k u x)) (slot_of w c.slot (put_slot w k t y)) (view_of g c m)) (sym set_here)
            (sound_moved b (sym eu) (sym et) (sym (view_same g b (at bs j) m same.base same.size)) so)

        there : (i : ℕ) (m : List Span) {p q : List ℕ} → p ≡ slot_of w (at bs i).slot u → q ≡ slot_of w (at bs i).slot t → view_of g (at bs i) m ≡ view_of g (at bs i) l
            → SoundBlock (at bs i) (slot_of w (at bs i).slot u) (slot_of w (at bs i).slot t) (view_of g (at bs i) l) → SoundBlock (at bs i) p q (view_of g (at bs i) m)
        there i m eu et ev so = sound_moved (at bs i) (sym eu) (sym et) (sym ev) so
