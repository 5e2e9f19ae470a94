-- What a call must leave; the calls on a span that stands: query, release, shrink; and an allocation in a block that stands. Assumes nothing.
use Prim.Native.Nat.{ℕ, ◌+◌, ◌-◌, ◌*◌, ◌≤◌, ◌<◌}
use mathlib.Core.List.{List, [], ◌∷◌}
use mathlib.Core.Bool.{false, not, ◌||◌}
use mathlib.Core.Logic.{⊎_elim}
use mathlib.Core.Path.{◌≡◌, refl, sym, ap, subst, subst₂, ◌∙◌}
use native.Mathlib.Omega.{arith}
use lib.Dec.{eqb}
use lib.ListN.{length, set}
use borrow.Author.Tests.{eqb-true, not-false}
use Rattle.numbers.specs.Units.{bytes_of}
use Rattle.numbers.proofs.Bools.{picked}
use Rattle.numbers.proofs.Split.{by_eq}
use Rattle.bits.specs.Bits.{bit}
use Rattle.slots.specs.Slots.{slot_of, fill_slot}
use Rattle.block.specs.declared.Block.{Block}
use Rattle.block.specs.Marking.{released, shrunk, marked}
use Rattle.block.proofs.LiesAs.{numbers_lie, released_lies, marked_lies}
use Rattle.state.specs.declared.State.{State}
use Rattle.state.specs.declared.Span.{Span}
use Rattle.state.specs.declared.Answer.{Answer}
use Rattle.state.specs.declared.Answer.TheVariants.{Released, Shrunk}
use Rattle.state.specs.Table.{block_at, pool_at, sum}
use Rattle.state.specs.Change.{past, removed}
use Rattle.shape.specs.Shaped.{Shaped}
use Rattle.machine.specs.Turn.{Turn, turn, span, put_pool, with_live, with_counts, unit_of, clear_slot}
use Rattle.machine.specs.Alloc.{alloc_marked}
use Rattle.machine.specs.Release.{less_used, release_units}
use Rattle.machine.specs.Shrink.{shrink_tail}
use Rattle.shape_facts.proofs.Facts.{unit_g, pool_3}
use Rattle.ledger.specs.Paint.{Piece, piece, holders, enders, units, InPieces, strike_piece, SoundBlock}
use Rattle.ledger.proofs.Pieces.{no_units}
use Rattle.ledger.proofs.Paints.{struck_out}
use Rattle.shape_kept.specs.Sized.{Sized}
use Rattle.shape_kept.proofs.Sums.{past_low}
use Rattle.shape_kept.proofs.After.{removed_block}
use Rattle.shape_kept.proofs.Sized.{sized_less, sized_live}
use Rattle.shape_kept.proofs.Words.{length_fill_slot}
use Rattle.ledger.specs.Ledger.{In, strike, enter}
use Rattle.ledger.specs.Agrees.{within, view_of, at, Agrees, Sound}
use Rattle.ledger.proofs.View.{strike_head, strike_tail, in_unit, in_view, view_new, view_other, view_strike, view_strike_other}
use Rattle.ledger.proofs.Table.{Stands, slot_room, homes_strike, one_block, aligned, set_stands, sound_moved}
use Rattle.ledger.proofs.Calls.{release_agrees, shrink_agrees, mark_agrees}
use Rattle.ledger.proofs.Count.{live_units}
use Rattle.ledger.proofs.Grow.{drop_agrees}
use Rattle.ledger.proofs.Cleared.{zeros_clear, clear_own, clear_other}
use Rattle.ledger.proofs.Search.{Ready}
use Rattle.ledger.proofs.Finds.{shaped, stands, unit_is}

-- The table and the maps agree with the ledger that the answer leaves, the live count is its length, and no more than the units in use. So the state
-- keeps its shape
pub record Right (l : List Span) (x : Turn) : Type 0 where
  pub agrees : Agrees x.state.granularity x.state.w x.state.slots x.state.count x.state.blocks x.used x.stop (enter x.answer l)
  pub live : x.state.live ≡ length (enter x.answer l)
  pub enough : x.state.live ≤ sum x.state.count (λ i. (block_at x.state i).used)

abbrev pub Whole : ℕ → ℕ → List Block → Type 0
Whole g n bs = (j : ℕ) → j < n → (at bs j).area * g ≡ (at bs j).size

pub right_of : (l : List Span) (x : Turn) → 0 < x.state.granularity → Whole x.state.granularity x.state.count x.state.blocks
    → Agrees x.state.granularity x.state.w x.state.slots x.state.count x.state.blocks x.used x.stop (enter x.answer l)
    → x.state.live ≡ length (enter x.answer l) → Right l x
right_of l x pos whole s live = record {
  agrees = s;
  live = live;
  enough = omega (
    arith,
    live,
    live_units x.state.granularity x.state.count x.state.blocks pos whole x.state.w x.state.slots x.used x.stop (enter x.answer l) s,
  );
}

pub length_strike : (l : List Span) (a z : ℕ) → In a z l → length (strike a l) + 1 ≡ length l
length_strike [] a z i = absurd i
length_strike (x ∷ l) a z i =
    by_eq x.address a (λ e. omega (arith, ap length (strike_head x l a e)))
    (λ ne. omega (arith, ap length (strike_tail x l a ne), length_strike l a z (⊎_elim (λ e. absurd (ne e.0)) (λ m. m) i)))

pub stands_long : {g w slots n : ℕ} {bs : List Block} {a b c d : ℕ} → a ≡ c → b ≡ d → Stands g w slots n bs a b → Stands g w slots n bs c d
stands_long {g} {w} {slots} {n} {bs} p q st = subst₂ (λ (x y : ℕ). Stands g w slots n bs x y) p q st

-- ---- a piece struck and entered again paints the same
again_sound : (b : Block) (u t : List ℕ) (l : List Piece) (i n : ℕ) → SoundBlock b u t l → InPieces i n l → 0 < n → i + n ≤ b.area → SoundBlock b u t (piece i n ∷ strike_piece i l)
unfolding holders enders units
again_sound b u t l i n s m pos fits =
    let r = struck_out l b.area u t s.paints i n m in
    record {
      paints = record {
        inside = (pos, fits, r.inside);
        used = λ k. omega (arith, s.paints.used k, r.helds k);
        stop = λ k. omega (arith, s.paints.stop k, r.endeds k);
      };
      count = omega (arith, s.count, r.all);
      window = s.window;
      exact = s.exact;
    }

module _ (s : State) (u t : List ℕ) (l : List Span) (o : Sound s u t l) (z : Sized s) where
  abbrev st : Stands s.granularity s.w s.slots s.count s.blocks (length u) (length t)
  st = stands s u t l o z.blocks

  -- ---- nothing changes
  pub same_right : (answer : Answer) → enter answer l ≡ l → Right l (turn answer s u t)
  same_right answer e =
      right_of l (turn answer s u t) st.unit st.whole
      (subst (λ (m : List Span). Agrees s.granularity s.w s.slots s.count s.blocks u t m) (sym e) o.agrees) (o.live ∙ ap length (sym e))

  module _ (a j i e : ℕ) (h : j < s.count) (some : i < e) (fits : e ≤ (block_at s j).area) (ea : a ≡ (block_at s j).base + i * s.granularity) (mem : In a ((e - i) * s.granularity) l) where
    abbrev b : Block
    b = block_at s j

    own : In (b.base + i * s.granularity) ((e - i) * s.granularity) l
    own = subst (λ (x : ℕ). In x ((e - i) * s.granularity) l) ea mem

    low : i < b.area
    low = omega arith

    end_low : b.end ≤ b.area
    end_low = ((shaped s u t l o z.blocks).sound j h).end

    -- ---- a shrink to the same units
    pub again_right : Right l (turn (Shrunk (span a ((e - i) * s.granularity))) s u t)
    again_right =
        let g = s.granularity in
        let c = b.base + i * g in
        let m = span a ((e - i) * g) ∷ strike a l in
        let p = in_view g st.unit b (st.whole j h) l i (e - i) low own in
        let v : piece i (e - i) ∷ strike_piece i (view_of g b l) ≡ view_of g b m =
        ap (λ (w : List Piece). piece i (e - i) ∷ w) (sym (view_strike g st.unit b (st.whole j h) l i low (aligned g s.w s.slots s.count s.blocks (length u) (length t) st j h l o.agrees.homes)))
        ∙ sym (view_new g st.unit b (st.whole j h) i (e - i) (strike c l) low)
        ∙ ap (λ (x : ℕ). view_of g b (span x ((e - i) * g) ∷ strike x l)) (sym ea) in
        let away : (k : ℕ) → k < s.count → (k ≡ j → ⊥) → within (block_at s k).base (block_at s k).size a ≡ false =
        λ k q ne. ap (within (block_at s k).base (block_at s k).size) ea
        ∙ one_block g s.w s.slots s.count s.blocks (length u) (length t) st k j c q h ne (in_unit g st.unit b (st.whole j h) i low) in
        right_of l (turn (Shrunk (span a ((e - i) * g))) s u t) st.unit st.whole
        (record {
          each = λ k q. by_eq k j
              (λ z. subst (λ (k : ℕ). SoundBlock (block_at s k) (slot_of s.w (block_at s k).slot u) (slot_of s.w (block_at s k).slot t) (view_of g (block_at s k) m)) (sym z)
              (sound_moved b refl refl v
              (again_sound b (slot_of s.w b.slot u) (slot_of s.w b.slot t) (view_of g b l) i (e - i) (o.agrees.each j h) p (omega arith) (omega arith))))
              (λ ne.
              sound_moved (block_at s k) refl refl
              (sym (view_other g (block_at s k).base (block_at s k).size (span a ((e - i) * g)) (strike a l) (away k q ne) ∙ view_strike_other g (block_at s k).base (block_at s k).size l a (away k q ne)))
              (o.agrees.each k q));
          idle = o.agrees.idle;
          homes = ((j, h, (i, e - i, low, ea, refl)), homes_strike g s.count s.blocks l a o.agrees.homes);
        })
        (omega (arith, o.live, length_strike l a ((e - i) * g) mem))

    -- ---- a shrink to fewer
    pub cut_right : (n : ℕ) → 0 < n → n < e - i → Right l (shrink_tail s u t a j i e n)
    cut_right n pos less =
        let g = s.granularity in
        let c = shrunk b (i + n) e in
        let unit = unit_is s u t l o z.blocks j h in
        let z = shrink_agrees g s.w s.slots s.count s.blocks u t st l o.agrees j h end_low i n e pos (omega arith) low own in
        let w = set_stands g s.w s.slots s.count s.blocks (length u) (length t) st j h c (numbers_lie b _ _ _ _ _) in
        right_of l (shrink_tail s u t a j i e n) st.unit w.whole
        (subst₂ (λ (x k : ℕ). Agrees g s.w s.slots s.count (set s.blocks j c) (fill_slot s.w b.slot u (i + n) (e - (i + n)) 0)
        (fill_slot s.w b.slot (fill_slot s.w b.slot t (e - 1) 1 0) (i + n - 1) 1 1) (span x (n * k) ∷ strike x l)) (sym ea) (sym unit) z)
        (omega (arith, o.live, length_strike l a ((e - i) * g) mem))

    -- ---- a release
    abbrev after : State
    after = with_live (less_used s j (released b i e) (e - i)) (s.live - 1)

    abbrev v : List ℕ
    v = fill_slot s.w (block_at s j).slot u i (e - i) 0

    abbrev y : List ℕ
    y = fill_slot s.w (block_at s j).slot t (e - 1) 1 0

    after_sized : Sized after
    after_sized = sized_live (less_used s j (released b i e) (e - i)) (sized_less s z j (released b i e) (e - i)) (s.live - 1)

    freed_agrees : Agrees s.granularity s.w s.slots s.count after.blocks v y (strike a l)
    freed_agrees =
        subst (λ (x : ℕ). Agrees s.granularity s.w s.slots s.count after.blocks v y (strike x l)) (sym ea)
        (release_agrees s.granularity s.w s.slots s.count s.blocks u t st l o.agrees j h end_low i e some low own)

    freed_stands : Stands s.granularity s.w s.slots s.count after.blocks (length v) (length y)
    freed_stands =
        stands_long (sym (length_fill_slot s.w b.slot u i (e - i) 0 (slot_room s.w s.slots b.slot (length u) (st.slot j h) st.used_room)))
        (sym (length_fill_slot s.w b.slot t (e - 1) 1 0 (slot_room s.w s.slots b.slot (length t) (st.slot j h) st.stop_room)))
        (set_stands s.granularity s.w s.slots s.count s.blocks (length u) (length t) st j h (released b i e) (released_lies b i e))

    freed_live : s.live - 1 ≡ length (strike a l)
    freed_live = omega (arith, o.live, length_strike l a ((e - i) * s.granularity) mem)

    -- its block goes, being empty
    gone : (block_at after j).used ≡ 0
        → Agrees s.granularity s.w s.slots (s.count - 1) (removed after j).blocks (clear_slot s.w (block_at after j).slot v) (clear_slot s.w (block_at after j).slot y) (strike a l)
    gone none =
        let k = (block_at after j).slot in
        let w = s.w in
        let q = freed_stands in
        let ru = slot_room w s.slots k (length v) (q.slot j h) q.used_room in
        let rt = slot_room w s.slots k (length y) (q.slot j h) q.stop_room in
        let c = freed_agrees.each j h in
        drop_agrees s.granularity w s.slots s.count after.blocks v y q (strike a l) freed_agrees (removed after j).blocks (clear_slot w k v) (clear_slot w k y) j h
        stays
        (λ r p ne. clear_other w k v ru r ne (slot_room w s.slots r (length v) p q.used_room))
        (λ r p ne. clear_other w k y rt r ne (slot_room w s.slots r (length y) p q.stop_room))
        (zeros_clear w k (clear_slot w k v) (clear_own w k v ru)) (zeros_clear w k (clear_slot w k y) (clear_own w k y rt))
        (no_units (view_of s.granularity (block_at after j) (strike a l)) (block_at after j).area c.paints.inside (sym c.count ∙ none))
      where
        stays : (k : ℕ) → k < s.count - 1 → at (removed after j).blocks k ≡ block_at after (past j k)
        stays k q = removed_block after after_sized j k (omega (arith, (shaped s u t l o z.blocks).head.count_slots, (shaped s u t l o z.blocks).head.slots_high))

    pub free_right : Right l (release_units s u t a j i e)
    free_right =
        let answer = Released (span a (bytes_of (e - i) (unit_of s b))) in
        picked (Right l) (not (eqb (block_at after j).used 0)) (turn answer after v y) _
        (λ q. right_of l (turn answer after v y) st.unit freed_stands.whole freed_agrees freed_live)
        (λ q.
        let none = eqb-true (block_at after j).used 0 (not-false (eqb (block_at after j).used 0) q) in
        picked (Right l) (not (eqb (pool_at after (block_at after j).pool).empty 0) || after.immediate) _ _
        (λ r. right_of l (turn answer (removed after j) (clear_slot s.w (block_at after j).slot v) (clear_slot s.w (block_at after j).slot y)) st.unit whole_gone (gone none) freed_live)
        (λ r. right_of l (turn answer (put_pool after (block_at after j).pool (with_counts (pool_at after (block_at after j).pool) 1 (pool_at after (block_at after j).pool).used)) v y) st.unit freed_stands.whole freed_agrees freed_live))
      where
        whole_gone : Whole s.granularity (s.count - 1) (removed after j).blocks
        whole_gone k q =
            let few = (shaped s u t l o z.blocks).head in
            subst (λ (c : Block). c.area * s.granularity ≡ c.size) (sym (removed_block after after_sized j k (omega (arith, few.count_slots, few.slots_high))))
            (freed_stands.whole (past j k) (past_low j k s.count q))

-- ---- allocation
-- a span marked in a block of r, which the search left
module _ (r : State) (u t : List ℕ) (l : List Span) (p n : ℕ) (pos : 0 < n) (f : Shaped r (length u) (length t)) (rd : Ready u t l p n pos r) (live : r.live ≡ length l) where
  pub mark_right : (j i : ℕ) → j < r.count → i + n ≤ (block_at r j).area → ((k : ℕ) → i ≤ k → k < i + n → bit (slot_of r.w (block_at r j).slot u) k ≡ 0)
      → Right l (alloc_marked r u t j i n)
  mark_right j i h fits free =
      let b = block_at r j in
      let st = rd.stands in
      let unit = unit_g r (length u) (length t) f b.pool (pool_3 r (length u) (length t) f j h) in
      let z = mark_agrees r.granularity r.w r.slots r.count r.blocks u t st l rd.agrees j h (rd.ends j h) i n pos fits free in
      let w = set_stands r.granularity r.w r.slots r.count r.blocks (length u) (length t) st j h (marked b i (i + n)) (marked_lies b i (i + n)) in
      right_of l (alloc_marked r u t j i n) st.unit w.whole
      (subst (λ (g : ℕ). Agrees r.granularity r.w r.slots r.count (set r.blocks j (marked b i (i + n))) (fill_slot r.w b.slot u i (i + n - i) 1)
      (fill_slot r.w b.slot t (i + n - 1) 1 1) (span (b.base + i * g) (n * g) ∷ l)) (sym unit) z)
      (omega (arith, live))
