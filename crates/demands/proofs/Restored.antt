-- A span marked in a standing block and released at once: the maps are as they were, word by word, and no block goes. Assumes nothing.
use Prim.Native.Nat.{ℕ, ◌+◌, ◌-◌, ◌*◌, ◌≤◌, ◌<◌}
use mathlib.Core.Bool.{Bool, true, false, not, ◌&&◌, ◌||◌}
use mathlib.Core.List.{List}
use mathlib.Core.Path.{◌≡◌, refl, sym, ap, ap₂, subst, ◌∙◌}
use native.Mathlib.Omega.{arith}
use lib.Dec.{eqb}
use lib.ListN.{length}
use borrow.Author.Tests.{eq-eqb}
use Rattle.numbers.specs.Pick.{pick}
use Rattle.numbers.specs.Units.{bytes_of}
use Rattle.numbers.proofs.Bools.{not_both}
use Rattle.numbers.proofs.Split.{by_eq}
use Rattle.bits.specs.Bits.{bit, filled, Words}
use Rattle.bits.proofs.Filled.{length_filled}
use Rattle.runs.specs.Window.{FreeAt}
use Rattle.slots.specs.Slots.{slot_of, put_slot, fill_slot}
use Rattle.slots.proofs.Laws.{slot_own, put_put_slot, put_slot_same, words_slot}
use Rattle.block.specs.declared.Block.{Block}
use Rattle.block.specs.Marking.{marked, released}
use Rattle.block.proofs.LiesAs.{LiesAs, lies_refl, lies_trans, marked_lies, released_lies}
use Rattle.sizes.specs.declared.Pool.{Pool}
use Rattle.state.specs.declared.State.{State}
use Rattle.state.specs.declared.Span.{Span}
use Rattle.state.specs.declared.Answer.{Answer}
use Rattle.state.specs.declared.Answer.TheVariants.{Released}
use Rattle.state.specs.Table.{block_at, pool_at, one}
use Rattle.state.specs.Shape.{is_empty, in_pool, empties_of}
use Rattle.state.proofs.Tests.{sum_term}
use Rattle.shape.specs.Shaped.{Shaped}
use Rattle.shape_facts.proofs.Facts.{pool_3, count_64}
use Rattle.machine.specs.Turn.{Turn, turn, span, unit_of}
use Rattle.machine.specs.Alloc.{alloc_marked}
use Rattle.machine.specs.Release.{release_units}
use Rattle.machine.proofs.Cases.{settle_cases}
use Rattle.ledger.proofs.Back.{used_back, stop_back}
use Rattle.shape_kept.specs.Sized.{Sized}
use Rattle.shape_kept.proofs.After.{put_block_lem, put_block_other, less_block, less_block_other}
use Rattle.shape_kept.proofs.Sized.{sized_block, sized_pool, sized_live}
use Rattle.ledger.specs.Agrees.{view_of, at, Agrees}
use Rattle.ledger.proofs.Table.{Stands, slot_room}
use Rattle.ledger.proofs.Calls.{part_u, part_t}
use Rattle.demands.specs.Back.{AllStood}
use Rattle.demands.proofs.Freed.{marked_used, released_used, marked_empty, less, freed_empty}

-- whatever is filled into a slot, and undone there
undone : (w k : ℕ) (ws : List ℕ) (i n v : ℕ) → (k + 1) * w ≤ length ws → (x : List ℕ) → length x ≡ w → filled x i n v ≡ slot_of w k ws
    → fill_slot w k (put_slot w k ws x) i n v ≡ ws
undone w k ws i n v room x lx e =
    ap (λ (p : List ℕ). put_slot w k (put_slot w k ws x) (filled p i n v)) (slot_own w k ws x room lx)
    ∙ put_put_slot w k ws x room lx (filled x i n v) ∙ ap (put_slot w k ws) e ∙ put_slot_same w k ws

-- one empty block is all that a pool keeps
only-one : (immediate : Bool) (empties : ℕ) → empties ≤ pick immediate 0 1 → 1 ≤ empties → (empties ≡ 1) × (immediate ≡ false)
only-one true n h g = absurd (omega arith)
only-one false n h g = (omega arith, refl)

module _ (r : State) (u t : List ℕ) (l : List Span) (f : Shaped r (length u) (length t)) (z : Sized r)
    (st : Stands r.granularity r.w r.slots r.count r.blocks (length u) (length t)) (ag : Agrees r.granularity r.w r.slots r.count r.blocks u t l)
    (wu : Words u) (wt : Words t) (j i n a : ℕ) (h : j < r.count) (pos : 0 < n) (fits : i + n ≤ (block_at r j).area)
    (free : FreeAt (slot_of r.w (block_at r j).slot u) n i) where
  abbrev b : Block
  b = block_at r j

  abbrev k : ℕ
  k = (block_at r j).slot

  abbrev x : Turn
  x = alloc_marked r u t j i n

  abbrev b1 : Block
  b1 = block_at x.state j

  abbrev pu : List ℕ
  pu = slot_of r.w (block_at r j).slot u

  abbrev pt : List ℕ
  pt = slot_of r.w (block_at r j).slot t

  low : j < 64
  low = omega (arith, h, count_64 r (length u) (length t) f)

  marked_sized : Sized x.state
  marked_sized = sized_live _ (sized_pool _ (sized_block r z j _) _ _) _

  lu : length pu ≡ r.w
  lu = part_u r.granularity r.w r.slots r.count r.blocks u t st l ag j h

  lt : length pt ≡ r.w
  lt = part_t r.granularity r.w r.slots r.count r.blocks u t st l ag j h

  lies_1 : LiesAs b1 b
  lies_1 = lies_trans (lies_refl (put_block_lem r z j (marked b i (i + n)) low)) (marked_lies b i (i + n))

  -- ---- the maps
  free_up : (q : ℕ) → i ≤ q → q < i + n → bit pu q ≡ 0
  free_up = free

  used_again : fill_slot r.w b1.slot x.used i (i + n - i) 0 ≡ u
  used_again =
      ap (λ (q : ℕ). fill_slot r.w q x.used i (i + n - i) 0) lies_1.slot
      ∙ undone r.w k u i (i + n - i) 0 (slot_room r.w r.slots k (length u) (st.slot j h) st.used_room) (filled pu i (i + n - i) 1)
      (length_filled pu i (i + n - i) 1 ∙ lu)
      (used_back pu i (i + n) (words_slot r.w k u wu) (omega arith) (omega (arith, lu, st.fits j h)) free_up)

  stop_again : fill_slot r.w b1.slot x.stop (i + n - 1) 1 0 ≡ t
  stop_again =
      ap (λ (q : ℕ). fill_slot r.w q x.stop (i + n - 1) 1 0) lies_1.slot
      ∙ undone r.w k t (i + n - 1) 1 0 (slot_room r.w r.slots k (length t) (st.slot j h) st.stop_room) (filled pt (i + n - 1) 1 1)
      (length_filled pt (i + n - 1) 1 1 ∙ lt)
      (stop_back (view_of r.granularity b l) b.area pu pt (ag.each j h).paints (words_slot r.w k t wt) i (i + n) (omega arith) (omega (arith, lt, st.fits j h)) free_up)

  -- ---- the blocks
  abbrev c : Block
  c = released b1 i (i + n)

  abbrev after : State
  after = less x.state j (i + n - i) (x.state.live - 1) c

  here : block_at after j ≡ c
  here = less_block x.state marked_sized j c (i + n - i) low

  lies_2 : (q : ℕ) → LiesAs (block_at after q) (block_at r q)
  lies_2 q =
      by_eq q j
      (λ e. subst (λ (q : ℕ). LiesAs (block_at after q) (block_at r q)) (sym e) (lies_trans (lies_refl here) (lies_trans (released_lies b1 i (i + n)) lies_1)))
      (λ ne. lies_refl (less_block_other x.state marked_sized j c (i + n - i) low q ne ∙ put_block_other r z j (marked b i (i + n)) low q ne))

  used_same : (block_at after j).used ≡ b.used
  used_same =
      omega (
        arith,
        ap (λ (y : Block). y.used) here,
        released_used b1 i (i + n),
        ap (λ (y : Block). y.used) (put_block_lem r z j (marked b i (i + n)) low),
        marked_used b i (i + n),
      )

  -- its pool keeps no other empty block if it was empty
  pool_low : b.pool < 3
  pool_low = pool_3 r (length u) (length t) f j h

  empty_after : (pool_at after (block_at after j).pool).empty ≡ (pool_at r b.pool).empty - one (is_empty b)
  empty_after =
      let p1 : b1.pool ≡ b.pool = lies_1.pool in
      let p2 : (block_at after j).pool ≡ b.pool = (lies_2 j).pool in
      freed_empty x.state marked_sized j (i + n - i) (x.state.live - 1) c (block_at after j).pool (p2 ∙ sym p1) (omega (arith, p2, pool_low))
      ∙ ap (λ (p : ℕ). (pool_at x.state p).empty) p1 ∙ marked_empty r z u t j i n pool_low

  stays : (block_at after j).used ≡ 0 → not (eqb (pool_at after (block_at after j).pool).empty 0) || r.immediate ≡ true → ⊥
  stays none goes =
      let e : is_empty b ≡ true = (f.sound j h).unused_empty (sym used_same ∙ none) in
      let own : one (in_pool r b.pool j && is_empty b) ≡ 1 = ap₂ (λ (x y : Bool). one (x && y)) (eq-eqb b.pool b.pool refl) e in
      let term = sum_term r.count (λ i. one (in_pool r b.pool i && is_empty (block_at r i))) j h in
      let o = only-one r.immediate (empties_of r b.pool) (f.empties b.pool pool_low) (omega (arith, own, term)) in
      let zero_now : (pool_at after (block_at after j).pool).empty ≡ 0 =
      empty_after ∙ omega (arith, ap (λ (q : Pool). q.empty) (f.pools b.pool pool_low), o.0, ap one e) in
      let test : not (eqb (pool_at after (block_at after j).pool).empty 0) || r.immediate ≡ false =
      ap₂ (λ (x y : Bool). not x || y) (eq-eqb (pool_at after (block_at after j).pool).empty 0 zero_now) o.1 in
      not_both (not (eqb (pool_at after (block_at after j).pool).empty 0) || r.immediate) goes test

  -- ---- together
  abbrev pub Kept : Turn → Type 0
  Kept y = AllStood r u t y × (y.state.count ≡ r.count)

  abbrev v : List ℕ
  v = fill_slot r.w b1.slot x.used i (i + n - i) 0

  abbrev y : List ℕ
  y = fill_slot r.w b1.slot x.stop (i + n - 1) 1 0

  abbrev answer : Answer
  answer = Released (span a (bytes_of (i + n - i) (unit_of x.state b1)))

  all_stood : (o : State) → o.w ≡ r.w → o.blocks ≡ after.blocks → AllStood r u t (turn answer o v y)
  all_stood o ew eb q p =
      let e = lies_trans (lies_refl (ap (λ (bs : List Block). at bs q) eb)) (lies_2 q) in
      record {
        base = e.base;
        size = e.size;
        slot = e.slot;
        pool = e.pool;
        used = ap₂ (λ (w k : ℕ). slot_of w k v) ew e.slot ∙ ap (slot_of r.w (block_at r q).slot) used_again;
        stop = ap₂ (λ (w k : ℕ). slot_of w k y) ew e.slot ∙ ap (slot_of r.w (block_at r q).slot) stop_again;
      }

  pub marked_back : Kept (release_units x.state x.used x.stop a j i (i + n))
  marked_back =
      settle_cases Kept after v y answer j (λ q. (all_stood after refl refl, refl)) (λ none goes. absurd (stays none goes)) (λ none e o. (all_stood _ refl refl, refl))
