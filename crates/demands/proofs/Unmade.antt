-- A block made for a span that is released at once: earlier blocks and their words stand, and the new block goes, or stays as the pool's only empty one.
-- Assumes nothing.
use Prim.Native.Nat.{ℕ, ◌+◌, ◌-◌, ◌*◌, ◌≤◌, ◌<◌}
use mathlib.Core.Bool.{Bool, true, false, not, ◌||◌}
use mathlib.Core.List.{List}
use mathlib.Core.Logic.{◌⊎◌, inl, inr, ⊎_elim}
use mathlib.Core.Path.{◌≡◌, refl, sym, ap, ap₂, subst, ◌∙◌}
use native.Mathlib.Omega.{arith}
use lib.Dec.{eqb}
use lib.ListN.{length}
use borrow.Author.Tests.{eqb-false, lt-ltb, not-true}
use Rattle.numbers.specs.Pick.{pick}
use Rattle.numbers.specs.Units.{units_of, bytes_of}
use Rattle.numbers.proofs.Bools.{or_cases}
use Rattle.bits.specs.Bits.{filled}
use Rattle.bits.proofs.Filled.{length_filled}
use Rattle.slots.specs.Slots.{slot_of, fill_slot}
use Rattle.slots.proofs.Laws.{length_slot, slot_other}
use Rattle.block.specs.declared.Block.{Block}
use Rattle.block.specs.Marking.{released, fresh}
use Rattle.block.proofs.LiesAs.{LiesAs, lies_refl, released_lies}
use Rattle.sizes.specs.declared.Pool.{Pool}
use Rattle.state.specs.declared.State.{State}
use Rattle.state.specs.declared.Span.{Span}
use Rattle.state.specs.declared.Answer.{Answer}
use Rattle.state.specs.declared.Answer.TheVariants.{Released}
use Rattle.state.specs.Table.{block_at, pool_at, one}
use Rattle.state.specs.Shape.{is_empty}
use Rattle.state.specs.Change.{inserted, removed}
use Rattle.shape.specs.Shaped.{Shaped}
use Rattle.machine.specs.Turn.{Turn, turn, span, unit_of, clear_slot}
use Rattle.machine.specs.Alloc.{new_size, alloc_made}
use Rattle.machine.specs.Release.{release_units}
use Rattle.machine.proofs.Cases.{Places, settle_cases}
use Rattle.shape_kept.specs.Sized.{Sized}
use Rattle.shape_kept.proofs.After.{inserted_pool, less_block, less_block_other, removed_block}
use Rattle.shape_kept.proofs.Sized.{sized_block, sized_pool, sized_live, sized_less, sized_inserted}
use Rattle.shape_kept.proofs.Words.{make_long, length_fill_slot}
use Rattle.ledger.specs.Agrees.{Agrees}
use Rattle.ledger.proofs.Table.{Stands, slot_room}
use Rattle.ledger.proofs.Grow.{Elsewhere}
use Rattle.ledger.proofs.Cleared.{clear_other}
use Rattle.ledger.proofs.Made.{made_new, made_old, made_lies, made_slot_apart, made_used, made_stop, ready, last, slot_low}
use Rattle.demands.specs.Back.{AllStood}
use Rattle.demands.proofs.Freed.{marked_used, released_used, marked_empty, less, freed_empty}

-- the words of another slot, after one is filled
filled_away : (w slots k : ℕ) (ws : List ℕ) (i n v : ℕ) → k < slots → slots * w ≤ length ws → Elsewhere w slots k ws (fill_slot w k ws i n v)
filled_away w slots k ws i n v h room q p ne =
    let rk = slot_room w slots k (length ws) h room in
    slot_other w k q ws (filled (slot_of w k ws) i n v) rk (length_filled (slot_of w k ws) i n v ∙ length_slot w k ws rk) ne (slot_room w slots q (length ws) p room)

module _ (r : State) (u t : List ℕ) (l : List Span) (f : Shaped r (length u) (length t)) (z : Sized r)
    (st : Stands r.granularity r.w r.slots r.count r.blocks (length u) (length t)) (ag : Agrees r.granularity r.w r.slots r.count r.blocks u t l)
    (live : r.live ≡ length l)
    (p n bytes place slot : ℕ) (p_low : p < r.poolcount) (some : 0 < n) (asked : 0 < bytes) (most : bytes ≤ 2147483647) (fits : n * (pool_at r p).granularity ≤ bytes)
    (k : Places r p bytes place slot) (a : ℕ) where
  abbrev new : Block
  new = fresh place (new_size r p bytes) p slot (units_of (new_size r p bytes) (pool_at r p).granularity) n

  abbrev with : State
  with = inserted r new

  abbrev x : Turn
  x = alloc_made r u t p n (new_size r p bytes) place slot

  abbrev j : ℕ
  j = r.count

  abbrev b1 : Block
  b1 = block_at x.state r.count

  low : r.count < 64
  low = (ready r u t l f z st ag live p n bytes place slot p_low some asked most fits k).enters.room

  p_3 : p < 3
  p_3 = omega (arith, p_low, f.head.pools_high)

  with_sized : Sized with
  with_sized = sized_inserted r z new

  made_sized : Sized x.state
  made_sized = sized_live _ (sized_pool _ (sized_block with with_sized r.count _) _ _) _

  lies : LiesAs b1 new
  lies = made_lies r u t l f z st ag live p n bytes place slot p_low some asked most fits k

  s_low : slot < r.slots
  s_low = slot_low r u t l f z st ag live p n bytes place slot p_low some asked most fits k

  apart : (q : ℕ) → q < r.count → (block_at r q).slot ≡ slot → ⊥
  apart q h e =
      made_slot_apart r u t l f z st ag live p n bytes place slot p_low some asked most fits k q h
      (e ∙ sym lies.slot ∙ ap (λ (b : Block). b.slot) (made_new r u t l f z st ag live p n bytes place slot p_low some asked most fits k))

  -- ---- the state after the span is released, before its block settles
  abbrev c : Block
  c = released b1 0 (0 + n)

  abbrev after : State
  after = less x.state r.count (0 + n - 0) (x.state.live - 1) c

  after_sized : Sized after
  after_sized = sized_live _ (sized_less x.state made_sized r.count c (0 + n - 0)) _

  here : block_at after r.count ≡ c
  here = less_block x.state made_sized r.count c (0 + n - 0) low

  old : (q : ℕ) → q < r.count → block_at after q ≡ block_at r q
  old q h =
      less_block_other x.state made_sized r.count c (0 + n - 0) low q (λ e. omega arith)
      ∙ made_old r u t l f z st ag live p n bytes place slot p_low some asked most fits k q h

  unused : (block_at after r.count).used ≡ 0
  unused =
      omega (
        arith,
        ap (λ (b : Block). b.used) here,
        released_used b1 0 (0 + n),
        ap (λ (b : Block). b.used) (made_new r u t l f z st ag live p n bytes place slot p_low some asked most fits k),
        marked_used new 0 n,
      )

  lies_c : LiesAs c b1
  lies_c = released_lies b1 0 (0 + n)

  slot_here : (block_at after r.count).slot ≡ slot
  slot_here = ap (λ (b : Block). b.slot) here ∙ lies_c.slot ∙ lies.slot

  pool_here : (block_at after r.count).pool ≡ p
  pool_here = ap (λ (b : Block). b.pool) here ∙ lies_c.pool ∙ lies.pool

  -- the pool's empty blocks are those before the allocation
  empty_here : (pool_at after (block_at after r.count).pool).empty ≡ (pool_at r p).empty
  empty_here =
      let b : block_at with r.count ≡ new = last r u t l f z st ag live p n bytes place slot p_low some asked most fits k in
      let bp : (block_at with r.count).pool ≡ p = ap (λ (b : Block). b.pool) b in
      let not_empty : one (is_empty (block_at with r.count)) ≡ 0 =
      ap (λ (b : Block). one (is_empty b)) b ∙ ap one (ready r u t l f z st ag live p n bytes place slot p_low some asked most fits k).not_empty in
      let before : (pool_at with p).empty ≡ (pool_at r p).empty = ap (λ (q : Pool). q.empty) (inserted_pool r z new p_3) in
      freed_empty x.state made_sized r.count (0 + n - 0) (x.state.live - 1) c (block_at after r.count).pool (pool_here ∙ sym lies.pool) (omega (arith, pool_here, p_3))
      ∙ ap (λ (q : ℕ). (pool_at x.state q).empty) (lies.pool ∙ sym bp)
      ∙ marked_empty with with_sized (clear_slot r.w slot u) (clear_slot r.w slot t) r.count 0 n (omega (arith, bp, p_3))
      ∙ omega (arith, not_empty, ap (λ (q : ℕ). (pool_at with q).empty) bp, before)

  -- ---- the maps: no word of another slot changes
  abbrev v : List ℕ
  v = fill_slot r.w b1.slot x.used 0 (0 + n - 0) 0

  abbrev y : List ℕ
  y = fill_slot r.w b1.slot x.stop (0 + n - 1) 1 0

  long : (length x.used ≡ length u) × (length x.stop ≡ length t)
  long =
      make_long r u t p n (new_size r p bytes) place slot z low
      (slot_room r.w r.slots slot (length u) s_low st.used_room, slot_room r.w r.slots slot (length t) s_low st.stop_room)

  used_away : Elsewhere r.w r.slots slot u v
  used_away q h ne =
      subst (λ (o : ℕ). slot_of r.w q (fill_slot r.w o x.used 0 (0 + n - 0) 0) ≡ slot_of r.w q x.used) (sym lies.slot)
      (filled_away r.w r.slots slot x.used 0 (0 + n - 0) 0 s_low (omega (arith, long.0, st.used_room)) q h ne)
      ∙ made_used r u t l f z st ag live p n bytes place slot p_low some asked most fits k q h ne

  stop_away : Elsewhere r.w r.slots slot t y
  stop_away q h ne =
      subst (λ (o : ℕ). slot_of r.w q (fill_slot r.w o x.stop (0 + n - 1) 1 0) ≡ slot_of r.w q x.stop) (sym lies.slot)
      (filled_away r.w r.slots slot x.stop (0 + n - 1) 1 0 s_low (omega (arith, long.1, st.stop_room)) q h ne)
      ∙ made_stop r u t l f z st ag live p n bytes place slot p_low some asked most fits k q h ne

  room_v : r.slots * r.w ≤ length v
  room_v =
      let m = length_fill_slot r.w b1.slot x.used 0 (0 + n - 0) 0 (slot_room r.w r.slots b1.slot (length x.used) (omega (arith, lies.slot, s_low)) (omega (arith, long.0, st.used_room))) in
      omega (arith, m, long.0, st.used_room)

  room_y : r.slots * r.w ≤ length y
  room_y =
      let m = length_fill_slot r.w b1.slot x.stop (0 + n - 1) 1 0 (slot_room r.w r.slots b1.slot (length x.stop) (omega (arith, lies.slot, s_low)) (omega (arith, long.1, st.stop_room))) in
      omega (arith, m, long.1, st.stop_room)

  cleared_away : (ws vs : List ℕ) → r.slots * r.w ≤ length vs → Elsewhere r.w r.slots slot ws vs → Elsewhere r.w r.slots slot ws (clear_slot r.w (block_at after r.count).slot vs)
  cleared_away ws vs room e q h ne =
      subst (λ (o : ℕ). slot_of r.w q (clear_slot r.w o vs) ≡ slot_of r.w q vs) (sym slot_here)
      (clear_other r.w slot vs (slot_room r.w r.slots slot (length vs) s_low room) q ne (slot_room r.w r.slots q (length vs) h room))
      ∙ e q h ne

  -- ---- what stands
  abbrev answer : Answer
  answer = Released (span a (bytes_of (0 + n - 0) (unit_of x.state b1)))

  all_stood : (o : State) (vs ys : List ℕ) → o.w ≡ r.w → ((q : ℕ) → q < r.count → block_at o q ≡ block_at r q) → Elsewhere r.w r.slots slot u vs → Elsewhere r.w r.slots slot t ys
      → AllStood r u t (turn answer o vs ys)
  all_stood o vs ys ew eb eu et q h =
      let e = lies_refl (eb q h) in
      let s-q = st.slot q h in
      record {
        base = e.base;
        size = e.size;
        slot = e.slot;
        pool = e.pool;
        used = ap₂ (λ (w k : ℕ). slot_of w k vs) ew e.slot ∙ eu (block_at r q).slot s-q (apart q h);
        stop = ap₂ (λ (w k : ℕ). slot_of w k ys) ew e.slot ∙ et (block_at r q).slot s-q (apart q h);
      }

  -- the new block is gone, its pool keeping an empty one already or immediate release being set; or it is the last, and empty
  abbrev pub Settled : Turn → Type 0
  Settled o =
      ((o.state.count ≡ r.count) × (((pool_at r p).empty ≡ 0 → ⊥) ⊎ (r.immediate ≡ true)))
      ⊎ ((o.state.count ≡ r.count + 1) × ((block_at o.state r.count).used ≡ 0) × ((pool_at r p).empty ≡ 0) × (r.immediate ≡ false))

  abbrev pub Outcome : Turn → Type 0
  Outcome o = AllStood r u t o × Settled o

  gone_old : (q : ℕ) → q < r.count → block_at (removed after r.count) q ≡ block_at r q
  gone_old q h = removed_block after after_sized r.count q (omega (arith, low)) ∙ ap (λ (c : Bool). block_at after (pick c q (q + 1))) (lt-ltb q r.count h) ∙ old q h

  why : not (eqb (pool_at after (block_at after r.count).pool).empty 0) || r.immediate ≡ true → ((pool_at r p).empty ≡ 0 → ⊥) ⊎ (r.immediate ≡ true)
  why e =
      ⊎_elim (λ c. inl (λ q. eqb-false (pool_at after (block_at after r.count).pool).empty 0 (not-true (eqb (pool_at after (block_at after r.count).pool).empty 0) c) (empty_here ∙ q)))
      (λ c. inr c) (or_cases (not (eqb (pool_at after (block_at after r.count).pool).empty 0)) r.immediate e)

  pub made_back : Outcome (release_units x.state x.used x.stop a r.count 0 (0 + n))
  made_back =
      settle_cases Outcome after v y answer r.count (λ ne. absurd (ne unused))
      (λ none goes. (
        all_stood (removed after r.count) (clear_slot r.w (block_at after r.count).slot v) (clear_slot r.w (block_at after r.count).slot y) refl gone_old
            (cleared_away u v room_v used_away) (cleared_away t y room_y stop_away),
        inl (one_less r.count, why goes),
      ))
      (λ none e o. (all_stood _ v y refl old used_away stop_away, inr (refl, none, sym empty_here ∙ e, o)))
    where
      one_less : (m : ℕ) → m + 1 - 1 ≡ m
      one_less m = omega arith
