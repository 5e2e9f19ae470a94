-- A block made for a span is right: its slot is cleared, the span is at its unit 0, and it stands beside all others. Assumes nothing.
use Prim.Native.Nat.{ℕ, ◌+◌, ◌-◌, ◌*◌, ◌≤◌, ◌<◌}
use mathlib.Core.List.{List, [], ◌∷◌}
use mathlib.Core.Path.{◌≡◌, refl, sym, ap, ap₂, subst, subst₂, ◌∙◌}
use native.Mathlib.Nat.{zero-add}
use native.Mathlib.Omega.{arith}
use lib.ListN.{length, set, length-set}
use lib.Seq.{get_or-set_same, get_or-set_other}
use Rattle.numbers.specs.Units.{units_of}
use Rattle.bits.specs.Bits.{filled}
use Rattle.bits.proofs.Filled.{length_filled}
use Rattle.slots.specs.Slots.{slot_of, fill_slot}
use Rattle.slots.proofs.Laws.{slot_own, slot_other}
use Rattle.block.specs.declared.Block.{Block}
use Rattle.block.specs.Marking.{marked, fresh}
use Rattle.block.proofs.LiesAs.{LiesAs, marked_lies}
use Rattle.sizes.specs.declared.Pool.{Pool}
use Rattle.state.specs.declared.State.{State}
use Rattle.state.specs.declared.Span.{Span}
use Rattle.state.specs.declared.Answer.TheVariants.{Granted}
use Rattle.state.specs.Table.{zero_block, block_at, pool_at}
use Rattle.state.specs.Change.{inserted}
use Rattle.shape.specs.Shaped.{Shaped}
use Rattle.shape.proofs.Shaped.{shaped_is}
use Rattle.shape_facts.proofs.Facts.{unit_g}
use Rattle.shape_facts.proofs.Room.{slot_is}
use Rattle.machine.specs.Turn.{Turn, span, unit_of, clear_slot}
use Rattle.machine.specs.Alloc.{new_size, alloc_made}
use Rattle.machine.proofs.Cases.{Places}
use Rattle.shape_facts.specs.Ready.{Makeable}
use Rattle.shape_facts.proofs.Made.{length_cleared}
use Rattle.shape_facts.proofs.Pool.{new_ready}
use Rattle.shape_facts.proofs.New.{makeable}
use Rattle.ledger.specs.Paint.{Piece, piece, SoundBlock}
use Rattle.ledger.proofs.SoundBlock.{fresh_sound}
use Rattle.shape_kept.specs.Sized.{Sized}
use Rattle.shape_kept.proofs.After.{inserted_new, inserted_pool}
use Rattle.shape_kept.proofs.Make.{make_good}
use Rattle.ledger.specs.Ledger.{enter}
use Rattle.ledger.specs.Agrees.{view_of, Agrees}
use Rattle.ledger.proofs.View.{in_unit, view_new, view_other}
use Rattle.ledger.proofs.Table.{Stands, Beside, beside_swap, beside_out, slot_room, homes-set, sound_moved}
use Rattle.ledger.proofs.Grow.{Elsewhere, view_none, add_agrees}
use Rattle.ledger.proofs.Cleared.{zeros, long, clear_own, clear_other}
use Rattle.ledger.proofs.Right.{Right}

-- ---- a slot cleared, and then a run of it filled
module _ (w slots k : ℕ) (ws : List ℕ) (i n v : ℕ) (h : k < slots) (room : slots * w ≤ length ws) where
  own_room : (k + 1) * w ≤ length ws
  own_room = slot_room w slots k (length ws) h room

  cleared_room : (q : ℕ) → q < slots → (q + 1) * w ≤ length (clear_slot w k ws)
  cleared_room q p = slot_room w slots q (length (clear_slot w k ws)) p (omega (arith, length_cleared w k ws own_room))

  part_long : length (filled (slot_of w k (clear_slot w k ws)) i n v) ≡ w
  part_long = length_filled (slot_of w k (clear_slot w k ws)) i n v ∙ ap length (clear_own w k ws own_room) ∙ long w

  pub filled_own : slot_of w k (fill_slot w k (clear_slot w k ws) i n v) ≡ filled (zeros w) i n v
  filled_own =
      slot_own w k (clear_slot w k ws) (filled (slot_of w k (clear_slot w k ws)) i n v) (cleared_room k h) part_long
      ∙ ap (λ (x : List ℕ). filled x i n v) (clear_own w k ws own_room)

  pub filled_other : Elsewhere w slots k ws (fill_slot w k (clear_slot w k ws) i n v)
  filled_other q p ne =
      slot_other w k q (clear_slot w k ws) (filled (slot_of w k (clear_slot w k ws)) i n v) (cleared_room k h) part_long ne (cleared_room q p)
      ∙ clear_other w k ws own_room q ne (slot_room w slots q (length ws) p room)

module _ (r : State) (u t : List ℕ) (l : List Span) (f : Shaped r (length u) (length t)) (z : Sized r)
    (st : Stands r.granularity r.w r.slots r.count r.blocks (length u) (length t)) (ag : Agrees r.granularity r.w r.slots r.count r.blocks u t l)
    (live : r.live ≡ length l)
    (p n bytes place slot : ℕ) (p_low : p < r.poolcount) (some : 0 < n) (asked : 0 < bytes) (most : bytes ≤ 2147483647) (fits : n * (pool_at r p).granularity ≤ bytes)
    (k : Places r p bytes place slot) where
  abbrev size : ℕ
  size = new_size r p bytes

  abbrev area : ℕ
  area = units_of size (pool_at r p).granularity

  abbrev new : Block
  new = fresh place size p slot area n

  abbrev with : State
  with = inserted r new

  abbrev pub turned : Turn
  turned = alloc_made r u t p n size place slot

  p_3 : p < 3
  p_3 = omega (arith, p_low, f.head.pools_high)

  pub ready : Makeable r (length u) (length t) new n
  ready = makeable r (length u) (length t) p n size (new_ready r (length u) (length t) p n bytes f p_3 some asked most fits) place slot k.place k.free k.words z.blocks z.order z.pools

  pub made_shaped : Shaped turned.state (length u) (length t)
  made_shaped = shaped_is turned.state (length u) (length t) (make_good r (length u) (length t) f z p n bytes place slot p_low some asked most fits k u t)

  low : r.count < 64
  low = ready.enters.room

  pub last : block_at with r.count ≡ new
  last = inserted_new r z new low

  -- the block with its span
  abbrev pub block : Block
  block = marked new 0 n

  same : LiesAs block new
  same = marked_lies new 0 n

  pub made_new : block_at turned.state r.count ≡ block
  made_new =
      get_or-set_same (set r.blocks r.count new) r.count (marked (block_at with r.count) 0 (0 + n)) zero_block (omega (arith, low, z.blocks, length-set r.blocks r.count new))
      ∙ ap₂ (λ (b : Block) (m : ℕ). marked b 0 m) last (zero-add n)

  pub made_old : (i : ℕ) → i < r.count → block_at turned.state i ≡ block_at r i
  made_old i h =
      get_or-set_other (set r.blocks r.count new) r.count i (marked (block_at with r.count) 0 (0 + n)) zero_block (λ e. omega arith)
      ∙ get_or-set_other r.blocks r.count i new zero_block (λ e. omega arith)

  pub slot_low : slot < r.slots
  slot_low = (slot_is r slot k.free).0

  -- ---- the maps, and the ledger
  slot_last : (block_at with r.count).slot ≡ slot
  slot_last = ap (λ (b : Block). b.slot) last

  used_is : turned.used ≡ fill_slot r.w slot (clear_slot r.w slot u) 0 n 1
  used_is = ap₂ (λ (q m : ℕ). fill_slot r.w q (clear_slot r.w slot u) 0 m 1) slot_last (minus n)
    where
      minus : (n : ℕ) → 0 + n - 0 ≡ n
      minus n = omega arith

  stop_is : turned.stop ≡ fill_slot r.w slot (clear_slot r.w slot t) (n - 1) 1 1
  stop_is = ap₂ (λ (q m : ℕ). fill_slot r.w q (clear_slot r.w slot t) m 1 1) slot_last (minus n)
    where
      minus : (n : ℕ) → 0 + n - 1 ≡ n - 1
      minus n = omega arith

  pub unit_last : unit_of with (block_at with r.count) ≡ r.granularity
  unit_last =
      ap (λ (b : Block). unit_of with b) last ∙ ap (λ (q : Pool). q.granularity) (inserted_pool r z new p_3) ∙ unit_g r (length u) (length t) f p p_3

  pub ledger_is : enter turned.answer l ≡ span (block.base + 0 * r.granularity) (n * r.granularity) ∷ l
  ledger_is =
      ap₂ (λ (b g : ℕ). span (b + 0 * g) (n * g) ∷ l) (ap (λ (b : Block). b.base) last ∙ sym same.base) unit_last

  pub made_answer : turned.answer ≡ Granted (span place (n * r.granularity))
  made_answer =
      ap₂ (λ (b g : ℕ). Granted (span (b + 0 * g) (n * g))) (ap (λ (b : Block). b.base) last) unit_last ∙ ap (λ (a : ℕ). Granted (span a (n * r.granularity))) (at_unit_0 place r.granularity)
    where
      at_unit_0 : (a g : ℕ) → a + 0 * g ≡ a
      at_unit_0 a g = omega arith

  -- ---- where it stands
  -- at the place and in the slot that were found
  pub made_lies : LiesAs (block_at turned.state r.count) new
  made_lies = subst (λ (b : Block). LiesAs b new) (sym made_new) (marked_lies new 0 n)

  abbrev fm : Shaped turned.state (length u) (length t)
  fm = made_shaped

  above : (i : ℕ) → i < r.count → Beside (block_at r i) block
  above i h =
      subst₂ Beside (made_old i h) made_new (fm.bytes_apart i r.count h (omega arith))

  pub made_slot_apart : (i : ℕ) → i < r.count → (block_at r i).slot ≡ block.slot → ⊥
  made_slot_apart i h e =
      fm.slots_apart i r.count h (omega arith) (ap (λ (b : Block). b.slot) (made_old i h) ∙ e ∙ sym (ap (λ (b : Block). b.slot) made_new))

  whole_new : block.area * r.granularity ≡ block.size
  whole_new = subst (λ (b : Block). b.area * r.granularity ≡ b.size) made_new (fm.sound r.count (omega arith)).area_size

  some_area : 0 < block.area
  some_area = omega (arith, same.area, ready.fits)

  abbrev entered : List Span
  entered = span (block.base + 0 * r.granularity) (n * r.granularity) ∷ l

  seen : view_of r.granularity block entered ≡ piece 0 n ∷ []
  seen =
      view_new r.granularity st.unit block whole_new 0 n l some_area
      ∙ ap (λ (m : List Piece). piece 0 n ∷ m) (view_none r.granularity r.count r.blocks st.unit st.whole block l above ag.homes)

  abbrev v : List ℕ
  v = fill_slot r.w slot (clear_slot r.w slot u) 0 n 1

  abbrev y : List ℕ
  y = fill_slot r.w slot (clear_slot r.w slot t) (n - 1) 1 1

  sound : SoundBlock block (slot_of r.w block.slot v) (slot_of r.w block.slot y) (view_of r.granularity block entered)
  sound =
      sound_moved block
      (sym (ap (λ (q : ℕ). slot_of r.w q v) same.slot ∙ filled_own r.w r.slots slot u 0 n 1 slot_low st.used_room))
      (sym (ap (λ (q : ℕ). slot_of r.w q y) same.slot ∙ filled_own r.w r.slots slot t (n - 1) 1 1 slot_low st.stop_room))
      (sym seen) (fresh_sound place size p slot area n r.w some ready.fits ready.placed.area)

  made_agrees : Agrees r.granularity r.w r.slots (r.count + 1) turned.state.blocks v y entered
  made_agrees =
      add_agrees r.granularity r.w r.slots r.count r.blocks u t st l ag turned.state.blocks v y block entered made_old made_new made_slot_apart
      (subst (λ (q : ℕ). Elsewhere r.w r.slots q u v) (sym same.slot) (filled_other r.w r.slots slot u 0 n 1 slot_low st.used_room))
      (subst (λ (q : ℕ). Elsewhere r.w r.slots q t y) (sym same.slot) (filled_other r.w r.slots slot t (n - 1) 1 1 slot_low st.stop_room))
      sound
      (λ i h.
      view_other r.granularity (block_at r i).base (block_at r i).size (span (block.base + 0 * r.granularity) (n * r.granularity)) l
      (beside_out block (block_at r i) (block.base + 0 * r.granularity) (beside_swap (block_at r i) block (above i h)) (in_unit r.granularity st.unit block whole_new 0 some_area))) (
        (r.count, omega arith, (0, n, omega (arith, ap (λ (b : Block). b.area) made_new, some_area), ap (λ (b : Block). b.base + 0 * r.granularity) (sym made_new), refl)),
        homes-set r.granularity r.count (r.count + 1) r.blocks turned.state.blocks l
            (λ i h. (omega arith, sym (ap (λ (b : Block). b.base) (made_old i h)), sym (ap (λ (b : Block). b.area) (made_old i h)))) ag.homes,
      )

  -- no word of another slot changes
  pub made_used : Elsewhere r.w r.slots slot u turned.used
  made_used = subst (Elsewhere r.w r.slots slot u) (sym used_is) (filled_other r.w r.slots slot u 0 n 1 slot_low st.used_room)

  pub made_stop : Elsewhere r.w r.slots slot t turned.stop
  made_stop = subst (Elsewhere r.w r.slots slot t) (sym stop_is) (filled_other r.w r.slots slot t (n - 1) 1 1 slot_low st.stop_room)

  pub make_right : Right l turned
  make_right = record {
    agrees = subst₂ (λ (x x' : List ℕ). Agrees r.granularity r.w r.slots (r.count + 1) turned.state.blocks x x' (enter turned.answer l)) (sym used_is) (sym stop_is)
        (subst (λ (m : List Span). Agrees r.granularity r.w r.slots (r.count + 1) turned.state.blocks v y m) (sym ledger_is) made_agrees);
    live = omega (arith, live, ap length ledger_is);
    enough = fm.live;
  }
