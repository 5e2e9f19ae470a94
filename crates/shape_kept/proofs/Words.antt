-- The lent words keep their lengths, whatever the call. Assumes nothing.
use Prim.Native.Nat.{ℕ, ◌+◌, ◌-◌, ◌*◌, ◌≤◌, ◌<◌}
use mathlib.Core.Bool.{true, false}
use mathlib.Core.List.{List}
use mathlib.Core.Path.{◌≡◌, refl, sym, ap, subst, ◌∙◌}
use native.Mathlib.Omega.{arith}
use lib.ListN.{length}
use Rattle.bits.specs.Bits.{filled}
use Rattle.bits.proofs.Filled.{length_filled}
use Rattle.slots.specs.Slots.{slot_of, fill_slot}
use Rattle.slots.proofs.Laws.{length_slot, length_put_slot}
use Rattle.block.specs.declared.Block.{Block}
use Rattle.block.specs.Marking.{fresh, mark_released}
use Rattle.numbers.specs.Units.{units_of}
use Rattle.state.specs.declared.State.{State}
use Rattle.state.specs.Table.{block_at, pool_at}
use Rattle.state.specs.Shape.{good_shape}
use Rattle.state.specs.Change.{inserted}
use Rattle.shape.proofs.Shaped.{shaped_is}
use Rattle.shape_facts.proofs.Facts.{slot_room, found_in}
use Rattle.shape_facts.proofs.Room.{slot_is, room_left}
use Rattle.shape_facts.proofs.Search.{Place}
use Rattle.shape_facts.proofs.Cleared.{slots_room, length_cleared as length-cleared-front}
use Rattle.shape_facts.proofs.Made.{length_cleared}
use Rattle.shape_facts.proofs.Clear.{length_clear}
use Rattle.shape_facts.proofs.Leaves.{released_stays}
use Rattle.machine.specs.Turn.{Turn, with_live, clear_slot}
use Rattle.state.specs.declared.Asked.{Asked}
use Rattle.machine.specs.Create.{slots_of, granted}
use Rattle.machine.specs.Alloc.{pool_for, units_for, search_for, new_size, alloc_marked, alloc_made, hit_at}
use Rattle.machine.specs.Release.{less_used, release_units, release_turn}
use Rattle.machine.specs.Shrink.{shrink_tail}
use Rattle.machine.specs.Reset.{clear_blocks}
use Rattle.machine.specs.Machine.{Call, create, alloc, release, shrink, query, soft_reset, hard_reset, step}
use Rattle.machine.proofs.Cases.{Holds, FreesSpan, Cuts, Seeks, Places, settle_cases, create_cases, query_cases, release_cases, shrink_cases, reset_cases, alloc_cases}
use Rattle.shape_kept.specs.Sized.{Sized}
use Rattle.shape_kept.proofs.After.{inserted_new, less_block}
use Rattle.shape_kept.proofs.Sized.{sized_search}
use Rattle.shape_kept.proofs.Request.{seeks_some, seeks_left}

pub length_fill_slot : (w slot : ℕ) (ws : List ℕ) (i n v : ℕ) → (slot + 1) * w ≤ length ws → length (fill_slot w slot ws i n v) ≡ length ws
length_fill_slot w slot ws i n v h =
    length_put_slot w slot ws (filled (slot_of w slot ws) i n v) h (length_filled (slot_of w slot ws) i n v ∙ length_slot w slot ws h)

-- a turn's words are as long as u and t
abbrev pub Long : List ℕ → List ℕ → Turn → Type 0
Long u t x = (length x.used ≡ length u) × (length x.stop ≡ length t)

-- a slot lies in both maps
abbrev pub Room : ℕ → ℕ → List ℕ → List ℕ → Type 0
Room w slot u t = ((slot + 1) * w ≤ length u) × ((slot + 1) * w ≤ length t)

pub mark_long : (s : State) (u t : List ℕ) (j i n : ℕ) → Room s.w (block_at s j).slot u t → Long u t (alloc_marked s u t j i n)
mark_long s u t j i n r =
    let w = s.w in
    let slot = (block_at s j).slot in
    (length_fill_slot w slot u i (i + n - i) 1 r.0, length_fill_slot w slot t (i + n - 1) 1 1 r.1)

pub clear_long : (w slot : ℕ) (u t : List ℕ) → Room w slot u t → (length (clear_slot w slot u) ≡ length u) × (length (clear_slot w slot t) ≡ length t)
clear_long w slot u t r = (length_cleared w slot u r.0, length_cleared w slot t r.1)

pub make_long : (s : State) (u t : List ℕ) (p n size at slot : ℕ) → Sized s → s.count < 64 → Room s.w slot u t → Long u t (alloc_made s u t p n size at slot)
make_long s u t p n size at slot z h r =
    let b = fresh at size p slot (units_of size (pool_at s p).granularity) n in
    let v = clear_slot s.w slot u in
    let w = clear_slot s.w slot t in
    let c = clear_long s.w slot u t r in
    let e : (block_at (inserted s b) s.count).slot ≡ slot = ap (λ (c : Block). c.slot) (inserted_new s z b h) in
    let room : Room s.w slot v w = (omega (arith, c.0, r.0), omega (arith, c.1, r.1)) in
    let m = mark_long (inserted s b) v w s.count 0 n (subst (λ (k : ℕ). Room s.w k v w) (sym e) room) in
    (m.0 ∙ c.0, m.1 ∙ c.1)

pub created_long : (a : Asked) (u t : List ℕ) → Long u t (granted a (slots_of a.w (length u) (length t)) u t)
created_long a u t =
    let room = slots_room a.w (length u) (length t) in
    let n = slots_of a.w (length u) (length t) * a.w in
    (length-cleared-front n u room.0, length-cleared-front n t room.1)

module _ (s : State) (u t : List ℕ) (z : Sized s) where
  -- the slot of a block that was found
  pub found_room : (a j i e : ℕ) → Holds s u t a j i e → Room s.w (block_at s j).slot u t
  found_room a j i e k =
      let f = shaped_is s (length u) (length t) k.good in
      slot_room s (length u) (length t) f (block_at s j).slot (f.sound j (found_in s a j k.found).0).slot

  freed : (a j i e : ℕ) → FreesSpan s u t a j i e → Long u t (release_units s u t a j i e)
  freed a j i e k =
      let m = mark_released s.w (block_at s j) i e u t in
      let r = with_live (less_used s j m.block (e - i)) (s.live - 1) in
      let f = shaped_is s (length u) (length t) k.holds.good in
      let h = (found_in s a j k.holds.found).0 in
      let room = found_room a j i e k.holds in
      let v = length_fill_slot s.w (block_at s j).slot u i (e - i) 0 room.0 in
      let w = length_fill_slot s.w (block_at s j).slot t (e - 1) 1 0 room.1 in
      let slot : (block_at r j).slot ≡ (block_at s j).slot =
      ap (λ (b : Block). b.slot) (less_block s z j m.block (e - i) (omega (arith, h, f.head.count_slots, f.head.slots_high)))
      ∙ (released_stays (block_at s j) i e).slot in
      let kept : Room s.w (block_at s j).slot m.used m.stop = (omega (arith, v, room.0), omega (arith, w, room.1)) in
      let c = clear_long s.w (block_at r j).slot m.used m.stop (subst (λ (n : ℕ). Room s.w n m.used m.stop) (sym slot) kept) in
      settle_cases (Long u t) r m.used m.stop _ j (λ n. (v, w)) (λ n g. (c.0 ∙ v, c.1 ∙ w)) (λ n g h. (v, w))

  released_long : (a : ℕ) → Long u t (release_turn s u t a)
  released_long a = release_cases (Long u t) s u t a (λ why cond. (refl, refl)) (freed a)

  cut : (a size j i e n : ℕ) → Cuts s u t a size j i e n → Long u t (shrink_tail s u t a j i e n)
  cut a size j i e n k =
      let slot = (block_at s j).slot in
      let room = found_room a j i e k.holds in
      let old = length_fill_slot s.w slot t (e - 1) 1 0 room.1 in (
        length_fill_slot s.w slot u (i + n) (e - (i + n)) 0 room.0,
        length_fill_slot s.w slot (fill_slot s.w slot t (e - 1) 1 0) (i + n - 1) 1 1 (omega (arith, old, room.1)) ∙ old,
      )

  cleared : good_shape s (length u) (length t) ≡ true
      → (length (clear_blocks s s.count u) ≡ length u) × (length (clear_blocks s s.count t) ≡ length t)
  cleared good =
      let f = shaped_is s (length u) (length t) good in
      let room : (i : ℕ) → i < s.count → Room s.w (block_at s i).slot u t = λ i h. slot_room s (length u) (length t) f (block_at s i).slot (f.sound i h).slot in
      (length_clear s s.count u (λ i h. (room i h).0), length_clear s s.count t (λ i h. (room i h).1))

  hit : (size bytes j i : ℕ) → Seeks s u t size bytes → (search_for s u bytes).hit ≡ hit_at j i → Long u t (alloc_marked (search_for s u bytes).state u t j i (units_for s bytes))
  hit size bytes j i k e =
      let l = seeks_left s u t size bytes k z in
      let r = (search_for s u bytes).state in
      let p = subst (Place u (length t) (pool_for s bytes) (units_for s bytes) (seeks_some s u t size bytes k) r) e l.place in
      mark_long r u t j i (units_for s bytes) (slot_room r (length u) (length t) l.shaped (block_at r j).slot (l.shaped.sound j p.0).slot)

  make : (size bytes at slot : ℕ) → Seeks s u t size bytes → Places (search_for s u bytes).state (pool_for s bytes) bytes at slot
      → Long u t (alloc_made (search_for s u bytes).state u t (pool_for s bytes) (units_for s bytes) (new_size (search_for s u bytes).state (pool_for s bytes) bytes) at slot)
  make size bytes at slot k m =
      let l = seeks_left s u t size bytes k z in
      let r = (search_for s u bytes).state in
      let c = slot_is r slot m.free in
      let room = room_left r (length u) (length t) l.shaped slot c.0 c.1 in
      make_long r u t (pool_for s bytes) (units_for s bytes) (new_size r (pool_for s bytes) bytes) at slot (sized_search s z u (pool_for s bytes) (units_for s bytes))
      (omega (arith, room, l.shaped.head.slots_high)) (slot_room r (length u) (length t) l.shaped slot c.0)

  -- ---- any call
  pub words_kept : (c : Call) → Long u t (step s u t c)
  words_kept (create a) =
      create_cases (Long u t) s u t a (λ e. (refl, refl)) (λ e. created_long a u t)
  words_kept (alloc size) = alloc_cases (Long u t) s u t size (λ why early cond. (refl, refl)) (λ bytes k miss short. (refl, refl)) (hit size) (λ bytes at slot k miss. make size bytes at slot k)
  words_kept (release a) = released_long a
  words_kept (shrink a size) = shrink_cases (Long u t) s u t a size (λ why cond. (refl, refl)) (λ none. released_long a) (λ j i e n k same. (refl, refl)) (cut a size)
  words_kept (query a) = query_cases (Long u t) s u t a (λ why cond. (refl, refl)) (λ j i e k. (refl, refl))
  words_kept soft_reset = reset_cases (Long u t) s u t false (λ bad. (refl, refl)) cleared (λ e i. cleared e)
  words_kept hard_reset = reset_cases (Long u t) s u t true (λ bad. (refl, refl)) cleared (λ e i. cleared e)
