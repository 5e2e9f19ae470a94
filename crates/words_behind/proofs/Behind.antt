-- Every call on a state: words from slots times W on are neither read nor written. Assumes nothing.
use Rattle.std.specs.Prelude.{Option, Some, None, Ok, Err}
use Prim.Native.Nat.{ℕ, ◌-◌, ◌*◌, ◌≤◌, ◌<◌}
use mathlib.Core.Bool.{Bool, true, false, ◌||◌}
use mathlib.Core.List.{List, ◌++◌}
use mathlib.Core.Path.{◌≡◌, refl, sym, ap, ap₂, subst, ◌∙◌}
use native.Mathlib.Omega.{arith}
use lib.Dec.{leb, ltb, eqb}
use lib.ListN.{length}
use Rattle.std.specs.Prelude.{Option, Some, None}
use Rattle.numbers.specs.Pick.{pick}
use Rattle.numbers.specs.Units.{units_of, bytes_of}
use Rattle.block.specs.declared.Block.{Block}
use Rattle.block.specs.Marking.{mark_released}
use Rattle.sizes.specs.declared.SizeError.{SizeError}
use Rattle.std.specs.declared.result.Result.{Result}
use Rattle.std.specs.declared.result.Result.TheVariants.{Ok, Err}
use Rattle.sizes.specs.Sizes.{rounded, ideal_size}
use Rattle.state.specs.declared.State.{State}
use Rattle.state.specs.Held.{Held}
use Rattle.state.specs.declared.Hit.{Hit}
use Rattle.state.specs.declared.Searched.{Searched}
use Rattle.state.specs.declared.Refusal.TheVariants.{InvalidArgument, InvalidState, NoMapping, Damaged}
use Rattle.state.specs.declared.Answer.TheVariants.{Released, Shrunk, Reset}
use Rattle.state.specs.Table.{block_at, pool_at}
use Rattle.state.specs.Shape.{good_shape}
use Rattle.state.specs.Find.{lookup, lowest_slot, lowest_place, newest_size}
use Rattle.shape.specs.Shaped.{Shaped}
use Rattle.shape.proofs.Shaped.{shaped_is}
use Rattle.shape_facts.proofs.Facts.{slot_room, found_in}
use Rattle.shape_facts.proofs.Room.{slot_is, room_left}
use Rattle.shape_facts.proofs.Search.{Left, Place as Placed}
use Rattle.shape_facts.proofs.Leaves.{released_stays}
use Rattle.machine.specs.Turn.{turn, refuse, span, with_live, unit_of}
use Rattle.machine.specs.Alloc.{pool_for, units_for, search_for, search_pool, alloc_made, alloc_placed, alloc_searched, alloc_pool, alloc_rounded, alloc_turn}
use Rattle.machine.specs.Span.{held_in, query_held, query_found, query_turn}
use Rattle.machine.specs.Release.{less_used, settle, release_units, release_held, release_found, release_turn}
use Rattle.machine.specs.Shrink.{shrink_tail, shrink_units, shrink_held, shrink_found, shrink_turn}
use Rattle.machine.specs.Reset.{empty_table, clear_blocks, kept, reset_turn}
use Rattle.machine.specs.Machine.{Call, create, alloc, release, shrink, query, soft_reset, hard_reset, step}
use Rattle.machine.proofs.Cases.{Seeks}
use Rattle.shape_kept.specs.Sized.{Sized}
use Rattle.shape_kept.proofs.After.{less_block}
use Rattle.shape_kept.proofs.Request.{seeks_some, seeks_left}
use Rattle.shape_kept.proofs.Sized.{sized_search}
use Rattle.shape_kept.proofs.Words.{length_fill_slot}
use Rattle.words_behind.specs.Behind.{behind, OnState}
use Rattle.words_behind.proofs.Lists.{fill_behind}
use Rattle.words_behind.proofs.Turns.{pick_behind, Room, bad_behind, held_behind, mark_behind, cut_behind, settle_behind, search_behind, make_behind, clear_blocks_behind}

module _ (s : State) (u t v v' : List ℕ) (z : Sized s) (room : s.slots * s.w ≤ length u) (stop_room : s.slots * s.w ≤ length t) where
  abbrev Good : Type 0
  Good = good_shape s (length u) (length t) ≡ true

  shaped : Good → Shaped s (length u) (length t)
  shaped good = shaped_is s (length u) (length t) good

  block_room : Good → (j : ℕ) → j < s.count → Room u t v v' s.w (block_at s j).slot
  block_room good j h = slot_room s (length u) (length t) (shaped good) (block_at s j).slot ((shaped good).sound j h).slot

  -- a block that was looked up
  found_room : Good → (a j : ℕ) → lookup s a ≡ Some j → Room u t v v' s.w (block_at s j).slot
  found_room good a j e = block_room good j (found_in s a j (sym e)).0

  -- ---- query
  module _ (a : ℕ) where
    shown_behind : (j : ℕ) (h : Held) → query_held s (u ++ v) (t ++ v') a j h ≡ behind (query_held s u t a j h) v v'
    shown_behind j (Err why) = refl
    shown_behind j (Ok units) = refl

    queried_behind : Good → (f : Option ℕ) → lookup s a ≡ f → query_found s (u ++ v) (t ++ v') a f ≡ behind (query_found s u t a f) v v'
    queried_behind good None e = refl
    queried_behind good (Some j) e =
        ap (query_held s (u ++ v) (t ++ v') a j) (held_behind u t v v' s a j (found_room good a j e)) ∙ shown_behind j (held_in s u t a j)

    query_behind : query_turn s (u ++ v) (t ++ v') a ≡ behind (query_turn s u t a) v v'
    unfolding query_turn
    query_behind =
        bad_behind u t v v' s room stop_room (query_found s (u ++ v) (t ++ v') a (lookup s a)) (query_found s u t a (lookup s a))
        (λ good. queried_behind good (lookup s a) refl)

    -- ---- release
    freed_behind : Good → (j : ℕ) → lookup s a ≡ Some j → (i e : ℕ) → release_units s (u ++ v) (t ++ v') a j i e ≡ behind (release_units s u t a j i e) v v'
    freed_behind good j f i e =
        let w = s.w in
        let slot = (block_at s j).slot in
        let r = found_room good a j f in
        let m = mark_released w (block_at s j) i e u t in
        let x = with_live (less_used s j m.block (e - i)) (s.live - 1) in
        let answer = Released (span a (bytes_of (e - i) (unit_of s (block_at s j)))) in
        let h = (found_in s a j (sym f)).0 in
        let same : (block_at x j).slot ≡ slot =
        ap (λ (b : Block). b.slot) (less_block s z j m.block (e - i) (omega (arith, h, (shaped good).head.count_slots, (shaped good).head.slots_high))) ∙ (released_stays (block_at s j) i e).slot in
        let kept : Room m.used m.stop v v' w slot =
        (omega (arith, length_fill_slot w slot u i (e - i) 0 r.0, r.0), omega (arith, length_fill_slot w slot t (e - 1) 1 0 r.1, r.1)) in
        ap₂ (λ (p q : List ℕ). settle answer x p q j) (fill_behind w slot u v r.0 i (e - i) 0) (fill_behind w slot t v' r.1 (e - 1) 1 0)
        ∙ settle_behind m.used m.stop v v' answer x j (subst (λ (k : ℕ). Room m.used m.stop v v' w k) (sym same) kept)

    released_behind : Good → (j : ℕ) → lookup s a ≡ Some j → (h : Held) → release_held s (u ++ v) (t ++ v') a j h ≡ behind (release_held s u t a j h) v v'
    released_behind good j f (Err why) = refl
    released_behind good j f (Ok units) =
        let i = units.from in
        let e = units.to in
        pick_behind v v' (ltb (block_at s j).used (e - i) || eqb s.live 0) _ _ (refuse Damaged s u t) (release_units s u t a j i e) refl (freed_behind good j f i e)

    given_back_behind : Good → (f : Option ℕ) → lookup s a ≡ f → release_found s (u ++ v) (t ++ v') a f ≡ behind (release_found s u t a f) v v'
    given_back_behind good None e = refl
    given_back_behind good (Some j) e =
        ap (release_held s (u ++ v) (t ++ v') a j) (held_behind u t v v' s a j (found_room good a j e)) ∙ released_behind good j e (held_in s u t a j)

    release_behind : release_turn s (u ++ v) (t ++ v') a ≡ behind (release_turn s u t a) v v'
    unfolding release_turn
    release_behind =
        bad_behind u t v v' s room stop_room _ (pick (eqb a 0) (refuse InvalidArgument s u t) (release_found s u t a (lookup s a)))
        (λ good. pick_behind v v' (eqb a 0) _ _ (refuse InvalidArgument s u t) (release_found s u t a (lookup s a)) refl (given_back_behind good (lookup s a) refl))

    -- ---- shrink
    module _ (size : ℕ) where
      units_behind : Good → (j : ℕ) → lookup s a ≡ Some j → (i e n : ℕ) → shrink_units s (u ++ v) (t ++ v') a j i e n ≡ behind (shrink_units s u t a j i e n) v v'
      units_behind good j f i e n =
          pick_behind v v' (ltb (e - i) n) _ _ (refuse InvalidState s u t) _ refl
          (pick_behind v v' (eqb n (e - i)) _ _ (turn (Shrunk (span a (bytes_of n (unit_of s (block_at s j))))) s u t) (shrink_tail s u t a j i e n) refl
          (cut_behind u t v v' s a j i e n (found_room good a j f)))

      shrunk_behind : Good → (j : ℕ) → lookup s a ≡ Some j → (h : Held) → shrink_held s (u ++ v) (t ++ v') a size j h ≡ behind (shrink_held s u t a size j h) v v'
      shrunk_behind good j f (Err why) = refl
      shrunk_behind good j f (Ok units) =
          let i = units.from in
          let e = units.to in
          let n = units_of size (unit_of s (block_at s j)) in
          pick_behind v v' (ltb (block_at s j).used (e - i)) _ _ (refuse Damaged s u t) (shrink_units s u t a j i e n) refl (units_behind good j f i e n)

      cut_down_behind : Good → (f : Option ℕ) → lookup s a ≡ f → shrink_found s (u ++ v) (t ++ v') a size f ≡ behind (shrink_found s u t a size f) v v'
      cut_down_behind good None e = refl
      cut_down_behind good (Some j) e =
          ap (shrink_held s (u ++ v) (t ++ v') a size j) (held_behind u t v v' s a j (found_room good a j e)) ∙ shrunk_behind good j e (held_in s u t a j)

      shrink_behind : shrink_turn s (u ++ v) (t ++ v') a size ≡ behind (shrink_turn s u t a size) v v'
      unfolding shrink_turn
      shrink_behind =
          pick_behind v v' (eqb size 0) _ _ (release_turn s u t a) _ release_behind
          (bad_behind u t v v' s room stop_room _ (pick (eqb a 0) (refuse InvalidArgument s u t) (shrink_found s u t a size (lookup s a)))
          (λ good. pick_behind v v' (eqb a 0) _ _ (refuse InvalidArgument s u t) (shrink_found s u t a size (lookup s a)) refl (cut_down_behind good (lookup s a) refl)))

  -- ---- the resets
  reset_behind : (hard : Bool) → reset_turn s (u ++ v) (t ++ v') hard ≡ behind (reset_turn s u t hard) v v'
  unfolding reset_turn
  reset_behind hard =
      let left = pick (hard || s.immediate) (empty_table s) (kept s s.count) in
      bad_behind u t v v' s room stop_room _ (turn Reset left (clear_blocks s s.count u) (clear_blocks s s.count t))
      (λ good.
      ap₂ (λ (p q : List ℕ). turn Reset left p q) (clear_blocks_behind s s.count u v (λ i h. (block_room good i h).0)) (clear_blocks_behind s s.count t v' (λ i h. (block_room good i h).1)))

  -- ---- alloc
  module _ (size bytes : ℕ) (k : Seeks s u t size bytes) where
    abbrev p : ℕ
    p = pool_for s bytes

    abbrev n : ℕ
    n = units_for s bytes

    abbrev r : State
    r = (search_for s u bytes).state

    left : Left u (length t) p n (seeks_some s u t size bytes k) s (search_for s u bytes)
    left = seeks_left s u t size bytes k z

    slot_lies : (slot : ℕ) → slot < r.slots → Room u t v v' r.w slot
    slot_lies slot h = slot_room r (length u) (length t) left.shaped slot h

    placed_behind : (b : ℕ) (x : Option ℕ) (f : Option ℕ) → lowest_slot r ≡ f → alloc_placed r (u ++ v) (t ++ v') p n b x f ≡ behind (alloc_placed r u t p n b x f) v v'
    placed_behind b (Some at) (Some slot) e =
        let c = slot_is r slot (sym e) in
        let few = room_left r (length u) (length t) left.shaped slot c.0 c.1 in
        pick_behind v v' (leb (units_of (units_of b (pool_at r p).granularity) 32) r.w) _ _ (alloc_made r u t p n b at slot) (refuse NoMapping r u t)
        (make_behind u t v v' r p n b at slot (sized_search s z u p n) (omega (arith, few, left.shaped.head.slots_high)) (slot_lies slot c.0)) refl
    placed_behind b (Some at) None e = refl
    placed_behind b None f e = refl

    searched_behind : (h : Option Hit) → (search_for s u bytes).hit ≡ h → alloc_searched r (u ++ v) (t ++ v') p n bytes h ≡ behind (alloc_searched r u t p n bytes h) v v'
    searched_behind (Some h) e =
        let q = subst (Placed u (length t) p n (seeks_some s u t size bytes k) r) e left.place in
        mark_behind u t v v' r h.age h.unit n (slot_lies (block_at r h.age).slot (left.shaped.sound h.age q.0).slot)
    searched_behind None e =
        placed_behind (ideal_size (newest_size r p) bytes) (lowest_place r (ideal_size (newest_size r p) bytes)) (lowest_slot r) refl

    search_same : search_pool s (u ++ v) p n ≡ search_pool s u p n
    search_same = search_behind u v p n 0 s.count s (λ j l h. (block_room k.good j (omega (arith, h))).0)

    pool_behind : alloc_pool s (u ++ v) (t ++ v') bytes p ≡ behind (alloc_pool s u t bytes p) v v'
    pool_behind =
        ap (λ (x : Searched). alloc_searched x.state (u ++ v) (t ++ v') p n bytes x.hit) search_same
        ∙ searched_behind (search_for s u bytes).hit refl

  sized_behind : (size : ℕ) → Good → (x : Result ℕ SizeError) → rounded size s.granularity ≡ x → alloc_rounded s (u ++ v) (t ++ v') x ≡ behind (alloc_rounded s u t x) v v'
  sized_behind size good (Ok bytes) e = pool_behind size bytes (record { good = good; is = e })
  sized_behind size good (Err why) e = refl

  alloc_behind : (size : ℕ) → alloc_turn s (u ++ v) (t ++ v') size ≡ behind (alloc_turn s u t size) v v'
  unfolding alloc_turn
  alloc_behind size =
      bad_behind u t v v' s room stop_room (alloc_rounded s (u ++ v) (t ++ v') (rounded size s.granularity)) (alloc_rounded s u t (rounded size s.granularity))
      (λ good. sized_behind size good (rounded size s.granularity) refl)

  -- ---- any call on a state
  pub words_behind : (c : Call) → OnState c → step s (u ++ v) (t ++ v') c ≡ behind (step s u t c) v v'
  words_behind (create a) o = absurd o
  words_behind (alloc size) o = alloc_behind size
  words_behind (release a) o = release_behind a
  words_behind (shrink a size) o = shrink_behind a size
  words_behind (query a) o = query_behind a
  words_behind soft_reset o = reset_behind false
  words_behind hard_reset o = reset_behind true
