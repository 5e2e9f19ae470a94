-- What the turn of each call can be, with what is known in each case, a refusal's condition too: a property that holds in every case holds of the turn. Assumes nothing.
use Rattle.std.specs.Prelude.{Option, Some, None, Ok, Err}
use Prim.Native.Nat.{ℕ, ◌-◌, ◌/◌, ◌≤◌, ◌<◌}
use mathlib.Core.Bool.{Bool, true, false, not, ◌||◌}
use mathlib.Core.List.{List}
use mathlib.Core.Logic.{◌⊎◌, inl, inr, ⊎_elim}
use mathlib.Core.Path.{◌≡◌, refl, sym, ap, ap₂, subst, ◌∙◌}
use native.Mathlib.Omega.{arith}
use borrow.Author.Tests.{leb-true, leb-false, ltb-true, ltb-false, eqb-true, eqb-false, not-true, not-false}
use lib.Dec.{leb, ltb, eqb}
use lib.ListN.{length}
use Rattle.std.specs.Prelude.{Option, Some, None}
use Rattle.numbers.specs.Pick.{pick}
use Rattle.numbers.specs.Align.{align_up}
use Rattle.numbers.specs.Units.{units_of, bytes_of}
use Rattle.numbers.proofs.Bools.{picked, or_cases, or_fails}
use Rattle.block.specs.Marking.{mark_released}
use Rattle.std.specs.declared.result.Result.TheVariants.{Ok, Err}
use Rattle.sizes.specs.declared.SizeError.TheVariants as size_error
use Rattle.sizes.specs.Sizes.{rounded, ideal_size}
use Rattle.sizes.proofs.Sizes.{rounded_is}
use Rattle.state.specs.declared.State.{State}
use Rattle.state.specs.declared.NotHeld.TheVariants.{NoSpan, NoStop as noStop}
use Rattle.state.specs.Held.{Held, range}
use Rattle.state.specs.declared.Hit.{Hit}
use Rattle.state.specs.declared.Refusal.{Refusal}
use Rattle.state.specs.declared.Refusal.TheVariants.{InvalidArgument, TooLarge, InvalidState, NoMapping, BadShape, Damaged}
use Rattle.state.specs.declared.Answer.{Answer}
use Rattle.state.specs.declared.Answer.TheVariants.{Released, Shown, Shrunk, Reset}
use Rattle.state.specs.Table.{zero_state, block_at, pool_at}
use Rattle.state.specs.Shape.{good_shape, bad_shape}
use Rattle.state.specs.Change.{removed}
use Rattle.state.specs.Find.{least, lookup, slot_free, lowest_slot, place_free, placed, lowest_place}
use Rattle.state.proofs.Find.{Least, least_of}
use Rattle.machine.specs.Turn.{Turn, turn, refuse, span, put_pool, with_live, with_counts, unit_of, clear_slot}
use Rattle.state.specs.declared.Asked.{Asked}
use Rattle.machine.specs.Create.{slots_of, grantable, granted, create_turn}
use Rattle.machine.specs.Alloc.{pool_for, units_for, search_for, new_size, alloc_marked, alloc_made, alloc_placed, alloc_searched, alloc_rounded, alloc_turn, hit_at}
use Rattle.state.specs.Outcome.{number}
use Rattle.machine.specs.Span.{held_in, query_held, query_found, query_turn}
use Rattle.machine.specs.Release.{less_used, settle, release_units, release_held, release_found, release_turn}
use Rattle.machine.specs.Shrink.{shrink_tail, shrink_units, shrink_held, shrink_found, shrink_turn}
use Rattle.machine.specs.Reset.{empty_table, clear_blocks, kept, reset_turn}
use Rattle.machine.specs.Machine.{alloc, release, shrink, query, or_before}
use Rattle.machine.specs.When.{Good, Bad, InNone, InBlock, IsStart, NoStop, HasUnits, NoRoom, NoSlot, PastSlot, size_for, When}
use Rattle.machine.proofs.Look.{Looks, looks, Seen, seen}
use Rattle.machine.proofs.Hits.{Hits, search_hits}
use Rattle.machine.proofs.Searched.{search_other, search_slot, search_place, search_newest}

-- ---- what is known
-- block j holds the address, and a span from unit i up to e stands there
pub record Holds (s : State) (u t : List ℕ) (a j i e : ℕ) : Type 0 where
  pub good : Good s u t
  pub found : Some j ≡ lookup s a
  pub held : held_in s u t a j ≡ Ok (range i e)

-- the call released it
pub record FreesSpan (s : State) (u t : List ℕ) (a j i e : ℕ) : Type 0 where
  pub holds : Holds s u t a j i e
  pub counted : e - i ≤ (block_at s j).used
  pub some : 0 < s.live

-- the call shrank it to n units, fewer than it had
pub record Cuts (s : State) (u t : List ℕ) (a size j i e n : ℕ) : Type 0 where
  pub holds : Holds s u t a j i e
  pub counted : e - i ≤ (block_at s j).used
  pub asked : 0 < size
  pub units : n ≡ units_of size (unit_of s (block_at s j))
  pub less : n < e - i

-- a request of so many bytes, once rounded
pub record Seeks (s : State) (u t : List ℕ) (size bytes : ℕ) : Type 0 where
  pub good : Good s u t
  pub is : rounded size s.granularity ≡ Ok bytes

-- the search of its pool leaves all but the blocks' records
module _ (s : State) (u : List ℕ) (bytes : ℕ) where
  pub search_count : (search_for s u bytes).state.count ≡ s.count
  search_count = ap (λ (r : State). r.count) (search_other s u (pool_for s bytes) (units_for s bytes))

  pub search_arena : (search_for s u bytes).state.arena ≡ s.arena
  search_arena = ap (λ (r : State). r.arena) (search_other s u (pool_for s bytes) (units_for s bytes))

-- a new block for it, of size bytes
pub record Places (r : State) (p bytes at slot : ℕ) : Type 0 where
  pub place : Some at ≡ lowest_place r (new_size r p bytes)
  pub free : Some slot ≡ lowest_slot r
  pub words : units_of (units_of (new_size r p bytes) (pool_at r p).granularity) 32 ≤ r.w

-- why it can't be made
abbrev pub Short : State → ℕ → ℕ → Type 0
Short r p bytes =
    (lowest_place r (new_size r p bytes) ≡ None) ⊎ ((lowest_slot r ≡ None) ⊎ (r.w < units_of (units_of (new_size r p bytes) (pool_at r p).granularity) 32))

-- which is refusal 4's condition, of the table before the search
module _ (s : State) (u t : List ℕ) (size bytes : ℕ) (k : Seeks s u t size bytes) where
  abbrev p : ℕ
  p = pool_for s bytes

  abbrev n : ℕ
  n = units_for s bytes

  abbrev words : State → ℕ → ℕ
  words x b = units_of (units_of b (pool_at x p).granularity) 32

  size_same : new_size (search_for s u bytes).state p bytes ≡ size_for s u t bytes
  size_same = ap (λ (b : ℕ). ideal_size b bytes) (search_newest s u p n p)

  no_room : (f : Option ℕ) → Least 0 (s.length / 65536) (place_free s (size_for s u t bytes)) f → placed s f ≡ None → NoRoom s u t (size_for s u t bytes)
  no_room (Some i) q e = absurd (let no : ◌≡◌ {A = ℕ} 0 1 = cc in omega arith)
  no_room None q e = λ i l. q i (omega arith) l

  short : Short (search_for s u bytes).state p bytes → NoRoom s u t (size_for s u t bytes) ⊎ (NoSlot s u t ⊎ PastSlot s u t bytes)
  short (inl e) =
      inl (no_room (least (s.length / 65536) (place_free s (size_for s u t bytes))) (least_of (s.length / 65536) (place_free s (size_for s u t bytes)))
      (sym (search_place s u p n (size_for s u t bytes)) ∙ ap (lowest_place (search_for s u bytes).state) (sym size_same) ∙ e))
  short (inr (inl e)) =
      let q = subst (Least 0 s.slots (slot_free s)) (sym (search_slot s u p n) ∙ e) (least_of s.slots (slot_free s)) in
      inr (inl (λ i l. q i (omega arith) l))
  short (inr (inr l)) =
      let o = search_other s u p n in
      inr (inr (omega (arith, l, ap (λ (x : State). x.w) o, ap₂ (λ (x : State) (b : ℕ). words x b) o size_same)))

  pub short_when : (search_for s u bytes).hit ≡ None → Short (search_for s u bytes).state p bytes → When s u t NoMapping (alloc size)
  short_when miss q =
      let a = rounded_is size s.granularity bytes k.is in
      let none = subst (Hits u p n s 0 s.count) miss (search_hits u p n s) in
      (k.good, bytes, a.is, a.some, a.small, λ j i l x y. none j i (omega arith) l x y, short q)

module _ (P : Turn → Type 0) (s : State) (u t : List ℕ) where
  -- ---- the block of a released span settles
  pub settle_cases : (answer : Answer) (j : ℕ)
      → (((block_at s j).used ≡ 0 → ⊥) → P (turn answer s u t))
      → ((block_at s j).used ≡ 0 → not (eqb (pool_at s (block_at s j).pool).empty 0) || s.immediate ≡ true
      → P (turn answer (removed s j) (clear_slot s.w (block_at s j).slot u) (clear_slot s.w (block_at s j).slot t)))
      → ((block_at s j).used ≡ 0 → (pool_at s (block_at s j).pool).empty ≡ 0 → s.immediate ≡ false
      → P (turn answer (put_pool s (block_at s j).pool (with_counts (pool_at s (block_at s j).pool) 1 (pool_at s (block_at s j).pool).used)) u t))
      → P (settle answer s u t j)
  settle_cases answer j f g h =
      picked P (not (eqb (block_at s j).used 0)) _ _
      (λ e. f (eqb-false (block_at s j).used 0 (not-true (eqb (block_at s j).used 0) e)))
      (λ e.
      let z = eqb-true (block_at s j).used 0 (not-false (eqb (block_at s j).used 0) e) in
      let kept = not (eqb (pool_at s (block_at s j).pool).empty 0) in
      picked P (kept || s.immediate) _ _ (g z)
      (λ c.
      let none = or_fails kept s.immediate c in
      h z (eqb-true (pool_at s (block_at s j).pool).empty 0 (not-false (eqb (pool_at s (block_at s j).pool).empty 0) none.0)) none.1))

  -- ---- create: refused, the record before it stays
  pub create_cases : (a : Asked) → (grantable a (length u) (length t) ≡ false → P (refuse InvalidArgument s u t))
      → (grantable a (length u) (length t) ≡ true → P (granted a (slots_of a.w (length u) (length t)) u t))
      → P (or_before s (create_turn a u t) (create_turn a u t).answer)
  unfolding create_turn
  create_cases a refused does = go (grantable a (length u) (length t)) refl
    where
      go : (ok : Bool) → grantable a (length u) (length t) ≡ ok
          → let x = pick ok (granted a (slots_of a.w (length u) (length t)) u t) (refuse InvalidArgument zero_state u t) in P (or_before s x x.answer)
      go true e = does e
      go false e = refused e

  -- ---- a bad shape is refused, whatever the call
  shaped : (Bad s u t → P (refuse BadShape s u t)) → (x : Turn) → (Good s u t → P x) → P (pick (bad_shape s (length u) (length t)) (refuse BadShape s u t) x)
  shaped bad x f =
      picked P (bad_shape s (length u) (length t)) (refuse BadShape s u t) x
      (λ e. bad (not-true (good_shape s (length u) (length t)) e)) (λ e. f (not-false (good_shape s (length u) (length t)) e))

  module _ (a : ℕ) where
    -- ---- an address in no block, at no span start, at a span with no end, or at a span; F and H are what the call makes of the two findings
    module _ (F : Option ℕ → Turn) (H : ℕ → Held → Turn) (good : Good s u t)
        (nowhere : InNone s u t a → P (F None))
        (nothing : (j : ℕ) → InBlock s u t a j → (IsStart s u t a j → ⊥) → P (H j (Err NoSpan)))
        (endless : (j : ℕ) → InBlock s u t a j → IsStart s u t a j → NoStop s u t a j → P (H j (Err noStop)))
        (spans : (j i e : ℕ) → Holds s u t a j i e → InBlock s u t a j → IsStart s u t a j → HasUnits s u t a j (e - i) → P (H j (Ok (range i e))))
        (in_block : (j : ℕ) → P (H j (held_in s u t a j)) → P (F (Some j))) where
      held : (j : ℕ) → Some j ≡ lookup s a → InBlock s u t a j → (h : Held) → held_in s u t a j ≡ h → Seen s u t a j h → P (H j h)
      held j f here (Err NoSpan) z q = nothing j here q
      held j f here (Err noStop) z q = endless j here q.0 q.1
      held j f here (Ok r) z q = spans j r.from r.to (record { good = good; found = f; held = z }) here q.2 q.3

      found : (f : Option ℕ) → f ≡ lookup s a → Looks s u t a f → P (F f)
      found None z q = nowhere q
      found (Some j) z q = in_block j (held j z q (held_in s u t a j) refl (seen s u t a j))

      address_cases : P (F (lookup s a))
      address_cases = found (lookup s a) refl (looks s u t a)

    -- ---- query
    pub query_cases : ((why : Refusal) → When s u t why (query a) → P (refuse why s u t))
        → ((j i e : ℕ) → Holds s u t a j i e → P (turn (Shown (span a (bytes_of (e - i) (unit_of s (block_at s j))))) s u t))
        → P (query_turn s u t a)
    unfolding query_turn
    query_cases refused does =
        shaped (refused BadShape) (query_found s u t a (lookup s a))
        (λ good.
        address_cases (query_found s u t a) (query_held s u t a) good
        (λ none. refused InvalidArgument (good, inl none))
        (λ j here no. refused InvalidArgument (good, inr (j, here, no)))
        (λ j here st no. refused Damaged (good, j, here, st, no))
        (λ j i e h here st has. does j i e h)
        (λ j p. p))

    -- ---- release
    pub release_cases : ((why : Refusal) → When s u t why (release a) → P (refuse why s u t))
        → ((j i e : ℕ) → FreesSpan s u t a j i e → P (release_units s u t a j i e))
        → P (release_turn s u t a)
    unfolding release_turn
    release_cases refused does =
        shaped (refused BadShape) (pick (eqb a 0) (refuse InvalidArgument s u t) (release_found s u t a (lookup s a)))
        (λ good.
        picked P (eqb a 0) (refuse InvalidArgument s u t) (release_found s u t a (lookup s a)) (λ e. refused InvalidArgument (good, inl (eqb-true a 0 e)))
        (λ some.
        address_cases (release_found s u t a) (release_held s u t a) good
        (λ none. refused InvalidState (good, eqb-false a 0 some, none))
        (λ j here no. refused InvalidArgument (good, inr (j, here, no)))
        (λ j here st no. refused Damaged (good, j, here, st, inl no))
        (λ j i e h here st has.
        let long = ltb (block_at s j).used (e - i) in
        picked P (long || eqb s.live 0) (refuse Damaged s u t) (release_units s u t a j i e)
        (λ c. refused Damaged (
          good,
          j,
          here,
          st,
          inr ((e - i), has, ⊎_elim (λ x. inl (ltb-true (block_at s j).used (e - i) x)) (λ y. inr (eqb-true s.live 0 y)) (or_cases long (eqb s.live 0) c)),
        ))
        (λ c.
        let fine = or_fails long (eqb s.live 0) c in
        does j i e (record { holds = h; counted = ltb-false (block_at s j).used (e - i) fine.0; some = omega (arith, eqb-false s.live 0 fine.1) })))
        (λ j p. p)))

    -- ---- shrink: to 0 it is a release
    pub shrink_cases : (size : ℕ) → ((why : Refusal) → When s u t why (shrink a size) → P (refuse why s u t))
        → (size ≡ 0 → P (release_turn s u t a))
        → ((j i e n : ℕ) → Holds s u t a j i e → n ≡ e - i → P (turn (Shrunk (span a (bytes_of n (unit_of s (block_at s j))))) s u t))
        → ((j i e n : ℕ) → Cuts s u t a size j i e n → P (shrink_tail s u t a j i e n))
        → P (shrink_turn s u t a size)
    unfolding shrink_turn
    shrink_cases size refused none same does =
        picked P (eqb size 0) (release_turn s u t a) _ (λ e. none (eqb-true size 0 e))
        (λ e.
        let asked : 0 < size = omega (arith, eqb-false size 0 e) in
        shaped (refused BadShape) (pick (eqb a 0) (refuse InvalidArgument s u t) (shrink_found s u t a size (lookup s a)))
        (λ good.
        picked P (eqb a 0) (refuse InvalidArgument s u t) (shrink_found s u t a size (lookup s a)) (λ c. refused InvalidArgument (good, inl (eqb-true a 0 c)))
        (λ c.
        address_cases (shrink_found s u t a size) (shrink_held s u t a size) good
        (λ no. refused InvalidArgument (good, inr (inl (asked, no))))
        (λ j here no. refused InvalidArgument (good, inr (inr (j, here, no))))
        (λ j here st no. refused Damaged (good, j, here, st, inl no))
        (λ j i e h here st has.
        let n = units_of size (unit_of s (block_at s j)) in
        picked P (ltb (block_at s j).used (e - i)) (refuse Damaged s u t) (shrink_units s u t a j i e n)
        (λ l. refused Damaged (good, j, here, st, inr ((e - i), has, inl (ltb-true (block_at s j).used (e - i) l))))
        (λ l.
        let counted = ltb-false (block_at s j).used (e - i) l in
        picked P (ltb (e - i) n) (refuse InvalidState s u t) _ (λ p. refused InvalidState (good, inr (j, (e - i), here, st, has, counted, ltb-true (e - i) n p)))
        (λ p.
        picked P (eqb n (e - i)) (turn (Shrunk (span a (bytes_of n (unit_of s (block_at s j))))) s u t) (shrink_tail s u t a j i e n) (λ q. same j i e n h (eqb-true n (e - i) q))
        (λ q. does j i e n (record { holds = h; counted = counted; asked = asked; units = refl; less = fewer n (e - i) p q })))))
        (λ j p. p))))
      where
        fewer : (n m : ℕ) → ltb m n ≡ false → eqb n m ≡ false → n < m
        fewer n m p q = omega (arith, ltb-false m n p, eqb-false n m q)

  -- ---- reset
  pub reset_cases : (hard : Bool) → (Bad s u t → P (refuse BadShape s u t))
      → (Good s u t → P (turn Reset (empty_table s) (clear_blocks s s.count u) (clear_blocks s s.count t)))
      → (Good s u t → s.immediate ≡ false → P (turn Reset (kept s s.count) (clear_blocks s s.count u) (clear_blocks s s.count t)))
      → P (reset_turn s u t hard)
  unfolding reset_turn
  reset_cases hard bad all some =
      shaped bad _ (λ good.
      picked (λ (r : State). P (turn Reset r (clear_blocks s s.count u) (clear_blocks s s.count t))) (hard || s.immediate) (empty_table s) (kept s s.count)
      (λ e. all good) (λ e. some good (or_fails hard s.immediate e).1))

  -- ---- alloc: refused before the search, or by 4 after it
  module _ (size : ℕ) (refused : (why : Refusal) → (number why ≡ 4 → ⊥) → When s u t why (alloc size) → P (refuse why s u t))
      (full : (bytes : ℕ) → Seeks s u t size bytes → (search_for s u bytes).hit ≡ None → Short (search_for s u bytes).state (pool_for s bytes) bytes
      → P (refuse NoMapping (search_for s u bytes).state u t))
      (hit : (bytes j i : ℕ) → Seeks s u t size bytes → (search_for s u bytes).hit ≡ hit_at j i → P (alloc_marked (search_for s u bytes).state u t j i (units_for s bytes)))
      (make : (bytes at slot : ℕ) → Seeks s u t size bytes → (search_for s u bytes).hit ≡ None → Places (search_for s u bytes).state (pool_for s bytes) bytes at slot
      → P (alloc_made (search_for s u bytes).state u t (pool_for s bytes) (units_for s bytes) (new_size (search_for s u bytes).state (pool_for s bytes) bytes) at slot)) where
    -- the rounded size, the state that the search leaves, the block to be made and its words
    abbrev z : ℕ
    z = align_up size s.granularity

    abbrev r : State
    r = (search_for s u z).state

    abbrev b : ℕ
    b = new_size r (pool_for s z) z

    abbrev taken : ℕ
    taken = units_of (units_of b (pool_at r (pool_for s z)).granularity) 32

    place : Seeks s u t size z → (search_for s u z).hit ≡ None → (x : Option ℕ) (f : Option ℕ) → lowest_place r b ≡ x → lowest_slot r ≡ f
        → P (alloc_placed r u t (pool_for s z) (units_for s z) b x f)
    place k miss (Some at) (Some slot) ex ef =
        picked P (leb taken r.w) (alloc_made r u t (pool_for s z) (units_for s z) b at slot) (refuse NoMapping r u t)
        (λ e. make z at slot k miss (record { place = sym ex; free = sym ef; words = leb-true taken r.w e })) (λ e. full z k miss (inr (inr (leb-false taken r.w e))))
    place k miss (Some at) None ex ef = full z k miss (inr (inl ef))
    place k miss None f ex ef = full z k miss (inl ex)

    searched : Seeks s u t size z → (h : Option Hit) → (search_for s u z).hit ≡ h → P (alloc_searched r u t (pool_for s z) (units_for s z) z h)
    searched k (Some h) e = hit z h.age h.unit k e
    searched k None e = place k e _ _ refl refl

    known : Good s u t → (none : Bool) → eqb z 0 ≡ none → (much : Bool) → ltb 2147483647 z ≡ much
        → rounded size s.granularity ≡ pick none (Err size_error.InvalidArgument) (pick much (Err size_error.TooLarge) (Ok z))
        → P (alloc_rounded s u t (pick none (Err size_error.InvalidArgument) (pick much (Err size_error.TooLarge) (Ok z))))
    known good true e much d is = refused InvalidArgument (λ x. omega arith) (good, eqb-true z 0 e)
    known good false e true d is = refused TooLarge (λ x. omega arith) (good, ltb-true 2147483647 z d)
    known good false e false d is = searched (record { good = good; is = is }) (search_for s u z).hit refl

    pub alloc_cases : P (alloc_turn s u t size)
    unfolding alloc_turn rounded
    alloc_cases =
        shaped (refused BadShape (λ x. omega arith)) (alloc_rounded s u t (rounded size s.granularity))
        (λ good. known good (eqb z 0) refl (ltb 2147483647 z) refl refl)

-- ---- the answer to a release that is granted
pub freed_answer : (s : State) (u t : List ℕ) (a j i e : ℕ) → (release_units s u t a j i e).answer ≡ Released (span a (bytes_of (e - i) (unit_of s (block_at s j))))
freed_answer s u t a j i e =
    let m = mark_released s.w (block_at s j) i e u t in
    settle_cases (λ (x : Turn). x.answer ≡ Released (span a (bytes_of (e - i) (unit_of s (block_at s j)))))
    (with_live (less_used s j m.block (e - i)) (s.live - 1)) m.used m.stop _ j (λ ne. refl) (λ none goes. refl) (λ none kept off. refl)
