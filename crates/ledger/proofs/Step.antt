-- Every call on a sound state leaves a sound one, with the ledger that its answer leaves. Assumes nothing.
use Prim.Native.Nat.{ℕ, zero, suc, ◌+◌, ◌*◌, ◌≤◌, ◌<◌}
use mathlib.Core.List.{List, []}
use mathlib.Core.Bool.{Bool, true, false}
use mathlib.Core.Logic.{⊎_elim}
use mathlib.Core.Path.{◌≡◌, refl, sym, ap, ap₂, subst, subst₂, ◌∙◌}
use native.Mathlib.Omega.{arith}
use lib.ListN.{length}
use borrow.Author.Tests.{le-leb}
use Rattle.numbers.proofs.Bools.{picked}
use Rattle.numbers.proofs.Units.{units_some}
use Rattle.runs.specs.Window.{FreeAt}
use Rattle.slots.specs.Slots.{slot_of}
use Rattle.sizes.proofs.Pools.{pool_below}
use Rattle.state.specs.declared.State.{State}
use Rattle.state.specs.declared.Span.{Span}
use Rattle.state.specs.declared.Refusal.{Refusal}
use Rattle.state.specs.declared.Refusal.TheVariants.{InvalidArgument, NoMapping, BadShape}
use Rattle.state.specs.declared.Answer.TheVariants.{Shown, Shrunk, Reset, Refused}
use Rattle.state.specs.Table.{block_at, sum}
use Rattle.shape.specs.Shaped.{Shaped}
use Rattle.shape_facts.proofs.Search.{Left, Place}
use Rattle.shape_facts.proofs.Cleared.{slots_room}
use Rattle.shape_facts.proofs.Pool.{whole, units_kept}
use Rattle.machine.specs.Turn.{turn, refuse, span, unit_of}
use Rattle.state.specs.declared.Asked.{Asked}
use Rattle.machine.specs.Create.{slots_of, granted}
use Rattle.machine.specs.Alloc.{pool_for, units_for, search_for, new_size, alloc_turn, alloc_marked, alloc_made, hit_at}
use Rattle.machine.specs.Span.{query_turn}
use Rattle.machine.specs.Release.{release_turn}
use Rattle.machine.specs.Shrink.{shrink_turn}
use Rattle.machine.specs.Reset.{empty_table, clear_blocks, oldest, keep, kept, reset_turn}
use Rattle.machine.specs.Machine.{Call, create, alloc, release, shrink, query, soft_reset, hard_reset, step}
use Rattle.machine.proofs.Searched.{search_other}
use Rattle.machine.proofs.Cases.{Seeks, Places, create_cases, query_cases, release_cases, shrink_cases, reset_cases, alloc_cases}
use Rattle.shape_kept.specs.Sized.{Sized}
use Rattle.shape_kept.proofs.Sized.{sized_search}
use Rattle.shape_kept.proofs.Request.{seeks_some, seeks_ready, seeks_left}
use Rattle.shape_kept.proofs.Soft.{kept_from}
use Rattle.shape_kept.proofs.Closed.{closed}
use Rattle.ledger.specs.Ledger.{enter}
use Rattle.ledger.specs.Agrees.{at, Clear, Agrees, Sound}
use Rattle.ledger.specs.First.{FirstFrom}
use Rattle.ledger.proofs.Table.{Stands, slot_room}
use Rattle.ledger.proofs.Cleared.{zeros, zeros_clear, clear_either, created_zeros, emptied_agrees}
use Rattle.ledger.proofs.Search.{Ready, Combed, search_combed}
use Rattle.ledger.proofs.Finds.{shaped, stands, unit_is, held_entry}
use Rattle.ledger.proofs.Right.{Right, right_of, same_right, again_right, cut_right, free_right, mark_right}
use Rattle.ledger.proofs.Made.{make_right}

-- ---- what a soft reset leaves of the record
abbrev Alike : State → State → Type 0
Alike s r = (r.granularity ≡ s.granularity) × (r.w ≡ s.w) × (r.slots ≡ s.slots) × (r.live ≡ 0)

kept_alike : (s : State) (n : ℕ) → Alike s (kept s n)
unfolding kept
kept_alike s zero = (refl, refl, refl, refl)
kept_alike s (suc n) =
    let ih = kept_alike s n in
    picked (Alike s) (oldest s n) (keep (kept s n) (block_at s n)) (kept s n) (λ e. (ih.0, ih.1, ih.2, ih.3)) (λ e. ih)

module _ (s : State) (u t : List ℕ) (l : List Span) (o : Sound s u t l) (z : Sized s) where
  abbrev st : Stands s.granularity s.w s.slots s.count s.blocks (length u) (length t)
  st = stands s u t l o z.blocks

  abbrev f : Shaped s (length u) (length t)
  f = shaped s u t l o z.blocks

  refused_right : (why : Refusal) → Right l (refuse why s u t)
  refused_right why = same_right s u t l o z (Refused why) refl

  -- ---- query
  query_right : (a : ℕ) → Right l (query_turn s u t a)
  query_right a = query_cases (Right l) s u t a (λ why cond. refused_right why) (λ j i e k. same_right s u t l o z (Shown _) refl)

  -- ---- release
  release_right : (a : ℕ) → Right l (release_turn s u t a)
  release_right a =
      release_cases (Right l) s u t a (λ why cond. refused_right why)
      (λ j i e k.
      let q = held_entry s u t l o z.blocks a j i e k.holds in
      free_right s u t l o z a j i e q.0 q.1.0 q.1.1 q.1.2 q.1.3)

  -- ---- shrink
  shrink_right : (a size : ℕ) → Right l (shrink_turn s u t a size)
  shrink_right a size =
      shrink_cases (Right l) s u t a size (λ why cond. refused_right why) (λ none. release_right a)
      (λ j i e n k same.
      let q = held_entry s u t l o z.blocks a j i e k in
      subst (Right l) (sym (ap₂ (λ (m g : ℕ). turn (Shrunk (span a (m * g))) s u t) same (unit_is s u t l o z.blocks j q.0)))
      (again_right s u t l o z a j i e q.0 q.1.0 q.1.1 q.1.2 q.1.3))
      (λ j i e n k.
      let q = held_entry s u t l o z.blocks a j i e k.holds in
      let pos : 0 < unit_of s (block_at s j) = omega (arith, unit_is s u t l o z.blocks j q.0, st.unit) in
      cut_right s u t l o z a j i e q.0 q.1.0 q.1.1 q.1.2 q.1.3 n
      (omega (arith, k.units, units_some size (unit_of s (block_at s j)) pos k.asked)) k.less)

  -- ---- alloc
  pub search_ready : (p n : ℕ) (pos : 0 < n) → Ready u t l p n pos s
  search_ready p n pos = record { stands = st; agrees = o.agrees; ends = λ j h. (f.sound j h).end }

  module _ (size bytes : ℕ) (k : Seeks s u t size bytes) where
    abbrev p : ℕ
    p = pool_for s bytes

    abbrev n : ℕ
    n = units_for s bytes

    abbrev r : State
    r = (search_for s u bytes).state

    abbrev pos : 0 < n
    pos = seeks_some s u t size bytes k

    pub combed : Combed u t l p n pos s 0 (search_for s u bytes)
    combed = search_combed u t l p n pos s (search_ready p n pos)

    pub left : Left u (length t) p n pos s (search_for s u bytes)
    left = seeks_left s u t size bytes k z

    live_r : r.live ≡ length l
    live_r = left.live ∙ o.live

    hit_right : (j i : ℕ) → (search_for s u bytes).hit ≡ hit_at j i → Right l (alloc_marked r u t j i n)
    hit_right j i e =
        let q = subst (Place u (length t) p n pos r) e left.place in
        let d = subst (FirstFrom s u p n 0) e combed.first in
        let same : slot_of s.w (block_at s j).slot u ≡ slot_of r.w (block_at r j).slot u =
        ap₂ (λ (x y : ℕ). slot_of x y u) (sym (ap (λ (x : State). x.w) (search_other s u p n))) (sym (left.alike j).lies.slot) in
        mark_right r u t l p n pos left.shaped combed.ready live_r j i q.0 q.2.high (subst (λ (x : List ℕ). FreeAt x n i) same d.3.free)

    full_right : Right l (refuse NoMapping r u t)
    full_right = right_of l (refuse NoMapping r u t) combed.ready.stands.unit combed.ready.stands.whole combed.ready.agrees live_r

    abbrev Made : (at slot : ℕ) → Type 0
    Made at slot = Right l (alloc_made r u t p n (new_size r p bytes) at slot)

    made_right : (at slot : ℕ) → Places r p bytes at slot → Made at slot
    made_right at slot m =
        let a = seeks_ready s u t size bytes k in
        let same : r.poolcount ≡ s.poolcount = ap (λ (x : State). x.poolcount) (search_other s u p n) in
        make_right r u t l left.shaped (sized_search s z u p n) combed.ready.stands combed.ready.agrees live_r p n bytes at slot
        (omega (arith, same, pool_below bytes s.granularity s.poolcount a.shaped.head.pools_listed)) pos a.some a.most
        (units_kept s r left.pools p p n n bytes refl refl (whole s (length u) (length t) bytes a)) m

  alloc_right : (size : ℕ) → Right l (alloc_turn s u t size)
  alloc_right size =
      alloc_cases (Right l) s u t size (λ why early cond. refused_right why) (λ bytes k miss short. full_right size bytes k)
      (λ bytes j i k e. hit_right size bytes k j i e) (λ bytes at slot k miss m. made_right size bytes k at slot m)

  -- ---- reset
  abbrev cu : List ℕ
  cu = clear_blocks s s.count u

  abbrev ct : List ℕ
  ct = clear_blocks s s.count t

  room_u : (i : ℕ) → i < s.count → ((block_at s i).slot + 1) * s.w ≤ length u
  room_u i h = slot_room s.w s.slots (block_at s i).slot (length u) (st.slot i h) st.used_room

  room_t : (i : ℕ) → i < s.count → ((block_at s i).slot + 1) * s.w ≤ length t
  room_t i h = slot_room s.w s.slots (block_at s i).slot (length t) (st.slot i h) st.stop_room

  own_u : (i : ℕ) → i < s.count → slot_of s.w (block_at s i).slot cu ≡ zeros s.w
  own_u i h = ⊎_elim (λ e. e) (λ e. absurd (e.0 i h refl)) (clear_either s u room_u s.count (block_at s i).slot (omega arith) (room_u i h))

  own_t : (i : ℕ) → i < s.count → slot_of s.w (block_at s i).slot ct ≡ zeros s.w
  own_t i h = ⊎_elim (λ e. e) (λ e. absurd (e.0 i h refl)) (clear_either s t room_t s.count (block_at s i).slot (omega arith) (room_t i h))

  all_clear : (k : ℕ) → k < s.slots → Clear (slot_of s.w k cu) × Clear (slot_of s.w k ct)
  all_clear k h = (
    ⊎_elim (λ e. zeros_clear s.w k cu e) (λ e. subst Clear (sym e.1) (o.agrees.idle k h e.0).0)
        (clear_either s u room_u s.count k (omega arith) (slot_room s.w s.slots k (length u) h st.used_room)),
    ⊎_elim (λ e. zeros_clear s.w k ct e) (λ e. subst Clear (sym e.1) (o.agrees.idle k h e.0).1)
        (clear_either s t room_t s.count k (omega arith) (slot_room s.w s.slots k (length t) h st.stop_room)),
  )

  empty_right : Right l (turn Reset (empty_table s) cu ct)
  empty_right = record {
    agrees = emptied_agrees s.granularity s.w s.slots 0 (empty_table s).blocks cu ct (λ j h. absurd (omega arith)) all_clear;
    live = refl;
    enough = omega arith;
  }

  kept_right : Right l (turn Reset (kept s s.count) cu ct)
  kept_right =
      let r = kept s s.count in
      let q = kept_alike s s.count in
      let k = kept_from s s.count (omega (arith, f.head.count_slots, f.head.slots_high)) in
      record {
        agrees = subst₂ (λ (w slots : ℕ). Agrees r.granularity w slots r.count r.blocks cu ct []) (sym q.1) (sym q.2)
            (emptied_agrees r.granularity s.w s.slots r.count r.blocks cu ct
            (λ j h. (block_at s (k.from j), k.is j h, own_u (k.from j) (k.low j h), own_t (k.from j) (k.low j h))) all_clear);
        live = q.3;
        enough = omega (arith, q.3);
      }

  reset_right : (hard : Bool) → Right l (reset_turn s u t hard)
  reset_right hard = reset_cases (Right l) s u t hard (λ bad. refused_right BadShape) (λ e. empty_right) (λ e i. kept_right)

-- ---- create, whatever was before
pub created_right : (a : Asked) (u t : List ℕ) (l : List Span) → Right l (granted a (slots_of a.w (length u) (length t)) u t)
created_right a u t l =
    let slots = slots_of a.w (length u) (length t) in
    let room = slots_room a.w (length u) (length t) in
    let x = granted a slots u t in
    record {
      agrees = emptied_agrees x.state.granularity a.w slots 0 x.state.blocks x.used x.stop (λ j h. absurd (omega arith))
          (λ k h. (zeros_clear a.w k x.used (created_zeros a.w slots k u h room.0), zeros_clear a.w k x.stop (created_zeros a.w slots k t h room.1)));
      live = refl;
      enough = omega arith;
    }

module _ (s : State) (u t : List ℕ) (l : List Span) (o : Sound s u t l) (z : Sized s) where
  pub step_right : (c : Call) → Right l (step s u t c)
  step_right (create a) = create_cases (Right l) s u t a (λ e. refused_right s u t l o z InvalidArgument) (λ e. created_right a u t l)
  step_right (alloc size) = alloc_right s u t l o z size
  step_right (release a) = release_right s u t l o z a
  step_right (shrink a size) = shrink_right s u t l o z a size
  step_right (query a) = query_right s u t l o z a
  step_right soft_reset = reset_right s u t l o z false
  step_right hard_reset = reset_right s u t l o z true

  pub step_sound : (c : Call) → Sound (step s u t c).state (step s u t c).used (step s u t c).stop (enter (step s u t c).answer l)
  step_sound c =
      let x = step s u t c in
      let r = step_right c in
      record {
        shape = closed s u t c z o.shape (le-leb x.state.live (sum x.state.count (λ i. (block_at x.state i).used)) r.enough);
        agrees = r.agrees;
        live = r.live;
      }
