-- Every call on a state that is not BadShape leaves one that is not, but for a granted release or shrink that leaves live above used. Assumes nothing.
use Prim.Native.Nat.{ℕ, zero, suc, ◌+◌, ◌-◌, ◌*◌, ◌≤◌, ◌<◌}
use mathlib.Core.Bool.{Bool, true, false}
use mathlib.Core.List.{List}
use mathlib.Core.Logic.{◌⊎◌, inl, inr, ⊎_elim}
use mathlib.Core.Path.{◌≡◌, refl, sym, ap, subst, ◌∙◌}
use native.Mathlib.Omega.{arith}
use borrow.Author.Tests.{leb-true, leb-false, ne_eqb, eq-eqb}
use lib.Dec.{eqb}
use lib.ListN.{length}
use Rattle.numbers.proofs.Bools.{not_both, by_bool}
use Rattle.numbers.proofs.Units.{units_hold}
use Rattle.block.specs.declared.Block.{Block}
use Rattle.block.specs.Marking.{released, widened}
use Rattle.sizes.proofs.Pools.{pool_below}
use Rattle.state.specs.declared.State.{State}
use Rattle.state.specs.declared.Refusal.{Refusal}
use Rattle.state.specs.declared.Answer.TheVariants.{Refused}
use Rattle.state.specs.Table.{block_at, sum}
use Rattle.state.specs.Shape.{live_ok, good_shape}
use Rattle.shape.specs.Shaped.{Shaped}
use Rattle.shape.proofs.Shaped.{shaped_is}
use Rattle.shape.proofs.Enough.{shaped_enough, enough_good}
use Rattle.shape_facts.proofs.Facts.{count_64, unit_g, pool_3, found_in, held_in_range}
use Rattle.shape_facts.proofs.Search.{Place}
use Rattle.shape_facts.proofs.Pool.{whole, units_kept}
use Rattle.machine.specs.Turn.{Turn, with_live, unit_of}
use Rattle.machine.specs.Alloc.{pool_for, units_for, search_for, new_size, alloc_marked, alloc_made, hit_at}
use Rattle.machine.specs.Release.{less_used, release_units}
use Rattle.machine.specs.Shrink.{shrink_tail}
use Rattle.machine.specs.Reset.{reset_turn}
use Rattle.state.specs.declared.Asked.{Asked}
use Rattle.machine.specs.Create.{slots_of, grantable, fresh_state}
use Rattle.machine.specs.Machine.{Call, create, alloc, release, shrink, query, soft_reset, hard_reset, step}
use Rattle.machine.proofs.Cases.{FreesSpan, Cuts, Seeks, Places, settle_cases, create_cases, query_cases, release_cases, shrink_cases, reset_cases, alloc_cases, freed_answer}
use Rattle.machine.proofs.Searched.{search_other}
use Rattle.shape_kept.specs.Sized.{Sized}
use Rattle.shape_kept.specs.Closed.{Good, Frees, Freed, LiveAbove, Closed}
use Rattle.shape_kept.proofs.After.{less_block}
use Rattle.shape_kept.proofs.Head.{good_same}
use Rattle.shape_kept.proofs.Sized.{sized_search}
use Rattle.shape_kept.proofs.Words.{created_long, words_kept}
use Rattle.shape_kept.proofs.Request.{seeks_ready, seeks_some, seeks_left}
use Rattle.shape_kept.proofs.Records.{Changed, released_changed, widened_changed}
use Rattle.shape_kept.proofs.Mark.{mark_good}
use Rattle.shape_kept.proofs.Make.{make_good}
use Rattle.shape_kept.proofs.Free.{less_good, kept_good as settled-good, gone_good}
use Rattle.shape_kept.proofs.Empty.{empty_good, created_good}
use Rattle.shape_kept.proofs.Kept.{kept_good}

positive : (n unit size : ℕ) → 0 < size → size ≤ n * unit → 0 < n
positive zero unit size h l = omega arith
positive (suc n) unit size h l = omega arith

-- a turn's record is not BadShape, with the words as they came
abbrev Keeps : List ℕ → List ℕ → Turn → Type 0
Keeps u t x = good_shape x.state (length u) (length t) ≡ true

-- if its live count is not above its used units
abbrev KeepsIf : List ℕ → List ℕ → Turn → Type 0
KeepsIf u t x = live_ok x.state ≡ true → Keeps u t x

-- ---- alloc
module _ (s : State) (u t : List ℕ) (z : Sized s) (size bytes : ℕ) (k : Seeks s u t size bytes) where
  abbrev r : State
  r = (search_for s u bytes).state

  shaped : Shaped r (length u) (length t)
  shaped = (seeks_left s u t size bytes k z).shaped

  sized : Sized r
  sized = sized_search s z u (pool_for s bytes) (units_for s bytes)

  full : good_shape r (length u) (length t) ≡ true
  full = enough_good r (length u) (length t) (shaped_enough r (length u) (length t) shaped)

  hit : (j i : ℕ) → (search_for s u bytes).hit ≡ hit_at j i → Keeps u t (alloc_marked r u t j i (units_for s bytes))
  hit j i e =
      let some = seeks_some s u t size bytes k in
      let p = subst (Place u (length t) (pool_for s bytes) (units_for s bytes) some r) e (seeks_left s u t size bytes k z).place in
      mark_good r (length u) (length t) shaped sized j i (units_for s bytes) p.0 some p.2 u t

  make : (at slot : ℕ) → Places r (pool_for s bytes) bytes at slot → Keeps u t (alloc_made r u t (pool_for s bytes) (units_for s bytes) (new_size r (pool_for s bytes) bytes) at slot)
  make at slot m =
      let p = pool_for s bytes in
      let n = units_for s bytes in
      let a = seeks_ready s u t size bytes k in
      let same : r.poolcount ≡ s.poolcount = ap (λ (x : State). x.poolcount) (search_other s u p n) in
      let list : r.pools ≡ s.pools = (seeks_left s u t size bytes k z).pools in
      make_good r (length u) (length t) shaped sized p n bytes at slot
      (omega (arith, same, pool_below bytes s.granularity s.poolcount a.shaped.head.pools_listed)) (seeks_some s u t size bytes k)
      a.some a.most (units_kept s r list p p n n bytes refl refl (whole s (length u) (length t) bytes a)) m u t

module _ (s : State) (u t : List ℕ) (z : Sized s) where
  -- ---- release
  freed : (a j i e : ℕ) → FreesSpan s u t a j i e → KeepsIf u t (release_units s u t a j i e)
  freed a j i e k =
      let f = shaped_is s (length u) (length t) k.holds.good in
      let h = (found_in s a j k.holds.found).0 in
      let span = held_in_range s.w (block_at s j) (unit_of s (block_at s j)) u t a i e k.holds.held in
      let c = released (block_at s j) i e in
      let after = with_live (less_used s j c (e - i)) (s.live - 1) in
      let ch = released_changed s (block_at s j) (f.sound j h) i e span.0 span.1 in
      let low : j < 64 = omega (arith, h, count_64 s (length u) (length t) f) in
      let now : (block_at after j).used ≡ (block_at s j).used - (e - i) = ap (λ (b : Block). b.used) (less_block s z j c (e - i) low) ∙ ch.used_is in
      let some : 0 < e - i = omega (arith, span.0) in
      settle_cases (KeepsIf u t) after _ _ _ j
      (λ ne.
      less_good s (length u) (length t) f z j h c (e - i) (s.live - 1) some k.counted
      (subst (λ (b : Bool). Changed s (block_at s j) c ((block_at s j).used - (e - i)) b) (ne_eqb ((block_at s j).used - (e - i)) 0 (λ q. ne (now ∙ q))) ch))
      (λ none goes.
      gone_good s (length u) (length t) f z j h c (e - i) (s.live - 1) some k.counted (omega (arith, now, none, k.counted))
      (emptied c ch (sym now ∙ none)))
      (λ none kept off.
      settled-good s (length u) (length t) f z j h c (e - i) (s.live - 1) some k.counted (omega (arith, now, none, k.counted))
      (emptied c ch (sym now ∙ none)) kept off)
    where
      emptied : (c : Block) → Changed s (block_at s j) c ((block_at s j).used - (e - i)) (eqb ((block_at s j).used - (e - i)) 0)
          → (block_at s j).used - (e - i) ≡ 0 → Changed s (block_at s j) c 0 true
      emptied c ch none = record {
        sound = ch.sound;
        lies = ch.lies;
        used_is = ch.used_is ∙ none;
        empty_is = ch.empty_is ∙ eq-eqb ((block_at s j).used - (e - i)) 0 none;
      }

  -- ---- shrink
  cut : (a size j i e n : ℕ) → Cuts s u t a size j i e n → KeepsIf u t (shrink_tail s u t a j i e n)
  cut a size j i e n k =
      let f = shaped_is s (length u) (length t) k.holds.good in
      let h = (found_in s a j k.holds.found).0 in
      let b = block_at s j in
      let span = held_in_range s.w b (unit_of s b) u t a i e k.holds.held in
      let unit : 0 < unit_of s b = omega (arith, unit_g s (length u) (length t) f b.pool (pool_3 s (length u) (length t) f j h), f.head.g_low) in
      let some : 0 < n = positive n (unit_of s b) size k.asked (subst (λ (x : ℕ). size ≤ x * unit_of s b) (sym k.units) (units_hold size (unit_of s b) unit)) in
      let less : n < e - i = k.less in
      let counted : e - i ≤ b.used = k.counted in
      less_good s (length u) (length t) f z j h (widened b (i + n) e) (e - (i + n)) s.live (omega arith) (omega arith)
      (widened_changed s b (f.sound j h) (i + n) e (omega arith) span.1 (omega arith))

  -- ---- each call
  module _ (good : good_shape s (length u) (length t) ≡ true) where
    create_keeps : (a : Asked) → Keeps u t (step s u t (create a))
    create_keeps a = create_cases (Keeps u t) s u t a (λ e. good) (λ e. created_good a (length u) (length t) e)

    alloc_keeps : (size : ℕ) → Keeps u t (step s u t (alloc size))
    alloc_keeps size =
        alloc_cases (Keeps u t) s u t size (λ why early cond. good) (λ bytes k miss short. full s u t z size bytes k)
        (λ bytes j i k e. hit s u t z size bytes k j i e) (λ bytes at slot k miss m. make s u t z size bytes k at slot m)

    query_keeps : (a : ℕ) → Keeps u t (step s u t (query a))
    query_keeps a = query_cases (Keeps u t) s u t a (λ why cond. good) (λ j i e k. good)

    reset_keeps : (hard : Bool) → Keeps u t (reset_turn s u t hard)
    reset_keeps hard =
        let f = shaped_is s (length u) (length t) good in
        reset_cases (Keeps u t) s u t hard (λ bad. good) (λ e. empty_good s (length u) (length t) f.head f.lent)
        (λ e off. kept_good s (length u) (length t) f off s.count (omega arith))

    -- ---- the two that make units free, with no premise: kept, or granted with live above used
    abbrev Either : Turn → Type 0
    Either x = Keeps u t x ⊎ (Freed x.answer × LiveAbove x.state)

    decide : (x : Turn) → Freed x.answer → KeepsIf u t x → Either x
    decide x granted f =
        let r = x.state in
        by_bool (live_ok r) (λ e. inl (f e)) (λ e. inr (granted, leb-false r.live (sum r.count (λ i. (block_at r i).used)) e))

    release_either : (a : ℕ) → Either (step s u t (release a))
    release_either a =
        release_cases Either s u t a (λ why cond. inl good)
        (λ j i e k. decide (release_units s u t a j i e) (subst Freed (sym (freed_answer s u t a j i e)) tt) (freed a j i e k))

    shrink_either : (a size : ℕ) → Either (step s u t (shrink a size))
    shrink_either a size =
        shrink_cases Either s u t a size (λ why cond. inl good) (λ none. release_either a) (λ j i e n k same. inl good) (λ j i e n k. decide (shrink_tail s u t a j i e n) tt (cut a size j i e n k))

    -- with the words as they are afterwards
    as_left : (c : Call) → Keeps u t (step s u t c) → Good (step s u t c)
    as_left c e = let w = words_kept s u t z c in good_same (step s u t c).state (length u) (length t) _ _ w.0 w.1 e

    either_left : (c : Call) → Frees c → Either (step s u t c) → Closed s u t c
    either_left c free e = ⊎_elim (λ g. inl (as_left c g)) (λ x. inr (free, x.0, x.1)) e

-- ---- the statements
-- good, or a granted release or shrink has left live above used
pub closed_but_live : (s : State) (u t : List ℕ) (c : Call) → Sized s → good_shape s (length u) (length t) ≡ true → Closed s u t c
closed_but_live s u t (create a) z good = inl (as_left s u t z good (create a) (create_keeps s u t z good a))
closed_but_live s u t (alloc size) z good = inl (as_left s u t z good (alloc size) (alloc_keeps s u t z good size))
closed_but_live s u t (release a) z good = either_left s u t z good (release a) tt (release_either s u t z good a)
closed_but_live s u t (shrink a size) z good = either_left s u t z good (shrink a size) tt (shrink_either s u t z good a size)
closed_but_live s u t (query a) z good = inl (as_left s u t z good (query a) (query_keeps s u t z good a))
closed_but_live s u t soft_reset z good = inl (as_left s u t z good soft_reset (reset_keeps s u t z good false))
closed_but_live s u t hard_reset z good = inl (as_left s u t z good hard_reset (reset_keeps s u t z good true))

-- so where the live count is not above the used units, the shape is good, whatever the call
pub closed : (s : State) (u t : List ℕ) (c : Call) → Sized s → good_shape s (length u) (length t) ≡ true → live_ok (step s u t c).state ≡ true → Good (step s u t c)
closed s u t c z good l =
    let r = (step s u t c).state in
    ⊎_elim (λ g. g) (λ x. absurd (omega (arith, x.2, leb-true r.live (sum r.count (λ i. (block_at r i).used)) l))) (closed_but_live s u t c z good)

-- a call that makes no units free leaves a good shape
pub closed_other : (s : State) (u t : List ℕ) (c : Call) → Sized s → good_shape s (length u) (length t) ≡ true → (Frees c → ⊥) → Good (step s u t c)
closed_other s u t c z good frees-not = ⊎_elim (λ g. g) (λ x. absurd (frees-not x.0)) (closed_but_live s u t c z good)

-- and so does a call that is refused
pub closed_refused : (s : State) (u t : List ℕ) (c : Call) (why : Refusal) → Sized s → good_shape s (length u) (length t) ≡ true
    → (step s u t c).answer ≡ Refused why → Good (step s u t c)
closed_refused s u t c why z good e = ⊎_elim (λ g. g) (λ x. absurd (subst Freed e x.1)) (closed_but_live s u t c z good)

-- a creation that is granted leaves a good shape, whatever was before
pub closed_created : (s : State) (u t : List ℕ) (a : Asked) → grantable a (length u) (length t) ≡ true → Good (step s u t (create a))
closed_created s u t a e =
    create_cases Good s u t a (λ refused. absurd (not_both (grantable a (length u) (length t)) e refused))
    (λ y.
    let w = created_long a u t in
    good_same (fresh_state a (slots_of a.w (length u) (length t))) (length u) (length t) _ _ w.0 w.1 (created_good a (length u) (length t) e))
