-- A call with an image is the call without one, or a refusal that changes nothing; and what each call fills lies in the arena. Assumes nothing.
use Prim.Native.Nat.{ℕ, ◌-◌, ◌≤◌, ◌<◌}
use mathlib.Core.Bool.{Bool, true, false}
use mathlib.Core.List.{List, [], ◌++◌}
use mathlib.Core.Path.{◌≡◌, refl, sym, ap, subst, subst₂, ◌∙◌}
use native.Mathlib.Nat.{le_refl}
use native.Mathlib.Omega.{arith}
use borrow.Author.Tests.{eq-eqb, ne_eqb, eqb-true}
use lib.Dec.{eqb}
use lib.ListN.{length, get_or}
use Rattle.numbers.specs.Pick.{pick}
use Rattle.numbers.specs.Units.{bytes_of}
use Rattle.numbers.proofs.Bools.{picked}
use Rattle.state.specs.declared.State.{State}
use Rattle.state.specs.declared.Span.{Span}
use Rattle.state.specs.declared.Refusal.{Refusal}
use Rattle.state.specs.declared.Refusal.TheVariants.{InvalidArgument, BadShape}
use Rattle.state.specs.declared.Answer.{Answer}
use Rattle.state.specs.declared.Answer.TheVariants.{Shown, Reset, Refused}
use Rattle.state.specs.declared.Outcome.{Outcome}
use Rattle.state.specs.Outcome.{refusal}
use Rattle.state.specs.Table.{block_at}
use Rattle.state.specs.Shape.{good_shape, bad_shape}
use Rattle.state.specs.Find.{lookup}
use Rattle.shape.proofs.Shaped.{shaped_is}
use Rattle.machine.specs.Turn.{Turn, turn, refuse, span, unit_of}
use Rattle.machine.specs.Span.{query_turn}
use Rattle.machine.specs.Alloc.{pool_for, units_for, search_for, new_size, alloc_marked, alloc_made, alloc_turn}
use Rattle.machine.specs.Release.{release_turn}
use Rattle.machine.specs.Shrink.{shrink_found, shrink_turn}
use Rattle.machine.specs.Reset.{empty_table, clear_blocks, kept, reset_turn}
use Rattle.machine.specs.Machine.{Call, create, alloc, release, shrink, query, soft_reset, hard_reset, step}
use Rattle.machine.proofs.Cases.{Holds, search_count, release_cases, shrink_cases, reset_cases, alloc_cases, freed_answer}
use Rattle.machine.proofs.Searched.{search_other}
use Rattle.shape_facts.proofs.Facts.{count_64}
use Rattle.shape_kept.specs.Sized.{Sized}
use Rattle.shape_kept.specs.Closed.{Good}
use Rattle.shape_kept.proofs.Kept.{kept_other}
use Rattle.shape_kept.proofs.Closed.{closed_other}
use Rattle.filling.specs.Unused.{made, freed, tail_of, cut_off, kept_bytes, blocks_up_to, unused, filled_image, image_after, lent, lent_step}
use Rattle.filling.specs.InArena.{AllInArena, Outside}
use Rattle.filling.proofs.Unused.{within-append, made_none, blocks_none, filled_none, filled-append, filled_stays}
use Rattle.filling.proofs.Inside.{span_inside, tail_inside, blocks_inside, made_inside}

-- ---- the call
module _ (s : State) (u t : List ℕ) (bytes : ℕ) where
  -- an image of another length
  pub lent_refused : (x : Turn) → (bytes ≡ s.length → ⊥) → lent s u t bytes x ≡ refuse (pick (bad_shape s (length u) (length t)) BadShape InvalidArgument) s u t
  lent_refused x ne = ap (λ (b : Bool). pick (bad_shape s (length u) (length t)) (refuse BadShape s u t) (pick b x (refuse InvalidArgument s u t))) (ne_eqb bytes s.length ne) ∙ go (bad_shape s (length u) (length t))
    where
      go : (b : Bool) → pick b (refuse BadShape s u t) (refuse InvalidArgument s u t) ≡ refuse (pick b BadShape InvalidArgument) s u t
      go true = refl
      go false = refl

  -- one of the arena's: a bad shape is refused by the call itself
  pub lent_granted : (y : Turn) → bytes ≡ s.length → let x = pick (bad_shape s (length u) (length t)) (refuse BadShape s u t) y in lent s u t bytes x ≡ x
  lent_granted y e =
      ap (λ (b : Bool). pick bad (refuse BadShape s u t) (pick b (pick bad (refuse BadShape s u t) y) (refuse InvalidArgument s u t))) (eq-eqb bytes s.length e) ∙ go bad
    where
      bad : Bool
      bad = bad_shape s (length u) (length t)

      go : (b : Bool) → pick b (refuse BadShape s u t) (pick b (refuse BadShape s u t) y) ≡ pick b (refuse BadShape s u t) y
      go true = refl
      go false = refl

  -- either way
  pub lent_cases : (P : Turn → Type 0) (x : Turn) → (bytes ≡ s.length → P x) → ((why : Refusal) → P (refuse why s u t)) → P (lent s u t bytes x)
  lent_cases P x granted refused =
      picked P (bad_shape s (length u) (length t)) (refuse BadShape s u t) _ (λ b. refused BadShape)
      (λ b. picked P (eqb bytes s.length) x (refuse InvalidArgument s u t) (λ e. granted (eqb-true bytes s.length e)) (λ e. refused InvalidArgument))

  pub alloc_lent : (size : ℕ) → bytes ≡ s.length → lent_step s u t bytes (alloc size) ≡ alloc_turn s u t size
  unfolding alloc_turn
  alloc_lent size e = lent_granted _ e

  pub release_lent : (a : ℕ) → bytes ≡ s.length → lent_step s u t bytes (release a) ≡ release_turn s u t a
  unfolding release_turn
  release_lent a e = lent_granted _ e

  pub reset_lent : (hard : Bool) → bytes ≡ s.length → lent s u t bytes (reset_turn s u t hard) ≡ reset_turn s u t hard
  unfolding reset_turn
  reset_lent hard e = lent_granted _ e

  pub shrink_lent : (a size : ℕ) → bytes ≡ s.length → lent_step s u t bytes (shrink a size) ≡ shrink_turn s u t a size
  unfolding shrink_turn
  shrink_lent a size e = go (eqb size 0)
    where
      go : (b : Bool) → let x = pick b (release_turn s u t a) (pick (bad_shape s (length u) (length t)) (refuse BadShape s u t) (pick (eqb a 0) (refuse InvalidArgument s u t) (shrink_found s u t a size (lookup s a)))) in lent s u t bytes x ≡ x
      go true = release_lent a e
      go false = lent_granted _ e

-- ---- what it fills
module _ (s : State) (u t : List ℕ) where
  abbrev In : List Span → Type 0
  In xs = AllInArena s.arena s.length xs

  alloc_inside : Sized s → (size : ℕ) → In (made s.count (alloc_turn s u t size).state)
  alloc_inside z size = alloc_cases P s u t size
      (λ why early cond g. none s (le_refl s.count)) (λ bytes k miss short g. none (search_for s u bytes).state (few bytes))
      (λ bytes j i k e g. none (alloc_marked (search_for s u bytes).state u t j i (units_for s bytes)).state (few bytes))
      (λ bytes at slot k miss p g.
      let r = (search_for s u bytes).state in
      let x = alloc_made r u t (pool_for s bytes) (units_for s bytes) (new_size r (pool_for s bytes) bytes) at slot in
      let o = search_other s u (pool_for s bytes) (units_for s bytes) in
      subst₂ (λ (base n : ℕ). AllInArena base n (made s.count x.state)) (ap (λ (y : State). y.arena) o) (ap (λ (y : State). y.length) o)
      (made_inside x.state (length x.used) (length x.stop) (shaped_is x.state (length x.used) (length x.stop) (g k.good)) s.count))
      (λ good. closed_other s u t (alloc size) z good (λ f. f))
    where
      P : Turn → Type 0
      P x = (good_shape s (length u) (length t) ≡ true → Good x) → In (made s.count x.state)

      none : (r : State) → r.count ≤ s.count → In (made s.count r)
      none r h = subst In (sym (made_none s.count r h)) tt

      few : (bytes : ℕ) → (search_for s u bytes).state.count ≤ s.count
      few bytes = omega (arith, search_count s u bytes)

  -- a released span
  release_inside : (a : ℕ) → In (freed (release_turn s u t a).answer)
  release_inside a =
      release_cases (λ (x : Turn). In (freed x.answer)) s u t a (λ why cond. tt)
      (λ j i e k. subst (λ (x : Answer). In (freed x)) (sym (freed_answer s u t a j i e)) (span_inside s u t a j i e k.holds, tt))

  -- a query shows the span that stands there
  shows : (a j i e : ℕ) → Holds s u t a j i e → (query_turn s u t a).answer ≡ Shown (span a (bytes_of (e - i) (unit_of s (block_at s j))))
  unfolding query_turn
  shows a j i e h = rw (h.good, ← h.found, h.held)

  cut_inside : (a j i e n : ℕ) → Holds s u t a j i e → n ≤ e - i → In (tail_of (span a (bytes_of n (unit_of s (block_at s j)))) (query_turn s u t a).answer)
  cut_inside a j i e n h l =
      subst (λ (x : Answer). In (tail_of (span a (bytes_of n (unit_of s (block_at s j)))) x)) (sym (shows a j i e h)) (tail_inside s u t a j i e h n l, tt)

  shrink_inside : (a size : ℕ) → let x = (shrink_turn s u t a size).answer in In (freed x ++ cut_off (query_turn s u t a).answer x)
  shrink_inside a size =
      shrink_cases P s u t a size (λ why cond. tt)
      (λ none. release_cases P s u t a (λ why cond. tt) (λ j i e k. subst (λ (x : Answer). In (freed x ++ cut_off was x)) (sym (freed_answer s u t a j i e)) (span_inside s u t a j i e k.holds, tt)))
      (λ j i e n h q. cut_inside a j i e n h (omega (arith, q)))
      (λ j i e n k. cut_inside a j i e n k.holds (omega (arith, k.less)))
    where
      was : Answer
      was = (query_turn s u t a).answer

      P : Turn → Type 0
      P x = In (freed x.answer ++ cut_off was x.answer)

  -- a reset leaves no bad shape
  reset_closed : Sized s → (hard : Bool) → good_shape s (length u) (length t) ≡ true → Good (reset_turn s u t hard)
  reset_closed z true good = closed_other s u t hard_reset z good (λ f. f)
  reset_closed z false good = closed_other s u t soft_reset z good (λ f. f)

  reset_inside : Sized s → (hard : Bool) → In (kept_bytes (reset_turn s u t hard).state (reset_turn s u t hard).answer)
  reset_inside z hard =
      reset_cases P s u t hard (λ bad g. tt) (λ good g. all (empty_table s) refl refl (g good))
      (λ good off g. all (kept s s.count) (ap (λ (y : State). y.arena) (kept_other s s.count)) (ap (λ (y : State). y.length) (kept_other s s.count)) (g good))
      (reset_closed z hard)
    where
      cleared : List ℕ → List ℕ
      cleared ws = clear_blocks s s.count ws

      P : Turn → Type 0
      P x = (good_shape s (length u) (length t) ≡ true → Good x) → In (kept_bytes x.state x.answer)

      all : (r : State) → r.arena ≡ s.arena → r.length ≡ s.length → good_shape r (length (cleared u)) (length (cleared t)) ≡ true → In (blocks_up_to r r.count)
      all r a n g =
          subst₂ (λ (base k : ℕ). AllInArena base k (blocks_up_to r r.count)) a n
          (blocks_inside r (length (cleared u)) (length (cleared t)) (shaped_is r (length (cleared u)) (length (cleared t)) g) r.count (le_refl r.count))

  pub unused_inside : Sized s → (c : Call) → In (unused s u t c (step s u t c))
  unused_inside z (create a) = tt
  unused_inside z (alloc size) = alloc_inside z size
  unused_inside z (release a) = release_inside a
  unused_inside z (shrink a size) = shrink_inside a size
  unused_inside z (query a) = tt
  unused_inside z soft_reset = reset_inside z false
  unused_inside z hard_reset = reset_inside z true

  -- for the functions: what a fill asks, of a turn that is the call's
  pub asks : Sized s → (c : Call) (x : Turn) → x ≡ step s u t c → (n : ℕ) → n ≡ s.length → AllInArena s.arena n (unused s u t c x)
  asks z c x e n l = subst₂ (λ (k : ℕ) (y : Turn). AllInArena s.arena k (unused s u t c y)) (sym l) (sym e) (unused_inside z c)

  -- of the two fills of a shrink
  pub shrink_asks : Sized s → (a size : ℕ) (was : Answer) → was ≡ (query_turn s u t a).answer → (x : Turn) → x ≡ shrink_turn s u t a size → (n : ℕ) → n ≡ s.length
      → AllInArena s.arena n (freed x.answer) × AllInArena s.arena n (cut_off was x.answer)
  shrink_asks z a size was q x e n l =
      within-append s.arena n (freed x.answer) (cut_off was x.answer)
      (subst (λ (w : Answer). AllInArena s.arena n (freed x.answer ++ cut_off w x.answer)) (sym q) (asks z (shrink a size) x e n l))

  -- a call that is refused before it is made fills nothing
  pub unused_refused : (c : Call) (why : Refusal) → unused s u t c (refuse why s u t) ≡ []
  unused_refused (create a) why = refl
  unused_refused (alloc size) why = made_none s.count s (le_refl s.count)
  unused_refused (release a) why = refl
  unused_refused (shrink a size) why = refl
  unused_refused (query a) why = refl
  unused_refused soft_reset why = refl
  unused_refused hard_reset why = refl

  -- a hard reset keeps no block
  pub hard_none : kept_bytes (reset_turn s u t true).state (reset_turn s u t true).answer ≡ []
  unfolding reset_turn
  hard_none =
      picked (λ (x : Turn). kept_bytes x.state x.answer ≡ []) (bad_shape s (length u) (length t)) (refuse BadShape s u t) _ (λ e. refl) (λ e. blocks_none (empty_table s))

  module _ (bytes : ℕ) (ne : bytes ≡ s.length → ⊥) where
    -- so with an image of another length every call is refused, and fills nothing
    pub refused_turn : (r : Outcome) → r ≡ refusal s (pick (bad_shape s (length u) (length t)) BadShape InvalidArgument)
        → (c : Call) → turn r.answer r.state u t ≡ lent_step s u t bytes c
    refused_turn r e c = ap (λ (o : Outcome). turn o.answer o.state u t) e ∙ sym (lent_refused s u t bytes (step s u t c) ne)

    pub refused_none : (c : Call) → unused s u t c (lent_step s u t bytes c) ≡ []
    refused_none c = ap (unused s u t c) (lent_refused s u t bytes (step s u t c) ne) ∙ unused_refused c (pick (bad_shape s (length u) (length t)) BadShape InvalidArgument)

  -- nor does one that is refused at all
  refused_made : (size : ℕ) (why : Refusal) → (alloc_turn s u t size).answer ≡ Refused why → made s.count (alloc_turn s u t size).state ≡ []
  refused_made size why =
      alloc_cases (λ (x : Turn). x.answer ≡ Refused why → made s.count x.state ≡ []) s u t size
      (λ w early cond e. unused_refused (alloc size) w) (λ bytes k miss short e. made_none s.count (search_for s u bytes).state (omega (arith, search_count s u bytes)))
      (λ bytes j i k h e. absurd (let no : ◌≡◌ {A = ℕ} 0 1 = cc in omega arith))
      (λ bytes at slot k miss h e. absurd (let no : ◌≡◌ {A = ℕ} 0 1 = cc in omega arith))

  step_refused : (c : Call) (why : Refusal) → (step s u t c).answer ≡ Refused why → unused s u t c (step s u t c) ≡ []
  step_refused (create a) why e = refl
  step_refused (alloc size) why e = refused_made size why e
  step_refused (release a) why e = ap freed e
  step_refused (shrink a size) why e = ap (λ (x : Answer). freed x ++ cut_off (query_turn s u t a).answer x) e
  step_refused (query a) why e = refl
  step_refused soft_reset why e = ap (kept_bytes (reset_turn s u t false).state) e
  step_refused hard_reset why e = ap (kept_bytes (reset_turn s u t true).state) e

-- ---- the image afterwards
module _ (s : State) (u t : List ℕ) (pattern : ℕ) (image : List ℕ) where
  -- ---- which bytes stay
  abbrev after : Call → List ℕ
  after c = image_after s u t pattern image c

  -- a refusal fills nothing
  pub refusal_fills_none : (c : Call) (why : Refusal) → (lent_step s u t (length image) c).answer ≡ Refused why → after c ≡ image
  refusal_fills_none c why e = ap (filled_image s.arena pattern image) (none e) ∙ filled_none s.arena pattern image
    where
      none : (lent_step s u t (length image) c).answer ≡ Refused why → unused s u t c (lent_step s u t (length image) c) ≡ []
      none =
          lent_cases s u t (length image) (λ (x : Turn). x.answer ≡ Refused why → unused s u t c x ≡ []) (step s u t c) (λ l. step_refused s u t c why)
          (λ w e. unused_refused s u t c w)

  -- a byte that is in none of the spans that a call fills stays
  pub others_stay : Sized s → (c : Call) (k : ℕ) → s.arena ≤ k → Outside k (unused s u t c (lent_step s u t (length image) c))
      → get_or (after c) (k - s.arena) 0 ≡ get_or image (k - s.arena) 0
  others_stay z c k low =
      lent_cases s u t (length image)
      (λ (x : Turn). Outside k (unused s u t c x) → get_or (filled_image s.arena pattern image (unused s u t c x)) (k - s.arena) 0 ≡ get_or image (k - s.arena) 0) (step s u t c)
      (λ l. filled_stays s.arena pattern s.length k image (unused s u t c (step s u t c)) (unused_inside s u t z c) low)
      (λ why o.
      ap (λ (xs : List Span). get_or (filled_image s.arena pattern image xs) (k - s.arena) 0) (unused_refused s u t c why)
      ∙ ap (λ (y : List ℕ). get_or y (k - s.arena) 0) (filled_none s.arena pattern image))

  -- a hard reset fills none
  pub hard_fills_none : (x : Turn) → x ≡ reset_turn s u t true → image ≡ filled_image s.arena pattern image (unused s u t hard_reset x)
  hard_fills_none x e =
      sym (filled_none s.arena pattern image)
      ∙ ap (filled_image s.arena pattern image) (sym (ap (λ (y : Turn). kept_bytes y.state y.answer) e ∙ hard_none s u t))

-- ---- the table has room for what is made or kept
module _ (s : State) (u t : List ℕ) where
  pub made_few : Sized s → (size : ℕ) → s.count < (alloc_turn s u t size).state.count → s.count < 64
  made_few z size = alloc_cases P s u t size
      (λ why early cond g h. absurd (omega (arith, h))) (λ bytes k miss short g h. absurd (omega (arith, h, search_count s u bytes)))
      (λ bytes j i k e g h. absurd (omega (arith, h, search_count s u bytes)))
      (λ bytes at slot k miss p g h.
      let r = (search_for s u bytes).state in
      let x = alloc_made r u t (pool_for s bytes) (units_for s bytes) (new_size r (pool_for s bytes) bytes) at slot in
      omega (arith, h, count_64 x.state (length x.used) (length x.stop) (shaped_is x.state (length x.used) (length x.stop) (g k.good))))
      (λ good. closed_other s u t (alloc size) z good (λ f. f))
    where
      P : Turn → Type 0
      P x = (good_shape s (length u) (length t) ≡ true → Good x) → s.count < x.state.count → s.count < 64

  pub kept_few : Sized s → (hard : Bool) → (reset_turn s u t hard).answer ≡ Reset → (reset_turn s u t hard).state.count ≤ 64
  kept_few z hard =
      reset_cases P s u t hard (λ bad g e. let no : ◌≡◌ {A = ℕ} 0 1 = cc in absurd (omega arith)) (λ good g e. few (empty_table s) (g good))
      (λ good off g e. few (kept s s.count) (g good)) (reset_closed s u t z hard)
    where
      P : Turn → Type 0
      P x = (good_shape s (length u) (length t) ≡ true → Good x) → x.answer ≡ Reset → x.state.count ≤ 64

      few : (r : State) → good_shape r (length (clear_blocks s s.count u)) (length (clear_blocks s s.count t)) ≡ true → r.count ≤ 64
      few r g =
          count_64 r (length (clear_blocks s s.count u)) (length (clear_blocks s s.count t))
          (shaped_is r (length (clear_blocks s s.count u)) (length (clear_blocks s s.count t)) g)

-- for the function `shrink`, whose two fills come one after the other
pub ruleset cut_lent = (shrink_lent, filled-append)
