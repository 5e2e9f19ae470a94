-- What a call without an image leaves of a live span: no more bytes than before, and none of them unused. Assumes nothing.
use Prim.Native.Nat.{ℕ, ◌+◌, ◌-◌, ◌≤◌, ◌<◌}
use mathlib.Core.Bool.{Bool, true, false}
use mathlib.Core.List.{List, [], ◌∷◌, ◌++◌}
use mathlib.Core.Logic.{◌⊎◌, inl, inr, ⊎_elim}
use mathlib.Core.Path.{◌≡◌, refl, sym, ap, subst, ◌∙◌}
use native.Mathlib.Omega.{arith}
use Rattle.numbers.specs.Units.{units_of, bytes_of}
use Rattle.numbers.proofs.Split.{by_eq}
use Rattle.sizes.specs.Pools.{pool_of}
use Rattle.state.specs.declared.State.{State}
use Rattle.state.specs.declared.Span.{Span}
use Rattle.state.specs.declared.Refusal.{Refusal}
use Rattle.state.specs.declared.Answer.{Answer}
use Rattle.state.specs.declared.Answer.TheVariants.{Granted, Released, Shrunk, Shown, Refused}
use Rattle.machine.specs.Turn.{Turn, span}
use Rattle.machine.specs.Alloc.{units_for, search_for, alloc_marked}
use Rattle.machine.specs.Release.{release_turn}
use Rattle.machine.specs.Span.{query_turn}
use Rattle.machine.specs.Reset.{reset_turn}
use Rattle.machine.specs.Machine.{Call, create, alloc, release, shrink, query, soft_reset, hard_reset, step}
use Rattle.machine.proofs.Cases.{Seeks, search_count, create_cases, query_cases, reset_cases, alloc_cases}
use Rattle.ledger.specs.Ledger.{enter, strike, In}
use Rattle.ledger.specs.Reached.{Reached}
use Rattle.ledger.proofs.Reached.{Known, reached_known}
use Rattle.demands.specs.Apart.{Apart}
use Rattle.demands.specs.Alloc.{Made, Goes}
use Rattle.demands.proofs.Spans.{spans_lie_apart, span_in_one_block, one_entry}
use Rattle.demands.proofs.Seen.{alloc_enters}
use Rattle.demands.proofs.First.{alloc_goes}
use Rattle.demands.proofs.Answers.{unknown, GivenBack, zero_address, no_block, no_span, struck, given_back, CutDown, too_many, shortened, cut_down}
use Rattle.demands.proofs.Addresses.{release_strikes, shrink_to_none, query_shows}
use Rattle.filling.specs.Unused.{made, freed, tail_of, cut_off, kept_bytes, unused}
use Rattle.filling.specs.InArena.{Outside}
use Rattle.filling.proofs.Unused.{made-one, made_none}
use Rattle.intact.proofs.New.{made_beside}

-- two entries at two addresses of a list that is apart
pub two_apart : (l : List Span) → Apart l → (a z b y : ℕ) → (a ≡ b → ⊥) → In a z l → In b y l → (a + z ≤ b) ⊎ (b + y ≤ a)
two_apart [] p a z b y ne m n = absurd m
two_apart (x ∷ l) p a z b y ne (inl e) (inl f) = absurd (ne (sym e.0 ∙ f.0))
two_apart (x ∷ l) p a z b y ne (inl e) (inr n) = ⊎_elim (λ c. inl (omega (arith, e.0, e.1))) (λ c. inr (omega (arith, e.0))) (p.0 b y n)
two_apart (x ∷ l) p a z b y ne (inr m) (inl f) = ⊎_elim (λ c. inr (omega (arith, f.0, f.1))) (λ c. inl (omega (arith, f.0))) (p.0 a z m)
two_apart (x ∷ l) p a z b y ne (inr m) (inr n) = two_apart l p.1 a z b y ne m n

-- of the span that has z' bytes before the call and z after it, and of its byte k
abbrev pub Kept : ℕ → ℕ → ℕ → List Span → Type 0
Kept z z' k xs = (z ≤ z') × Outside k xs

module _ {s : State} {u t : List ℕ} {l : List Span} (r : Reached s u t l) (a z z' k : ℕ) (was : In a z' l) (low : a ≤ k) (high : k < a + z) where
  abbrev known_state : Known s u t l
  known_state = reached_known r

  -- the entry is as it was
  same : (xs : List Span) → Outside k xs → In a z l → Kept z z' k xs
  same xs o m = (omega (arith, one_entry r a z z' m was), o)

  -- a byte of it is none of another entry's
  apart_from : (b y : ℕ) → (a ≡ b → ⊥) → In a z l → In b y l → (k < b) ⊎ (b + y ≤ k)
  apart_from b y ne m n = ⊎_elim (λ c. inl (omega (arith, c))) (λ c. inr (omega (arith, c))) (two_apart l (spans_lie_apart r) a z b y ne m n)

  -- ---- an allocation enters a new address
  entered : (size : ℕ) (y : Span) → (step s u t (alloc size)).answer ≡ Granted y → In a z (y ∷ l) → In a z l
  entered size y e (inl f) = absurd ((alloc_enters r size y.address y.size e).1 z' (subst (λ (b : ℕ). In b z' l) (sym f.0) was))
  entered size y e (inr m) = m

  abbrev Alloc : Turn → Type 0
  Alloc x = In a z (enter x.answer l) → Kept z z' k (made s.count x.state)

  none : (x : State) → x.count ≡ s.count → Outside k (made s.count x)
  none x e = subst (Outside k) (sym (made_none s.count x (omega (arith, e)))) tt

  no_block_made : (x : State) → x.count ≡ s.count → In a z l → Kept z z' k (made s.count x)
  no_block_made x e = same (made s.count x) (none x e)

  -- a new block has no byte of it
  new : (p n bytes : ℕ) (x : Turn) → Made s p n bytes x → In a z l → Outside k (made s.count x.state)
  new p n bytes x m e =
      let y = span_in_one_block r a z e in
      let b = made_beside s p n bytes x m y.0 y.1.stands in
      subst (Outside k) (sym (made-one s.count x.state (omega (arith, m.count))))
      (⊎_elim (λ c. inl (omega (arith, c, y.1.high))) (λ c. inr (omega (arith, c, y.1.low))) b, tt)

  alloc_kept : (size : ℕ) → Alloc (step s u t (alloc size))
  alloc_kept size =
      alloc_cases (λ (x : Turn). step s u t (alloc size) ≡ x → Alloc (step s u t (alloc size))) s u t size
      (λ why early cond turned. subst Alloc (sym turned) (no_block_made s refl))
      (λ b q miss short turned. subst Alloc (sym turned) (no_block_made (search_for s u b).state (search_count s u b)))
      (λ b j i q e turned.
      subst Alloc (sym turned)
      (λ m. no_block_made (alloc_marked (search_for s u b).state u t j i (units_for s b)).state (search_count s u b) (entered size _ (ap (λ (x : Turn). x.answer) turned) m)))
      (λ b at slot q miss p turned m.
      let is = ap (λ (x : Turn). x.answer) turned in
      let old = entered size _ is (subst (λ (c : Answer). In a z (enter c l)) is m) in
      same (made s.count (step s u t (alloc size)).state) (into b q is old (alloc_goes r size b q.is)) old)
      refl
    where
      into : (b : ℕ) → Seeks s u t size b → {y : Span} → (step s u t (alloc size)).answer ≡ Granted y → In a z l
          → Goes s u (pool_of b s.granularity s.poolcount) (units_of b s.granularity) b (step s u t (alloc size)) → Outside k (made s.count (step s u t (alloc size)).state)
      into b q is old (inl y) = none (step s u t (alloc size)).state y.count
      into b q is old (inr (f, inl y)) = new (pool_of b s.granularity s.poolcount) (units_of b s.granularity) b (step s u t (alloc size)) y old
      into b q is old (inr (f, inr y)) = absurd (let z : ◌≡◌ {A = ℕ} 0 1 = cc in omega arith)

  -- ---- a release
  -- the entries after it are others
  left : (b : ℕ) → In a z (strike b l) → (a ≡ b → ⊥) × In a z l
  left b = (release_strikes r b a z).0

  -- whatever counts as unused after a refusal and after a release: nothing, and the span
  struck_kept : (F : Answer → List Span) → ((why : Refusal) → F (Refused why) ≡ []) → ((y : Span) → F (Released y) ≡ y ∷ [])
      → (b : ℕ) (c : Answer) → c ≡ (release_turn s u t b).answer → In a z (enter c l) → Kept z z' k (F c)
  struck_kept F refuses frees b c is = go (given_back known_state b)
    where
      P : Answer → Type 0
      P d = In a z (enter d l) → Kept z z' k (F d)

      stays : (why : Refusal) → (release_turn s u t b).answer ≡ Refused why → P c
      stays why e = subst P (sym (is ∙ e)) (same (F (Refused why)) (subst (Outside k) (sym (refuses why)) tt))

      go : GivenBack s u t l b → P c
      go (zero_address p vacant e) = stays _ e
      go (no_block p h vacant e) = stays _ e
      go (no_span p h vacant e) = stays _ e
      go (struck p y h n e) =
          subst P (sym (is ∙ e)) (λ m. let o = left b m in same (F (Released (span b y))) (subst (Outside k) (sym (frees (span b y))) (apart_from b y o.0 o.1 n, tt)) o.1)

  -- ---- a shrink
  shrink_kept : (b size : ℕ) → let x = step s u t (shrink b size) in In a z (enter x.answer l) → Kept z z' k (freed x.answer ++ cut_off (query_turn s u t b).answer x.answer)
  shrink_kept b size = by_eq size 0 gone (λ ne. go (cut_down known_state b size ne))
    where
      shown : Answer
      shown = (query_turn s u t b).answer

      P : Answer → Type 0
      P c = In a z (enter c l) → Kept z z' k (freed c ++ cut_off shown c)

      gone : size ≡ 0 → P (step s u t (shrink b size)).answer
      gone e =
          struck_kept (λ c. freed c ++ cut_off shown c) (λ why. refl) (λ y. refl) b (step s u t (shrink b size)).answer
          (ap (λ (n : ℕ). (step s u t (shrink b n)).answer) e ∙ ap (λ (y : Turn). y.answer) (shrink_to_none r b))

      go : CutDown s u t l b size → P (step s u t (shrink b size)).answer
      go (unknown vacant e) = subst P (sym e) (same [] tt)
      go (too_many y n h e) = subst P (sym e) (same [] tt)
      go (shortened y n h e) = subst P (sym e) (cut ((query_shows r b y).1 n))
        where
          kept : ℕ
          kept = bytes_of (units_of size s.granularity) s.granularity

          cut : shown ≡ Shown (span b y) → P (Shrunk (span b kept))
          cut q =
              subst (λ (c : Answer). In a z (span b kept ∷ strike b l) → Kept z z' k (tail_of (span b kept) c)) (sym q)
              (λ m.
              ⊎_elim
              (λ f. (omega (arith, f.1, h, one_entry r a y z' (subst (λ (c : ℕ). In c y l) f.0 n) was), (inl (omega (arith, f.0, f.1)), tt)))
              (λ f.
              let o = left b f in
              same (span (b + kept) (y - kept) ∷ []) (⊎_elim (λ c. inl (omega (arith, c))) (λ c. inr (omega (arith, c, h))) (apart_from b y o.0 o.1 n), tt) o.1) m)

  reset_kept : (hard : Bool) → let x = reset_turn s u t hard in In a z (enter x.answer l) → Kept z z' k (kept_bytes x.state x.answer)
  reset_kept hard =
      reset_cases (λ (x : Turn). In a z (enter x.answer l) → Kept z z' k (kept_bytes x.state x.answer)) s u t hard (λ bad. same [] tt) (λ e m. absurd m) (λ e i m. absurd m)

  -- ---- any call
  pub call_kept : (c : Call) → let x = step s u t c in In a z (enter x.answer l) → Kept z z' k (unused s u t c x)
  call_kept (create q) = create_cases (λ (x : Turn). In a z (enter x.answer l) → Kept z z' k []) s u t q (λ e. same [] tt) (λ e m. absurd m)
  call_kept (alloc size) = alloc_kept size
  call_kept (release b) = struck_kept freed (λ why. refl) (λ y. refl) b (step s u t (release b)).answer refl
  call_kept (shrink b size) = shrink_kept b size
  call_kept (query b) = query_cases (λ (x : Turn). In a z (enter x.answer l) → Kept z z' k []) s u t b (λ why cond. same [] tt) (λ j i e h. same [] tt)
  call_kept soft_reset = reset_kept false
  call_kept hard_reset = reset_kept true
