-- An allocation granted and released at once: granted, the ledger is the old one, every earlier block stands with its words, and one empty block is extra,
-- the last, exactly if one was made, its pool kept none empty and immediate release is off. Assumes nothing.
use Prim.Native.Nat.{ℕ, ◌+◌, ◌*◌, ◌<◌}
use mathlib.Core.Bool.{true, false}
use mathlib.Core.List.{List, ◌∷◌}
use mathlib.Core.Logic.{◌⊎◌, inl, inr, ⊎_elim, ◌↔◌}
use mathlib.Core.Path.{◌≡◌, refl, sym, ap, ap₂, subst, ◌∙◌}
use native.Mathlib.Omega.{arith}
use lib.ListN.{length, get_or}
use Rattle.numbers.proofs.Bools.{not_both}
use Rattle.runs.specs.Window.{FreeAt}
use Rattle.slots.specs.Slots.{slot_of}
use Rattle.block.specs.Marking.{marked}
use Rattle.block.proofs.LiesAs.{lies_refl, lies_trans, marked_lies}
use Rattle.std.specs.declared.result.Result.TheVariants.{Ok}
use Rattle.sizes.specs.declared.Pool.{Pool}
use Rattle.sizes.specs.Pools.{pool_of, fresh_pool}
use Rattle.sizes.specs.Sizes.{rounded}
use Rattle.sizes.proofs.Pools.{pool_below}
use Rattle.state.specs.declared.State.{State}
use Rattle.state.specs.declared.Span.{Span}
use Rattle.state.specs.declared.Refusal.{Refusal}
use Rattle.state.specs.declared.Refusal.TheVariants.{NoMapping}
use Rattle.state.specs.declared.Answer.{Answer}
use Rattle.state.specs.declared.Answer.TheVariants.{Created, Granted, Released, Shrunk, Shown, Reset, Refused}
use Rattle.state.specs.Table.{block_at, pool_at}
use Rattle.shape_facts.proofs.Facts.{unit_g, pool_3}
use Rattle.shape_facts.proofs.Search.{Left, Place as PlaceIn}
use Rattle.shape_facts.proofs.Pool.{whole, units_kept}
use Rattle.machine.specs.Turn.{Turn, refuse, span}
use Rattle.machine.specs.Alloc.{pool_for, units_for, search_for, new_size, alloc_marked, alloc_made, hit_at}
use Rattle.machine.specs.Release.{release_units, release_turn}
use Rattle.machine.specs.Machine.{alloc, release, step}
use Rattle.machine.proofs.Searched.{search_other}
use Rattle.machine.proofs.Cases.{Seeks, Places, alloc_cases}
use Rattle.shape_kept.specs.Sized.{Sized}
use Rattle.shape_kept.proofs.After.{put_block_lem}
use Rattle.shape_kept.proofs.Sized.{sized_search}
use Rattle.shape_kept.proofs.Request.{seeks_some, seeks_ready}
use Rattle.ledger.specs.Ledger.{enter}
use Rattle.ledger.specs.First.{FirstFrom}
use Rattle.ledger.specs.Reached.{Reached, called}
use Rattle.ledger.proofs.View.{strike_head}
use Rattle.ledger.proofs.Search.{Combed}
use Rattle.ledger.proofs.Made.{made_answer, made_lies, made_shaped}
use Rattle.ledger.proofs.Step.{combed, left}
use Rattle.ledger.proofs.Reached.{Known, reached_known, step_known}
use Rattle.demands.specs.Back.{AllStood}
use Rattle.demands.proofs.Addresses.{release_grants}
use Rattle.demands.proofs.First.{two_sizes}
use Rattle.demands.proofs.Again.{found_again}
use Rattle.demands.proofs.Restored.{marked_back}
use Rattle.demands.proofs.Unmade.{Outcome, made_back}

-- ---- the span that an answer grants
span_in : Answer → Span
span_in (Granted x) = x
span_in (Released x) = x
span_in (Shrunk x) = x
span_in (Shown x) = x
span_in (Created size g pools) = span 0 0
span_in Reset = span 0 0
span_in (Refused why) = span 0 0

granted_span : (x : Answer) (y w : Span) → x ≡ Granted y → x ≡ Granted w → (y.address ≡ w.address) × (y.size ≡ w.size)
unfolding span_in
granted_span x y w p q =
    let e : y ≡ w = ap span_in (sym p ∙ q) in
    (ap (λ (s : Span). s.address) e, ap (λ (s : Span). s.size) e)

refused-not : (x : Answer) (y : Span) (why : Refusal) → x ≡ Refused why → x ≡ Granted y → ⊥
refused-not x y why p q = let z : ◌≡◌ {A = ℕ} 0 1 = cc in omega arith

-- what a release of a leaves after x
abbrev released : Turn → ℕ → Turn
released x a = release_turn x.state x.used x.stop a

-- ---- how it ends: the earlier blocks stand, and no block is extra, or the last
abbrev Extra : State → ℕ → Turn → Turn → Type 0
Extra s p x y =
    ((y.state.count ≡ s.count) × ((x.state.count ≡ s.count) ⊎ (((pool_at s p).empty ≡ 0 → ⊥) ⊎ (s.immediate ≡ true))))
    ⊎ ((y.state.count ≡ s.count + 1) × ((block_at y.state s.count).used ≡ 0) × (x.state.count ≡ s.count + 1) × ((pool_at s p).empty ≡ 0) × (s.immediate ≡ false))

abbrev Ends : State → List ℕ → List ℕ → ℕ → Turn → Turn → Type 0
Ends s u t p x y = AllStood s u t y × Extra s p x y

module _ {s : State} {u t : List ℕ} {l : List Span} (k : Known s u t l) (size a z bytes : ℕ) (granted : (step s u t (alloc size)).answer ≡ Granted (span a z))
    (q : Seeks s u t size bytes) where
  abbrev p : ℕ
  p = pool_for s bytes

  abbrev n : ℕ
  n = units_for s bytes

  abbrev r : State
  r = (search_for s u bytes).state

  abbrev x : Turn
  x = step s u t (alloc size)

  abbrev pos : 0 < n
  pos = seeks_some s u t size bytes q

  abbrev cb : Combed u t l p n pos s 0 (search_for s u bytes)
  cb = combed s u t l k.sound k.sized size bytes q

  abbrev lf : Left u (length t) p n pos s (search_for s u bytes)
  lf = left s u t l k.sound k.sized size bytes q

  abbrev zr : Sized r
  zr = sized_search s k.sized u p n

  -- with the span entered
  known_after : (y : Turn) → x ≡ y → Known y.state y.used y.stop (span a z ∷ l)
  known_after y e =
      subst (λ (y : Turn). Known y.state y.used y.stop (span a z ∷ l)) e
      (subst (λ (c : Answer). Known x.state x.used x.stop (enter c l)) granted (step_known s u t l k (alloc size)))

  -- what stands as in r stands as in s
  stood_before : (y : Turn) → AllStood r u t y → AllStood s u t y
  stood_before y f i h =
      let e = f i (omega (arith, lf.count)) in
      let w : r.w ≡ s.w = ap (λ (c : State). c.w) (search_other s u p n) in
      let o = (lf.alike i).lies in
      record {
        base = e.base ∙ o.base;
        size = e.size ∙ o.size;
        slot = e.slot ∙ o.slot;
        pool = e.pool ∙ o.pool;
        used = e.used ∙ ap₂ (λ (c d : ℕ). slot_of c d u) w o.slot;
        stop = e.stop ∙ ap₂ (λ (c d : ℕ). slot_of c d t) w o.slot;
      }

  -- ---- marked in a standing block
  hit_ends : (j i : ℕ) → (search_for s u bytes).hit ≡ hit_at j i → x ≡ alloc_marked r u t j i n → Ends s u t p x (released x a)
  hit_ends j i e turned =
      let m = alloc_marked r u t j i n in
      let d = subst (PlaceIn u (length t) p n pos r) e lf.place in
      let h = d.0 in
      let c = subst (FirstFrom s u p n 0) e cb.first in
      let same : slot_of s.w (block_at s j).slot u ≡ slot_of r.w (block_at r j).slot u =
      ap₂ (λ (x y : ℕ). slot_of x y u) (sym (ap (λ (x : State). x.w) (search_other s u p n))) (sym (lf.alike j).lies.slot) in
      let low : j < 64 = omega (arith, h, lf.shaped.head.count_slots, lf.shaped.head.slots_high) in
      let block = lies_trans (lies_refl (put_block_lem r zr j (marked (block_at r j) i (i + n)) low)) (marked_lies (block_at r j) i (i + n)) in
      let unit = unit_g r (length u) (length t) lf.shaped (block_at r j).pool (pool_3 r (length u) (length t) lf.shaped j h) in
      let g = granted_span x.answer _ (span a z) (ap (λ (y : Turn). y.answer) turned) granted in
      let ea : a ≡ (block_at m.state j).base + i * r.granularity = sym g.0 ∙ ap₂ (λ (b c : ℕ). b + i * c) (sym block.base) unit in
      let ez : z ≡ n * r.granularity = sym g.1 ∙ ap (λ (c : ℕ). n * c) unit in
      let again = found_again (known_after m turned) a z j i n (inl (refl, refl)) h (omega (arith, block.area, d.2.high, pos)) ea ez in
      let back = marked_back r u t l lf.shaped zr cb.ready.stands cb.ready.agrees k.used_words k.stop_words j i n a h pos d.2.high (subst (λ (ws : List ℕ). FreeAt ws n i) same c.3.free) in
      let path : released x a ≡ release_units m.state m.used m.stop a j i (i + n) = ap (λ (y : Turn). released y a) turned ∙ again in
      let done : AllStood r u t (released x a) × ((released x a).state.count ≡ r.count) = subst (λ (y : Turn). AllStood r u t y × (y.state.count ≡ r.count)) (sym path) back in
      (stood_before (released x a) done.0, inl (done.1 ∙ lf.count, inl (ap (λ (y : Turn). y.state.count) turned ∙ lf.count)))

  -- ---- in a new block
  made_ends : (place slot : ℕ) → Places r p bytes place slot → x ≡ alloc_made r u t p n (new_size r p bytes) place slot → Ends s u t p x (released x a)
  made_ends place slot o turned =
      let m = alloc_made r u t p n (new_size r p bytes) place slot in
      let d = seeks_ready s u t size bytes q in
      let pools : r.poolcount ≡ s.poolcount = ap (λ (c : State). c.poolcount) (search_other s u p n) in
      let p_low : p < r.poolcount = omega (arith, pools, pool_below bytes s.granularity s.poolcount d.shaped.head.pools_listed) in
      let fits = units_kept s r lf.pools p p n n bytes refl refl (whole s (length u) (length t) bytes d) in
      let st = cb.ready.stands in
      let ag = cb.ready.agrees in
      let live = lf.live ∙ k.sound.live in
      let lies = made_lies r u t l lf.shaped zr st ag live p n bytes place slot p_low pos d.some d.most fits o in
      let shape = made_shaped r u t l lf.shaped zr st ag live p n bytes place slot p_low pos d.some d.most fits o in
      let answer = made_answer r u t l lf.shaped zr st ag live p n bytes place slot p_low pos d.some d.most fits o in
      let g = granted_span x.answer (span place (n * r.granularity)) (span a z) (ap (λ (y : Turn). y.answer) turned ∙ answer) granted in
      let ea : a ≡ (block_at m.state r.count).base + 0 * r.granularity = omega (arith, g.0, lies.base) in
      let again = found_again (known_after m turned) a z r.count 0 n (inl (refl, refl)) (omega arith) (shape.sound r.count (omega arith)).area_low ea (sym g.1) in
      let back = made_back r u t l lf.shaped zr st ag live p n bytes place slot p_low pos d.some d.most fits o a in
      let path : released x a ≡ release_units m.state m.used m.stop a r.count 0 (0 + n) = ap (λ (y : Turn). released y a) turned ∙ again in
      let done = subst (Outcome r u t l lf.shaped zr st ag live p n bytes place slot p_low pos d.some d.most fits o a) (sym path) back in
      let same_pool_lem : (pool_at r p).empty ≡ (pool_at s p).empty = ap (λ (ps : List Pool). (get_or ps p (fresh_pool 0)).empty) lf.pools in
      let same_rule : r.immediate ≡ s.immediate = ap (λ (c : State). c.immediate) (search_other s u p n) in (
        stood_before (released x a) done.0,
        ⊎_elim
            (λ c. inl (c.0 ∙ lf.count, inr (⊎_elim (λ e. inl (λ f. e (same_pool_lem ∙ f))) (λ e. inr (sym same_rule ∙ e)) c.1)))
            (λ c. inr (
              c.0 ∙ ap (λ (i : ℕ). i + 1) lf.count,
              subst (λ (i : ℕ). (block_at (released x a).state i).used ≡ 0) lf.count c.1,
              ap (λ (y : Turn). y.state.count) turned ∙ ap (λ (i : ℕ). i + 1) lf.count,
              sym same_pool_lem ∙ c.2,
              sym same_rule ∙ c.3,
            ))
            done.1,
      )

-- ---- the statements
module _ {s : State} {u t : List ℕ} {l : List Span} (r : Reached s u t l) (size bytes a z : ℕ) (rounds : rounded size s.granularity ≡ Ok bytes)
    (granted : (step s u t (alloc size)).answer ≡ Granted (span a z)) where
  -- the state that the allocation leaves, and the one that the release leaves
  abbrev pub first : Turn
  first = step s u t (alloc size)

  abbrev pub second : Turn
  second = step first.state first.used first.stop (release a)

  abbrev pool : ℕ
  pool = pool_of bytes s.granularity s.poolcount

  entered : Reached first.state first.used first.stop (span a z ∷ l)
  entered = subst (λ (c : Answer). Reached first.state first.used first.stop (enter c l)) granted (called r (alloc size))

  -- the release is granted
  pub back_granted : second.answer ≡ Released (span a z)
  back_granted = (release_grants entered a z).1 (inl (refl, refl))

  -- the ledger is the old one
  pub back_ledger : enter second.answer (enter first.answer l) ≡ l
  back_ledger = ap₂ (λ (c d : Answer). enter c (enter d l)) back_granted granted ∙ strike_head (span a z) l a refl

  ends : Ends s u t pool first second
  ends =
      alloc_cases (λ (x : Turn). first ≡ x → Ends s u t pool first second) s u t size (λ why early cond turned. absurd (not_refused why turned))
      (λ b q miss short turned. absurd (not_refused NoMapping turned))
      (λ b j i q e turned. subst (λ (b : ℕ). Ends s u t (pool_for s b) first second) (same b q) (hit_ends (reached_known r) size a z b granted q j i e turned))
      (λ b place slot q miss o turned. subst (λ (b : ℕ). Ends s u t (pool_for s b) first second) (same b q) (made_ends (reached_known r) size a z b granted q place slot o turned))
      refl
    where
      same : (b : ℕ) → Seeks s u t size b → b ≡ bytes
      same b q = two_sizes (rounded size s.granularity) b bytes q.is rounds

      not_refused : (why : Refusal) {x : State} → first ≡ refuse why x u t → ⊥
      not_refused why turned = refused-not first.answer (span a z) why (ap (λ (y : Turn). y.answer) turned) granted

  -- every earlier block stands, with its words in both maps
  pub back_stood : AllStood s u t second
  back_stood = ends.0

  -- no block is extra, or one, the last, and it is empty
  pub back_one : (second.state.count ≡ s.count) ⊎ ((second.state.count ≡ s.count + 1) × ((block_at second.state s.count).used ≡ 0))
  back_one = ⊎_elim (λ c. inl c.0) (λ c. inr (c.0, c.1)) ends.1

  -- one is, exactly if a block was made, its pool kept none empty, and immediate release is off
  pub back_exactly : (second.state.count ≡ s.count + 1) ↔ ((first.state.count ≡ s.count + 1) × ((pool_at s pool).empty ≡ 0) × (s.immediate ≡ false))
  back_exactly =
      ⊎_elim
      (λ c. (
        λ e. absurd (omega (arith, c.0)),
        λ d. ⊎_elim (λ e. absurd (omega (arith, e, d.0))) (λ e. ⊎_elim (λ f. absurd (f d.1)) (λ f. absurd (not_both s.immediate f d.2)) e) c.1,
      ))
      (λ c. (λ e. (c.2, c.3, c.4), λ d. c.0))
      ends.1
