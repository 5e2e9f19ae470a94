-- Demand 2: an allocation goes to the first block of its pool that has a place, at its lowest; and a new block is made, or refusal 4 given, exactly if
-- none has. Assumes nothing.
use Rattle.std.specs.Prelude.{Option, Some, None}
use Prim.Native.Nat.{ℕ, ◌+◌, ◌*◌, ◌<◌}
use mathlib.Core.List.{List}
use mathlib.Core.Logic.{inl, inr, ◌↔◌}
use mathlib.Core.Path.{◌≡◌, refl, sym, ap, ap₂, subst, ◌∙◌}
use native.Mathlib.Omega.{arith}
use lib.ListN.{length}
use Rattle.std.specs.Prelude.{None}
use Rattle.numbers.specs.Units.{units_of}
use Rattle.numbers.proofs.Bools.{not_both}
use Rattle.block.specs.declared.Block.{Block}
use Rattle.sizes.specs.declared.SizeError.{SizeError}
use Rattle.std.specs.declared.result.Result.{Result}
use Rattle.std.specs.declared.result.Result.TheVariants.{Ok}
use Rattle.sizes.specs.Pools.{pool_of}
use Rattle.sizes.specs.Sizes.{rounded, ideal_size}
use Rattle.sizes.proofs.Pools.{pool_below}
use Rattle.sizes.proofs.Sizes.{rounded_is}
use Rattle.state.specs.declared.State.{State}
use Rattle.state.specs.declared.Span.{Span}
use Rattle.state.specs.declared.Refusal.{Refusal}
use Rattle.state.specs.declared.Refusal.TheVariants.{InvalidArgument, TooLarge, InvalidState, NoMapping, BadShape, Damaged}
use Rattle.state.specs.declared.Answer.{Answer}
use Rattle.state.specs.declared.Answer.TheVariants.{Granted, Refused}
use Rattle.state.specs.Table.{block_at, pool_at}
use Rattle.state.specs.Shape.{good_shape}
use Rattle.state.specs.Find.{lowest_slot, lowest_place}
use Rattle.shape_facts.proofs.Facts.{unit_g, pool_3}
use Rattle.shape_facts.proofs.Search.{Left, Place as PlaceIn}
use Rattle.shape_facts.proofs.Pool.{whole, units_kept}
use Rattle.machine.specs.Turn.{Turn, span, unit_of}
use Rattle.machine.specs.Alloc.{pool_for, units_for, search_for, new_size, alloc_marked, alloc_made, hit_at}
use Rattle.state.specs.Outcome.{number}
use Rattle.machine.specs.Machine.{alloc, step}
use Rattle.machine.specs.When.{When}
use Rattle.machine.proofs.Searched.{search_other, search_slot, search_place, search_newest}
use Rattle.machine.proofs.Cases.{Seeks, Places, Short, alloc_cases}
use Rattle.shape_kept.proofs.Sized.{sized_search}
use Rattle.shape_kept.proofs.Request.{seeks_some, seeks_pool, seeks_ready}
use Rattle.ledger.specs.First.{First, FirstFrom}
use Rattle.ledger.specs.Reached.{Reached}
use Rattle.ledger.proofs.Search.{Combed}
use Rattle.ledger.proofs.Finds.{shaped}
use Rattle.ledger.proofs.Made.{made_answer, made_lies}
use Rattle.ledger.proofs.Step.{combed, left}
use Rattle.ledger.proofs.Reached.{Known, reached_known}
use Rattle.demands.specs.Alloc.{Taken, words_for, Made, CannotMake, Goes}

pub two_sizes : (x : Result ℕ SizeError) (a b : ℕ) → x ≡ Ok a → x ≡ Ok b → a ≡ b
two_sizes x a b p q = cc

module _ {s : State} {u t : List ℕ} {l : List Span} (k : Known s u t l) (size bytes : ℕ) (q : Seeks s u t size bytes) where
  abbrev p : ℕ
  p = pool_for s bytes

  abbrev n : ℕ
  n = units_for s bytes

  abbrev r : State
  r = (search_for s u bytes).state

  abbrev cb : Combed u t l p n (seeks_some s u t size bytes q) s 0 (search_for s u bytes)
  cb = combed s u t l k.sound k.sized size bytes q

  abbrev lf : Left u (length t) p n (seeks_some s u t size bytes q) s (search_for s u bytes)
  lf = left s u t l k.sound k.sized size bytes q

  g_same : r.granularity ≡ s.granularity
  g_same = ap (λ (c : State). c.granularity) (search_other s u p n)

  -- the state that the search left finds slot, place and size as before
  size_same : new_size r p bytes ≡ new_size s p bytes
  size_same = ap (λ (m : ℕ). ideal_size m bytes) (search_newest s u p n p)

  slot_same : lowest_slot r ≡ lowest_slot s
  slot_same = search_slot s u p n

  place_same : lowest_place r (new_size r p bytes) ≡ lowest_place s (new_size s p bytes)
  place_same = ap (lowest_place r) size_same ∙ search_place s u p n (new_size s p bytes)

  unit_same : (pool_at r p).granularity ≡ s.granularity
  unit_same = unit_g r (length u) (length t) lf.shaped p (seeks_pool s u t size bytes q) ∙ g_same

  words_same : units_of (units_of (new_size r p bytes) (pool_at r p).granularity) 32 ≡ words_for s p bytes
  words_same = ap₂ (λ (a b : ℕ). units_of (units_of a b) 32) size_same unit_same

  w_same : r.w ≡ s.w
  w_same = ap (λ (c : State). c.w) (search_other s u p n)

  taken : (j i : ℕ) → (search_for s u bytes).hit ≡ hit_at j i → Taken s u p n (alloc_marked r u t j i n)
  taken j i e = record {
    block = j;
    unit = i;
    first = subst (FirstFrom s u p n 0) e cb.first;
    answer =
        let h = (subst (PlaceIn u (length t) p n (seeks_some s u t size bytes q) r) e lf.place).0 in
        let unit : unit_of r (block_at r j) ≡ s.granularity = unit_g r (length u) (length t) lf.shaped (block_at r j).pool (pool_3 r (length u) (length t) lf.shaped j h) ∙ g_same in
        ap₂ (λ (b g : ℕ). Granted (span (b + i * g) (n * g))) (lf.alike j).lies.base unit;
    count = lf.count;
  }

  make : (at slot : ℕ) → Places r p bytes at slot → Made s p n bytes (alloc_made r u t p n (new_size r p bytes) at slot)
  make at slot m =
      let a = seeks_ready s u t size bytes q in
      let pools : r.poolcount ≡ s.poolcount = ap (λ (c : State). c.poolcount) (search_other s u p n) in
      let p_low : p < r.poolcount = omega (arith, pools, pool_below bytes s.granularity s.poolcount a.shaped.head.pools_listed) in
      let fits = units_kept s r lf.pools p p n n bytes refl refl (whole s (length u) (length t) bytes a) in
      let some = seeks_some s u t size bytes q in
      let z = sized_search s k.sized u p n in
      let st = cb.ready.stands in
      let ag = cb.ready.agrees in
      let live = lf.live ∙ k.sound.live in
      let lies = made_lies r u t l lf.shaped z st ag live p n bytes at slot p_low some a.some a.most fits m in
      let last = ap (block_at (alloc_made r u t p n (new_size r p bytes) at slot).state) (sym lf.count) in
      record {
        place = at;
        slot = slot;
        is_lowest_place = sym place_same ∙ sym m.place;
        is_lowest_slot = sym slot_same ∙ sym m.free;
        words = omega (arith, words_same, w_same, m.words);
        answer = made_answer r u t l lf.shaped z st ag live p n bytes at slot p_low some a.some a.most fits m
            ∙ ap (λ (g : ℕ). Granted (span at (n * g))) g_same;
        count = ap (λ (c : ℕ). c + 1) lf.count;
        base_is = ap (λ (b : Block). b.base) last ∙ lies.base;
        size_is = ap (λ (b : Block). b.size) last ∙ lies.size ∙ size_same;
        pool_is = ap (λ (b : Block). b.pool) last ∙ lies.pool;
        slot_is = ap (λ (b : Block). b.slot) last ∙ lies.slot;
      }

  cannot : Short r p bytes → CannotMake s p bytes
  cannot (inl e) = inl (sym place_same ∙ e)
  cannot (inr (inl e)) = inr (inl (sym slot_same ∙ e))
  cannot (inr (inr h)) = inr (inr (omega (arith, words_same, w_same, h)))

  none : (search_for s u bytes).hit ≡ None → First s u p n None
  none e = subst (FirstFrom s u p n 0) e cb.first

-- ---- the statements
module _ {s : State} {u t : List ℕ} {l : List Span} (r : Reached s u t l) (size bytes : ℕ) (rounds : rounded size s.granularity ≡ Ok bytes) where
  abbrev known : Known s u t l
  known = reached_known r

  abbrev pool : ℕ
  pool = pool_of bytes s.granularity s.poolcount

  abbrev units : ℕ
  units = units_of bytes s.granularity

  abbrev after : Turn
  after = step s u t (alloc size)

  seeks : Seeks s u t size bytes
  seeks = record { good = known.sound.shape; is = rounds }

  units_same : units_for s bytes ≡ units
  units_same = ap (units_of bytes) (unit_g s (length u) (length t) (shaped s u t l known.sound known.sized.blocks) pool (seeks_pool s u t size bytes seeks))

  -- where an allocation goes
  pub alloc_goes : Goes s u pool units bytes after
  alloc_goes =
      subst (λ (n : ℕ). Goes s u pool n bytes after) units_same
      (alloc_cases (λ (x : Turn). Goes s u pool (units_for s bytes) bytes x) s u t size (λ why early cond. absurd (accepted why early cond))
      (λ b q miss short. as_asked b q _ (inr (none known size b q miss, inr (refl, cannot known size b q short))))
      (λ b j i q e. as_asked b q _ (inl (taken known size b q j i e)))
      (λ b at slot q miss m. as_asked b q _ (inr (none known size b q miss, inl (make known size b q at slot m)))))
    where
      as_asked : (b : ℕ) → Seeks s u t size b → (x : Turn) → Goes s u (pool_for s b) (units_for s b) b x → Goes s u pool (units_for s bytes) bytes x
      as_asked b q x = subst (λ (b : ℕ). Goes s u (pool_for s b) (units_for s b) b x) (two_sizes (rounded size s.granularity) b bytes q.is rounds)

      accepted : (why : Refusal) → (number why ≡ 4 → ⊥) → When s u t why (alloc size) → ⊥
      accepted InvalidArgument early cond = let a = rounded_is size s.granularity bytes rounds in omega (arith, cond.1)
      accepted TooLarge early cond = let a = rounded_is size s.granularity bytes rounds in omega (arith, cond.1)
      accepted BadShape early bad = not_both (good_shape s (length u) (length t)) known.sound.shape bad
      accepted NoMapping early cond = early refl
      accepted InvalidState early cond = cond
      accepted Damaged early cond = cond

  -- ---- exactly
  some_units : 0 < units
  some_units = subst (λ (n : ℕ). 0 < n) units_same (seeks_some s u t size bytes seeks)

  not_none : Taken s u pool units after → First s u pool units None → ⊥
  not_none y f =
      let q = y.first in
      f y.block (omega arith) q.1 q.2 y.unit q.3.low (omega (arith, q.3.high, some_units)) q.3.high q.3.free

  granted-not : (c : Answer) (y : Span) → c ≡ Granted y → c ≡ Refused NoMapping → ⊥
  granted-not c y p q = let z : ◌≡◌ {A = ℕ} 0 1 = cc in omega arith

  placed-not : (c : Option ℕ) (a : ℕ) → c ≡ Some a → c ≡ None → ⊥
  placed-not c a p q = let z : ◌≡◌ {A = ℕ} 0 1 = cc in omega arith

  slot-not : (c : Option ℕ) (a : ℕ) → c ≡ Some a → c ≡ None → ⊥
  slot-not c a p q = let z : ◌≡◌ {A = ℕ} 0 1 = cc in omega arith

  not_cannot : Made s pool units bytes after → CannotMake s pool bytes → ⊥
  not_cannot y (inl e) = placed-not _ y.place y.is_lowest_place e
  not_cannot y (inr (inl e)) = slot-not _ y.slot y.is_lowest_slot e
  not_cannot y (inr (inr h)) = omega (arith, y.words, h)

  -- refusal 4 exactly if no block of the pool has a place and none can be made
  pub refused_4_exactly : (after.answer ≡ Refused NoMapping) ↔ (First s u pool units None × CannotMake s pool bytes)
  refused_4_exactly = go alloc_goes
    where
      go : Goes s u pool units bytes after → (after.answer ≡ Refused NoMapping) ↔ (First s u pool units None × CannotMake s pool bytes)
      go (inl y) = (λ e. absurd (granted-not _ _ y.answer e), λ c. absurd (not_none y c.0))
      go (inr (f, inl y)) = (λ e. absurd (granted-not _ _ y.answer e), λ c. absurd (not_cannot y c.1))
      go (inr (f, inr y)) = (λ e. (f, y.1), λ c. y.0)

  -- a block is made exactly if no block of the pool has a place and one can be made
  pub made_exactly : Made s pool units bytes after ↔ (First s u pool units None × (CannotMake s pool bytes → ⊥))
  made_exactly = go alloc_goes
    where
      go : Goes s u pool units bytes after → Made s pool units bytes after ↔ (First s u pool units None × (CannotMake s pool bytes → ⊥))
      go (inl y) = (λ m. absurd (omega (arith, m.count, y.count)), λ c. absurd (not_none y c.0))
      go (inr (f, inl y)) = (λ m. (f, not_cannot m), λ c. y)
      go (inr (f, inr y)) = (λ m. absurd (granted-not _ _ m.answer y.0), λ c. absurd (c.1 y.1))

  -- it goes to a standing block exactly if one of the pool has a place
  pub taken_exactly : Taken s u pool units after ↔ (First s u pool units None → ⊥)
  taken_exactly = go alloc_goes
    where
      go : Goes s u pool units bytes after → Taken s u pool units after ↔ (First s u pool units None → ⊥)
      go (inl y) = (λ m. not_none m, λ c. y)
      go (inr (f, inl y)) = (λ m. absurd (omega (arith, m.count, y.count)), λ c. absurd (c f))
      go (inr (f, inr y)) = (λ m. absurd (granted-not _ _ m.answer y.0), λ c. absurd (c f))
