-- A new block is made for a span, and the span marked in it: the shape stays good. Assumes nothing.
use Rattle.std.specs.Prelude.{Option, Some, None, unwrap_or}
use Prim.Native.Nat.{ℕ, ◌+◌, ◌-◌, ◌*◌, ◌/◌, ◌%◌, ◌≤◌, ◌<◌}
use mathlib.Core.Bool.{true, false, not}
use mathlib.Core.List.{List}
use mathlib.Core.Logic.{◌⊎◌, inl, inr, ⊎_elim}
use mathlib.Core.Path.{◌≡◌, sym, ap, subst, ◌∙◌}
use native.Mathlib.Nat.{mul-mod_left, div-add-mod'}
use native.Mathlib.Omega.{arith}
use borrow.Author.Tests.{eqb-false, not-true}
use lib.Dec.{leb, ltb, eqb}
use Rattle.numbers.specs.Pick.{pick}
use Rattle.numbers.specs.Units.{units_of, bytes_of}
use Rattle.numbers.proofs.Bools.{and_right}
use Rattle.numbers.proofs.Units.{units_exact}
use Rattle.block.specs.declared.Block.{Block}
use Rattle.block.specs.Marking.{fresh, marked}
use Rattle.sizes.specs.declared.Pool.{Pool}
use Rattle.sizes.specs.Limits.{is_granularity}
use Rattle.sizes.proofs.InForce.{granularity_is, granularity_word, base_size_divides, granularity_listed}
use Rattle.sizes.proofs.Sizes.{ideal_words}
use Rattle.state.specs.declared.State.{State}
use Rattle.state.specs.Table.{block_at, age_at, pool_at, all, one}
use Rattle.state.specs.Shape.{is_empty, good_shape}
use Rattle.state.specs.Find.{least, latest, lowest_place, place_at, place_free, placed, clear, newest_size, size_or}
use Rattle.state.specs.Change.{place_of, moved_up, with_blocks, inserted}
use Rattle.state.proofs.Tests.{all_at}
use Rattle.state.proofs.Find.{Least, least_of, Latest, latest_of}
use Rattle.shape.specs.Shaped.{Shaped}
use Rattle.shape.proofs.Address.{Apart, apart_is}
use Rattle.shape_facts.proofs.Facts.{unit_g}
use Rattle.shape_facts.proofs.Room.{slot_is, place_in, room_left}
use Rattle.shape_facts.specs.Ready.{Makeable}
use Rattle.shape_facts.proofs.Pool.{newest_asked, new_ready}
use Rattle.shape_facts.proofs.New.{makeable}
use Rattle.machine.specs.Turn.{put_block, put_pool, with_counts}
use Rattle.machine.specs.Alloc.{new_size, alloc_made}
use Rattle.machine.proofs.Cases.{Places}
use Rattle.shape_kept.specs.Sized.{Sized}
use Rattle.shape_kept.proofs.After.{put_block_lem, put_block_other, put_pool_lem, put_pool_other, inserted_new, inserted_old, inserted_age, inserted_pool, inserted_pool_other}
use Rattle.shape_kept.proofs.Sized.{sized_block, sized_inserted}
use Rattle.shape_kept.proofs.Pools.{Entered, empties_before}
use Rattle.shape_kept.proofs.Enter.{enter_good}
use Rattle.shape_kept.proofs.Records.{Bare, Changed, marked_changed}

-- ---- the place that was found
pub place_found : (s : State) (size at : ℕ) → Some at ≡ lowest_place s size → (k : ℕ) × (at ≡ place_at s k) × (place_free s size k ≡ true)
place_found s size at e = go (least (s.length / 65536) (place_free s size)) (least_of (s.length / 65536) (place_free s size)) e
  where
    go : (r : Option ℕ) → Least 0 (s.length / 65536) (place_free s size) r → Some at ≡ placed s r → (k : ℕ) × (at ≡ place_at s k) × (place_free s size k ≡ true)
    go (Some k) q z = let is : at ≡ place_at s k = cc in (k, is, q.passes)
    go None q z = let z : ◌≡◌ {A = ℕ} 0 1 = cc in absurd (omega arith)

-- a block there shares no byte with a standing one
pub place_apart : (s : State) (b : Block) → Some b.base ≡ lowest_place s b.size → (i : ℕ) → i < s.count → Apart (block_at s i) b
place_apart s b e i l =
    let q = place_found s b.size b.base e in
    let free = and_right (leb (place_at s q.0 + b.size) (s.arena + s.length)) (all s.count (λ x. clear (block_at s x) (place_at s q.0) b.size)) q.2 in
    let here = subst (λ (a : ℕ). all s.count (λ x. clear (block_at s x) a b.size) ≡ true) (sym q.1) free in
    apart_is (block_at s i) b (all_at s.count (λ x. clear (block_at s x) b.base b.size) i here l)

-- ---- 32 units divide a new block's size
module _ (s : State) (v w : ℕ) (f : Shaped s v w) where
  good : is_granularity s.granularity ≡ true
  good = granularity_listed s.granularity f.head.g_listed

  newest_whole : (p : ℕ) → newest_size s p % (32 * s.granularity) ≡ 0
  newest_whole p = go (latest s.count (λ i. eqb (block_at s i).pool p)) (latest_of s.count (λ i. eqb (block_at s i).pool p))
    where
      go : (x : Option ℕ) → Latest s.count (λ i. eqb (block_at s i).pool p) x → size_or s x % (32 * s.granularity) ≡ 0
      go (Some i) q =
          let b = f.sound i q.high in
          let area = (block_at s i).area in
          let whole : area ≡ area / 32 * 32 = omega (arith, b.area_whole) in
          let is : (block_at s i).size ≡ area / 32 * (32 * s.granularity) = sym b.area_size ∙ ap (λ (n : ℕ). n * s.granularity) whole ∙ omega arith in
          ap (λ (n : ℕ). n % (32 * s.granularity)) is ∙ mul-mod_left (area / 32) (32 * s.granularity)
      go None q =
          let r = granularity_is s.granularity good in
          ap (λ (n : ℕ). s.size % n) (granularity_word s.granularity good) ∙ base_size_divides s.size (5 + r.exponent) f.head.size_good (omega (arith, r.high))

  new_whole : (p bytes : ℕ) → bytes ≤ 2147483647 → new_size s p bytes % (32 * s.granularity) ≡ 0
  new_whole p bytes h =
      let r = granularity_is s.granularity good in
      let a = newest_asked s v w p bytes f h in
      ideal_words (newest_size s p) bytes a.0 a.1 a.2 s.granularity (5 + r.exponent) (omega (arith, r.high)) (granularity_word s.granularity good) (newest_whole p)

module _ (s : State) (v w : ℕ) (f : Shaped s v w) (z : Sized s) (p n bytes at slot : ℕ) (p_low : p < s.poolcount) (some : 0 < n)
    (asked : 0 < bytes) (most : bytes ≤ 2147483647) (fits : n * (pool_at s p).granularity ≤ bytes) (k : Places s p bytes at slot) where
  abbrev size : ℕ
  size = new_size s p bytes

  abbrev unit : ℕ
  unit = (pool_at s p).granularity

  abbrev area : ℕ
  area = units_of size unit

  abbrev b : Block
  b = fresh at size p slot area n

  p_3 : p < 3
  p_3 = omega (arith, p_low, f.head.pools_high)

  ready : Makeable s v w b n
  ready = makeable s v w p n size (new_ready s v w p n bytes f p_3 some asked most fits) at slot k.place k.free k.words z.blocks z.order z.pools

  -- ---- its area
  abbrev words : ℕ
  words = size / (32 * s.granularity)

  size_is : size ≡ bytes_of (words * 32) s.granularity
  size_is = omega (arith, div-add-mod' size (32 * s.granularity), new_whole s v w f p bytes most)

  area_is : area ≡ words * 32
  area_is =
      ap (λ (g : ℕ). units_of size g) (unit_g s v w f p p_3) ∙ ap (λ (x : ℕ). units_of x s.granularity) size_is
      ∙ units_exact (words * 32) s.granularity (omega (arith, f.head.g_low))

  bare_new : Bare s b
  bare_new =
      let q = place_found s size at k.place in
      record {
        slot = (slot_is s slot k.free).0;
        pool = p_low;
        base = omega (arith, q.1, f.head.arena_whole);
        area_low = omega (arith, ready.fits);
        area_whole = omega (arith, area_is);
        area_size = ap (λ (x : ℕ). x * s.granularity) area_is ∙ sym size_is;
        area_high = ready.placed.area;
        start = ready.fits;
        end = omega arith;
        largest = omega arith;
        above = omega (arith, q.1);
        below = place_in s size at k.place;
        flags = omega arith;
      }

  abbrev c : Block
  c = marked b 0 (0 + n)

  changed : Changed s b c (0 + (0 + n - 0)) false
  changed = marked_changed s b bare_new 0 (0 + n) (omega arith) (omega (arith, ready.fits)) (omega (arith, ready.fits))

  -- ---- the table with it
  abbrev with : State
  with = inserted s b

  low : s.count < 64
  low = ready.enters.room

  sized_with : Sized with
  sized_with = sized_inserted s z b

  last : block_at with s.count ≡ b
  last = inserted_new s z b low

  abbrev p' : ℕ
  p' = (block_at with s.count).pool

  p_same : p' ≡ p
  p_same = ap (λ (x : Block). x.pool) last

  abbrev c' : Block
  c' = marked (block_at with s.count) 0 (0 + n)

  c_same : c' ≡ c
  c_same = ap (λ (x : Block). marked x 0 (0 + n)) last

  abbrev q' : Pool
  q' = with_counts (pool_at with p') ((pool_at with p').empty - one (is_empty (block_at with s.count))) ((pool_at with p').used + n)

  abbrev after : State
  after = put_pool (put_block with s.count c') p' q'

  -- its pool
  with_pool : pool_at with p' ≡ with_blocks (pool_at s p) ((pool_at s p).blocks + 1) ((pool_at s p).area + area)
  with_pool = ap (pool_at with) p_same ∙ inserted_pool s z b p_3

  after_pool : pool_at after p ≡ q'
  after_pool =
      ap (pool_at after) (sym p_same)
      ∙ put_pool_lem (put_block with s.count c') (sized_block with sized_with s.count c') p' q' (omega (arith, p_same, p_3))

  not_empty : one (is_empty (block_at with s.count)) ≡ 0
  not_empty = ap (λ (x : Block). one (is_empty x)) last

  empty_is : q'.empty ≡ (pool_at s p).empty
  empty_is = omega (arith, ap (λ (x : Pool). x.empty) with_pool, not_empty)

  entered : Entered (pool_at s p) q' c
  entered = record {
    granularity = ap (λ (x : Pool). x.granularity) with_pool;
    blocks = ap (λ (x : Pool). x.blocks) with_pool;
    empty = omega (arith, empty_is, ap one changed.empty_is);
    area = omega (arith, ap (λ (x : Pool). x.area) with_pool, changed.lies.area);
    used = omega (arith, ap (λ (x : Pool). x.used) with_pool, changed.used_is);
  }

  c_pool : c.pool ≡ p
  c_pool = changed.lies.pool

  other : (o : ℕ) → (o ≡ c.pool → ⊥) → pool_at after o ≡ pool_at s o
  other o ne =
      put_pool_other (put_block with s.count c') (sized_block with sized_with s.count c') p' q' o (λ e. ne (e ∙ p_same ∙ sym c_pool))
      ∙ inserted_pool_other s z b o (λ e. ne (e ∙ sym c_pool))

  -- its slot and its bytes
  slot_apart : (i : ℕ) → i < s.count → (block_at s i).slot ≡ c.slot → ⊥
  slot_apart i l e =
      eqb-false (block_at s i).slot slot
      (not-true (eqb (block_at s i).slot slot) (all_at s.count (λ x. not (eqb (block_at s x).slot slot)) i (slot_is s slot k.free).1 l))
      (e ∙ changed.lies.slot)

  bytes_apart : (i : ℕ) → i < s.count → (c.base + c.size ≤ (block_at s i).base) ⊎ ((block_at s i).base + (block_at s i).size ≤ c.base)
  bytes_apart i l =
      ⊎_elim
      (λ h. inr (omega (arith, changed.lies.base)))
      (λ h. inl (omega (arith, changed.lies.base, changed.lies.size)))
      (place_apart s b k.place i l)

  place_same : place_of s b ≡ place_of s c
  place_same = ap (λ (x : ℕ). unwrap_or (least s.count (λ y. ltb x (block_at s (age_at s y)).base)) s.count) (sym changed.lies.base)

  pub make_good : (u t : List ℕ) → good_shape (alloc_made s u t p n size at slot).state v w ≡ true
  make_good u t =
      enter_good s v w f c (s.live + 1) after.blocks after.order after.pools
      (room_left s v w f slot (slot_is s slot k.free).0 (slot_is s slot k.free).1)
      (λ i ne. put_block_other with sized_with s.count c' low i ne ∙ inserted_old s z b i ne)
      (put_block_lem with sized_with s.count c' low ∙ c_same)
      (λ i l. inserted_age s z b i l ∙ ap (λ (x : ℕ). moved_up s.order x s.count i) place_same)
      changed.sound slot_apart bytes_apart
      (subst (λ (o : ℕ). Entered (pool_at s o) (pool_at after o) c) (sym c_pool) (subst (λ (x : Pool). Entered (pool_at s p) x c) (sym after_pool) entered))
      other
      (subst (λ (o : ℕ). (pool_at after o).empty ≤ pick s.immediate 0 1) (sym c_pool)
      (subst (λ (x : Pool). x.empty ≤ pick s.immediate 0 1) (sym after_pool)
      (subst (λ (x : ℕ). x ≤ pick s.immediate 0 1) (sym empty_is) (empties_before s v w f p p_3))))
      (omega (arith, changed.used_is, f.live))
