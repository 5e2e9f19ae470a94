-- A rounded size in its pool: its units, what the search asks and leaves, and a new block's size. Assumes nothing.
use Rattle.std.specs.Prelude.{Option, Some, None}
use Prim.Native.Nat.{ℕ, zero, suc, ◌-◌, ◌*◌, ◌%◌, ◌^◌, ◌≤◌, ◌<◌}
use mathlib.Core.Bool.{Bool, ◌&&◌}
use mathlib.Core.List.{List}
use mathlib.Core.Path.{◌≡◌, refl, ap, ap₂, ◌∙◌}
use native.Mathlib.Nat.{mul-le-mul, div-add-mod'}
use native.Mathlib.Omega.{arith}
use borrow.Author.Tests.{eq-eqb}
use lib.Dec.{eqb}
use lib.ListN.{get_or}
use Rattle.numbers.specs.Units.{units_of}
use Rattle.numbers.proofs.Units.{units_whole}
use Rattle.block.specs.Record.{Placed}
use Rattle.sizes.specs.declared.Pool.{Pool}
use Rattle.sizes.specs.Sizes.{ideal_size}
use Rattle.sizes.specs.Pools.{pool_of, fresh_pool}
use Rattle.sizes.proofs.Pools.{pool_below}
use Rattle.sizes.proofs.Sizes.{ideal_holds, ideal_fits}
use Rattle.state.specs.declared.State.{State}
use Rattle.state.specs.Table.{block_at, pool_at, one}
use Rattle.state.specs.Shape.{is_empty, in_pool}
use Rattle.state.specs.Find.{latest, newest_size, size_or}
use Rattle.state.proofs.Tests.{sum_term}
use Rattle.state.proofs.Find.{Latest, latest_of}
use Rattle.shape.specs.Shaped.{Shaped}
use Rattle.shape_facts.proofs.Facts.{count_64, unit_g, placed}
use Rattle.shape_facts.proofs.Room.{pool_small, live_small}
use Rattle.shape_facts.proofs.Search.{Fits}
use Rattle.shape_facts.specs.Ready.{Markable, Makes, Allocates}

module _ (s : State) (u t bytes : ℕ) (m : Allocates s u t bytes) where
  abbrev f : Shaped s u t
  f = m.shaped

  abbrev p : ℕ
  p = pool_of bytes s.granularity s.poolcount

  abbrev unit : ℕ
  unit = (pool_at s p).granularity

  abbrev n : ℕ
  n = units_of bytes unit

  pub pool_in : p < 3
  pool_in = omega (arith, pool_below bytes s.granularity s.poolcount f.head.pools_listed, f.head.pools_high)

  unit_is : unit ≡ s.granularity
  unit_is = unit_g s u t f p pool_in

  pub unit_some : 64 ≤ unit
  unit_some = omega (arith, unit_is, f.head.g_low)

  pub bytes_in : bytes ≤ (2 ^ 32 - 1) * unit
  bytes_in = omega (arith, m.most, mul-le-mul {n₁ = 2 ^ 32 - 1} {m₁ = 64} {n₂ = 2 ^ 32 - 1} {m₂ = unit} (omega arith) unit_some)

  -- the units are the bytes
  pub whole : n * unit ≡ bytes
  whole =
      let e : bytes % unit ≡ 0 = ap (λ (k : ℕ). bytes % k) unit_is ∙ m.whole in
      ap (λ (k : ℕ). k * unit) (units_whole bytes unit (omega (arith, unit_some)) e) ∙ omega (arith, div-add-mod' bytes unit, e)

  pub some_units : 0 < n
  some_units = positive n unit bytes whole m.some
    where
      positive : (k unit bytes : ℕ) → k * unit ≡ bytes → 0 < bytes → 0 < k
      positive zero unit bytes e h = omega arith
      positive (suc k) unit bytes e h = omega arith

  pub looked_into : (i : ℕ) → i < s.count → Placed (block_at s i) s.w u u
  looked_into i h =
      let q = placed s u t f i h in
      record { words = q.words; room = q.room; stop_room = q.room; area = q.area; used = q.used; start = q.start; end = q.end }

-- ---- what the search leaves is ready for the span
pub hit_ready : (r : State) (u t : ℕ) → Shaped r u t → (j i n : ℕ) → j < r.count → Fits (block_at r j) n i → 0 < n → Markable r u t j i n
hit_ready r u t f j i n h q pos =
    let b = f.sound j h in
    let p = (block_at r j).pool in
    let p3 : p < 3 = omega (arith, b.pool, f.head.pools_high) in
    let small = pool_small r u t f p p3 in
    let term = sum_term r.count (λ k. one (in_pool r p k && is_empty (block_at r k))) j h in
    let own : one (in_pool r p j && is_empty (block_at r j)) ≡ one (is_empty (block_at r j)) = ap (λ (c : Bool). one (c && is_empty (block_at r j))) (eq-eqb p p refl) in
    record {
      age = omega (arith, h, count_64 r u t f);
      placed = placed r u t f j h;
      some = pos;
      fits = q.high;
      room = q.room;
      pool = p3;
      few = omega (arith, b.area_high, f.head.w_high);
      top = omega (arith, ap (λ (k : ℕ). (block_at r j).area * k) (unit_g r u t f p p3), b.area_size, b.below, f.head.top);
      empty = omega (arith, ap (λ (x : Pool). x.empty) (f.pools p p3), term, own);
      used = omega (arith, small.2, q.room, b.area_high, f.head.w_high);
      live = omega (arith, live_small r u t f);
    }

-- ---- the size of a new block
newest_bounds : (r : State) (u t p : ℕ) → Shaped r u t → (0 < newest_size r p) × (newest_size r p ≤ 2 ^ 27)
newest_bounds r u t p f = go (latest r.count (λ i. eqb (block_at r i).pool p)) (latest_of r.count (λ i. eqb (block_at r i).pool p))
  where
    go : (x : Option ℕ) → Latest r.count (λ i. eqb (block_at r i).pool p) x → (0 < size_or r x) × (size_or r x ≤ 2 ^ 27)
    go (Some i) q =
        let b = f.sound i q.high in
        (f.sized i q.high, omega (arith, b.area_size, mul-le-mul {n₁ = (block_at r i).area} {m₁ = r.granularity} {n₂ = 524288} {m₂ = 256} (omega (arith, b.area_high, f.head.w_high)) f.head.g_high))
    go None q = (omega (arith, f.head.size_low), omega (arith, f.head.size_high))

pub newest_asked : (r : State) (u t p bytes : ℕ) → Shaped r u t → bytes ≤ 2147483647 → (0 < newest_size r p) × (newest_size r p ≤ 2 ^ 27) × (bytes < 2 ^ 32)
newest_asked r u t p bytes f h = let q = newest_bounds r u t p f in (q.0, q.1, omega arith)

pub new_ready : (r : State) (u t p n bytes : ℕ) → Shaped r u t → p < 3 → 0 < n → 0 < bytes → bytes ≤ 2147483647 → n * (pool_at r p).granularity ≤ bytes
    → Makes r u t p n (ideal_size (newest_size r p) bytes)
new_ready r u t p n bytes f p3 pos some most fits =
    let q = newest_bounds r u t p f in
    let low = ideal_holds (newest_size r p) bytes q.0 q.1 (omega arith) in
    record {
      shaped = f;
      pool = p3;
      some = pos;
      bytes_low = omega (arith, low);
      bytes_high = ideal_fits (newest_size r p) bytes q.0 q.1 most;
      fits = omega (arith, low);
    }

-- units of a pool hold no more bytes after the search than before it
pub units_kept : (s r : State) → r.pools ≡ s.pools → (p q n k bytes : ℕ) → p ≡ q → n ≡ k → k * (pool_at s q).granularity ≡ bytes → n * (pool_at r p).granularity ≤ bytes
units_kept s r e p q n k bytes ep en h =
    let unit : (pool_at r p).granularity ≡ (pool_at s q).granularity = ap₂ (λ (l : List Pool) (i : ℕ). (get_or l i (fresh_pool 0)).granularity) e ep in
    omega (arith, ap₂ (λ (x y : ℕ). x * y) en unit, h)
