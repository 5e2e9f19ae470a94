-- Pool, units, search and block size are those of `alloc_rounded`, by the callees' contracts. The search keeps the shape (`search_left`), so
-- a place that it found may be marked (`hit_ready`), or else a new block may be made (`new_ready`). Assumes nothing.
use Prim.Native.Nat.{ℕ, ◌-◌, ◌*◌, ◌^◌, ◌≤◌, ◌<◌}
use mathlib.Core.Path.{◌≡◌, sym, ap, ap₂, subst, ◌∙◌}
use native.Mathlib.Omega.{arith}
use lib.ListN.{length}
use Rattle.numbers.specs.Units.{units_of}
use Rattle.sizes.specs.Pools.{pool_of}
use Rattle.sizes.specs.Sizes.{ideal_size}
use Rattle.sizes.proofs.InForce.{granularity_listed}
use Rattle.state.specs.Table.{block_at, pool_at}
use Rattle.state.proofs.Lengths.{blocks_64}
use Rattle.machine.specs.Alloc.{search_pool}
use Rattle.shape_facts.proofs.Facts.{count_64}
use Rattle.shape_facts.proofs.Search.{Fits, Left, Place, search_left}
use Rattle.shape_facts.specs.Ready.{Makes}
use Rattle.shape_facts.proofs.Pool.{units_kept, pool_in, unit_some, bytes_in, whole, some_units, looked_into, hit_ready, newest_asked, new_ready}
use Rattle.alloc.proofs.alloc_rounded.Goals.{After-area_size_from_byte_size-n, After-search_pool-found}
use Rattle.alloc.proofs.alloc_rounded.Goals as goal

-- the units in the pool, as the rule has them
units_are : (c : After-area_size_from_byte_size-n) → let a = c.args in
    c.area_size_from_byte_size-n.result ≡ units_of a.bytes (pool_at a.s (pool_of a.bytes a.s.granularity a.s.poolcount)).granularity
units_are c =
    let a = c.args in
    c.area_size_from_byte_size-n.ensures ∙ ap (λ (p : ℕ). units_of a.bytes (pool_at a.s p).granularity) c.size_to_pool_id-p.ensures

-- what the search has left
left : (c : After-search_pool-found) → let a = c.args in
    let p = pool_of a.bytes a.s.granularity a.s.poolcount in
    let pos = some_units a.s (length a.used.now) (length a.stop.now) a.bytes c.requires in
    Left a.used.now (length a.stop.now) p (units_of a.bytes (pool_at a.s p).granularity) pos a.s c.search_pool-found.result
left c =
    let a = c.args in
    let p = pool_of a.bytes a.s.granularity a.s.poolcount in
    let n = units_of a.bytes (pool_at a.s p).granularity in
    let pos = some_units a.s (length a.used.now) (length a.stop.now) a.bytes c.requires in
    let units = c.area_size_from_byte_size-n.ensures ∙ ap (λ (p : ℕ). units_of a.bytes (pool_at a.s p).granularity) c.size_to_pool_id-p.ensures in
    let found = c.search_pool-found.ensures ∙ ap₂ (λ (p n : ℕ). search_pool a.s a.used.now p n) c.size_to_pool_id-p.ensures units in
    subst (Left a.used.now (length a.stop.now) p n pos a.s) (sym found)
    (search_left a.used.now (length a.stop.now) p n pos a.s c.requires.shaped (blocks_64 a.s _ c.well_formed.0))

pub size_to_pool_id-p-requires : goal.size_to_pool_id-p-requires
size_to_pool_id-p-requires c = let m = c.requires in (omega (arith, m.most), granularity_listed c.args.s.granularity m.shaped.head.g_listed, m.shaped.head.pools_listed)

pub offset_bounds-s-p : goal.offset_bounds-s-p
offset_bounds-s-p c = let a = c.args in omega (arith, c.size_to_pool_id-p.ensures, pool_in a.s (length a.used.now) (length a.stop.now) a.bytes c.requires)

pub bounds-s-p : goal.bounds-s-p
bounds-s-p c = let a = c.args in omega (arith, c.size_to_pool_id-p.ensures, pool_in a.s (length a.used.now) (length a.stop.now) a.bytes c.requires)

pub area_size_from_byte_size-n-requires : goal.area_size_from_byte_size-n-requires
area_size_from_byte_size-n-requires c =
    let a = c.args in
    let m = c.requires in
    subst (λ (p : ℕ). (0 < (pool_at a.s p).granularity) × (a.bytes ≤ (2 ^ 32 - 1) * (pool_at a.s p).granularity)) (sym c.size_to_pool_id-p.ensures)
    (omega (arith, unit_some a.s (length a.used.now) (length a.stop.now) a.bytes m), bytes_in a.s (length a.used.now) (length a.stop.now) a.bytes m)

pub search_pool-found-requires : goal.search_pool-found-requires
search_pool-found-requires c =
    let a = c.args in
    let m = c.requires in (
      count_64 a.s (length a.used.now) (length a.stop.now) m.shaped,
      omega (arith, units_are (goal.at.search_pool-found-requires c).After-area_size_from_byte_size-n, some_units a.s (length a.used.now) (length a.stop.now) a.bytes m),
      looked_into a.s (length a.used.now) (length a.stop.now) a.bytes m,
    )

pub mark_span-requires : goal.mark_span-requires
mark_span-requires c =
    let a = c.args in
    let lu = length a.used.now in
    let lt = length a.stop.now in
    let p = pool_of a.bytes a.s.granularity a.s.poolcount in
    let n = units_of a.bytes (pool_at a.s p).granularity in
    let pos = some_units a.s lu lt a.bytes c.requires in
    let st = c.search_pool-found.result.state in
    let j = c.in-Some.hit.age in
    let i = c.in-Some.hit.unit in
    let kept = left (goal.at.mark_span-requires c).After-search_pool-found in
    let units = units_are (goal.at.mark_span-requires c).After-area_size_from_byte_size-n in
    let place = subst (Place a.used.now lt p n pos st) c.in-Some.is kept.place in
    hit_ready st lu lt kept.shaped j i c.area_size_from_byte_size-n.result place.0 (subst (λ (k : ℕ). Fits (block_at st j) k i) (sym units) place.2) (omega (arith, units, pos))

pub newest_size-newest-requires : goal.newest_size-newest-requires
newest_size-newest-requires c =
    let a = c.args in
    count_64 c.search_pool-found.result.state (length a.used.now) (length a.stop.now) (left (goal.at.newest_size-newest-requires c).After-search_pool-found).shaped

pub calculate_ideal_block_size-size-requires : goal.calculate_ideal_block_size-size-requires
calculate_ideal_block_size-size-requires c =
    let a = c.args in
    let kept = left (goal.at.calculate_ideal_block_size-size-requires c).After-search_pool-found in
    subst (λ (k : ℕ). (0 < k) × (k ≤ 2 ^ 27) × (a.bytes < 2 ^ 32)) (sym c.newest_size-newest.ensures)
    (newest_asked c.search_pool-found.result.state (length a.used.now) (length a.stop.now) c.size_to_pool_id-p.result a.bytes kept.shaped c.requires.most)

pub new_span-requires : goal.new_span-requires
new_span-requires c =
    let a = c.args in
    let m = c.requires in
    let lu = length a.used.now in
    let lt = length a.stop.now in
    let p = pool_of a.bytes a.s.granularity a.s.poolcount in
    let n = units_of a.bytes (pool_at a.s p).granularity in
    let pos = some_units a.s lu lt a.bytes m in
    let st = c.search_pool-found.result.state in
    let q = c.size_to_pool_id-p.result in
    let k = c.area_size_from_byte_size-n.result in
    let kept = left (goal.at.new_span-requires c).After-search_pool-found in
    let units = units_are (goal.at.new_span-requires c).After-area_size_from_byte_size-n in
    subst (Makes st lu lt q k) (sym (c.calculate_ideal_block_size-size.ensures ∙ ap (λ (k : ℕ). ideal_size k a.bytes) c.newest_size-newest.ensures))
    (new_ready st lu lt q k a.bytes kept.shaped (omega (arith, c.size_to_pool_id-p.ensures, pool_in a.s lu lt a.bytes m)) (omega (arith, units, pos)) m.some m.most
    (units_kept a.s st kept.pools q p k n a.bytes c.size_to_pool_id-p.ensures units (whole a.s lu lt a.bytes m)))
