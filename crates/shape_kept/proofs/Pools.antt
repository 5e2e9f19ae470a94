-- A pool's sums by what each block adds: a block is replaced, comes or goes. Assumes nothing.
use Prim.Native.Nat.{ℕ, ◌+◌, ◌≤◌, ◌<◌}
use mathlib.Core.Bool.{◌&&◌}
use mathlib.Core.List.{List}
use mathlib.Core.Path.{◌≡◌, sym, ap, subst, ◌∙◌}
use native.Mathlib.Omega.{arith}
use borrow.Author.Tests.{eq-eqb, ne_eqb}
use lib.Dec.{eqb}
use lib.ListN.{get_or}
use Rattle.numbers.specs.Pick.{pick}
use Rattle.numbers.proofs.Split.{by_eq}
use Rattle.block.specs.declared.Block.{Block}
use Rattle.sizes.specs.declared.Pool.{Pool}
use Rattle.sizes.specs.Pools.{fresh_pool}
use Rattle.state.specs.declared.State.{State}
use Rattle.state.specs.Table.{block_at, pool_at, sum, one, only}
use Rattle.state.specs.Shape.{is_empty, empties_of}
use Rattle.shape.specs.Parts.{pool_sum}
use Rattle.shape.specs.Shaped.{Shaped}
use Rattle.shape_kept.proofs.Head.{pool_is}

-- ---- what a block adds to the sums of pool p
abbrev pub blocks_in : ℕ → Block → ℕ
blocks_in p b = one (eqb b.pool p)

abbrev pub empty_in : ℕ → Block → ℕ
empty_in p b = one (eqb b.pool p && is_empty b)

abbrev pub area_in : ℕ → Block → ℕ
area_in p b = only (eqb b.pool p) b.area

abbrev pub used_in : ℕ → Block → ℕ
used_in p b = only (eqb b.pool p) b.used

abbrev pub adds : ℕ → Block → Pool
adds p b = record { granularity = 0; blocks = blocks_in p b; empty = empty_in p b; area = area_in p b; used = used_in p b }

abbrev pub nothing : Pool
nothing = fresh_pool 0

-- from q to r: without what `gone` counts, with what `come` does
pub record Counted (q r gone come : Pool) : Type 0 where
  pub granularity : r.granularity ≡ q.granularity
  pub blocks : r.blocks + gone.blocks ≡ q.blocks + come.blocks
  pub empty : r.empty + gone.empty ≡ q.empty + come.empty
  pub area : r.area + gone.area ≡ q.area + come.area
  pub used : r.used + gone.used ≡ q.used + come.used

-- a pool's own block is replaced by one of the same area
pub record Recounted (q r : Pool) (b c : Block) : Type 0 where
  pub granularity : r.granularity ≡ q.granularity
  pub blocks : r.blocks ≡ q.blocks
  pub empty : r.empty + one (is_empty b) ≡ q.empty + one (is_empty c)
  pub area : r.area ≡ q.area
  pub used : r.used + b.used ≡ q.used + c.used

-- a block comes to its pool; read the other way, it goes
pub record Entered (q r : Pool) (b : Block) : Type 0 where
  pub granularity : r.granularity ≡ q.granularity
  pub blocks : r.blocks ≡ q.blocks + 1
  pub empty : r.empty ≡ q.empty + one (is_empty b)
  pub area : r.area ≡ q.area + b.area
  pub used : r.used ≡ q.used + b.used

-- ---- to its own pool a block adds what it has, to another nothing
pub adds_own : (p : ℕ) (b : Block) → b.pool ≡ p → (blocks_in p b ≡ 1) × (empty_in p b ≡ one (is_empty b)) × (area_in p b ≡ b.area) × (used_in p b ≡ b.used)
adds_own p b e = let t = eq-eqb b.pool p e in (rw t, rw t, rw t, rw t)

pub adds_other : (p : ℕ) (b : Block) → (b.pool ≡ p → ⊥) → (blocks_in p b ≡ 0) × (empty_in p b ≡ 0) × (area_in p b ≡ 0) × (used_in p b ≡ 0)
adds_other p b ne = let t = ne_eqb b.pool p ne in (rw t, rw t, rw t, rw t)

pub recounted : (p : ℕ) (q r : Pool) (b c : Block) → c.pool ≡ b.pool → c.area ≡ b.area → (b.pool ≡ p → Recounted q r b c) → ((b.pool ≡ p → ⊥) → r ≡ q)
    → Counted q r (adds p b) (adds p c)
recounted p q r b c same area own other =
    by_eq b.pool p
    (λ e.
    let k = own e in
    let x = adds_own p b e in
    let y = adds_own p c (same ∙ e) in
    record {
      granularity = k.granularity;
      blocks = omega (arith, k.blocks, x.0, y.0);
      empty = omega (arith, k.empty, x.1, y.1);
      area = omega (arith, k.area, x.2, y.2);
      used = omega (arith, k.used, x.3, y.3);
    })
    (λ ne.
    let k = other ne in
    let x = adds_other p b ne in
    let y = adds_other p c (λ e. ne (sym same ∙ e)) in
    record {
      granularity = ap (λ (a : Pool). a.granularity) k;
      blocks = omega (arith, ap (λ (a : Pool). a.blocks) k, x.0, y.0);
      empty = omega (arith, ap (λ (a : Pool). a.empty) k, x.1, y.1);
      area = omega (arith, ap (λ (a : Pool). a.area) k, x.2, y.2);
      used = omega (arith, ap (λ (a : Pool). a.used) k, x.3, y.3);
    })

pub entered : (p : ℕ) (q r : Pool) (b : Block) → (b.pool ≡ p → Entered q r b) → ((b.pool ≡ p → ⊥) → r ≡ q) → Counted q r nothing (adds p b)
entered p q r b own other =
    by_eq b.pool p
    (λ e.
    let k = own e in
    let x = adds_own p b e in
    record {
      granularity = k.granularity;
      blocks = omega (arith, k.blocks, x.0);
      empty = omega (arith, k.empty, x.1);
      area = omega (arith, k.area, x.2);
      used = omega (arith, k.used, x.3);
    })
    (λ ne.
    let k = other ne in
    let x = adds_other p b ne in
    record {
      granularity = ap (λ (a : Pool). a.granularity) k;
      blocks = omega (arith, ap (λ (a : Pool). a.blocks) k, x.0);
      empty = omega (arith, ap (λ (a : Pool). a.empty) k, x.1);
      area = omega (arith, ap (λ (a : Pool). a.area) k, x.2);
      used = omega (arith, ap (λ (a : Pool). a.used) k, x.3);
    })

pub back : {q r gone come : Pool} → Counted q r gone come → Counted r q come gone
back k = record { granularity = sym k.granularity; blocks = sym k.blocks; empty = sym k.empty; area = sym k.area; used = sym k.used }

-- ---- the stored sums follow the blocks
-- a sum over all blocks of what each adds, after a change of the blocks
abbrev Moved : State → State → (Block → ℕ) → ℕ → ℕ → Type 0
Moved s r f gone come = sum r.count (λ i. f (block_at r i)) + gone ≡ sum s.count (λ i. f (block_at s i)) + come

pub pool_after : (s r : State) (p : ℕ) (gone come : Pool) → r.granularity ≡ s.granularity → pool_at s p ≡ pool_sum s s.count p → Counted (pool_at s p) (pool_at r p) gone come
    → Moved s r (blocks_in p) gone.blocks come.blocks → Moved s r (empty_in p) gone.empty come.empty
    → Moved s r (area_in p) gone.area come.area → Moved s r (used_in p) gone.used come.used
    → pool_at r p ≡ pool_sum r r.count p
pool_after s r p gone come g old k blocks empty area used =
    pool_is (pool_at r p) r.granularity _ _ _ _
    (k.granularity ∙ ap (λ (a : Pool). a.granularity) old ∙ sym g)
    (same gone.blocks come.blocks k.blocks (ap (λ (a : Pool). a.blocks) old) blocks)
    (same gone.empty come.empty k.empty (ap (λ (a : Pool). a.empty) old) empty)
    (same gone.area come.area k.area (ap (λ (a : Pool). a.area) old) area)
    (same gone.used come.used k.used (ap (λ (a : Pool). a.used) old) used)
  where
    same : (m n : ℕ) {x y before after : ℕ} → x + m ≡ y + n → y ≡ before → after + m ≡ before + n → x ≡ after
    same m n a b c = omega arith

-- so the empty count is bounded if the stored one is
pub empties_after : (r : State) (p : ℕ) → pool_at r p ≡ pool_sum r r.count p → (pool_at r p).empty ≤ pick r.immediate 0 1 → empties_of r p ≤ pick r.immediate 0 1
empties_after r p e h = omega (arith, ap (λ (a : Pool). a.empty) e, h)

pub empties_before : (s : State) (u t : ℕ) → Shaped s u t → (p : ℕ) → p < 3 → (pool_at s p).empty ≤ pick s.immediate 0 1
empties_before s u t f p h = omega (arith, ap (λ (a : Pool). a.empty) (f.pools p h), f.empties p h)

-- the other pools' empty counts stay
pub few_after : (s : State) (u t : ℕ) → Shaped s u t → (pool : List Pool) (own : ℕ) → ((p : ℕ) → (p ≡ own → ⊥) → get_or pool p (fresh_pool 0) ≡ pool_at s p)
    → (get_or pool own (fresh_pool 0)).empty ≤ pick s.immediate 0 1 → (p : ℕ) → p < 3 → (get_or pool p (fresh_pool 0)).empty ≤ pick s.immediate 0 1
few_after s u t f pool own other few p l =
    by_eq p own
    (λ e. subst (λ (q : ℕ). (get_or pool q (fresh_pool 0)).empty ≤ pick s.immediate 0 1) (sym e) few)
    (λ ne. subst (λ (q : Pool). q.empty ≤ pick s.immediate 0 1) (sym (other p ne)) (empties_before s u t f p l))
