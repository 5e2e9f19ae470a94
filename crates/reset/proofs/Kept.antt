-- Each pool's oldest block kept, one block after the other: what the table holds so far, so that the next one may enter. Assumes nothing.
use Prim.Native.Nat.{ℕ, ◌+◌, ◌-◌, ◌≤◌, ◌<◌}
use mathlib.Core.Bool.{Bool, true, false, not}
use mathlib.Core.List.{List}
use mathlib.Core.Path.{◌≡◌, refl, sym, ap, subst, ◌∙◌}
use native.Mathlib.Nat.{zero-add}
use native.Mathlib.Numerals.{add-one}
use native.Mathlib.Omega.{arith}
use borrow.Author.Tests.{eq-eqb, ne_eqb, not-true, not-false}
use lib.Dec.{ltb, eqb}
use lib.ListN.{length, get_or, set, replicate, length-set, get_or-eq_default, get_or-replicate as get_or-replicate_in}
use lib.Seq.{get_or-set_same, get_or-set_other}
use Rattle.numbers.proofs.Bools.{not_both, and_left, and_fails_right, and_true}
use Rattle.numbers.proofs.Split.{by_le, by_eq}
use Rattle.block.specs.declared.Block.{Block}
use Rattle.block.specs.Marking.{emptied}
use Rattle.sizes.specs.declared.Pool.{Pool}
use Rattle.sizes.specs.Pools.{fresh_pool}
use Rattle.state.specs.declared.State.{State}
use Rattle.state.specs.Table.{block_at, age_at, pool_at, all}
use Rattle.state.specs.Change.{moved_up, place_of, list_from, with_blocks, inserted}
use Rattle.state.proofs.Tests.{all_more}
use Rattle.state.proofs.Lists.{length_list_from, get_or-list_from, get_or-replicate}
use Rattle.table.specs.Changeable.{Insertable}
use Rattle.table.proofs.Shift.{moved_below, moved_here, moved_above, unwrap_or_le}
use Rattle.machine.specs.Turn.{with_counts}
use Rattle.machine.specs.Reset.{empty_table, oldest, keep, kept}
use Rattle.reset.specs.Keepable.{Keepable}

-- ---- one block more
pub kept_none : (s : State) → empty_table s ≡ kept s 0
unfolding kept
kept_none s = refl

pub kept_more : (s : State) (n : ℕ) → oldest s n ≡ true → keep (kept s n) (block_at s n) ≡ kept s (n + 1)
unfolding kept
kept_more s n e = sym (ap (λ (m : ℕ). kept s m) (add-one n) ∙ rw e)

pub kept_skip : (s : State) (n : ℕ) → oldest s n ≡ false → kept s n ≡ kept s (n + 1)
unfolding kept
kept_skip s n e = sym (ap (λ (m : ℕ). kept s m) (add-one n) ∙ rw e)

-- ---- a table that takes a block in
pub record Sparse (r : State) (n : ℕ) : Type 0 where
  pub few : r.count ≤ n
  pub age : (k : ℕ) → k < r.count → age_at r k < 64
  pub rest : (k : ℕ) → r.count ≤ k → age_at r k ≡ 0

module _ (r : State) (b : Block) (n : ℕ) (h : n < 64) (q : Sparse r n) where
  abbrev moved : ℕ → ℕ
  moved k = moved_up r.order (place_of r (emptied b)) r.count k

  place_low : place_of r (emptied b) ≤ r.count
  place_low = unwrap_or_le r.count (λ k. ltb b.base (block_at r (age_at r k)).base)

  age_is : (k : ℕ) → k < 64 → age_at (keep r b) k ≡ moved k
  age_is k l = get_or-list_from 0 64 moved 0 k l ∙ ap moved (zero-add k)

  moved_age : (k : ℕ) → k < r.count + 1 → moved k < 64
  moved_age k l =
      by_le (place_of r (emptied b)) k
      (λ g. by_eq k (place_of r (emptied b))
      (λ e. subst (λ (x : ℕ). x < 64) (sym (ap moved e ∙ moved_here r.order (place_of r (emptied b)) r.count)) (omega (arith, q.few)))
      (λ ne. subst (λ (x : ℕ). x < 64) (sym (moved_above r.order (place_of r (emptied b)) r.count k (omega (arith, ne)))) (q.age (k - 1) (omega (arith, ne)))))
      (λ g. subst (λ (x : ℕ). x < 64) (sym (moved_below r.order (place_of r (emptied b)) r.count k g)) (q.age k (omega (arith, place_low))))

  kept_rest : (k : ℕ) → r.count + 1 ≤ k → age_at (keep r b) k ≡ 0
  kept_rest k l =
      by_le 64 k
      (λ g. get_or-eq_default (list_from 0 64 moved) 0 {n = k} (omega (arith, length_list_from 0 64 moved)))
      (λ g. age_is k g ∙ moved_above r.order (place_of r (emptied b)) r.count k (omega (arith, place_low)) ∙ q.rest (k - 1) (omega arith))

  sparse_keep : Sparse (keep r b) (n + 1)
  sparse_keep = record {
    few = omega (arith, q.few);
    age = λ k l. subst (λ (x : ℕ). x < 64) (sym (age_is k (omega (arith, q.few)))) (moved_age k l);
    rest = kept_rest;
  }

-- another pool stays as it is
other_pool : (r : State) (b : Block) (p : ℕ) → (p ≡ b.pool → ⊥) → pool_at (keep r b) p ≡ pool_at r p
other_pool r b p ne =
    let first = with_blocks (pool_at r b.pool) ((pool_at r b.pool).blocks + 1) ((pool_at r b.pool).area + b.area) in
    let then = pool_at (inserted r (emptied b)) b.pool in
    get_or-set_other (set r.pools b.pool first) b.pool p (with_counts then 1 then.used) (fresh_pool 0) ne
    ∙ get_or-set_other r.pools b.pool p first (fresh_pool 0) ne

-- ---- the walk
-- none of the first n blocks is in pool p
abbrev pub unseen : State → ℕ → ℕ → Bool
unseen s n p = all n (λ j. not (eqb (block_at s j).pool p))

pub record Keeping (s : State) (i : ℕ) (r : State) (seen : List Bool) : Type 0 where
  pub here : i ≤ s.count
  pub is : r ≡ kept s i
  pub size : length seen ≡ 3
  pub seen_is : (p : ℕ) → p < 3 → get_or seen p false ≡ not (unseen s i p)
  pub sparse : Sparse r i
  pub fresh : (p : ℕ) → p < 3 → unseen s i p ≡ true → pool_at r p ≡ fresh_pool s.granularity

pub keeping_start : (s : State) (r : State) → r ≡ empty_table s → Keeping s 0 r (replicate 3 false)
unfolding all
keeping_start s r e = subst (λ (x : State). Keeping s 0 x (replicate 3 false)) (sym e) (record {
  here = omega arith;
  is = kept_none s;
  size = refl;
  seen_is = λ p h. get_or-replicate 3 false p;
  sparse = record { few = omega arith; age = λ k h. absurd (omega arith); rest = λ k h. get_or-replicate 64 0 k };
  fresh = λ p h z. fresh_at s.granularity p h;
})
  where
    fresh_at : (g p : ℕ) → p < 3 → get_or (replicate 3 (fresh_pool g)) p (fresh_pool 0) ≡ fresh_pool g
    fresh_at g p h = get_or-replicate_in 3 p (fresh_pool g) (fresh_pool 0) h

module _ (s : State) (i : ℕ) (r : State) (seen : List Bool) (f : Keepable s) (q : Keeping s i r seen) (h : i < s.count) where
  pool_low : (block_at s i).pool < 3
  pool_low = f.pool i h

  -- a pool that is not in the list has no older block
  is_oldest : get_or seen (block_at s i).pool false ≡ false → oldest s i ≡ true
  is_oldest e = not-false (oldest s i) (sym (q.seen_is (block_at s i).pool pool_low) ∙ e)

  not_oldest : get_or seen (block_at s i).pool false ≡ true → oldest s i ≡ false
  not_oldest e = not-true (oldest s i) (sym (q.seen_is (block_at s i).pool pool_low) ∙ e)

  pub keeping_enters : get_or seen (block_at s i).pool false ≡ false → Insertable r (emptied (block_at s i))
  keeping_enters e =
      let p = q.fresh (block_at s i).pool pool_low (is_oldest e) in
      record {
        room = omega (arith, q.sparse.few, f.few);
        age = q.sparse.age;
        order_rest = q.sparse.rest;
        pool = pool_low;
        blocks = omega (arith, ap (λ (x : Pool). x.blocks) p);
        area = omega (arith, ap (λ (x : Pool). x.area) p, f.area i h);
      }

  -- a pool of no block up to this one is not its pool
  unseen_other : (p : ℕ) → unseen s (i + 1) p ≡ true → p ≡ (block_at s i).pool → ⊥
  unseen_other p e z =
      not_both (unseen s (i + 1) p) e
      (all_more i (λ j. not (eqb (block_at s j).pool p))
      ∙ and_fails_right (unseen s i p) (not (eqb (block_at s i).pool p)) (ap not (eq-eqb (block_at s i).pool p (sym z))))

  unseen_before : (p : ℕ) → unseen s (i + 1) p ≡ true → unseen s i p ≡ true
  unseen_before p e =
      and_left (unseen s i p) (not (eqb (block_at s i).pool p)) (sym (all_more i (λ j. not (eqb (block_at s j).pool p))) ∙ e)

  -- another pool is as it was
  unseen_same : (p : ℕ) → (p ≡ (block_at s i).pool → ⊥) → unseen s i p ≡ unseen s (i + 1) p
  unseen_same p ne =
      sym (all_more i (λ j. not (eqb (block_at s j).pool p))
      ∙ and_true (unseen s i p) (not (eqb (block_at s i).pool p)) (ap not (ne_eqb (block_at s i).pool p (λ z. ne (sym z)))))

  -- its own pool is seen
  own_seen : (p : ℕ) → p ≡ (block_at s i).pool → true ≡ not (unseen s (i + 1) p)
  own_seen p z =
      sym (ap not (all_more i (λ j. not (eqb (block_at s j).pool p))
      ∙ and_fails_right (unseen s i p) (not (eqb (block_at s i).pool p)) (ap not (eq-eqb (block_at s i).pool p (sym z)))))

  pub keeping_keep : get_or seen (block_at s i).pool false ≡ false → Keeping s (i + 1) (keep r (block_at s i)) (set seen (block_at s i).pool true)
  keeping_keep e = record {
    here = omega arith;
    is = ap (λ (x : State). keep x (block_at s i)) q.is ∙ kept_more s i (is_oldest e);
    size = length-set seen (block_at s i).pool true ∙ q.size;
    seen_is = λ p l. by_eq p (block_at s i).pool
        (λ z. ap (λ (k : ℕ). get_or (set seen (block_at s i).pool true) k false) z ∙ get_or-set_same seen (block_at s i).pool true false (omega (arith, q.size, pool_low)) ∙ own_seen p z)
        (λ ne. get_or-set_other seen (block_at s i).pool p true false ne ∙ q.seen_is p l ∙ ap not (unseen_same p ne));
    sparse = sparse_keep r (block_at s i) i (omega (arith, f.few)) q.sparse;
    fresh = λ p l z. other_pool r (block_at s i) p (unseen_other p z) ∙ q.fresh p l (unseen_before p z);
  }

  pub keeping_skip : get_or seen (block_at s i).pool false ≡ true → Keeping s (i + 1) r seen
  keeping_skip e = record {
    here = omega arith;
    is = q.is ∙ kept_skip s i (not_oldest e);
    size = q.size;
    seen_is = λ p l. by_eq p (block_at s i).pool
        (λ z. ap (λ (k : ℕ). get_or seen k false) z ∙ e ∙ own_seen p z)
        (λ ne. q.seen_is p l ∙ ap not (unseen_same p ne));
    sparse = record { few = omega (arith, q.sparse.few); age = q.sparse.age; rest = q.sparse.rest };
    fresh = λ p l z. q.fresh p l (unseen_before p z);
  }

  -- as the code leaves it: b is the block that it reads, x and y are its table and its list afterwards
  pub kept_step : (b : Block) → b ≡ block_at s i → get_or seen b.pool false ≡ false → (x : State) (y : List Bool) → x ≡ keep r b → y ≡ set seen b.pool true → Keeping s (i + 1) x y
  kept_step b e g x y xe ye = rw (xe, ye, e) (keeping_keep (rw e at g))

  pub skip_step : (b : Block) → b ≡ block_at s i → get_or seen b.pool false ≡ true → (x : State) (y : List Bool) → x ≡ r → y ≡ seen → Keeping s (i + 1) x y
  skip_step b e g x y xe ye = rw (xe, ye) (keeping_skip (rw e at g))
