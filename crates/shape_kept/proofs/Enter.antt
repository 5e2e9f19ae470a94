-- A block comes as the newest: if its slot and its bytes were free and its pool counts it, the shape stays good. Assumes nothing.
use Rattle.std.specs.Prelude.{Option, Some, None, unwrap_or}
use Prim.Native.Nat.{ℕ, ◌+◌, ◌-◌, ◌≤◌, ◌<◌}
use mathlib.Core.Bool.{Bool, true}
use mathlib.Core.List.{List}
use mathlib.Core.Logic.{◌⊎◌, ⊎_elim}
use mathlib.Core.Path.{◌≡◌, refl, sym, ap, subst, ◌∙◌}
use native.Mathlib.Omega.{arith}
use borrow.Author.Tests.{ltb-true, ltb-false}
use lib.Dec.{ltb}
use lib.ListN.{get_or}
use Rattle.numbers.specs.Pick.{pick}
use Rattle.numbers.proofs.Split.{by_eq, by_le}
use Rattle.block.specs.declared.Block.{Block}
use Rattle.sizes.specs.declared.Pool.{Pool}
use Rattle.sizes.specs.Pools.{fresh_pool}
use Rattle.state.specs.declared.State.{State}
use Rattle.state.specs.Table.{zero_block, block_at, age_at, pool_at, sum}
use Rattle.state.specs.Shape.{is_zero, good_shape}
use Rattle.state.specs.Find.{least}
use Rattle.state.specs.Change.{with_rest, place_of, moved_up}
use Rattle.state.proofs.Tests.{sum_same, sum_more}
use Rattle.state.proofs.Find.{Least, least_of}
use Rattle.table.proofs.Shift.{moved_below, moved_here, moved_above}
use Rattle.shape.specs.Parts.{pool_sum}
use Rattle.shape.specs.Facts.{ShapedBlockIn}
use Rattle.shape.specs.Shaped.{Shaped}
use Rattle.shape.proofs.OneBlock.{sized}
use Rattle.shape.proofs.Enough.{enough_good}
use Rattle.shape_kept.proofs.Head.{head_kept, lent_kept}
use Rattle.shape_kept.proofs.Pools.{blocks_in, empty_in, area_in, used_in, adds, nothing, Entered, entered, pool_after, empties_after, few_after}

-- ---- its place in the order of address
pub record PlaceIs (s : State) (b : Block) (m : ℕ) : Type 0 where
  pub low : m ≤ s.count
  pub before : (k : ℕ) → k < m → (block_at s (age_at s k)).base ≤ b.base
  pub behind : m < s.count → b.base < (block_at s (age_at s m)).base

pub place_is : (s : State) (b : Block) → PlaceIs s b (place_of s b)
place_is s b = go (least s.count test) (least_of s.count test)
  where
    test : ℕ → Bool
    test k = ltb b.base (block_at s (age_at s k)).base

    go : (r : Option ℕ) → Least 0 s.count test r → PlaceIs s b (unwrap_or r s.count)
    go (Some k) q = record {
      low = omega (arith, q.high);
      before = λ i l. ltb-false b.base (block_at s (age_at s i)).base (q.before i (omega arith) l);
      behind = λ l. ltb-true b.base (block_at s (age_at s k)).base q.passes;
    }
    go None q = record {
      low = omega arith;
      before = λ i l. ltb-false b.base (block_at s (age_at s i)).base (q i (omega arith) l);
      behind = λ l. absurd (omega arith);
    }

module _ (s : State) (u t : ℕ) (f : Shaped s u t) (b : Block) (live : ℕ) (blocks : List Block) (order : List ℕ) (pool : List Pool)
    (room : s.count < s.slots)
    (old : (i : ℕ) → (i ≡ s.count → ⊥) → get_or blocks i zero_block ≡ block_at s i) (new : get_or blocks s.count zero_block ≡ b)
    (ages : (k : ℕ) → k < 64 → get_or order k 0 ≡ moved_up s.order (place_of s b) s.count k)
    (sound : ShapedBlockIn s b)
    (slot : (i : ℕ) → i < s.count → (block_at s i).slot ≡ b.slot → ⊥)
    (bytes : (i : ℕ) → i < s.count → (b.base + b.size ≤ (block_at s i).base) ⊎ ((block_at s i).base + (block_at s i).size ≤ b.base))
    (own : Entered (pool_at s b.pool) (get_or pool b.pool (fresh_pool 0)) b)
    (other : (p : ℕ) → (p ≡ b.pool → ⊥) → get_or pool p (fresh_pool 0) ≡ pool_at s p)
    (few : (get_or pool b.pool (fresh_pool 0)).empty ≤ pick s.immediate 0 1) where
  abbrev after : State
  after = with_rest s live (s.count + 1) blocks order pool

  abbrev m : ℕ
  m = place_of s b

  place : PlaceIs s b m
  place = place_is s b

  count_low : s.count < 64
  count_low = omega (arith, room, f.head.slots_high)

  -- ---- the blocks
  block_sound : (i : ℕ) → i < s.count + 1 → ShapedBlockIn s (get_or blocks i zero_block)
  block_sound i l =
      by_eq i s.count
      (λ e. subst (λ (k : ℕ). ShapedBlockIn s (get_or blocks k zero_block)) (sym e) (subst (ShapedBlockIn s) (sym new) sound))
      (λ ne. subst (ShapedBlockIn s) (sym (old i ne)) (f.sound i (omega (arith, ne))))

  apart : (i k : ℕ) → i < k → k < s.count + 1 → (get_or blocks i zero_block).slot ≡ (get_or blocks k zero_block).slot → ⊥
  apart i k l n e =
      let was = ap (λ (c : Block). c.slot) (old i (λ q. omega arith)) in
      by_eq k s.count
      (λ q. slot i (omega arith) (sym was ∙ e ∙ ap (λ (x : ℕ). (get_or blocks x zero_block).slot) q ∙ ap (λ (c : Block). c.slot) new))
      (λ ne. f.slots_apart i k l (omega (arith, ne)) (sym was ∙ e ∙ ap (λ (c : Block). c.slot) (old k ne)))

  -- ---- the order of address
  age_below : (k : ℕ) → k < m → get_or order k 0 ≡ age_at s k
  age_below k l = ages k (omega (arith, place.low, count_low)) ∙ moved_below s.order m s.count k l

  age_here : get_or order m 0 ≡ s.count
  age_here = ages m (omega (arith, place.low, count_low)) ∙ moved_here s.order m s.count

  age_above : (k : ℕ) → m < k → k < 64 → get_or order k 0 ≡ age_at s (k - 1)
  age_above k l n = ages k n ∙ moved_above s.order m s.count k l

  block_new : get_or blocks (get_or order m 0) zero_block ≡ b
  block_new = ap (λ (x : ℕ). get_or blocks x zero_block) age_here ∙ new

  block_below : (k : ℕ) → k < m → get_or blocks (get_or order k 0) zero_block ≡ block_at s (age_at s k)
  block_below k l =
      ap (λ (x : ℕ). get_or blocks x zero_block) (age_below k l) ∙ old (age_at s k) (λ e. omega (arith, f.age_low k (omega (arith, place.low))))

  block_above : (k : ℕ) → m < k → k < s.count + 1 → get_or blocks (get_or order k 0) zero_block ≡ block_at s (age_at s (k - 1))
  block_above k l n =
      ap (λ (x : ℕ). get_or blocks x zero_block) (age_above k l (omega (arith, count_low)))
      ∙ old (age_at s (k - 1)) (λ e. omega (arith, f.age_low (k - 1) (omega arith)))

  ages_low : (k : ℕ) → k < s.count + 1 → get_or order k 0 < s.count + 1
  ages_low k l =
      by_eq k m
      (λ e. omega (arith, ap (λ (x : ℕ). get_or order x 0) e ∙ age_here))
      (λ ne. by_le m k
      (λ g. omega (arith, age_above k (omega (arith, ne)) (omega (arith, count_low)), f.age_low (k - 1) (omega (arith, ne))))
      (λ g. omega (arith, age_below k g, f.age_low k (omega (arith, place.low)))))

  -- where the blocks of two neighbouring places lie
  abbrev Before : Block → Block → Type 0
  Before c d = c.base + c.size ≤ d.base

  joined : (i k : ℕ) (c d : Block) → get_or blocks (get_or order i 0) zero_block ≡ c → get_or blocks (get_or order k 0) zero_block ≡ d → Before c d
      → Before (get_or blocks (get_or order i 0) zero_block) (get_or blocks (get_or order k 0) zero_block)
  joined i k c d p q h =
      subst (λ (x : Block). Before x (get_or blocks (get_or order k 0) zero_block)) (sym p) (subst (λ (y : Block). Before c y) (sym q) h)

  -- the block before it ends before it starts, and it ends before the next starts
  up_to_new : (i : ℕ) → i < m → Before (block_at s (age_at s i)) b
  up_to_new i l =
      let a = f.age_low i (omega (arith, place.low)) in
      ⊎_elim (λ z. omega (arith, place.before i l, sized s b f.head sound)) (λ z. z) (bytes (age_at s i) a)

  from_new : m < s.count → Before b (block_at s (age_at s m))
  from_new l = ⊎_elim (λ z. z) (λ z. omega (arith, place.behind l)) (bytes (age_at s m) (f.age_low m l))

  next : (i k : ℕ) → k ≡ i + 1 → k < s.count + 1 → Before (get_or blocks (get_or order i 0) zero_block) (get_or blocks (get_or order k 0) zero_block)
  next i k e l =
      by_le m i
      (λ g. by_eq i m
      (λ z.
      let back : k - 1 ≡ m = omega arith in
      joined i k b (block_at s (age_at s m)) (ap (λ (x : ℕ). get_or blocks (get_or order x 0) zero_block) z ∙ block_new)
      (block_above k (omega arith) l ∙ ap (λ (x : ℕ). block_at s (age_at s x)) back) (from_new (omega arith)))
      (λ ne.
      joined i k (block_at s (age_at s (i - 1))) (block_at s (age_at s (k - 1))) (block_above i (omega (arith, ne)) (omega arith)) (block_above k (omega (arith, ne)) l)
      (f.behind (i - 1) (k - 1) (omega (arith, ne)) (omega (arith, ne)))))
      (λ g. by_eq k m
      (λ z. joined i k (block_at s (age_at s i)) b (block_below i g) (ap (λ (x : ℕ). get_or blocks (get_or order x 0) zero_block) z ∙ block_new) (up_to_new i g))
      (λ ne.
      joined i k (block_at s (age_at s i)) (block_at s (age_at s k)) (block_below i g) (block_below k (omega (arith, ne)))
      (f.behind i k (omega arith) (omega (arith, place.low, ne)))))

  -- ---- the pools
  moved : (g : Block → ℕ) → sum (s.count + 1) (λ i. g (get_or blocks i zero_block)) ≡ sum s.count (λ i. g (block_at s i)) + g b
  moved g =
      sum_more s.count (λ i. g (get_or blocks i zero_block))
      ∙ omega (
        arith,
        sum_same s.count (λ i. g (get_or blocks i zero_block)) (λ i. g (block_at s i)) (λ i l. ap g (old i (λ e. omega arith))),
        ap g new,
      )

  more : (g : Block → ℕ) → sum (s.count + 1) (λ i. g (get_or blocks i zero_block)) + 0 ≡ sum s.count (λ i. g (block_at s i)) + g b
  more g = omega (arith, moved g)

  pools_are : (p : ℕ) → p < 3 → pool_at after p ≡ pool_sum after (s.count + 1) p
  pools_are p l =
      pool_after s after p nothing (adds p b) refl (f.pools p l)
      (entered p (pool_at s p) (get_or pool p (fresh_pool 0)) b
      (λ e. subst (λ (q : ℕ). Entered (pool_at s q) (get_or pool q (fresh_pool 0)) b) e own) (λ ne. other p (λ e. ne (sym e))))
      (more (blocks_in p)) (more (empty_in p)) (more (area_in p)) (more (used_in p))

  pub enter_good : live ≤ sum s.count (λ i. (block_at s i).used) + b.used → good_shape after u t ≡ true
  enter_good enough =
      enough_good after u t (record {
        head = head_kept s live (s.count + 1) blocks order pool f.head (omega (arith, room));
        lent = lent_kept s live (s.count + 1) blocks order pool u t f.lent;
        sound = block_sound;
        slots_apart = apart;
        pools = pools_are;
        empties = λ p l. empties_after after p (pools_are p l) (few_after s u t f pool b.pool other few p l);
        live = omega (arith, moved (λ c. c.used));
        age_low = ages_low;
        next = next;
        zeros = λ i l n. subst (λ (c : Block). is_zero c ≡ true) (sym (old i (λ e. omega arith))) (f.zeros i (omega arith) n);
        zero_ages = λ i l n. age_above i (omega (arith, place.low)) n ∙ f.zero_ages (i - 1) (omega arith) (omega arith);
      })
