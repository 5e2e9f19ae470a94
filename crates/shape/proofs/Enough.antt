-- Plain facts that are enough for a state that is not BadShape. Assumes nothing.
use Prim.Native.Nat.{ℕ, ◌+◌, ◌*◌, ◌%◌, ◌^◌, ◌<◌}
use mathlib.Core.Path.{◌≡◌, refl, sym, ap, ◌∙◌}
use mathlib.Core.Bool.{Bool, true, false, not}
use mathlib.Core.Logic.{⊎_elim}
use native.Mathlib.Omega.{arith}
use lib.Dec.{leb, eqb}
use borrow.Author.Tests.{lt-ltb, le-leb, eq-eqb, ne_eqb}
use Rattle.numbers.proofs.Bools.{not_both, not_of_false, and_both, or_left, or_right}
use Rattle.numbers.proofs.Split.{by_le}
use Rattle.numbers.specs.Pick.{pick}
use Rattle.block.specs.declared.Block.{Block}
use Rattle.sizes.specs.declared.Pool.{Pool}
use Rattle.sizes.proofs.InForce.{granularity_listed}
use Rattle.state.specs.declared.State.{State}
use Rattle.state.specs.Table.{block_at, pool_at, all, sum}
use Rattle.state.specs.Shape.{is_empty, empties_of, arena_ok, numbers_ok, zero_ok, good_shape}
use Rattle.state.proofs.Tests.{all_of, pairs_of}
use Rattle.shape.specs.Parts.{head_ok, block_ok, same_pool, pool_sum, pool_matches, slots_apart, table_ok}
use Rattle.shape.specs.Facts.{Headed, Lent, ShapedBlockIn}
use Rattle.shape.specs.Shaped.{Shaped, Enough}
use Rattle.shape.proofs.Head.{head_of}
use Rattle.shape.proofs.OneBlock.{laid}
use Rattle.shape.proofs.Address.{layout_done}
use Rattle.shape.proofs.Zeros.{zero_below, zero_here}
use Rattle.shape.proofs.Whole.{whole_good}

not-zero_test : (n : ℕ) → 0 < n → not (eqb n 0) ≡ true
not-zero_test n h = not_of_false (eqb n 0) (ne_eqb n 0 (λ e. omega arith))

arena_test : (s : State) → Headed s → arena_ok s.arena s.length ≡ true
arena_test s h =
    and_both _ _ (not-zero_test s.arena h.arena_low)
    (and_both _ _ (not-zero_test s.length h.length_low)
    (and_both _ _ (eq-eqb (s.arena % 65536) 0 h.arena_whole)
    (and_both _ _ (eq-eqb (s.length % 65536) 0 h.length_whole)
    (and_both _ _ (le-leb (s.arena + s.length) (2 ^ 48) h.top) refl))))

numbers_test : (s : State) → Headed s → numbers_ok s ≡ true
numbers_test s h =
    and_both _ _ h.size_good
    (and_both _ _ (granularity_listed s.granularity h.g_listed)
    (and_both _ _
    (⊎_elim (λ e. or_left (eqb s.poolcount 1) (eqb s.poolcount 3) (eq-eqb s.poolcount 1 e)) (λ e. or_right (eqb s.poolcount 1) (eqb s.poolcount 3) (eq-eqb s.poolcount 3 e)) h.pools_listed)
    (and_both _ _ (le-leb 1 s.w h.w_low)
    (and_both _ _ (le-leb s.w 16384 h.w_high)
    (and_both _ _ (arena_test s h) refl)))))

head_test : (s : State) (u t : ℕ) → Headed s → Lent s u t → head_ok s u t ≡ true
head_test s u t h l = head_of s u t (numbers_test s h) h.slots_low h.slots_high l.used_room l.stop_room h.count_slots

empty_test : (e : Bool) (n : ℕ) → (e ≡ true → n ≡ 0) → (n ≡ 0 → e ≡ true) → pick e (eqb n 0) (not (eqb n 0)) ≡ true
empty_test true n f g = eq-eqb n 0 (f refl)
empty_test false n f g = not_of_false (eqb n 0) (ne_eqb n 0 (λ q. not_both false (g q) refl))

block_test : (s : State) (b : Block) → ShapedBlockIn s b → block_ok s b ≡ true
unfolding block_ok
block_test s b k =
    and_both _ _ (and_both _ _ (lt-ltb b.slot s.slots k.slot) (lt-ltb b.pool s.poolcount k.pool))
    (and_both _ _ (eq-eqb (b.base % 65536) 0 k.base)
    (and_both _ _
    (and_both _ _ (not-zero_test b.area k.area_low)
    (and_both _ _ (eq-eqb (b.area % 32) 0 k.area_whole)
    (and_both _ _ (eq-eqb (b.area * s.granularity) b.size k.area_size)
    (and_both _ _ (le-leb b.area (32 * s.w) k.area_high) refl))))
    (and_both _ _
    (and_both _ _ (le-leb b.used b.area k.used)
    (and_both _ _ (le-leb b.start b.area k.start)
    (and_both _ _ (le-leb b.end b.area k.end)
    (and_both _ _ (le-leb b.largest b.area k.largest) refl))))
    (and_both _ _ (and_both _ _ (le-leb s.arena b.base k.above) (le-leb (b.base + b.size) (s.arena + s.length) k.below))
    (and_both _ _ (empty_test (is_empty b) b.used k.empty_unused k.unused_empty)
    (and_both _ _ (le-leb b.flags 3 k.flags) refl))))))

same_test_pool : (a b : Pool) → a ≡ b → same_pool a b ≡ true
same_test_pool a b e =
    and_both _ _ (eq-eqb a.granularity b.granularity (ap (λ (p : Pool). p.granularity) e))
    (and_both _ _ (eq-eqb a.blocks b.blocks (ap (λ (p : Pool). p.blocks) e))
    (and_both _ _ (eq-eqb a.empty b.empty (ap (λ (p : Pool). p.empty) e))
    (and_both _ _ (eq-eqb a.area b.area (ap (λ (p : Pool). p.area) e))
    (and_both _ _ (eq-eqb a.used b.used (ap (λ (p : Pool). p.used) e)) refl))))

module _ (s : State) (u t : ℕ) (k : Enough s u t) where
  table_test : table_ok s ≡ true
  unfolding table_ok
  table_test =
      and_both _ _ (all_of s.count (λ i. block_ok s (block_at s i)) (λ i l. block_test s (block_at s i) (k.sound i l)))
      (and_both _ _
      (pairs_of s.count (slots_apart s)
      (λ i j h l. not_of_false (eqb (block_at s i).slot (block_at s j).slot) (ne_eqb (block_at s i).slot (block_at s j).slot (k.slots_apart i j h l))))
      (and_both _ _
      (all_of 3 (λ p. pool_matches (pool_at s p) (pool_sum s s.count p) s.immediate)
      (λ p l.
      and_both (same_pool (pool_at s p) (pool_sum s s.count p)) (leb (empties_of s p) (pick s.immediate 0 1))
      (same_test_pool (pool_at s p) (pool_sum s s.count p) (k.pools p l))
      (le-leb (empties_of s p) (pick s.immediate 0 1) (k.empties p l))))
      (and_both _ _ (le-leb s.live (sum s.count (λ i. (block_at s i).used)) k.live) refl)))

  zeros_test : all 64 (zero_ok s) ≡ true
  zeros_test = all_of 64 (zero_ok s) (λ i l. by_le s.count i (λ h. zero_here s i h (k.zeros i h l) (k.zero_ages i h l)) (λ h. zero_below s i h))

  pub enough_good : good_shape s u t ≡ true
  enough_good =
      whole_good s u t (head_test s u t k.head k.lent) table_test
      (sym (layout_done s (laid s k.head k.sound) k.age_low k.next) ∙ zeros_test)

-- and so the facts say no less than the test
pub shaped_enough : (s : State) (u t : ℕ) → Shaped s u t → Enough s u t
shaped_enough s u t f = record {
  head = f.head;
  lent = f.lent;
  sound = f.sound;
  slots_apart = f.slots_apart;
  pools = f.pools;
  empties = f.empties;
  live = f.live;
  age_low = f.age_low;
  next = λ j k e l. f.behind j k (omega arith) l;
  zeros = f.zeros;
  zero_ages = f.zero_ages;
}
