-- The parts that the code tests are, together, the clauses as they are printed. Assumes nothing.
use Prim.Native.Nat.{ℕ, ◌<◌}
use mathlib.Core.Path.{◌≡◌, refl}
use mathlib.Core.Bool.{true, ◌&&◌}
use lib.ListN.{get_or}
use Rattle.numbers.proofs.Bools.{same_test, and_left, and_right, and_both}
use Rattle.block.specs.declared.Block.{Block}
use Rattle.state.specs.declared.State.{State}
use Rattle.state.specs.Table.{block_at, pool_at, all}
use Rattle.state.specs.Shape.{numbers_ok, slots_ok, place_ok, base_ok, area_ok, fields_ok, inside_ok, empty_ok, flags_ok, apart, pool_ok, empties_ok, live_ok, order_ok, zero_ok, clauses, good_shape}
use Rattle.state.proofs.Tests.{every_at, all_at, all_of, pairs_at, pairs_of}
use Rattle.shape.specs.Parts.{head_ok, block_tests, block_ok, pool_sum, pool_matches, slots_apart, bytes_apart, table_ok, layout_ok}
use Rattle.shape.proofs.Head.{head_tests}
use Rattle.shape.proofs.Walk.{table_tests}
use Rattle.shape.proofs.Address.{layout_tests}

-- ---- one block that passes
module _ (s : State) (b : Block) (good : block_ok s b ≡ true) where
  at : (k : ℕ) → get_or (block_tests s b) k true ≡ true
  unfolding block_ok
  at k = every_at (block_tests s b) k good

-- ---- from the clauses to the parts
module _ (s : State) (u t : ℕ) (good : good_shape s u t ≡ true) where
  clause : (k : ℕ) → get_or (clauses s u t) k true ≡ true
  clause k = every_at (clauses s u t) k good

  pub good_head : head_ok s u t ≡ true
  unfolding clauses head_ok
  good_head =
      and_both _ _ (and_left (numbers_ok s) (slots_ok s) (clause 0))
      (and_both _ _ (and_right (numbers_ok s) (slots_ok s) (clause 0)) (and_both _ _ (clause 1) (and_both _ _ (clause 2) refl)))

  block_good : (i : ℕ) → i < s.count → block_ok s (block_at s i) ≡ true
  unfolding clauses block_ok
  block_good i l =
      and_both _ _ (all_at s.count (λ i. place_ok s (block_at s i)) i (clause 3) l)
      (and_both _ _ (all_at s.count (λ i. base_ok (block_at s i)) i (clause 4) l)
      (and_both _ _ (all_at s.count (λ i. area_ok s (block_at s i)) i (clause 5) l)
      (and_both _ _ (all_at s.count (λ i. fields_ok (block_at s i)) i (clause 6) l)
      (and_both _ _ (all_at s.count (λ i. inside_ok s (block_at s i)) i (clause 8) l)
      (and_both _ _ (all_at s.count (λ i. empty_ok (block_at s i)) i (clause 9) l)
      (and_both _ _ (all_at s.count (λ i. flags_ok (block_at s i)) i (clause 15) l) refl))))))

  pair_good : (i j : ℕ) → i < j → j < s.count → apart (block_at s i) (block_at s j) ≡ true
  unfolding clauses
  pair_good i j h l = pairs_at s.count (λ i j. apart (block_at s i) (block_at s j)) i j (clause 7) h l

  pool_good : (p : ℕ) → p < 3 → pool_matches (pool_at s p) (pool_sum s s.count p) s.immediate ≡ true
  unfolding clauses
  pool_good p l = and_both (pool_ok s p) (empties_ok s p) (all_at 3 (pool_ok s) p (clause 10) l) (all_at 3 (empties_ok s) p (clause 11) l)

  live_good : live_ok s ≡ true
  unfolding clauses
  live_good = clause 12

  order_good : order_ok s ≡ true
  unfolding clauses
  order_good = clause 13

  zero_good : all 64 (zero_ok s) ≡ true
  unfolding clauses
  zero_good = clause 14

  pub good_table : table_ok s ≡ true
  unfolding table_ok
  good_table =
      and_both _ _ (all_of s.count (λ i. block_ok s (block_at s i)) block_good)
      (and_both _ _ (pairs_of s.count (slots_apart s) (λ i j h l. and_left (slots_apart s i j) (bytes_apart s i j) (pair_good i j h l)))
      (and_both _ _ (all_of 3 (λ p. pool_matches (pool_at s p) (pool_sum s s.count p) s.immediate) pool_good)
      (and_both _ _ live_good refl)))

  pub good_layout : layout_ok s ≡ true
  unfolding layout_ok
  good_layout =
      and_both _ _ order_good
      (and_both _ _ (pairs_of s.count (bytes_apart s) (λ i j h l. and_right (slots_apart s i j) (bytes_apart s i j) (pair_good i j h l)))
      (and_both _ _ zero_good refl))

-- ---- and back
module _ (s : State) (u t : ℕ) (head : head_ok s u t ≡ true) (table : table_ok s ≡ true) (layout : layout_ok s ≡ true) where
  h : (k : ℕ) → get_or (head_tests s u t) k true ≡ true
  unfolding head_ok
  h k = every_at (head_tests s u t) k head

  b : (k : ℕ) → get_or (table_tests s) k true ≡ true
  unfolding table_ok
  b k = every_at (table_tests s) k table

  o : (k : ℕ) → get_or (layout_tests s) k true ≡ true
  unfolding layout_ok
  o k = every_at (layout_tests s) k layout

  fine : (i : ℕ) → i < s.count → block_ok s (block_at s i) ≡ true
  fine i l = all_at s.count (λ i. block_ok s (block_at s i)) i (b 0) l

  like : (p : ℕ) → p < 3 → pool_matches (pool_at s p) (pool_sum s s.count p) s.immediate ≡ true
  like p l = all_at 3 (λ p. pool_matches (pool_at s p) (pool_sum s s.count p) s.immediate) p (b 2) l

  pub whole_good : good_shape s u t ≡ true
  unfolding clauses
  whole_good =
      and_both _ _ (and_both (numbers_ok s) (slots_ok s) (h 0) (h 1))
      (and_both _ _ (h 2)
      (and_both _ _ (h 3)
      (and_both _ _ (all_of s.count (λ i. place_ok s (block_at s i)) (λ i l. at s (block_at s i) (fine i l) 0))
      (and_both _ _ (all_of s.count (λ i. base_ok (block_at s i)) (λ i l. at s (block_at s i) (fine i l) 1))
      (and_both _ _ (all_of s.count (λ i. area_ok s (block_at s i)) (λ i l. at s (block_at s i) (fine i l) 2))
      (and_both _ _ (all_of s.count (λ i. fields_ok (block_at s i)) (λ i l. at s (block_at s i) (fine i l) 3))
      (and_both _ _ (pairs_of s.count (λ i j. apart (block_at s i) (block_at s j)) (λ i j k l. and_both (slots_apart s i j) (bytes_apart s i j) (pairs_at s.count (slots_apart s) i j (b 1) k l) (pairs_at s.count (bytes_apart s) i j (o 1) k l)))
      (and_both _ _ (all_of s.count (λ i. inside_ok s (block_at s i)) (λ i l. at s (block_at s i) (fine i l) 4))
      (and_both _ _ (all_of s.count (λ i. empty_ok (block_at s i)) (λ i l. at s (block_at s i) (fine i l) 5))
      (and_both _ _ (all_of 3 (pool_ok s) (λ p l. and_left (pool_ok s p) (empties_ok s p) (like p l)))
      (and_both _ _ (all_of 3 (empties_ok s) (λ p l. and_right (pool_ok s p) (empties_ok s p) (like p l)))
      (and_both _ _ (b 3)
      (and_both _ _ (o 0)
      (and_both _ _ (o 2)
      (and_both _ _ (all_of s.count (λ i. flags_ok (block_at s i)) (λ i l. at s (block_at s i) (fine i l) 6)) refl)))))))))))))))

-- ---- the parts are the whole
pub parts : (s : State) (u t : ℕ) → good_shape s u t ≡ head_ok s u t && (table_ok s && layout_ok s)
parts s u t =
    same_test (good_shape s u t) (head_ok s u t && (table_ok s && layout_ok s))
    (λ g. and_both (head_ok s u t) (table_ok s && layout_ok s) (good_head s u t g) (and_both (table_ok s) (layout_ok s) (good_table s u t g) (good_layout s u t g)))
    (λ e.
    let rest = and_right (head_ok s u t) (table_ok s && layout_ok s) e in
    whole_good s u t (and_left (head_ok s u t) (table_ok s && layout_ok s) e) (and_left (table_ok s) (layout_ok s) rest) (and_right (table_ok s) (layout_ok s) rest))
