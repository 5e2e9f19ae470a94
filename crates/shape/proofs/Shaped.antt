-- What a state that is not BadShape is, as plain facts. Assumes nothing.
use Prim.Native.Nat.{ℕ, ◌≤◌, ◌<◌}
use mathlib.Core.Path.{◌≡◌, ap, ◌∙◌}
use mathlib.Core.Bool.{Bool, true}
use mathlib.Core.List.{List, [], ◌∷◌}
use native.Mathlib.Omega.{arith}
use lib.Dec.{eqb}
use lib.ListN.{get_or}
use borrow.Author.Tests.{leb-true, eqb-true, eqb-false, not-true}
use Rattle.numbers.specs.Pick.{pick}
use Rattle.numbers.proofs.Bools.{and_left, and_right}
use Rattle.sizes.specs.declared.Pool.{Pool}
use Rattle.state.specs.declared.State.{State}
use Rattle.state.specs.Table.{block_at, age_at, pool_at, sum}
use Rattle.state.specs.Shape.{pool_ok, empties_ok, empties_of, good_shape}
use Rattle.state.proofs.Tests.{every_at, all_at, pairs_at}
use Rattle.shape.specs.Parts.{block_ok, same_pool, pool_sum, pool_matches, slots_apart, table_ok}
use Rattle.shape.specs.Facts.{ShapedBlockIn}
use Rattle.shape.specs.Shaped.{Shaped}
use Rattle.shape.proofs.Head.{headed, lent}
use Rattle.shape.proofs.OneBlock.{sound, sized}
use Rattle.shape.proofs.Pigeon.{place}
use Rattle.shape.proofs.Walk.{table_tests}
use Rattle.shape.proofs.Address.{once, ages_low, pair_apart, behind}
use Rattle.shape.proofs.Zeros.{block-zero, age-zero}
use Rattle.shape.proofs.Whole.{good_head, good_table, good_layout}

abbrev pool_tests : Pool → Pool → List Bool
pool_tests a b =
    eqb a.granularity b.granularity ∷ eqb a.blocks b.blocks ∷ eqb a.empty b.empty ∷ eqb a.area b.area ∷ eqb a.used b.used ∷ []

abbrev make : ℕ → ℕ → ℕ → ℕ → ℕ → Pool
make granularity blocks empty area used = record { granularity = granularity; blocks = blocks; empty = empty; area = area; used = used }

-- records of five equal numbers are equal
pub same_pool_lem : (a b : Pool) → same_pool a b ≡ true → a ≡ b
same_pool_lem a b e =
    let granularity = eqb-true a.granularity b.granularity (every_at (pool_tests a b) 0 e) in
    let blocks = eqb-true a.blocks b.blocks (every_at (pool_tests a b) 1 e) in
    let empty = eqb-true a.empty b.empty (every_at (pool_tests a b) 2 e) in
    let area = eqb-true a.area b.area (every_at (pool_tests a b) 3 e) in
    let used = eqb-true a.used b.used (every_at (pool_tests a b) 4 e) in
    ap (λ (n : ℕ). make n a.blocks a.empty a.area a.used) granularity
    ∙ ap (λ (n : ℕ). make b.granularity n a.empty a.area a.used) blocks
    ∙ ap (λ (n : ℕ). make b.granularity b.blocks n a.area a.used) empty
    ∙ ap (λ (n : ℕ). make b.granularity b.blocks b.empty n a.used) area
    ∙ ap (λ (n : ℕ). make b.granularity b.blocks b.empty b.area n) used

module _ (s : State) (good : table_ok s ≡ true) where
  at : (k : ℕ) → get_or (table_tests s) k true ≡ true
  unfolding table_ok
  at k = every_at (table_tests s) k good

  pub table_sound : (i : ℕ) → i < s.count → ShapedBlockIn s (block_at s i)
  table_sound i l = sound s (block_at s i) (all_at s.count (λ i. block_ok s (block_at s i)) i (at 0) l)

  pub table_slots : (i j : ℕ) → i < j → j < s.count → (block_at s i).slot ≡ (block_at s j).slot → ⊥
  table_slots i j h l =
      eqb-false (block_at s i).slot (block_at s j).slot
      (not-true (eqb (block_at s i).slot (block_at s j).slot) (pairs_at s.count (slots_apart s) i j (at 1) h l))

  like : (p : ℕ) → p < 3 → pool_matches (pool_at s p) (pool_sum s s.count p) s.immediate ≡ true
  like p l = all_at 3 (λ p. pool_matches (pool_at s p) (pool_sum s s.count p) s.immediate) p (at 2) l

  pub table_pools : (p : ℕ) → p < 3 → pool_at s p ≡ pool_sum s s.count p
  table_pools p l = same_pool_lem (pool_at s p) (pool_sum s s.count p) (and_left (pool_ok s p) (empties_ok s p) (like p l))

  pub table_empties : (p : ℕ) → p < 3 → empties_of s p ≤ pick s.immediate 0 1
  table_empties p l = leb-true (empties_of s p) (pick s.immediate 0 1) (and_right (pool_ok s p) (empties_ok s p) (like p l))

  pub table_live : s.live ≤ sum s.count (λ i. (block_at s i).used)
  table_live = leb-true s.live (sum s.count (λ i. (block_at s i).used)) (at 3)

pub shaped_is : (s : State) (u t : ℕ) → good_shape s u t ≡ true → Shaped s u t
shaped_is s u t e =
    let h = good_head s u t e in
    let b = good_table s u t e in
    let o = good_layout s u t e in
    record {
      head = headed s u t h;
      lent = lent s u t h;
      sound = table_sound s b;
      sized = λ i l. sized s (block_at s i) (headed s u t h) (table_sound s b i l);
      slots_apart = table_slots s b;
      bytes_apart = pair_apart s o;
      pools = table_pools s b;
      empties = table_empties s b;
      live = table_live s b;
      age_low = ages_low s o;
      age_once = once s o;
      place_of = λ i l. place s.count (age_at s) i (once s o i l);
      behind = behind s o;
      rising = λ k l m n. omega (arith, behind s o k l m n, sized s (block_at s (age_at s k)) (headed s u t h) (table_sound s b (age_at s k) (ages_low s o k (omega arith))));
      zeros = λ i h l. block-zero s o i h l;
      zero_ages = λ i h l. age-zero s o i h l;
    }
