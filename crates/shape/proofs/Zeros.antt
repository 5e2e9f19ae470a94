-- Zeros behind the last block, in both lists. Assumes nothing.
use Prim.Native.Nat.{ℕ, ◌+◌, ◌-◌, ◌≤◌, ◌<◌}
use mathlib.Core.Path.{◌≡◌, sym, ap, ◌∙◌}
use mathlib.Core.Bool.{Bool, true, ◌&&◌}
use mathlib.Core.List.{List}
use native.Mathlib.Omega.{arith}
use lib.Dec.{eqb}
use lib.ListN.{length, get_or, take, drop}
use Rattle.std.specs.List.{list_all}
use Rattle.std.proofs.Common.{length-take, length-drop, get_or-take, get_or-drop}
use borrow.Author.Tests.{lt-ltb, le-ltb, eq-eqb, eqb-true}
use Rattle.numbers.proofs.Bools.{and_left, and_right, and_both, same_test}
use Rattle.numbers.proofs.Split.{by_le}
use Rattle.numbers.specs.Pick.{pick}
use Rattle.state.specs.declared.State.{State}
use Rattle.state.specs.Table.{zero_block, block_at, age_at, all}
use Rattle.state.specs.Shape.{is_zero, zero_ok}
use Rattle.state.proofs.Tests.{every_at, all_at, all_of}
use Rattle.shape.specs.Parts.{layout_ok}
use Rattle.shape.proofs.Chains.{list_all_here, list_all_of}
use Rattle.shape.proofs.Address.{layout_tests}

-- what is asked of entry i where no block stands
abbrev blank : State → ℕ → Bool
blank s i = is_zero (block_at s i) && eqb (age_at s i) 0

behind_last : (s : State) (i : ℕ) → s.count ≤ i → zero_ok s i ≡ blank s i
behind_last s i h = ap (λ (b : Bool). pick b true (blank s i)) (le-ltb i s.count h)

pub zero_below : (s : State) (i : ℕ) → i < s.count → zero_ok s i ≡ true
zero_below s i h = ap (λ (b : Bool). pick b true (blank s i)) (lt-ltb i s.count h)

pub zero_here : (s : State) (i : ℕ) → s.count ≤ i → is_zero (block_at s i) ≡ true → age_at s i ≡ 0 → zero_ok s i ≡ true
zero_here s i h b a = behind_last s i h ∙ and_both (is_zero (block_at s i)) (eqb (age_at s i) 0) b (eq-eqb (age_at s i) 0 a)

-- ---- the two lists from the last block on
abbrev pub behind : {A : Type 0} → ℕ → List A → List A
behind n xs = take (64 - n) (drop n xs)

module _ {A : Type 0} (n : ℕ) (xs : List A) (whole : length xs ≡ 64) where
  length_behind : length (behind n xs) ≡ 64 - n
  length_behind = simp (length-take, length-drop) (omega arith)

  behind_at : (d : A) (j : ℕ) → j < 64 - n → get_or (behind n xs) j d ≡ get_or xs (n + j) d
  behind_at d j h = get_or-take (64 - n) (drop n xs) j d h ∙ get_or-drop n xs j d

  passes_at : (p : A → Bool) (d : A) → list_all p (behind n xs) ≡ true → (i : ℕ) → n ≤ i → i < 64 → p (get_or xs i d) ≡ true
  passes_at p d e i h l =
      let k : n + (i - n) ≡ i = omega arith in
      ap (λ (m : ℕ). p (get_or xs m d)) (sym k) ∙ ap p (sym (behind_at d (i - n) (omega arith)))
      ∙ list_all_here p (behind n xs) d (i - n) e (omega (arith, length_behind))

  pass : (p : A → Bool) (d : A) → ((i : ℕ) → n ≤ i → i < 64 → p (get_or xs i d) ≡ true) → list_all p (behind n xs) ≡ true
  pass p d f =
      list_all_of p (behind n xs) d
      (λ j l. ap p (behind_at d j (omega (arith, length_behind))) ∙ f (n + j) (omega arith) (omega (arith, length_behind)))

pub zeros_are : (s : State) → length s.blocks ≡ 64 → length s.order ≡ 64
    → list_all is_zero (behind s.count s.blocks) && list_all (λ n. eqb n 0) (behind s.count s.order) ≡ all 64 (zero_ok s)
zeros_are s b o =
    same_test (blocks && order) (all 64 (zero_ok s))
    (λ e.
    all_of 64 (zero_ok s)
    (λ i l.
    by_le s.count i
    (λ h.
    zero_here s i h (passes_at s.count s.blocks b is_zero zero_block (and_left blocks order e) i h l)
    (eqb-true (age_at s i) 0 (passes_at s.count s.order o (λ n. eqb n 0) 0 (and_right blocks order e) i h l)))
    (λ h. zero_below s i h)))
    (λ e.
    let blank_at : (i : ℕ) → s.count ≤ i → i < 64 → blank s i ≡ true = λ i h l. sym (behind_last s i h) ∙ all_at 64 (zero_ok s) i e l in
    and_both blocks order
    (pass s.count s.blocks b is_zero zero_block (λ i h l. and_left (is_zero (block_at s i)) (eqb (age_at s i) 0) (blank_at i h l)))
    (pass s.count s.order o (λ n. eqb n 0) 0 (λ i h l. and_right (is_zero (block_at s i)) (eqb (age_at s i) 0) (blank_at i h l))))
  where
    blocks : Bool
    blocks = list_all is_zero (behind s.count s.blocks)

    order : Bool
    order = list_all (λ n. eqb n 0) (behind s.count s.order)

-- and what a test that passes says
module _ (s : State) (good : layout_ok s ≡ true) (i : ℕ) (h : s.count ≤ i) (l : i < 64) where
  blank_good : blank s i ≡ true
  unfolding layout_ok
  blank_good = sym (behind_last s i h) ∙ all_at 64 (zero_ok s) i (every_at (layout_tests s) 2 good) l

  pub block-zero : is_zero (block_at s i) ≡ true
  block-zero = and_left (is_zero (block_at s i)) (eqb (age_at s i) 0) blank_good

  pub age-zero : age_at s i ≡ 0
  age-zero = eqb-true (age_at s i) 0 (and_right (is_zero (block_at s i)) (eqb (age_at s i) 0) blank_good)
