-- Laws of runs of bits that are filled or cleared: step by step, in a part of the words, as the function `filled`; no second outcome. Assumes nothing.
use Prim.Native.Nat.{ℕ, zero, suc, ◌+◌, ◌-◌, ◌*◌, ◌/◌, ◌%◌, ◌^◌, ◌≤◌, ◌<◌}
use mathlib.Core.Path.{◌≡◌, refl, sym, ap, ◌∙◌, subst}
use mathlib.Core.Logic.{⊎_elim}
use mathlib.Core.List.{List, ◌++◌, append-nil}
use native.Mathlib.Omega.{arith}
use native.Mathlib.Numerals.{add-one}
use lib.Dec.{lit<}
use lib.ListN.{length, get_or, take, drop, replicate, length-append, length-drop, length-replicate, take-append-drop}
use lib.Seq.{length-take-le, take_all, drop-length}
use borrow.Rule.Slice.PartMut.{mid_of, put_mid, Post-is}
use Rattle.numbers.proofs.Split.{le-or-lt}
use Rattle.bits.specs.Bits.{digit, bit, set_bit, filled, Filled, Words}
use Rattle.bits.proofs.Digits.{digit_of_zero}
use Rattle.bits.proofs.Words.{bit_front, bit_behind, length_set_bit, bit-set_same, bit-set_other, words_set_bit, words_ext}

-- ---- a run grows by one bit
pub filled_none : (ws : List ℕ) (a v : ℕ) → Filled ws a 0 v ws
filled_none ws a v = record { size = refl; inside = λ k p q. absurd (omega arith); below = λ k p. refl; above = λ k p. refl }

pub filled_more : {ws vs us : List ℕ} {a n v : ℕ} → Filled ws a n v vs → Filled vs (a + n) 1 v us → Filled ws a (n + 1) v us
filled_more {a = a} {n = n} f g = record {
  size = g.size ∙ f.size;
  inside = λ k p q. ⊎_elim (λ l. g.inside k l (omega arith)) (λ l. g.below k l ∙ f.inside k p l) (le-or-lt (a + n) k);
  below = λ k p. g.below k (omega arith) ∙ f.below k p;
  above = λ k p. g.above k (omega arith) ∙ f.above k (omega arith);
}

pub filled_bit : (ws : List ℕ) (k v : ℕ) → v < 2 → k < 32 * length ws → Filled ws k 1 v (set_bit ws k v)
filled_bit ws k v h l = record {
  size = length_set_bit ws k v;
  inside = λ j p q.
      let e : j ≡ k = omega arith in
      ap (bit (set_bit ws k v)) e ∙ bit-set_same ws k v h l;
  below = λ j p. bit-set_other ws k v j h (λ e. omega arith);
  above = λ j p. bit-set_other ws k v j h (λ e. omega arith);
}

-- ---- a run in a part of the words
by_part : (m k : ℕ) → 32 * m ≤ k → 32 * m + (k - 32 * m) ≡ k
by_part m k h = omega arith

-- behind the words p
pub filled_behind : (p : List ℕ) {xs ys : List ℕ} {a n v : ℕ} → Filled xs a n v ys → Filled (p ++ xs) (32 * length p + a) n v (p ++ ys)
filled_behind p {xs} {ys} {a} {n} {v} f = record {
  size = length-append p ys ∙ ap (λ (l : ℕ). length p + l) f.size ∙ sym (length-append p xs);
  inside = λ k s t. behind k (omega arith) ∙ f.inside (k - 32 * length p) (omega arith) (omega arith);
  below = λ k s. ⊎_elim
      (λ l. behind k l ∙ f.below (k - 32 * length p) (omega arith) ∙ sym (was k l))
      (λ l. bit_front p ys k l ∙ sym (bit_front p xs k l)) (le-or-lt (32 * length p) k);
  above = λ k s. behind k (omega arith) ∙ f.above (k - 32 * length p) (omega arith) ∙ sym (was k (omega arith));
}
  where
    behind : (k : ℕ) → 32 * length p ≤ k → bit (p ++ ys) k ≡ bit ys (k - 32 * length p)
    behind k l = ap (bit (p ++ ys)) (sym (by_part (length p) k l)) ∙ bit_behind p ys (k - 32 * length p)

    was : (k : ℕ) → 32 * length p ≤ k → bit (p ++ xs) k ≡ bit xs (k - 32 * length p)
    was k l = ap (bit (p ++ xs)) (sym (by_part (length p) k l)) ∙ bit_behind p xs (k - 32 * length p)

-- `&mut ws[m..]` was lent and came back as ys
lent_is : (ws : List ℕ) (m : ℕ) → mid_of m (length ws - m) ws ≡ drop m ws
lent_is ws m = take_all (length ws - m) (drop m ws) (omega (arith, length-drop m ws))

back_is : (ws ys : List ℕ) (m : ℕ) → m ≤ length ws → put_mid m (length ws - m) ws ys ≡ take m ws ++ ys
back_is ws ys m h =
    ap (λ (l : List ℕ). take m ws ++ (ys ++ l)) (Post-is m (length ws) ws h ∙ drop-length ws)
    ∙ ap (λ (l : List ℕ). take m ws ++ l) (append-nil ys)

-- the part from the word of the first bit on is filled, from the bit's place in that word: so is the whole
pub filled_lent : (ws ys : List ℕ) (a n v : ℕ) → a / 32 ≤ length ws → Filled (mid_of (a / 32) (length ws - a / 32) ws) (a % 32) n v ys
    → Filled ws a n v (put_mid (a / 32) (length ws - a / 32) ws ys)
filled_lent ws ys a n v h f =
    let m = a / 32 in
    let g = filled_behind (take m ws) (subst (λ (l : List ℕ). Filled l (a % 32) n v ys) (lent_is ws m) f) in
    let e : 32 * length (take m ws) + a % 32 ≡ a = omega (arith, length-take-le m ws h) in
    subst (Filled ws a n v) (sym (back_is ws ys m h))
    (subst (λ (l : List ℕ). Filled l a n v (take m ws ++ ys)) (take-append-drop m ws)
    (subst (λ (k : ℕ). Filled (take m ws ++ drop m ws) k n v (take m ws ++ ys)) e g))

-- ---- no second outcome
pub filled_unique : {ws vs us : List ℕ} {a n v : ℕ} → Filled ws a n v vs → Filled ws a n v us → Words vs → Words us → vs ≡ us
filled_unique {vs = vs} {us = us} {a = a} {n = n} f g hv hu =
    words_ext vs us (f.size ∙ sym g.size) hv hu
    (λ k q.
    ⊎_elim
    (λ p. ⊎_elim (λ r. f.above k r ∙ sym (g.above k r)) (λ r. f.inside k p r ∙ sym (g.inside k p r)) (le-or-lt (a + n) k))
    (λ p. f.below k p ∙ sym (g.below k p)) (le-or-lt a k))

-- ---- the function
pub filled_has : (ws : List ℕ) (a n v : ℕ) → v < 2 → a + n ≤ 32 * length ws → Filled ws a n v (filled ws a n v)
unfolding filled
filled_has ws a zero v h l = filled_none ws a v
filled_has ws a (suc n) v h l =
    let f = filled_has ws a n v h (omega arith) in
    subst (λ (m : ℕ). Filled ws a m v (set_bit (filled ws a n v) (a + n) v)) (add-one n)
    (filled_more f (filled_bit (filled ws a n v) (a + n) v h (omega (arith, f.size))))

pub words_filled : (ws : List ℕ) (a n v : ℕ) → Words ws → v < 2 → Words (filled ws a n v)
unfolding filled
words_filled ws a zero v h l = h
words_filled ws a (suc n) v h l = words_set_bit (filled ws a n v) (a + n) v (words_filled ws a n v h l) l

pub length_filled : (ws : List ℕ) (a n v : ℕ) → length (filled ws a n v) ≡ length ws
unfolding filled
length_filled ws a zero v = refl
length_filled ws a (suc n) v = length_set_bit (filled ws a n v) (a + n) v ∙ length_filled ws a n v

-- whoever has the bits of the filled words is the filled words
pub filled_is : {ws vs : List ℕ} {a n v : ℕ} → Filled ws a n v vs → Words ws → Words vs → v < 2 → a + n ≤ 32 * length ws → vs ≡ filled ws a n v
filled_is {ws} {vs} {a} {n} {v} f hw hv h l = filled_unique f (filled_has ws a n v h l) hv (words_filled ws a n v hw h)

-- ---- all words cleared
zeros_at : (n i : ℕ) → ◌≡◌ {A = ℕ} (get_or (replicate n 0) i 0) 0
zeros_at zero i = refl
zeros_at (suc n) zero = refl
zeros_at (suc n) (suc i) = zeros_at n i

pub bit_zeros : (n k : ℕ) → bit (replicate n 0) k ≡ 0
unfolding bit
bit_zeros n k = ap (λ (x : ℕ). digit x (k % 32)) (zeros_at n (k / 32)) ∙ digit_of_zero (k % 32)

pub words_zeros : (n : ℕ) → Words (replicate n 0)
words_zeros n i = subst (λ (x : ℕ). x < 2 ^ 32) (sym (zeros_at n i)) (lit< tt)

pub filled_cleared : (ws : List ℕ) → Words ws → filled ws 0 (32 * length ws) 0 ≡ replicate (length ws) 0
filled_cleared ws h =
    let f = filled_has ws 0 (32 * length ws) 0 (lit< tt) (omega arith) in
    words_ext (filled ws 0 (32 * length ws) 0) (replicate (length ws) 0) (f.size ∙ sym (length-replicate {A = ℕ} (length ws) 0)) (words_filled ws 0 (32 * length ws) 0 h (lit< tt))
    (words_zeros (length ws)) (λ k q. f.inside k (omega arith) (omega (arith, f.size)) ∙ sym (bit_zeros (length ws) k))
