-- What is put into a slot is its part from then on; no other slot and no word outside changes. Assumes nothing.
use Prim.Native.Nat.{ℕ, suc, ◌+◌, ◌-◌, ◌*◌, ◌^◌, ◌≤◌, ◌<◌}
use mathlib.Core.List.{List, ◌++◌}
use mathlib.Core.Logic.{◌⊎◌, inl, inr, ⊎_elim}
use mathlib.Core.Path.{◌≡◌, sym, ap, ap₂, subst, ◌∙◌}
use native.Mathlib.Nat.{mul-le-mul_right, suc-mul}
use native.Mathlib.Omega.{arith}
use lib.Dec.{lit<}
use lib.ListN.{length, get_or, take, drop, replicate, length-append, length-take, length-drop, get_or-append, get_or-eq_default}
use lib.Seq.{length-take-le, take_at, drop_at, get_or-take, get_or-drop, ext_get_or, get_or-append-add}
use borrow.Rule.Slice.PartMut.{put_same}
use Rattle.numbers.proofs.Split.{le-or-lt}
use Rattle.bits.specs.Bits.{filled, Words}
use Rattle.bits.proofs.Filled.{filled_cleared}
use Rattle.slots.specs.Slots.{slot_of, put_slot}

pub length_slot : (w s : ℕ) (ws : List ℕ) → (s + 1) * w ≤ length ws → length (slot_of w s ws) ≡ w
length_slot w s ws h = length-take-le w (drop (s * w) ws) (omega (arith, length-drop (s * w) ws))

-- a word of the slot
pub slot_word : (w s : ℕ) (ws : List ℕ) (i : ℕ) → i < w → get_or (slot_of w s ws) i 0 ≡ get_or ws (s * w + i) 0
slot_word w s ws i h = get_or-take w (drop (s * w) ws) i 0 h ∙ get_or-drop (s * w) ws i 0

pub words_slot : (w s : ℕ) (ws : List ℕ) → Words ws → Words (slot_of w s ws)
words_slot w s ws f i =
    ⊎_elim
    (λ p.
    let e : get_or (slot_of w s ws) i 0 ≡ 0 = get_or-eq_default (slot_of w s ws) 0 {n = i} (omega (arith, length-take w (drop (s * w) ws))) in
    rw e (lit< tt))
    (λ p. subst (λ (x : ℕ). x < 2 ^ 32) (sym (slot_word w s ws i p)) (f (s * w + i))) (le-or-lt w i)

-- the part put back as it was
pub put_slot_same : (w s : ℕ) (ws : List ℕ) → put_slot w s ws (slot_of w s ws) ≡ ws
put_slot_same w s ws = put_same (s * w) w ws

module _ (w s : ℕ) (ws x : List ℕ) (h : (s + 1) * w ≤ length ws) (e : length x ≡ w) where
  before_is : length (take (s * w) ws) ≡ s * w
  before_is = length-take-le (s * w) ws (omega arith)

  pub length_put_slot : length (put_slot w s ws x) ≡ length ws
  length_put_slot =
      omega (
        arith,
        length-append (take (s * w) ws) (x ++ drop w (drop (s * w) ws)),
        length-append x (drop w (drop (s * w) ws)),
        before_is,
        length-drop w (drop (s * w) ws),
        length-drop (s * w) ws,
      )

  pub slot_own : slot_of w s (put_slot w s ws x) ≡ x
  slot_own = ap (take w) (drop_at (take (s * w) ws) (x ++ drop w (drop (s * w) ws)) (s * w) before_is) ∙ take_at x (drop w (drop (s * w) ws)) w e

  -- the later of two parts stays
  pub put_put_slot : (y : List ℕ) → put_slot w s (put_slot w s ws x) y ≡ put_slot w s ws y
  put_put_slot y =
      let rest = drop w (drop (s * w) ws) in
      ap₂ (λ (p q : List ℕ). p ++ (y ++ q)) (take_at (take (s * w) ws) (x ++ rest) (s * w) before_is)
      (ap (drop w) (drop_at (take (s * w) ws) (x ++ rest) (s * w) before_is) ∙ drop_at x rest w e)

  -- a word outside the slot
  pub put_slot_out : (j : ℕ) → (j < s * w) ⊎ (s * w + w ≤ j) → get_or (put_slot w s ws x) j 0 ≡ get_or ws j 0
  put_slot_out j (inl p) =
      get_or-append (take (s * w) ws) (x ++ drop w (drop (s * w) ws)) 0 j (omega (arith, before_is)) ∙ get_or-take (s * w) ws j 0 p
  put_slot_out j (inr p) =
      let a = before_is in
      let i = j - (s * w + w) in
      let f : length (take (s * w) ws) + (length x + i) ≡ j = omega arith in
      let k : s * w + (w + i) ≡ j = omega arith in
      ap (λ (m : ℕ). get_or (put_slot w s ws x) m 0) (sym f)
      ∙ get_or-append-add (take (s * w) ws) (x ++ drop w (drop (s * w) ws)) (length x + i) 0
      ∙ get_or-append-add x (drop w (drop (s * w) ws)) i 0
      ∙ get_or-drop w (drop (s * w) ws) i 0
      ∙ get_or-drop (s * w) ws (w + i) 0
      ∙ ap (λ (m : ℕ). get_or ws m 0) k

  pub words_put_slot : Words ws → Words x → Words (put_slot w s ws x)
  words_put_slot f g j =
      ⊎_elim
      (λ p. ⊎_elim
      (λ q. subst (λ (n : ℕ). n < 2 ^ 32) (sym (put_slot_out j (inr q))) (f j))
      (λ q.
      let i = j - s * w in
      let at : s * w + i ≡ j = omega arith in
      let was : get_or (put_slot w s ws x) j 0 ≡ get_or x i 0 =
      ap (λ (m : ℕ). get_or (put_slot w s ws x) m 0) (sym at) ∙ sym (slot_word w s (put_slot w s ws x) i (omega arith)) ∙ ap (λ (l : List ℕ). get_or l i 0) slot_own in
      subst (λ (n : ℕ). n < 2 ^ 32) (sym was) (g i)) (le-or-lt (s * w + w) j))
      (λ p. subst (λ (n : ℕ). n < 2 ^ 32) (sym (put_slot_out j (inl p))) (f j)) (le-or-lt (s * w) j)

-- two slots do not meet
slots_apart : (w s r k : ℕ) → (r ≡ s → ⊥) → k < w → (r * w + k < s * w) ⊎ (s * w + w ≤ r * w + k)
slots_apart w s r k ne h =
    ⊎_elim (λ p. inl (omega (arith, mul-le-mul_right w (below p), suc-mul r w)))
    (λ p. inr (omega (arith, mul-le-mul_right w p, suc-mul s w))) (le-or-lt r s)
  where
    below : r ≤ s → suc r ≤ s
    below p = omega (arith, ne)

pub slot_other : (w s r : ℕ) (ws x : List ℕ) → (s + 1) * w ≤ length ws → length x ≡ w → (r ≡ s → ⊥) → (r + 1) * w ≤ length ws
    → slot_of w r (put_slot w s ws x) ≡ slot_of w r ws
slot_other w s r ws x h e ne g =
    let a = length_slot w r (put_slot w s ws x) (omega (arith, length_put_slot w s ws x h e)) in
    ext_get_or 0 (slot_of w r (put_slot w s ws x)) (slot_of w r ws) (a ∙ sym (length_slot w r ws g))
    (λ i q.
    let y : i < w = omega arith in
    slot_word w r (put_slot w s ws x) i y ∙ put_slot_out w s ws x h e (r * w + i) (slots_apart w s r i ne y) ∙ sym (slot_word w r ws i y))

-- every unit of a slot cleared: its words are zero
pub slot_cleared : (w s : ℕ) (ws : List ℕ) → (s + 1) * w ≤ length ws → Words ws → filled (slot_of w s ws) 0 (32 * w) 0 ≡ replicate w 0
slot_cleared w s ws h f =
    let e = length_slot w s ws h in
    ap (λ (n : ℕ). filled (slot_of w s ws) 0 (32 * n) 0) (sym e) ∙ filled_cleared (slot_of w s ws) (words_slot w s ws f) ∙ ap (λ (n : ℕ). replicate n 0) e
