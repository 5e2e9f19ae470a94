-- Laws of a list of words as a map of bits: bits of parts, bits after a store, equality by bits. Assumes nothing.
use Prim.Native.Nat.{ℕ, zero, suc, ◌+◌, ◌*◌, ◌/◌, ◌%◌, ◌^◌, ◌≤◌, ◌<◌}
use mathlib.Core.Path.{◌≡◌, sym, ap, ◌∙◌}
use mathlib.Core.Logic.{⊎_elim}
use mathlib.Core.List.{List, [], ◌∷◌, ◌++◌}
use native.Mathlib.Nat.{mod-lt}
use native.Mathlib.Omega.{arith}
use lib.ListN.{length, get_or, set, take, drop, length-set, get_or-eq_default, get_or-append}
use lib.Dec.{lit<}
use lib.Seq.{get_or-set_same, get_or-set_other, set_out, ext_get_or, get_or-drop, get_or-append-add, get_or-take}
use Rattle.numbers.proofs.Split.{le-or-lt, eq-or-ne}
use Rattle.bits.specs.Bits.{digit, put, bit, set_bit, Words}
use Rattle.bits.proofs.Digits.{digit-lt, digit_of_zero, digits_ext, put_same, put_other, put-lt}

pub bit-lt : (ws : List ℕ) (k : ℕ) → bit ws k < 2
unfolding bit
bit-lt ws k = digit-lt (get_or ws (k / 32) 0) (k % 32)

pub bit_past : (ws : List ℕ) (k : ℕ) → 32 * length ws ≤ k → bit ws k ≡ 0
unfolding bit
bit_past ws k h =
    ap (λ (x : ℕ). digit x (k % 32)) (get_or-eq_default ws 0 {n = k / 32} (omega arith)) ∙ digit_of_zero (k % 32)

-- a bit by its word and its digit
pub bit_at : (ws : List ℕ) (i j : ℕ) → j < 32 → bit ws (32 * i + j) ≡ digit (get_or ws i 0) j
unfolding bit
bit_at ws i j h = go (32 * i + j) (omega arith) (omega arith)
  where
    go : (n : ℕ) → n / 32 ≡ i → n % 32 ≡ j → digit (get_or ws (n / 32) 0) (n % 32) ≡ digit (get_or ws i 0) j
    go n e f = rw (e, f)

-- ---- parts
pub bit_front : (xs ys : List ℕ) (k : ℕ) → k < 32 * length xs → bit (xs ++ ys) k ≡ bit xs k
unfolding bit
bit_front xs ys k h = ap (λ (x : ℕ). digit x (k % 32)) (get_or-append xs ys 0 (k / 32) (omega arith))

pub bit_behind : (xs ys : List ℕ) (k : ℕ) → bit (xs ++ ys) (32 * length xs + k) ≡ bit ys k
unfolding bit
bit_behind xs ys k = go (32 * length xs + k) (omega arith) (omega arith)
  where
    go : (n : ℕ) → n / 32 ≡ length xs + k / 32 → n % 32 ≡ k % 32 → digit (get_or (xs ++ ys) (n / 32) 0) (n % 32) ≡ digit (get_or ys (k / 32) 0) (k % 32)
    go n e f = rw (e, f, get_or-append-add xs ys (k / 32) 0)

pub bit-drop : (ws : List ℕ) (m k : ℕ) → bit (drop m ws) k ≡ bit ws (32 * m + k)
unfolding bit
bit-drop ws m k = go (32 * m + k) (omega arith) (omega arith)
  where
    go : (n : ℕ) → n / 32 ≡ m + k / 32 → n % 32 ≡ k % 32 → digit (get_or (drop m ws) (k / 32) 0) (k % 32) ≡ digit (get_or ws (n / 32) 0) (n % 32)
    go n e f = rw (e, f, get_or-drop m ws (k / 32) 0)

pub bit-take : (ws : List ℕ) (m k : ℕ) → k < 32 * m → bit (take m ws) k ≡ bit ws k
unfolding bit
bit-take ws m k h = ap (λ (x : ℕ). digit x (k % 32)) (get_or-take m ws (k / 32) 0 (omega arith))

-- ---- one bit set
pub length_set_bit : (ws : List ℕ) (k v : ℕ) → length (set_bit ws k v) ≡ length ws
unfolding set_bit
length_set_bit ws k v = length-set ws (k / 32) (put (get_or ws (k / 32) 0) (k % 32) v)

pub bit-set_same : (ws : List ℕ) (k v : ℕ) → v < 2 → k < 32 * length ws → bit (set_bit ws k v) k ≡ v
unfolding bit set_bit
bit-set_same ws k v h l =
    ap (λ (x : ℕ). digit x (k % 32)) (get_or-set_same ws (k / 32) (put (get_or ws (k / 32) 0) (k % 32) v) 0 (omega arith))
    ∙ put_same (get_or ws (k / 32) 0) (k % 32) v h

-- a word stored whose digit m is that of the word that was there changes no word's digit m
digit_store : (ws : List ℕ) (i x j m : ℕ) → (j ≡ i → digit x m ≡ digit (get_or ws i 0) m) → digit (get_or (set ws i x) j 0) m ≡ digit (get_or ws j 0) m
digit_store ws i x j m h =
    ⊎_elim
    (λ e. ⊎_elim (λ l. ap (λ (s : List ℕ). digit (get_or s j 0) m) (set_out ws i x l))
    (λ l. rw e (ap (λ (n : ℕ). digit n m) (get_or-set_same ws i x 0 l) ∙ h e)) (le-or-lt (length ws) i))
    (λ ne. ap (λ (n : ℕ). digit n m) (get_or-set_other ws i j x 0 ne)) (eq-or-ne j i)

pub bit-set_other : (ws : List ℕ) (k v j : ℕ) → v < 2 → (j ≡ k → ⊥) → bit (set_bit ws k v) j ≡ bit ws j
unfolding bit set_bit
bit-set_other ws k v j h ne =
    digit_store ws (k / 32) (put (get_or ws (k / 32) 0) (k % 32) v) (j / 32) (j % 32)
    (λ e. put_other (get_or ws (k / 32) 0) (k % 32) v (j % 32) h (λ g. ne (omega arith)))

words-set : (ws : List ℕ) (i x : ℕ) → Words ws → x < 2 ^ 32 → Words (set ws i x)
words-set [] i x h l j = h j
words-set (w ∷ ws) zero x h l zero = l
words-set (w ∷ ws) zero x h l (suc j) = h (suc j)
words-set (w ∷ ws) (suc i) x h l zero = h zero
words-set (w ∷ ws) (suc i) x h l (suc j) = words-set ws i x (λ n. h (suc n)) l j

pub words_set_bit : (ws : List ℕ) (k v : ℕ) → Words ws → v < 2 → Words (set_bit ws k v)
unfolding set_bit
words_set_bit ws k v h l =
    words-set ws (k / 32) (put (get_or ws (k / 32) 0) (k % 32) v) h (put-lt 32 (get_or ws (k / 32) 0) (k % 32) v (h (k / 32)) (mod-lt k (lit< tt)) l)

-- ---- equal bits: equal words
pub words_ext : (ws vs : List ℕ) → length ws ≡ length vs → Words ws → Words vs
    → ((k : ℕ) → k < 32 * length ws → bit ws k ≡ bit vs k) → ws ≡ vs
words_ext ws vs l hw hv e =
    ext_get_or 0 ws vs l
    (λ i h. digits_ext 32 (get_or ws i 0) (get_or vs i 0) (hw i) (hv i)
    (λ j g. sym (bit_at ws i j g) ∙ e (32 * i + j) (omega arith) ∙ bit_at vs i j g))
