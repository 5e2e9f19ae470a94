-- Laws of a filled run: its length, one byte more, and each byte. Assumes nothing.
use Prim.Native.Nat.{ℕ, zero, suc, ◌+◌, ◌/◌, ◌%◌, ◌≤◌, ◌<◌, ◌^◌}
use mathlib.Core.List.{List, [], ◌∷◌, ◌++◌, append-nil}
use mathlib.Core.Logic.{◌⊎◌, inl, inr, ⊎_elim}
use mathlib.Core.Path.{◌≡◌, refl, sym, ap, ◌∙◌}
use native.Mathlib.Nat.{div-one, eq-or-lt_of_le, le_of_suc-le-suc}
use native.Mathlib.Numerals.{add-one}
use native.Mathlib.Omega.{arith}
use lib.ListN.{length, set, get_or, length-append, get_or-append}
use lib.Seq.{sets, sets-eq, length-sets, get_or_at}
use Rattle.std.specs.Int.{w32, to_le_bytes}
use Rattle.std.proofs.lemmas.List.{drop_all}
use Rattle.text.proofs.Put.{sets_append}
use Rattle.image.proofs.Sets.{sets_out, sets_in}
use Rattle.image.specs.Image.{pattern_byte, repeated, filled_at}

pub length_repeated : (pattern n : ℕ) → length (repeated pattern n) ≡ n
unfolding repeated
length_repeated pattern zero = refl
length_repeated pattern (suc n) =
    length-append (repeated pattern n) (pattern_byte pattern n ∷ []) ∙ ap (λ (k : ℕ). k + 1) (length_repeated pattern n) ∙ add-one n

repeated_more : (pattern n : ℕ) → repeated pattern (n + 1) ≡ repeated pattern n ++ (pattern_byte pattern n ∷ [])
unfolding repeated
repeated_more pattern n = ap (repeated pattern) (add-one n)

repeated_none : (pattern : ℕ) → repeated pattern 0 ≡ []
unfolding repeated
repeated_none pattern = refl

pub filled_none : (image : List ℕ) (at pattern : ℕ) → filled_at image at 0 pattern ≡ image
filled_none image at pattern = ap (sets image at) (repeated_none pattern)

pub length_filled : (image : List ℕ) (at n pattern : ℕ) → length (filled_at image at n pattern) ≡ length image
length_filled image at n pattern = length-sets image at (repeated pattern n)

-- a loop that goes up puts one byte more
pub one_more : (image : List ℕ) (at n pattern : ℕ) → set (filled_at image at n pattern) (at + n) (pattern_byte pattern n) ≡ filled_at image at (n + 1) pattern
one_more image at n pattern =
    ap (λ (k : ℕ). set (filled_at image at n pattern) (at + k) (pattern_byte pattern n)) (sym (length_repeated pattern n))
    ∙ sets_append (repeated pattern n) (pattern_byte pattern n ∷ []) image at
    ∙ ap (sets image at) (sym (repeated_more pattern n))

-- a run that is filled whole
pub whole_run : (run : List ℕ) (n pattern : ℕ) → length run ≡ n → filled_at run 0 n pattern ≡ repeated pattern n
whole_run run n pattern e =
    let l = length_repeated pattern n in
    sets-eq (repeated pattern n) run 0 (omega (arith, l))
    ∙ ap (λ (d : List ℕ). repeated pattern n ++ d) (drop_all (0 + length (repeated pattern n)) run (omega (arith, l))) ∙ append-nil (repeated pattern n)

-- the bytes of the pattern, lowest first
pub byte_of : (pattern k : ℕ) → k < 4 → get_or (to_le_bytes w32 pattern) k 0 ≡ pattern / 256 ^ k % 256
byte_of pattern zero h = ap (λ (m : ℕ). m % 256) (sym (div-one pattern))
byte_of pattern (suc zero) h = refl
byte_of pattern (suc (suc zero)) h = refl
byte_of pattern (suc (suc (suc zero))) h = refl
byte_of pattern (suc (suc (suc (suc k)))) h = absurd (omega arith)

-- ---- each byte
-- outside the run it stays
pub filled_out : (image : List ℕ) (at n pattern j : ℕ) → (j < at) ⊎ (at + n ≤ j) → get_or (filled_at image at n pattern) j 0 ≡ get_or image j 0
filled_out image at n pattern j h =
    sets_out (repeated pattern n) image at j (⊎_elim inl (λ p. inr (omega (arith, p, length_repeated pattern n))) h)

repeated_byte : (pattern n j : ℕ) → j < n → get_or (repeated pattern n) j 0 ≡ pattern_byte pattern j
unfolding repeated
repeated_byte pattern zero j h = absurd (omega (arith, h))
repeated_byte pattern (suc n) j h =
    ⊎_elim
    (λ e. ap (λ (k : ℕ). get_or (repeated pattern n ++ (pattern_byte pattern n ∷ [])) k 0) e
    ∙ get_or_at (repeated pattern n) (pattern_byte pattern n) [] 0 n (length_repeated pattern n) ∙ ap (pattern_byte pattern) (sym e))
    (λ l. get_or-append (repeated pattern n) (pattern_byte pattern n ∷ []) 0 j (omega (arith, l, length_repeated pattern n)) ∙ repeated_byte pattern n j l)
    (eq-or-lt_of_le (le_of_suc-le-suc h))

-- in it, it is the pattern's
pub filled_in : (image : List ℕ) (at n pattern j : ℕ) → j < n → at + n ≤ length image → get_or (filled_at image at n pattern) (at + j) 0 ≡ pattern_byte pattern j
filled_in image at n pattern j h f =
    sets_in (repeated pattern n) image at j (omega (arith, h, length_repeated pattern n)) (omega (arith, f, length_repeated pattern n)) ∙ repeated_byte pattern n j h
