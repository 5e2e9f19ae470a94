-- A line, one number more at a time. Assumes nothing.
use Prim.Native.Nat.{ℕ, ◌+◌, ◌≤◌, ◌<◌}
use mathlib.Core.List.{List, [], ◌∷◌, ◌++◌, append_assoc, append-nil}
use mathlib.Core.Path.{◌≡◌, refl, sym, ap, ◌∙◌}
use native.Mathlib.Numerals.{add-one}
use lib.ListN.{length, take, get_or}
use lib.Seq.{take_all, take-suc}
use Rattle.text.specs.Decimal.{decimal}
use Rattle.text.specs.Line.{spaced, line}

spaced-append : (ms ns : List ℕ) → spaced (ms ++ ns) ≡ spaced ms ++ spaced ns
spaced-append [] ns = refl
spaced-append (m ∷ ms) ns = ap (λ (l : List ℕ). (32 ∷ decimal m) ++ l) (spaced-append ms ns) ∙ sym (append_assoc (32 ∷ decimal m) (spaced ms) (spaced ns))

pub one_more : (word ns : List ℕ) (i : ℕ) → i < length ns
    → (word ++ spaced (take i ns)) ++ (32 ∷ decimal (get_or ns i 0)) ≡ word ++ spaced (take (i + 1) ns)
one_more word ns i h =
    append_assoc word (spaced (take i ns)) (32 ∷ decimal (get_or ns i 0))
    ∙ ap (λ (l : List ℕ). word ++ (spaced (take i ns) ++ l)) (sym (append-nil (32 ∷ decimal (get_or ns i 0))))
    ∙ ap (λ (l : List ℕ). word ++ l) (sym (spaced-append (take i ns) (get_or ns i 0 ∷ [])))
    ∙ ap (λ (l : List ℕ). word ++ spaced l) (sym (take-suc ns i 0 h) ∙ ap (λ (k : ℕ). take k ns) (sym (add-one i)))

pub whole : (word ns : List ℕ) (i : ℕ) → length ns ≤ i → (word ++ spaced (take i ns)) ++ (10 ∷ []) ≡ line word ns
whole word ns i h = append_assoc word (spaced (take i ns)) (10 ∷ []) ∙ ap (λ (l : List ℕ). word ++ (spaced l ++ (10 ∷ []))) (take_all i ns h)
