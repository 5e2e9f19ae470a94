-- What an iterator's `all` answers over lists, as the definitions say it: by index. Assumes nothing.
use Prim.Native.Nat.{ℕ, suc, ◌<◌}
use mathlib.Core.Path.{◌≡◌, refl, sym, ap, ◌∙◌}
use mathlib.Core.Bool.{Bool, true}
use mathlib.Core.List.{List, [], ◌∷◌}
use native.Mathlib.Omega.{arith}
use lib.ListN.{length, get_or}
use Rattle.std.specs.List.{list_all, zip}
use Rattle.std.proofs.lemmas.List.Folds.{list_all_at}
use Rattle.std.proofs.lemmas.Slice.Zip.{get_or-zip, length-zip}
use Rattle.numbers.proofs.Bools.{not_both, by_bool, same_test, and_both}
use Rattle.state.specs.Table.{all}
use Rattle.state.proofs.Tests.{all_at, all_of}

pub list_all_here : {A : Type 0} (p : A → Bool) (xs : List A) (d : A) (i : ℕ) → list_all p xs ≡ true → i < length xs → p (get_or xs i d) ≡ true
list_all_here p xs d i e l = by_bool (p (get_or xs i d)) (λ q. q) (λ q. absurd (not_both (list_all p xs) e (list_all_at p xs i d l q)))

pub list_all_of : {A : Type 0} (p : A → Bool) (xs : List A) (d : A) → ((i : ℕ) → i < length xs → p (get_or xs i d) ≡ true) → list_all p xs ≡ true
list_all_of p [] d f = refl
list_all_of p (x ∷ xs) d f = and_both (p x) (list_all p xs) (f 0 (omega arith)) (list_all_of p xs d (λ i l. f (suc i) (omega arith)))

pub pairs_pass : {A B : Type 0} (p : A → B → Bool) (xs : List A) (ys : List B) (d : A) (e : B) (n : ℕ) → length xs ≡ n → length ys ≡ n
    → list_all (λ (q : A × B). p q.0 q.1) (zip xs ys) ≡ all n (λ i. p (get_or xs i d) (get_or ys i e))
pairs_pass {A} {B} p xs ys d e n h l =
    let q = λ (z : A × B). p z.0 z.1 in
    let long : length (zip xs ys) ≡ n = omega (arith, length-zip xs ys) in
    let here : (i : ℕ) → i < n → q (get_or (zip xs ys) i (d, e)) ≡ p (get_or xs i d) (get_or ys i e)
    = λ i k. ap q (get_or-zip xs ys i (d, e) (omega arith) (omega arith)) in
    same_test (list_all q (zip xs ys)) (all n (λ i. p (get_or xs i d) (get_or ys i e)))
    (λ t. all_of n (λ i. p (get_or xs i d) (get_or ys i e)) (λ i k. sym (here i k) ∙ list_all_here q (zip xs ys) (d, e) i t (omega arith)))
    (λ t. list_all_of q (zip xs ys) (d, e) (λ i k. here i (omega arith) ∙ all_at n (λ i. p (get_or xs i d) (get_or ys i e)) i t (omega arith)))
