-- Lists by their elements. Assumes nothing.
use Prim.Native.Nat.{ℕ, zero, suc, ◌+◌, ◌<◌}
use mathlib.Core.List.{List, ◌∷◌, map}
use mathlib.Core.Path.{◌≡◌, refl, sym, ap, ◌∙◌}
use native.Mathlib.Nat.{not-suc-le-zero, zero-add, add-zero, add-suc, suc-add, le_of_suc-le-suc}
use native.Mathlib.Omega.{arith}
use lib.ListN.{length, get_or, take, replicate}
use lib.Seq.{ext_get_or}
use Rattle.std.proofs.Common.{length-take, get_or-take}
use Rattle.state.specs.Change.{list_from}

pub length_list_from : {A : Type 0} (k n : ℕ) (f : ℕ → A) → length (list_from k n f) ≡ n
unfolding list_from
length_list_from k zero f = refl
length_list_from k (suc n) f = ap suc (length_list_from (suc k) n f)

pub get_or-list_from : {A : Type 0} (k n : ℕ) (f : ℕ → A) (d : A) (j : ℕ) → j < n → get_or (list_from k n f) j d ≡ f (k + j)
unfolding list_from
get_or-list_from k zero f d j h = absurd (not-suc-le-zero h)
get_or-list_from k (suc n) f d zero h = ap f (sym (add-zero k))
get_or-list_from k (suc n) f d (suc j) h =
    get_or-list_from (suc k) n f d j (le_of_suc-le-suc h) ∙ ap f (suc-add k j ∙ sym (add-suc k j))

-- a list that has f's values is the list of them
pub list_is : {A : Type 0} (n : ℕ) (f : ℕ → A) (d : A) (xs : List A) → length xs ≡ n → ((j : ℕ) → j < n → get_or xs j d ≡ f j) → xs ≡ list_from 0 n f
list_is n f d xs l h =
    ext_get_or d xs (list_from 0 n f) (l ∙ sym (length_list_from 0 n f))
    (λ j g. h j (omega arith) ∙ sym (get_or-list_from 0 n f d j (omega arith) ∙ ap f (zero-add j)))

pub map_list_from : {A B : Type 0} (g : A → B) (k n : ℕ) (f : ℕ → A) → map g (list_from k n f) ≡ list_from k n (λ j. g (f j))
unfolding list_from
map_list_from {A} {B} g k zero f = refl
map_list_from {A} {B} g k (suc n) f = ap (λ (xs : List B). g (f k) ∷ xs) (map_list_from g (suc k) n f)

-- ---- what is read of the first n elements is read of the list
pub front_below : {A : Type 0} (n : ℕ) (xs : List A) (i : ℕ) → i < length (take n xs) → i < n
front_below n xs i h = omega (arith, length-take n xs)

pub front_at : {A : Type 0} (n : ℕ) (xs : List A) (d : A) (i : ℕ) → i < length (take n xs) → get_or (take n xs) i d ≡ get_or xs i d
front_at n xs d i h = get_or-take n xs i d (front_below n xs i h)

pub get_or-replicate : {A : Type 0} (n : ℕ) (d : A) (j : ℕ) → get_or (replicate n d) j d ≡ d
get_or-replicate zero d j = refl
get_or-replicate (suc n) d zero = refl
get_or-replicate (suc n) d (suc j) = get_or-replicate n d j
