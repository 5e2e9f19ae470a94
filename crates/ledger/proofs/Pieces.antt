-- Laws of a list of pieces with no map: which units it holds and ends with, and a piece struck. Assumes nothing.
use Prim.Native.Nat.{ℕ, ◌+◌, ◌≤◌, ◌<◌}
use mathlib.Core.List.{List, [], ◌∷◌}
use mathlib.Core.Logic.{◌⊎◌, inl, inr, ⊎_elim}
use mathlib.Core.Path.{◌≡◌, refl, ap}
use native.Mathlib.Omega.{arith}
use lib.ListN.{length}
use borrow.Author.Tests.{lt-ltb, le-ltb, le-leb, lt-leb, eq-eqb, ne_eqb}
use Rattle.numbers.proofs.Split.{by_eq, by_le}
use Rattle.ledger.specs.Paint.{Piece, piece, has, ends, holders, enders, units, InsideArea, InPieces, strike_piece}

-- by cases: k is one of the n units from s on, or it is not
pub by_range : {A : Type 0} (s n k : ℕ) → (s ≤ k → k < s + n → A) → ((k < s) ⊎ (s + n ≤ k) → A) → A
by_range s n k f g = by_le s k (λ p. by_le (s + n) k (λ q. g (inr q)) (λ q. f p q)) (λ p. g (inl p))

-- ---- one piece
pub has_in : (x : Piece) (k : ℕ) → x.start ≤ k → k < x.start + x.len → has x k ≡ 1
unfolding has
has_in x k p q = rw (le-leb x.start k p, lt-ltb k (x.start + x.len) q)

pub has_out : (x : Piece) (k : ℕ) → (k < x.start) ⊎ (x.start + x.len ≤ k) → has x k ≡ 0
unfolding has
has_out x k (inl p) = rw (lt-leb x.start k p)
has_out x k (inr q) =
    by_le x.start k (λ p. rw (le-leb x.start k p, le-ltb k (x.start + x.len) q)) (λ p. rw (lt-leb x.start k p))

pub ends_at : (x : Piece) (k : ℕ) → x.start + x.len ≡ k + 1 → ends x k ≡ 1
unfolding ends
ends_at x k e = rw (eq-eqb (x.start + x.len) (k + 1) e)

pub ends-not : (x : Piece) (k : ℕ) → (x.start + x.len ≡ k + 1 → ⊥) → ends x k ≡ 0
unfolding ends
ends-not x k e = rw (ne_eqb (x.start + x.len) (k + 1) e)

ends-le : (x : Piece) (k : ℕ) → 0 < x.len → ends x k ≤ has x k
ends-le x k h =
    by_eq (x.start + x.len) (k + 1) (λ e. omega (arith, ends_at x k e, has_in x k (omega arith) (omega arith)))
    (λ ne. omega (arith, ends-not x k ne))

-- a piece by its two numbers
same_has : (x : Piece) (s n k : ℕ) → x.start ≡ s → x.len ≡ n → has x k ≡ has (piece s n) k
same_has x s n k p q = rw (← p, ← q)

same_ends : (x : Piece) (s n k : ℕ) → x.start ≡ s → x.len ≡ n → ends x k ≡ ends (piece s n) k
same_ends x s n k p q = rw (← p, ← q)

-- ---- all pieces
pub ended-le : (l : List Piece) (area k : ℕ) → InsideArea l area → enders l k ≤ holders l k
unfolding holders enders
ended-le [] area k h = omega arith
ended-le (x ∷ l) area k h = omega (arith, ends-le x k h.0, ended-le l area k h.2)

pub held_past : (l : List Piece) (area k : ℕ) → InsideArea l area → area ≤ k → holders l k ≡ 0
unfolding holders
held_past [] area k h g = refl
held_past (x ∷ l) area k h g = omega (arith, has_out x k (inr (omega arith)), held_past l area k h.2 g)

-- pieces with no units: there are none
pub no_units : (l : List Piece) (area : ℕ) → InsideArea l area → units l ≡ 0 → l ≡ []
unfolding units
no_units [] area h e = refl
no_units (x ∷ l) area h e = absurd (omega arith)

pub in_inside : (l : List Piece) (area s n : ℕ) → InsideArea l area → InPieces s n l → (0 < n) × (s + n ≤ area)
in_inside [] area s n h i = absurd i
in_inside (x ∷ l) area s n h (inl e) = (omega arith, omega arith)
in_inside (x ∷ l) area s n h (inr i) = in_inside l area s n h.2 i

-- a piece of the list counts
pub in_held : (l : List Piece) (s n k : ℕ) → InPieces s n l → s ≤ k → k < s + n → 0 < holders l k
unfolding holders
in_held [] s n k i p q = absurd i
in_held (x ∷ l) s n k (inl e) p q = omega (arith, has_in x k (omega arith) (omega arith))
in_held (x ∷ l) s n k (inr i) p q = omega (arith, in_held l s n k i p q)

pub in_ended : (l : List Piece) (s n k : ℕ) → InPieces s n l → s + n ≡ k + 1 → 0 < enders l k
unfolding enders
in_ended [] s n k i p = absurd i
in_ended (x ∷ l) s n k (inl e) p = omega (arith, ends_at x k (omega arith))
in_ended (x ∷ l) s n k (inr i) p = omega (arith, in_ended l s n k i p)

pub in_units : (l : List Piece) (s n : ℕ) → InPieces s n l → n ≤ units l
unfolding units
in_units [] s n i = absurd i
in_units (x ∷ l) s n (inl e) = omega arith
in_units (x ∷ l) s n (inr i) = omega (arith, in_units l s n i)

-- a unit that is held is one of a piece of the list, and a unit that ends one is the last of one
pub held_in : (l : List Piece) (k : ℕ) → 0 < holders l k → (s : ℕ) × (n : ℕ) × InPieces s n l × (s ≤ k) × (k < s + n)
unfolding holders
held_in [] k h = absurd (omega arith)
held_in (x ∷ l) k h =
    by_range x.start x.len k (λ p q. (x.start, x.len, inl (refl, refl), p, q))
    (λ o. let r = held_in l k (omega (arith, has_out x k o)) in (r.0, r.1, inr r.2, r.3, r.4))

pub ended_in : (l : List Piece) (k : ℕ) → 0 < enders l k → (s : ℕ) × (n : ℕ) × InPieces s n l × (s + n ≡ k + 1)
unfolding enders
ended_in [] k h = absurd (omega arith)
ended_in (x ∷ l) k h =
    by_eq (x.start + x.len) (k + 1) (λ e. (x.start, x.len, inl (refl, refl), e))
    (λ ne. let r = ended_in l k (omega (arith, ends-not x k ne)) in (r.0, r.1, inr r.2, r.3))

-- two pieces that have one unit are one piece, if it is not held twice
pub one_holder : (l : List Piece) (k s n s' n' : ℕ) → holders l k < 2 → InPieces s n l → InPieces s' n' l → s ≤ k → k < s + n → s' ≤ k → k < s' + n'
    → (s ≡ s') × (n ≡ n')
unfolding holders
one_holder [] k s n s' n' h i j p q p' q' = absurd i
one_holder (x ∷ l) k s n s' n' h (inl e) (inl f) p q p' q' = (omega arith, omega arith)
one_holder (x ∷ l) k s n s' n' h (inl e) (inr j) p q p' q' =
    absurd (omega (arith, has_in x k (omega arith) (omega arith), in_held l s' n' k j p' q'))
one_holder (x ∷ l) k s n s' n' h (inr i) (inl f) p q p' q' =
    absurd (omega (arith, has_in x k (omega arith) (omega arith), in_held l s n k i p q))
one_holder (x ∷ l) k s n s' n' h (inr i) (inr j) p q p' q' = one_holder l k s n s' n' (omega arith) i j p q p' q'

-- ---- a piece struck: m is l without its n units from s on
pub record Struck (l m : List Piece) (area s n : ℕ) : Type 0 where
  pub inside : InsideArea m area
  pub helds : (k : ℕ) → holders m k + has (piece s n) k ≡ holders l k
  pub endeds : (k : ℕ) → enders m k + ends (piece s n) k ≡ enders l k
  pub all : units m + n ≡ units l
  pub fewer : length m + 1 ≡ length l

struck_head : (x : Piece) (l : List Piece) (area s n : ℕ) → InsideArea (x ∷ l) area → x.start ≡ s → x.len ≡ n → Struck (x ∷ l) l area s n
unfolding holders enders units
struck_head x l area s n h p q = record {
  inside = h.2;
  helds = λ k. omega (arith, same_has x s n k p q);
  endeds = λ k. omega (arith, same_ends x s n k p q);
  all = omega arith;
  fewer = omega arith;
}

struck_tail : (x : Piece) (l m : List Piece) (area s n : ℕ) → InsideArea (x ∷ l) area → Struck l m area s n → Struck (x ∷ l) (x ∷ m) area s n
unfolding holders enders units
struck_tail x l m area s n h r = record {
  inside = (h.0, h.1, r.inside);
  helds = λ k. omega (arith, r.helds k);
  endeds = λ k. omega (arith, r.endeds k);
  all = omega (arith, r.all);
  fewer = omega (arith, r.fewer);
}

pub struck : (l : List Piece) (area s n : ℕ) → InsideArea l area → holders l s < 2 → InPieces s n l → Struck l (strike_piece s l) area s n
unfolding strike_piece holders
struck [] area s n h o i = absurd i
struck (x ∷ l) area s n h o (inl e) = rw (eq-eqb x.start s e.0) (struck_head x l area s n h e.0 e.1)
struck (x ∷ l) area s n h o (inr i) =
    let f = in_inside l area s n h.2 i in
    by_eq x.start s
    (λ e. absurd (omega (arith, has_in x s (omega arith) (omega arith), in_held l s n s i (omega arith) (omega arith))))
    (λ ne. rw (ne_eqb x.start s ne) (struck_tail x l (strike_piece s l) area s n h (struck l area s n h.2 (omega arith) i)))

-- what is left is what does not start there
pub strike_in : (l : List Piece) (s k n : ℕ) → (k ≡ s → ⊥) → InPieces k n l → InPieces k n (strike_piece s l)
unfolding strike_piece
strike_in [] s k n ne i = i
strike_in (x ∷ l) s k n ne (inl e) = rw (ne_eqb x.start s (λ f. ne (omega arith))) (inl e)
strike_in (x ∷ l) s k n ne (inr i) =
    by_eq x.start s (λ e. rw (eq-eqb x.start s e) i) (λ f. rw (ne_eqb x.start s f) (inr (strike_in l s k n ne i)))

pub in_strike : (l : List Piece) (s k n : ℕ) → InPieces k n (strike_piece s l) → InPieces k n l
unfolding strike_piece
in_strike [] s k n i = i
in_strike (x ∷ l) s k n i =
    by_eq x.start s (λ e. inr (rw (eq-eqb x.start s e) at i))
    (λ f. ⊎_elim inl (λ j. inr (in_strike l s k n j)) (rw (ne_eqb x.start s f) at i))

-- a piece just written and struck
pub strike_new : (l : List Piece) (s n : ℕ) → strike_piece s (piece s n ∷ l) ≡ l
unfolding strike_piece
strike_new l s n = rw (eq-eqb s s refl)

-- nothing starts there: nothing is struck
pub strike_none : (l : List Piece) (s : ℕ) → ((n : ℕ) → InPieces s n l → ⊥) → strike_piece s l ≡ l
unfolding strike_piece
strike_none [] s f = refl
strike_none (x ∷ l) s f =
    rw (ne_eqb x.start s (λ e. f x.len (inl (e, refl)))) (ap (λ (m : List Piece). x ∷ m) (strike_none l s (λ n i. f n (inr i))))
