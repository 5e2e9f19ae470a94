-- Laws of Bool: a test as cases, what is picked by a test, two tests compared, and one test with another by not, && and ||. Assumes nothing.
use Rattle.std.proofs.Common.{◌≡◌, ℕ, Bool, true, false, not, ◌&&◌, ◌||◌, ◌⊎◌, sym, refl, inl, inr, arith}
use Rattle.numbers.specs.Pick.{pick}

-- ---- one test
pub not_both : (b : Bool) → b ≡ true → b ≡ false → ⊥
not_both b p q = let z : ◌≡◌ {A = ℕ} 0 1 = cc in omega arith

pub by_bool : {A : Type 0} (b : Bool) → (b ≡ true → A) → (b ≡ false → A) → A
by_bool true f g = f refl
by_bool false f g = g refl

-- what holds of either value where it is picked holds of the one picked
pub picked : {A : Type 0} (P : A → Type 0) (b : Bool) (x y : A) → (b ≡ true → P x) → (b ≡ false → P y) → P (pick b x y)
picked P true x y f g = f refl
picked P false x y f g = g refl

pub refute : (b : Bool) → (b ≡ true → ⊥) → b ≡ false
refute true f = absurd (f refl)
refute false f = refl

pub not_of_true : (b : Bool) → b ≡ true → not b ≡ false
not_of_true b e = rw e

pub not_of_false : (b : Bool) → b ≡ false → not b ≡ true
not_of_false b e = rw e

-- each is true where the other is
pub same_test : (a b : Bool) → (a ≡ true → b ≡ true) → (b ≡ true → a ≡ true) → a ≡ b
same_test true b f g = sym (f refl)
same_test false b f g = sym (refute b (λ e. not_both false (g e) refl))

-- ---- both
pub and_left : (a b : Bool) → a && b ≡ true → a ≡ true
and_left true b e = refl
and_left false b e = e

pub and_right : (a b : Bool) → a && b ≡ true → b ≡ true
and_right true b e = e
and_right false b e = absurd (not_both false e refl)

pub and_both : (a b : Bool) → a ≡ true → b ≡ true → a && b ≡ true
and_both a b p q = rw (p, q)

pub and_fails_left : (a b : Bool) → a ≡ false → a && b ≡ false
and_fails_left a b p = rw p

pub and_fails_right : (a b : Bool) → b ≡ false → a && b ≡ false
and_fails_right true b p = p
and_fails_right false b p = refl

pub and_true : (a b : Bool) → b ≡ true → a && b ≡ a
and_true true b e = e
and_true false b e = refl

-- one test more, behind one that passes
pub and_then : (a b x : Bool) → a ≡ true → x ≡ b → x ≡ a && b
and_then a b x p q = rw p q

-- ---- either
pub or_cases : (a b : Bool) → a || b ≡ true → (a ≡ true) ⊎ (b ≡ true)
or_cases true b e = inl refl
or_cases false b e = inr e

pub or_left : (a b : Bool) → a ≡ true → a || b ≡ true
or_left a b e = rw e

pub or_right : (a b : Bool) → b ≡ true → a || b ≡ true
or_right true b e = refl
or_right false b e = e

pub or_fails : (a b : Bool) → a || b ≡ false → (a ≡ false) × (b ≡ false)
or_fails true b e = absurd (not_both true refl e)
or_fails false b e = (refl, e)
