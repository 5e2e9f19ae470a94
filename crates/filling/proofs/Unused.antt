-- Laws of the spans that a call fills. Assumes nothing.
use Prim.Native.Nat.{ℕ, zero, suc, ◌+◌, ◌-◌, ◌≤◌, ◌<◌}
use mathlib.Core.List.{List, [], ◌∷◌, ◌++◌}
use mathlib.Core.Path.{◌≡◌, refl, sym, ap, ◌∙◌, subst}
use native.Mathlib.Nat.{eq-or-lt_of_le, le_of_suc-le-suc}
use native.Mathlib.Numerals.{add-one}
use native.Mathlib.Omega.{arith}
use mathlib.Core.Bool.{Bool}
use mathlib.Core.Logic.{inl, inr, ⊎_elim}
use borrow.Author.Tests.{lt-ltb, le-ltb}
use Rattle.numbers.specs.Pick.{pick}
use lib.ListN.{length, get_or}
use Rattle.image.specs.Image.{filled_at}
use Rattle.image.proofs.Image.{length_filled, filled_out}
use Rattle.state.specs.declared.State.{State}
use Rattle.state.specs.declared.Span.{Span}
use Rattle.state.specs.Table.{block_at}
use Rattle.reset.proofs.Walk.{block_here}
use Rattle.filling.specs.Unused.{bytes_of_block, made, blocks_up_to, filled_image}
use Rattle.filling.specs.InArena.{InArena, AllInArena, Outside}

pub filled_none : (arena pattern : ℕ) (image : List ℕ) → filled_image arena pattern image [] ≡ image
unfolding filled_image
filled_none arena pattern image = refl

pub filled-one : (arena pattern : ℕ) (image : List ℕ) (x : Span) → filled_image arena pattern image (x ∷ []) ≡ filled_at image (x.address - arena) x.size pattern
unfolding filled_image
filled-one arena pattern image x = refl

pub filled-append : (arena pattern : ℕ) (image : List ℕ) (xs ys : List Span) → filled_image arena pattern image (xs ++ ys) ≡ filled_image arena pattern (filled_image arena pattern image xs) ys
unfolding filled_image
filled-append arena pattern image [] ys = refl
filled-append arena pattern image (x ∷ xs) ys = filled-append arena pattern (filled_at image (x.address - arena) x.size pattern) xs ys

pub length_filled_all : (arena pattern : ℕ) (image : List ℕ) (xs : List Span) → length (filled_image arena pattern image xs) ≡ length image
unfolding filled_image
length_filled_all arena pattern image [] = refl
length_filled_all arena pattern image (x ∷ xs) =
    length_filled_all arena pattern (filled_at image (x.address - arena) x.size pattern) xs ∙ length_filled image (x.address - arena) x.size pattern

pub within-append : (arena length : ℕ) (xs ys : List Span) → AllInArena arena length (xs ++ ys) → AllInArena arena length xs × AllInArena arena length ys
within-append arena length [] ys w = (tt, w)
within-append arena length (x ∷ xs) ys w = ((w.0, (within-append arena length xs ys w.1).0), (within-append arena length xs ys w.1).1)

-- ---- a new block
pub made-one : (before : ℕ) (r : State) → before < r.count → made before r ≡ bytes_of_block (block_at r before) ∷ []
made-one before r h = ap (λ (b : Bool). pick b (bytes_of_block (block_at r before) ∷ []) []) (lt-ltb before r.count h)

pub made_none : (before : ℕ) (r : State) → r.count ≤ before → made before r ≡ []
made_none before r h = ap (λ (b : Bool). pick b (bytes_of_block (block_at r before) ∷ []) []) (le-ltb before r.count h)

-- ---- blocks one by one
pub blocks_none : (r : State) → blocks_up_to r 0 ≡ []
unfolding blocks_up_to
blocks_none r = refl

blocks_more : (r : State) (n : ℕ) → blocks_up_to r (n + 1) ≡ blocks_up_to r n ++ (bytes_of_block (block_at r n) ∷ [])
unfolding blocks_up_to
blocks_more r n = ap (blocks_up_to r) (add-one n)

pub blocks_within : (arena : ℕ) (r : State) (length n i : ℕ) → i < n → AllInArena arena length (blocks_up_to r n) → InArena arena length (bytes_of_block (block_at r i))
unfolding blocks_up_to
blocks_within arena r length zero i h w = absurd (omega (arith, h))
blocks_within arena r length (suc n) i h w =
    let parts = within-append arena length (blocks_up_to r n) (bytes_of_block (block_at r n) ∷ []) w in
    ⊎_elim (λ e. subst (λ (k : ℕ). InArena arena length (bytes_of_block (block_at r k))) (sym e) parts.1.0)
    (λ l. blocks_within arena r length n i l parts.0) (eq-or-lt_of_le (le_of_suc-le-suc h))

pub filled_more : (arena : ℕ) (r : State) (pattern : ℕ) (image : List ℕ) (n : ℕ)
    → filled_at (filled_image arena pattern image (blocks_up_to r n)) ((block_at r n).base - arena) (block_at r n).size pattern
    ≡ filled_image arena pattern image (blocks_up_to r (n + 1))
filled_more arena r pattern image n =
    sym (filled-one arena pattern (filled_image arena pattern image (blocks_up_to r n)) (bytes_of_block (block_at r n)))
    ∙ sym (filled-append arena pattern image (blocks_up_to r n) (bytes_of_block (block_at r n) ∷ []))
    ∙ ap (filled_image arena pattern image) (sym (blocks_more r n))

pub filled_start : (arena : ℕ) (r : State) (pattern : ℕ) (image : List ℕ) → image ≡ filled_image arena pattern image (blocks_up_to r 0)
unfolding blocks_up_to filled_image
filled_start arena r pattern image = refl

-- ---- the bytes outside all of the spans stay
pub filled_stays : (arena pattern length k : ℕ) (image : List ℕ) (xs : List Span) → AllInArena arena length xs → arena ≤ k → Outside k xs
    → get_or (filled_image arena pattern image xs) (k - arena) 0 ≡ get_or image (k - arena) 0
unfolding filled_image
filled_stays arena pattern length k image [] w a o = refl
filled_stays arena pattern length k image (x ∷ xs) w a o =
    filled_stays arena pattern length k (filled_at image (x.address - arena) x.size pattern) xs w.1 a o.1
    ∙ filled_out image (x.address - arena) x.size pattern (k - arena)
    (⊎_elim (λ p. inl (omega (arith, p, a, w.0.low))) (λ p. inr (omega (arith, p, a, w.0.low))) o.0)

-- ---- for the functions that fill
pub ruleset makes = (made-one, made_none)

pub ruleset walks = (block_here, filled_more, filled_start, blocks_within, length_filled_all)
