-- The ledger seen from one block: a span entered, struck or looked for in the whole is so in the block's own units. Assumes nothing.
use Prim.Native.Nat.{ℕ, ◌+◌, ◌-◌, ◌*◌, ◌/◌, ◌≤◌, ◌<◌}
use mathlib.Core.List.{List, [], ◌∷◌}
use mathlib.Core.Bool.{true, false}
use mathlib.Core.Logic.{◌⊎◌, inl, inr, ⊎_elim}
use mathlib.Core.Path.{◌≡◌, refl, sym, ap, ap₂, subst, ◌∙◌}
use native.Mathlib.Nat.{mul-lt-mul_of_pos_right, eq_of_mul-eq-mul_right, add-sub_cancel_left, mul-div_cancel}
use native.Mathlib.Omega.{arith}
use lib.Dec.{leb, ltb}
use borrow.Author.Tests.{lt-ltb, le-ltb, le-leb, lt-leb, eq-eqb, ne_eqb, leb-true, ltb-true}
use Rattle.numbers.proofs.Bools.{not_both, by_bool, and_left, and_right, and_both, and_fails_left, and_fails_right}
use Rattle.numbers.proofs.Split.{by_eq}
use Rattle.block.specs.declared.Block.{Block}
use Rattle.state.specs.declared.Span.{Span}
use Rattle.machine.specs.Turn.{span}
use Rattle.ledger.specs.Paint.{Piece, piece, InPieces, strike_piece}
use Rattle.ledger.specs.Ledger.{In, strike}
use Rattle.ledger.specs.Agrees.{within, view, view_of, Lies}

-- ---- an address is one of the bytes
pub within_true : (base size a : ℕ) → base ≤ a → a < base + size → within base size a ≡ true
within_true base size a p q = and_both (leb base a) (ltb a (base + size)) (le-leb base a p) (lt-ltb a (base + size) q)

pub within_false : (base size a : ℕ) → (a < base) ⊎ (base + size ≤ a) → within base size a ≡ false
within_false base size a (inl p) = and_fails_left (leb base a) (ltb a (base + size)) (lt-leb base a p)
within_false base size a (inr q) = and_fails_right (leb base a) (ltb a (base + size)) (le-ltb a (base + size) q)

pub within_range : (base size a : ℕ) → within base size a ≡ true → (base ≤ a) × (a < base + size)
within_range base size a e =
    (leb-true base a (and_left (leb base a) (ltb a (base + size)) e), ltb-true a (base + size) (and_right (leb base a) (ltb a (base + size)) e))

-- ---- strikes
pub strike_head : (x : Span) (l : List Span) (a : ℕ) → x.address ≡ a → strike a (x ∷ l) ≡ l
unfolding strike
strike_head x l a e = rw (eq-eqb x.address a e)

pub strike_tail : (x : Span) (l : List Span) (a : ℕ) → (x.address ≡ a → ⊥) → strike a (x ∷ l) ≡ x ∷ strike a l
unfolding strike
strike_tail x l a ne = rw (ne_eqb x.address a ne)

piece_head : (x : Piece) (l : List Piece) (i : ℕ) → x.start ≡ i → strike_piece i (x ∷ l) ≡ l
unfolding strike_piece
piece_head x l i e = rw (eq-eqb x.start i e)

piece_tail : (x : Piece) (l : List Piece) (i : ℕ) → (x.start ≡ i → ⊥) → strike_piece i (x ∷ l) ≡ x ∷ strike_piece i l
unfolding strike_piece
piece_tail x l i ne = rw (ne_eqb x.start i ne)

-- ---- a span that starts elsewhere is not seen
module _ (g base size : ℕ) where
  pub view_other : (x : Span) (l : List Span) → within base size x.address ≡ false → view g base size (x ∷ l) ≡ view g base size l
  unfolding view
  view_other x l e = rw e

  -- what the head is does not matter
  view_behind : (x : Span) (l m : List Span) → view g base size m ≡ view g base size l → view g base size (x ∷ m) ≡ view g base size (x ∷ l)
  unfolding view
  view_behind x l m e = rw e

  pub view_strike_other : (l : List Span) (a : ℕ) → within base size a ≡ false → view g base size (strike a l) ≡ view g base size l
  view_strike_other [] a e = unfold strike in refl
  view_strike_other (x ∷ l) a e =
      by_eq x.address a
      (λ f. ap (view g base size) (strike_head x l a f) ∙ sym (view_other x l (ap (within base size) f ∙ e)))
      (λ ne. ap (view g base size) (strike_tail x l a ne) ∙ view_behind x l (strike a l) (view_strike_other l a e))

-- every span of the ledger that starts in the block lies there at whole units
abbrev pub Aligned : ℕ → Block → List Span → Type 0
Aligned g b [] = Unit {0}
Aligned g b (x ∷ l) = (within b.base b.size x.address ≡ true → Lies g b x) × Aligned g b l

module _ (g : ℕ) (pos : 0 < g) (b : Block) (whole : b.area * g ≡ b.size) where
  pub in_unit : (i : ℕ) → i < b.area → within b.base b.size (b.base + i * g) ≡ true
  in_unit i h = within_true b.base b.size (b.base + i * g) (omega arith) (omega (arith, whole, mul-lt-mul_of_pos_right h pos))

  pub lies_in : (x : Span) → Lies g b x → within b.base b.size x.address ≡ true
  lies_in x y = ap (within b.base b.size) y.3 ∙ in_unit y.0 y.2

  unit_of : (i : ℕ) → (b.base + i * g - b.base) / g ≡ i
  unit_of i = ap (λ (x : ℕ). x / g) (add-sub_cancel_left b.base (i * g)) ∙ mul-div_cancel i pos

  pub view_new : (i n : ℕ) (l : List Span) → i < b.area → view_of g b (span (b.base + i * g) (n * g) ∷ l) ≡ piece i n ∷ view_of g b l
  unfolding view
  view_new i n l h = rw (in_unit i h, unit_of i, mul-div_cancel n pos)

  -- a span that lies in the block, as it is seen
  pub view_lies : (x : Span) (l : List Span) (y : Lies g b x) → view_of g b (x ∷ l) ≡ piece y.0 y.1 ∷ view_of g b l
  view_lies x l y = ap₂ (λ (a z : ℕ). view_of g b (span a z ∷ l)) y.3 y.4 ∙ view_new y.0 y.1 l y.2

  same_unit : (s i : ℕ) → b.base + s * g ≡ b.base + i * g → s ≡ i
  same_unit s i e = eq_of_mul-eq-mul_right g pos s i (omega arith)

  pub view_strike : (l : List Span) (i : ℕ) → i < b.area → Aligned g b l → view_of g b (strike (b.base + i * g) l) ≡ strike_piece i (view_of g b l)
  view_strike [] i h al = unfold view strike strike_piece in refl
  view_strike (x ∷ l) i h al =
      let a = b.base + i * g in
      by_bool (within b.base b.size x.address)
      (λ e.
      let y = al.0 e in
      let v = view_lies x l y in
      by_eq y.0 i
      (λ f.
      ap (view_of g b) (strike_head x l a (y.3 ∙ ap (λ (k : ℕ). b.base + k * g) f))
      ∙ sym (ap (strike_piece i) v ∙ piece_head (piece y.0 y.1) (view_of g b l) i f))
      (λ ne.
      ap (view_of g b) (strike_tail x l a (λ q. ne (same_unit y.0 i (sym y.3 ∙ q))))
      ∙ view_lies x (strike a l) y
      ∙ ap (λ (m : List Piece). piece y.0 y.1 ∷ m) (view_strike l i h al.1)
      ∙ sym (ap (strike_piece i) v ∙ piece_tail (piece y.0 y.1) (view_of g b l) i ne)))
      (λ e.
      ap (view_of g b) (strike_tail x l a (λ q. not_both (within b.base b.size x.address) (ap (within b.base b.size) q ∙ in_unit i h) e))
      ∙ view_other g b.base b.size x (strike a l) e
      ∙ view_strike l i h al.1
      ∙ sym (ap (strike_piece i) (view_other g b.base b.size x l e)))

  -- ---- in the ledger, and in the block's view
  deeper : (x : Span) (l : List Span) (i n : ℕ) → InPieces i n (view_of g b l) → InPieces i n (view_of g b (x ∷ l))
  unfolding view
  deeper x l i n k = by_bool (within b.base b.size x.address) (λ e. rw e (inr k)) (λ e. rw e k)

  pub in_view : (l : List Span) (i n : ℕ) → i < b.area → In (b.base + i * g) (n * g) l → InPieces i n (view_of g b l)
  in_view [] i n h k = absurd k
  in_view (x ∷ l) i n h (inl e) =
      subst (InPieces i n) (sym (ap₂ (λ (a z : ℕ). view_of g b (span a z ∷ l)) e.0 e.1 ∙ view_new i n l h)) (inl (refl, refl))
  in_view (x ∷ l) i n h (inr k) = deeper x l i n (in_view l i n h k)

  pub view_in : (l : List Span) (i n : ℕ) → Aligned g b l → InPieces i n (view_of g b l) → In (b.base + i * g) (n * g) l
  view_in [] i n al k = absurd (unfold view in k)
  view_in (x ∷ l) i n al k =
      by_bool (within b.base b.size x.address)
      (λ e.
      let y = al.0 e in
      ⊎_elim
      (λ f. inl (y.3 ∙ ap (λ (k : ℕ). b.base + k * g) f.0, y.4 ∙ ap (λ (k : ℕ). k * g) f.1))
      (λ j. inr (view_in l i n al.1 j))
      (subst (InPieces i n) (view_lies x l y) k))
      (λ e. inr (view_in l i n al.1 (subst (InPieces i n) (view_other g b.base b.size x l e) k)))

-- ---- a view depends on the block's place alone
pub view_same : (g : ℕ) (b c : Block) (l : List Span) → b.base ≡ c.base → b.size ≡ c.size → view_of g b l ≡ view_of g c l
view_same g b c l p q = ap₂ (λ (x y : ℕ). view g x y l) p q

pub lies_same : (g : ℕ) (b c : Block) (x : Span) → b.base ≡ c.base → b.area ≡ c.area → Lies g b x → Lies g c x
lies_same g b c x p q y = (y.0, y.1, omega (arith, y.2, q), y.3 ∙ ap (λ (m : ℕ). m + y.0 * g) p, y.4)
