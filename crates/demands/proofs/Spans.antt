-- The spans of the ledger share no byte, each lies in one block, and no two have one address. Assumes nothing.
use Prim.Native.Nat.{ℕ, ◌+◌, ◌*◌, ◌≤◌, ◌<◌}
use mathlib.Core.List.{List, [], ◌∷◌}
use mathlib.Core.Logic.{◌⊎◌, inl, inr, ⊎_elim}
use mathlib.Core.Path.{◌≡◌, sym, ap, subst, subst₂, ◌∙◌}
use native.Mathlib.Nat.{mul-le-mul_right, mul-lt-mul_of_pos_right}
use native.Mathlib.Omega.{arith}
use lib.ListN.{length}
use Rattle.numbers.proofs.Bools.{picked}
use Rattle.numbers.proofs.Split.{by_eq, by_le}
use Rattle.block.specs.declared.Block.{Block}
use Rattle.state.specs.declared.State.{State}
use Rattle.state.specs.declared.Span.{Span}
use Rattle.state.specs.Table.{block_at}
use Rattle.ledger.specs.Paint.{Piece, piece, holders, InsideArea, InPieces}
use Rattle.ledger.proofs.Pieces.{has_in, in_inside, in_held}
use Rattle.ledger.proofs.Paints.{held_one}
use Rattle.ledger.specs.Ledger.{In}
use Rattle.ledger.specs.Agrees.{within, view, view_of, at, Homes}
use Rattle.ledger.specs.Reached.{Reached}
use Rattle.ledger.proofs.View.{view_lies, in_view}
use Rattle.ledger.proofs.Count.{view_inside}
use Rattle.ledger.proofs.Table.{Stands, Beside, home_of}
use Rattle.ledger.proofs.Look.{seen, seen_here}
use Rattle.ledger.proofs.Finds.{shaped, stands}
use Rattle.ledger.proofs.Reached.{Known, reached_known}
use Rattle.demands.specs.Apart.{Apart, InsideBlock}

-- ---- pieces
-- two pieces of a list that holds no unit twice
pieces_apart : (x : Piece) (v : List Piece) (i n : ℕ) → 0 < x.len → 0 < n → InPieces i n v → ((k : ℕ) → holders (x ∷ v) k < 2)
    → (x.start + x.len ≤ i) ⊎ (i + n ≤ x.start)
unfolding holders
pieces_apart x v i n a b m f =
    by_le (x.start + x.len) i inl
    (λ p. by_le (i + n) x.start inr
    (λ q. by_le x.start i
    (λ r. absurd (omega (arith, f i, has_in x i r p, in_held v i n i m (omega arith) (omega arith))))
    (λ r. absurd (omega (arith, f x.start, has_in x x.start (omega arith) (omega arith), in_held v i n x.start m (omega arith) q)))))

-- a span less in the ledger
view_held : (g : ℕ) (b : Block) (x : Span) (l : List Span) → ((k : ℕ) → holders (view_of g b (x ∷ l)) k < 2) → (k : ℕ) → holders (view_of g b l) k < 2
unfolding view holders
view_held g b x l f k =
    picked (λ (m : List Piece). holders m k < 2 → holders (view_of g b l) k < 2) (within b.base b.size x.address) _ _ (λ e p. omega (arith, p)) (λ e p. p) (f k)

module _ (g w slots n : ℕ) (bs : List Block) (lu lt : ℕ) (st : Stands g w slots n bs lu lt) where
  -- units of a block that fit its area are bytes of it
  bytes_in : (j i m : ℕ) → j < n → i + m ≤ (at bs j).area → (at bs j).base + i * g + m * g ≤ (at bs j).base + (at bs j).size
  bytes_in j i m h f = omega (arith, mul-le-mul_right {m = i + m} {n = (at bs j).area} g f, st.whole j h)

  spans_apart : (l : List Span) → Homes g n bs l → ((j : ℕ) → j < n → InsideArea (view_of g (at bs j) l) (at bs j).area)
      → ((j : ℕ) → j < n → (k : ℕ) → holders (view_of g (at bs j) l) k < 2) → Apart l
  spans_apart [] h f o = tt
  spans_apart (x ∷ l) h f o = (
    λ a size mem.
        let j = h.0.0 in
        let p = h.0.1 in
        let y = h.0.2 in
        let v = view_lies g st.unit (at bs j) (st.whole j p) x l y in
        let fx = subst (λ (m : List Piece). InsideArea m (at bs j).area) v (f j p) in
        let r = home_of g n bs l a size h.1 mem in
        let q = r.1 in
        let z = r.2 in
        let m = in_view g st.unit (at bs r.0) (st.whole r.0 q) l z.0 z.1 z.2 (subst₂ (λ (a b : ℕ). In a b l) z.3 z.4 mem) in
        let fm = in_inside (view_of g (at bs r.0) l) (at bs r.0).area z.0 z.1 (view_inside g (at bs r.0) x l (f r.0 q)) m in
        by_eq r.0 j
        (λ e.
        let same : (at bs r.0).base ≡ (at bs j).base = ap (λ (k : ℕ). (at bs k).base) e in
        let mj : InPieces z.0 z.1 (view_of g (at bs j) l) = subst (λ (k : ℕ). InPieces z.0 z.1 (view_of g (at bs k) l)) e m in
        ⊎_elim
        (λ c. inl (omega (arith, y.3, y.4, z.3, same, mul-le-mul_right {m = y.0 + y.1} {n = z.0} g c)))
        (λ c. inr (omega (arith, y.3, z.3, z.4, same, mul-le-mul_right {m = z.0 + z.1} {n = y.0} g c)))
        (pieces_apart (piece y.0 y.1) (view_of g (at bs j) l) z.0 z.1 fx.0 fm.0 mj
        (λ k. subst (λ (m : List Piece). holders m k < 2) v (o j p k))))
        (λ ne.
        let bx = bytes_in j y.0 y.1 p fx.1 in
        let bm = bytes_in r.0 z.0 z.1 q fm.1 in
        ⊎_elim
        (λ c. inr (omega (arith, y.3, z.3, z.4)))
        (λ c. inl (omega (arith, y.3, y.4, z.3)))
        (st.apart r.0 j q p ne)),
    spans_apart l h.1 (λ j p. view_inside g (at bs j) x l (f j p)) (λ j p. view_held g (at bs j) x l (o j p)),
  )

module _ {s : State} {u t : List ℕ} {l : List Span} (k : Known s u t l) where
  abbrev len : length s.blocks ≡ 64
  len = k.sized.blocks

  abbrev st : Stands s.granularity s.w s.slots s.count s.blocks (length u) (length t)
  st = stands s u t l k.sound k.sized.blocks

  pub known_apart : Apart l
  known_apart =
      let o = k.sound.agrees in
      spans_apart s.granularity s.w s.slots s.count s.blocks (length u) (length t) st l o.homes (λ j p. (o.each j p).paints.inside)
      (λ j p. held_one (view_of s.granularity (block_at s j) l) (block_at s j).area _ _ (o.each j p).paints)

  pub known_inside : (a size : ℕ) → In a size l → (j : ℕ) × InsideBlock s a size j
  known_inside a size mem =
      let o = k.sound.agrees in
      let y = seen s.granularity s.w s.slots s.count s.blocks u t st l o a size mem in
      let j = y.block in
      let f = in_inside (view_of s.granularity (block_at s j) l) (block_at s j).area y.unit y.units (o.each j y.known).paints.inside y.piece in (
        j,
        record {
          stands = y.known;
          some = omega (arith, y.size, mul-lt-mul_of_pos_right f.0 st.unit);
          low = omega (arith, y.address);
          high = omega (arith, y.address, y.size, bytes_in s.granularity s.w s.slots s.count s.blocks (length u) (length t) st j y.unit y.units y.known f.1);
          one = λ i h e. sym (seen_here s.granularity s.w s.slots s.count s.blocks u t st l o a size i y h e);
        },
      )

-- two entries at one address of a list that is apart are one
pub same_entry : (l : List Span) → Apart l → ((a z : ℕ) → In a z l → 0 < z) → (a z z' : ℕ) → In a z l → In a z' l → z ≡ z'
same_entry [] p q a z z' m m' = absurd m
same_entry (x ∷ l) p q a z z' (inl e) (inl f) = sym e.1 ∙ f.1
same_entry (x ∷ l) p q a z z' (inl e) (inr m) = ⊎_elim (λ c. absurd (omega (arith, q a z (inl e)))) (λ c. absurd (omega (arith, q a z' (inr m)))) (p.0 a z' m)
same_entry (x ∷ l) p q a z z' (inr m) (inl f) = ⊎_elim (λ c. absurd (omega (arith, q a z' (inl f)))) (λ c. absurd (omega (arith, q a z (inr m)))) (p.0 a z m)
same_entry (x ∷ l) p q a z z' (inr m) (inr n) = same_entry l p.1 (λ a z m. q a z (inr m)) a z z' m n

pub known_one : {s : State} {u t : List ℕ} {l : List Span} → Known s u t l → (a z z' : ℕ) → In a z l → In a z' l → z ≡ z'
known_one {s} {u} {t} {l} k a z z' m m' = same_entry l (known_apart k) (λ a z m. (known_inside k a z m).1.some) a z z' m m'

-- ---- the statements: no two spans of the ledger share a byte; each lies in one block; an address has one entry
module _ {s : State} {u t : List ℕ} {l : List Span} (r : Reached s u t l) where
  pub spans_lie_apart : Apart l
  spans_lie_apart = known_apart (reached_known r)

  pub span_in_one_block : (a size : ℕ) → In a size l → (j : ℕ) × InsideBlock s a size j
  span_in_one_block = known_inside (reached_known r)

  pub one_entry : (a z z' : ℕ) → In a z l → In a z' l → z ≡ z'
  one_entry = known_one (reached_known r)

  -- two blocks share no byte and no slot, and lie in the arena
  pub blocks_lie_apart : (i j : ℕ) → i < s.count → j < s.count → (i ≡ j → ⊥)
      → Beside (block_at s i) (block_at s j) × ((block_at s i).slot ≡ (block_at s j).slot → ⊥)
  blocks_lie_apart i j p q ne =
      let st = stands s u t l (reached_known r).sound (reached_known r).sized.blocks in
      (st.apart i j p q ne, st.slots_differ i j p q ne)

  pub block_in_arena : (j : ℕ) → j < s.count → (s.arena ≤ (block_at s j).base) × ((block_at s j).base + (block_at s j).size ≤ s.arena + s.length)
  block_in_arena j h =
      let f = shaped s u t l (reached_known r).sound (reached_known r).sized.blocks in
      ((f.sound j h).above, (f.sound j h).below)
