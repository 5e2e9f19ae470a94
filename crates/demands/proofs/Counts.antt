-- The live and used counts are the ledger's own, and both maps are what it paints. Assumes nothing.
use Prim.Native.Nat.{ℕ, zero, suc, ◌+◌, ◌*◌, ◌<◌}
use mathlib.Core.List.{List, [], ◌∷◌}
use mathlib.Core.Path.{◌≡◌, refl, sym, ap, subst, ◌∙◌}
use native.Mathlib.Nat.{not-suc-le-zero}
use native.Mathlib.Omega.{arith}
use lib.ListN.{length}
use Rattle.numbers.proofs.Split.{by_eq}
use Rattle.slots.specs.Slots.{slot_of}
use Rattle.block.specs.declared.Block.{Block}
use Rattle.sizes.specs.declared.Pool.{Pool}
use Rattle.state.specs.declared.State.{State}
use Rattle.state.specs.declared.Span.{Span}
use Rattle.state.specs.Table.{block_at, pool_at, sum, only}
use Rattle.state.specs.Shape.{in_pool}
use Rattle.state.proofs.Tests.{sum_same}
use Rattle.ledger.specs.Paint.{Piece, piece, units, Paints}
use Rattle.ledger.specs.Agrees.{view, view_of, at, Homes, Clear}
use Rattle.ledger.specs.Reached.{Reached}
use Rattle.ledger.proofs.View.{lies_in, view_other, view_lies}
use Rattle.ledger.proofs.Table.{Stands, one_block}
use Rattle.ledger.proofs.Finds.{shaped, stands}
use Rattle.ledger.proofs.Reached.{Known, reached_known}
use Rattle.demands.specs.Counts.{bytes_in}

-- one term grows by m
sum_adds : (n : ℕ) (f g : ℕ → ℕ) (k m : ℕ) → k < n → ((i : ℕ) → i < n → (i ≡ k → ⊥) → g i ≡ f i) → g k ≡ f k + m → sum n g ≡ sum n f + m
unfolding sum
sum_adds zero f g k m h same more = absurd (not-suc-le-zero h)
sum_adds (suc n) f g k m h same more =
    by_eq k n
    (λ e. omega (arith, sum_same n g f (λ i l. same i (omega arith) (λ q. omega arith)), subst (λ (i : ℕ). g i ≡ f i + m) e more))
    (λ ne. omega (arith, sum_adds n f g k m (omega (arith, ne)) (λ i l q. same i (omega arith) q) more, same n (omega arith) (λ q. ne (sym q))))

units-cons : (x : Piece) (l : List Piece) → units (x ∷ l) ≡ units l + x.len
unfolding units
units-cons x l = omega arith

no_units : (g : ℕ) (bs : List Block) (n : ℕ) → sum n (λ j. units (view_of g (at bs j) [])) ≡ 0
unfolding sum view units
no_units g bs zero = refl
no_units g bs (suc n) = omega (arith, no_units g bs n)

module _ (g w slots n : ℕ) (bs : List Block) (lu lt : ℕ) (st : Stands g w slots n bs lu lt) where
  -- every span counts in one block
  all_bytes : (l : List Span) → Homes g n bs l → sum n (λ j. units (view_of g (at bs j) l)) * g ≡ bytes_in l
  unfolding bytes_in
  all_bytes [] h = ap (λ (x : ℕ). x * g) (no_units g bs n) ∙ omega arith
  all_bytes (x ∷ l) h =
      let k = h.0.0 in
      let p = h.0.1 in
      let y = h.0.2 in
      let m = y.1 in
      let e = sum_adds n (λ j. units (view_of g (at bs j) l)) (λ j. units (view_of g (at bs j) (x ∷ l))) k m p
      (λ i q ne. ap units (view_other g (at bs i).base (at bs i).size x l (one_block g w slots n bs lu lt st i k x.address q p ne (lies_in g st.unit (at bs k) (st.whole k p) x y))))
      (ap units (view_lies g st.unit (at bs k) (st.whole k p) x l y) ∙ units-cons (piece y.0 m) (view_of g (at bs k) l)) in
      ap (λ (c : ℕ). c * g) e ∙ omega (arith, all_bytes l h.1, y.4)

module _ {s : State} {u t : List ℕ} {l : List Span} (r : Reached s u t l) where
  abbrev k : Known s u t l
  k = reached_known r

  -- the live count is the number of entries
  pub live_is : s.live ≡ length l
  live_is = k.sound.live

  -- a block's used count is the units of its pieces, and a pool's that of its blocks
  pub used_is : (j : ℕ) → j < s.count → (block_at s j).used ≡ units (view_of s.granularity (block_at s j) l)
  used_is j h = (k.sound.agrees.each j h).count

  pub pool_used_is : (p : ℕ) → p < 3 → (pool_at s p).used ≡ sum s.count (λ j. only (in_pool s p j) (units (view_of s.granularity (block_at s j) l)))
  pool_used_is p h =
      ap (λ (q : Pool). q.used) ((shaped s u t l k.sound k.sized.blocks).pools p h)
      ∙ sum_same s.count (λ j. only (in_pool s p j) (block_at s j).used) (λ j. only (in_pool s p j) (units (view_of s.granularity (block_at s j) l))) (λ j q. ap (only (in_pool s p j)) (used_is j q))

  -- all used units together are the bytes of the ledger
  pub used_bytes : sum s.count (λ j. (block_at s j).used) * s.granularity ≡ bytes_in l
  used_bytes =
      ap (λ (x : ℕ). x * s.granularity) (sum_same s.count (λ j. (block_at s j).used) (λ j. units (view_of s.granularity (block_at s j) l)) used_is)
      ∙ all_bytes s.granularity s.w s.slots s.count s.blocks (length u) (length t) (stands s u t l k.sound k.sized.blocks) l k.sound.agrees.homes

  -- both maps: a block's slot is what its pieces paint, a slot that no block has is clear
  pub maps_painted : (j : ℕ) → j < s.count
      → Paints (view_of s.granularity (block_at s j) l) (block_at s j).area (slot_of s.w (block_at s j).slot u) (slot_of s.w (block_at s j).slot t)
  maps_painted j h = (k.sound.agrees.each j h).paints

  pub maps_clear : (i : ℕ) → i < s.slots → ((j : ℕ) → j < s.count → (block_at s j).slot ≡ i → ⊥) → Clear (slot_of s.w i u) × Clear (slot_of s.w i t)
  maps_clear = k.sound.agrees.idle
