-- What a lookup finds at an address is what the ledger has there. Assumes nothing.
use Rattle.std.specs.Prelude.{Ok, Err}
use Prim.Native.Nat.{ℕ, ◌+◌, ◌-◌, ◌*◌, ◌/◌, ◌%◌, ◌≤◌, ◌<◌}
use mathlib.Core.List.{List}
use mathlib.Core.Bool.{Bool, true, false}
use mathlib.Core.Path.{◌≡◌, refl, sym, ap, subst, subst₂, ◌∙◌}
use native.Mathlib.Nat.{div-add-mod', mul-mod_left, mul-div_cancel}
use native.Mathlib.Omega.{arith}
use lib.Dec.{eqb}
use lib.ListN.{length}
use borrow.Author.Tests.{eqb-true, eqb-false}
use Rattle.numbers.specs.Pick.{pick}
use Rattle.numbers.proofs.Bools.{not_both}
use Rattle.numbers.proofs.Split.{by_eq}
use Rattle.slots.specs.Slots.{slot_of}
use Rattle.block.specs.declared.Block.{Block}
use Rattle.state.specs.declared.Span.{Span}
use Rattle.state.specs.declared.NotHeld.TheVariants.{NoSpan, NoStop}
use Rattle.state.specs.Held.{Held, range}
use Rattle.machine.specs.Span.{held_at, held_of}
use Rattle.ledger.specs.Paint.{InPieces}
use Rattle.ledger.proofs.Pieces.{in_units}
use Rattle.ledger.proofs.Stands.{Stands as StandsAt, stands}
use Rattle.ledger.specs.Ledger.{In}
use Rattle.ledger.specs.Agrees.{within, view_of, at, Agrees}
use Rattle.ledger.proofs.View.{in_unit, in_view, view_in}
use Rattle.ledger.proofs.Table.{Stands, home_of, one_block, aligned}

module _ (g w slots n : ℕ) (bs : List Block) (u t : List ℕ) (st : Stands g w slots n bs (length u) (length t)) (l : List Span)
    (s : Agrees g w slots n bs u t l) where
  -- a span of the ledger, from the block that it lies in
  pub record Seen (a z : ℕ) : Type 0 where
    pub block : ℕ
    pub known : block < n
    pub unit : ℕ
    pub units : ℕ
    pub low : unit < (at bs block).area
    pub address : a ≡ (at bs block).base + unit * g
    pub size : z ≡ units * g
    pub piece : InPieces unit units (view_of g (at bs block) l)

  pub seen : (a z : ℕ) → In a z l → Seen a z
  seen a z mem =
      let r = home_of g n bs l a z s.homes mem in
      let b = at bs r.0 in
      let y = r.2 in
      record {
        block = r.0;
        known = r.1;
        unit = y.0;
        units = y.1;
        low = y.2;
        address = y.3;
        size = y.4;
        piece = in_view g st.unit b (st.whole r.0 r.1) l y.0 y.1 y.2 (subst₂ (λ (p q : ℕ). In p q l) y.3 y.4 mem);
      }

  -- its block holds its address
  pub seen_in : (a z : ℕ) (y : Seen a z) → within (at bs y.block).base (at bs y.block).size a ≡ true
  seen_in a z y =
      ap (within (at bs y.block).base (at bs y.block).size) y.address
      ∙ in_unit g st.unit (at bs y.block) (st.whole y.block y.known) y.unit y.low

  -- so it is the block that holds it
  pub seen_here : (a z j : ℕ) (y : Seen a z) → j < n → within (at bs j).base (at bs j).size a ≡ true → y.block ≡ j
  seen_here a z j y h e =
      by_eq y.block j (λ q. q)
      (λ ne. absurd (not_both (within (at bs y.block).base (at bs y.block).size a) (seen_in a z y)
      (one_block g w slots n bs (length u) (length t) st y.block j a y.known h ne e)))

  -- what an answer at address a of block j says of the ledger
  abbrev pub Told : ℕ → ℕ → Held → Type 0
  Told a j (Ok r) = (r.from < r.to) × (r.to ≤ (at bs j).area) × (a ≡ (at bs j).base + r.from * g) × In a ((r.to - r.from) * g) l × (r.to - r.from ≤ (at bs j).used)
  Told a j (Err NoStop) = ⊥
  Told a j (Err NoSpan) = (z : ℕ) → In a z l → ⊥

  module _ (a j : ℕ) (h : j < n) (e : within (at bs j).base (at bs j).size a ≡ true) (low : (at bs j).base ≤ a) where
    abbrev b : Block
    b = at bs j

    abbrev i : ℕ
    i = (a - (at bs j).base) / g

    -- an entry here: at a whole unit
    here : (z : ℕ) → In a z l → (k : ℕ) × (m : ℕ) × (a ≡ b.base + k * g) × InPieces k m (view_of g b l)
    here z mem =
        let y = seen a z mem in
        subst (λ (c : ℕ). (k : ℕ) × (m : ℕ) × (a ≡ (at bs c).base + k * g) × InPieces k m (view_of g (at bs c) l)) (seen_here a z j y h e)
        (y.unit, y.units, y.address, y.piece)

    offset : (k : ℕ) → a ≡ b.base + k * g → a - b.base ≡ k * g
    offset k q = omega arith

    by_unit : a ≡ b.base + i * g → (x : Held) → StandsAt (view_of g b l) b.area i x → Told a j x
    by_unit q (Ok r) o =
        let k = r.to in
        let c = s.each j h in
        let m = view_in g st.unit b (st.whole j h) l i (k - i) (aligned g w slots n bs (length u) (length t) st j h l s.homes) o.3 in
        subst (λ (y : ℕ). Told a j (Ok (range y k))) (sym o.0)
        (o.1, o.2, q, subst (λ (y : ℕ). In y ((k - i) * g) l) (sym q) m, omega (arith, in_units (view_of g b l) i (k - i) o.3, c.count))
    by_unit q (Err NoStop) o = o
    by_unit q (Err NoSpan) o = λ z mem.
        let y = here z mem in
        let same : y.0 ≡ i = sym (mul-div_cancel y.0 st.unit) ∙ ap (λ (c : ℕ). c / g) (sym (offset y.0 y.2)) in
        o y.1 (subst (λ (k : ℕ). InPieces k y.1 (view_of g b l)) same y.3)

    pub held_told : Told a j (held_of w b g u t a)
    held_told = go (eqb ((a - b.base) % g) 0) refl
      where
        go : (c : Bool) → eqb ((a - b.base) % g) 0 ≡ c → Told a j (pick c (held_at (slot_of w b.slot u) (slot_of w b.slot t) b.area i) (Err NoSpan))
        go true q =
            by_unit (omega (arith, div-add-mod' (a - b.base) g, eqb-true ((a - b.base) % g) 0 q)) (held_at (slot_of w b.slot u) (slot_of w b.slot t) b.area i)
            (stands (view_of g b l) b.area (slot_of w b.slot u) (slot_of w b.slot t) (s.each j h).paints i)
        go false q = λ z mem.
            let y = here z mem in
            eqb-false ((a - b.base) % g) 0 q (ap (λ (c : ℕ). c % g) (offset y.0 y.2) ∙ mul-mod_left y.0 g)
