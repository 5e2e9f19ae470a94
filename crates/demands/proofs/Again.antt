-- The span that an allocation has just granted is the one that a release finds. Assumes nothing.
use Prim.Native.Nat.{ℕ, ◌+◌, ◌-◌, ◌*◌, ◌<◌}
use mathlib.Core.Bool.{true}
use mathlib.Core.List.{List}
use mathlib.Core.Path.{◌≡◌, sym, ap, ap₂, ◌∙◌}
use native.Mathlib.Nat.{eq_of_mul-eq-mul_right}
use native.Mathlib.Omega.{arith}
use Rattle.state.specs.declared.State.{State}
use Rattle.state.specs.declared.Span.{Span}
use Rattle.state.specs.Table.{block_at}
use Rattle.shape_facts.proofs.Facts.{found_in}
use Rattle.machine.specs.Release.{release_units, release_turn}
use Rattle.ledger.specs.Ledger.{In}
use Rattle.ledger.specs.Agrees.{within}
use Rattle.ledger.proofs.View.{in_unit}
use Rattle.ledger.proofs.Finds.{Finds, nowhere, nothing, entry, finds, stands, not-zero, release_entry}
use Rattle.ledger.proofs.Reached.{Known}
use Rattle.demands.proofs.Spans.{known_inside, known_one}

pub found_again : {s : State} {u t : List ℕ} {l : List Span} → Known s u t l → (a z j i n : ℕ) → In a z l → j < s.count → i < (block_at s j).area
    → a ≡ (block_at s j).base + i * s.granularity → z ≡ n * s.granularity → release_turn s u t a ≡ release_units s u t a j i (i + n)
found_again {s} {u} {t} {l} k a z j i n mem h low ea ez = go (finds s u t l k.sound k.sized.blocks a)
  where
    go : Finds s u t l a → release_turn s u t a ≡ release_units s u t a j i (i + n)
    go (nowhere e none) = absurd (none z mem)
    go (nothing c p e y none) = absurd (none z mem)
    go (entry c x e p q y some fits ec m used) =
        let st = stands s u t l k.sound k.sized.blocks in
        let b = (known_inside k a z mem).1 in
        let here : within (block_at s j).base (block_at s j).size a ≡ true = ap (within (block_at s j).base (block_at s j).size) ea ∙ in_unit s.granularity st.unit (block_at s j) (st.whole j h) i low in
        let ej : c ≡ j = b.one c p (found_in s a c (sym q)).1 ∙ sym (b.one j h here) in
        let base : (block_at s c).base ≡ (block_at s j).base = ap (λ (o : ℕ). (block_at s o).base) ej in
        let ei : x ≡ i = eq_of_mul-eq-mul_right s.granularity st.unit x i (omega arith) in
        let en : e - x ≡ n = eq_of_mul-eq-mul_right s.granularity st.unit (e - x) n (known_one k a ((e - x) * s.granularity) z m mem ∙ ez) in
        let ee : e ≡ i + n = omega arith in
        release_entry s u t l k.sound k.sized.blocks a c x e (not-zero s u t l k.sound k.sized.blocks a z mem) q y m used
        ∙ ap (λ (o : ℕ). release_units s u t a o x e) ej ∙ ap₂ (λ (o e : ℕ). release_units s u t a j o e) ei ee
