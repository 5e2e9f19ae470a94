-- What a write changes, byte by byte: its own bytes, and no other. Assumes nothing.
use Prim.Native.Nat.{ℕ, ◌+◌, ◌-◌, ◌≤◌, ◌<◌}
use mathlib.Core.List.{List}
use mathlib.Core.Logic.{◌⊎◌, inl, inr, ⊎_elim}
use mathlib.Core.Path.{◌≡◌, refl, sym, ap, ◌∙◌}
use native.Mathlib.Omega.{arith}
use borrow.Author.Tests.{leb-true}
use lib.Dec.{leb}
use lib.ListN.{length, get_or}
use lib.Seq.{sets}
use Rattle.image.proofs.Sets.{sets_in, sets_out}
use Rattle.numbers.proofs.Bools.{picked}
use Rattle.numbers.proofs.Split.{by_eq}
use Rattle.state.specs.declared.State.{State}
use Rattle.state.specs.declared.Span.{Span}
use Rattle.state.specs.declared.Refusal.TheVariants.{InvalidArgument}
use Rattle.state.specs.declared.Answer.{Answer}
use Rattle.state.specs.declared.Answer.TheVariants.{Created, Granted, Released, Shrunk, Shown, Reset, Refused}
use Rattle.machine.specs.Turn.{span}
use Rattle.machine.specs.Span.{query_turn}
use Rattle.filling.specs.Copying.{fits, written, looked_up, copy_answer, copy_image}
use Rattle.filling.proofs.Copying.{IfShown, LiesWithin, looked_lies, looked_plain, looked_refused}

module _ (s : State) (u t : List ℕ) (a : ℕ) where
  module _ (image : List ℕ) (offset : ℕ) (bytes : List ℕ) where
    abbrev after : List ℕ
    after = copy_image s u t image a offset bytes

    -- another byte stays
    pub copied_out : (k : ℕ) → s.arena ≤ k → (k < a + offset) ⊎ (a + offset + length bytes ≤ k) → get_or after (k - s.arena) 0 ≡ get_or image (k - s.arena) 0
    copied_out k low out = go (looked_up s u t (length image) a) (looked_lies s u t (length image) a)
      where
        go : (c : Answer) → IfShown (LiesWithin s.arena (length image) a) c
            → get_or (written s.arena offset bytes image (fits offset (length bytes) c)) (k - s.arena) 0 ≡ get_or image (k - s.arena) 0
        go (Shown x) w =
            picked (λ (c : Answer). get_or (written s.arena offset bytes image c) (k - s.arena) 0 ≡ get_or image (k - s.arena) 0)
            (leb (offset + length bytes) x.size) (Shown x) (Refused InvalidArgument)
            (λ f.
            sets_out bytes image (x.address - s.arena + offset) (k - s.arena)
            (⊎_elim (λ p. inl (omega (arith, p, low, w.1, w.0.low))) (λ p. inr (omega (arith, p, low, w.1, w.0.low))) out))
            (λ f. refl)
        go (Created size g pools) w = refl
        go (Granted x) w = refl
        go (Released x) w = refl
        go (Shrunk x) w = refl
        go Reset w = refl
        go (Refused why) w = refl

    -- a write is refused and changes nothing, or ends with the span that a query shows
    pub copied_within : (after ≡ image) ⊎ ((size : ℕ) × ((query_turn s u t a).answer ≡ Shown (span a size)) × (offset + length bytes ≤ size))
    copied_within =
        by_eq (length image) s.length (λ e. go (looked_up s u t (length image) a) (looked_lies s u t (length image) a) (looked_plain s u t (length image) a e))
        (λ ne. inl (ap (λ (c : Answer). written s.arena offset bytes image (fits offset (length bytes) c)) (looked_refused s u t (length image) a ne)))
      where
        go : (c : Answer) → IfShown (LiesWithin s.arena (length image) a) c → c ≡ (query_turn s u t a).answer
            → (written s.arena offset bytes image (fits offset (length bytes) c) ≡ image)
            ⊎ ((size : ℕ) × ((query_turn s u t a).answer ≡ Shown (span a size)) × (offset + length bytes ≤ size))
        go (Shown x) e q =
            picked (λ (c : Answer). (written s.arena offset bytes image c ≡ image)
            ⊎ ((size : ℕ) × ((query_turn s u t a).answer ≡ Shown (span a size)) × (offset + length bytes ≤ size)))
            (leb (offset + length bytes) x.size) (Shown x) (Refused InvalidArgument)
            (λ f. inr (x.size, sym q ∙ ap (λ (b : ℕ). Shown (span b x.size)) e.1, leb-true (offset + length bytes) x.size f))
            (λ f. inl refl)
        go (Created size g pools) e q = inl refl
        go (Granted x) e q = inl refl
        go (Released x) e q = inl refl
        go (Shrunk x) e q = inl refl
        go Reset e q = inl refl
        go (Refused why) e q = inl refl

    -- a granted write puts its own, which lie in the span
    pub copied_in : (x : Span) → copy_answer s u t (length image) a offset (length bytes) ≡ Shown x → (j : ℕ) → j < length bytes
        → (x.address ≡ a) × (offset + length bytes ≤ x.size) × (get_or after (a + offset + j - s.arena) 0 ≡ get_or bytes j 0)
    copied_in x granted j h = go (looked_up s u t (length image) a) (looked_lies s u t (length image) a) granted
      where
        Put : Answer → Type 0
        Put c = c ≡ Shown x
            → (x.address ≡ a) × (offset + length bytes ≤ x.size) × (get_or (written s.arena offset bytes image c) (a + offset + j - s.arena) 0 ≡ get_or bytes j 0)

        go : (c : Answer) → IfShown (LiesWithin s.arena (length image) a) c → Put (fits offset (length bytes) c)
        go (Shown y) w =
            picked Put (leb (offset + length bytes) y.size) (Shown y) (Refused InvalidArgument)
            (λ f q.
            let same : y ≡ x = cc in
            let fits = leb-true (offset + length bytes) y.size f in (
              ap (λ (o : Span). o.address) (sym same) ∙ w.1,
              omega (arith, fits, ap (λ (o : Span). o.size) same),
              ap (λ (i : ℕ). get_or (sets image (y.address - s.arena + offset) bytes) i 0) (omega (arith, w.1, w.0.low))
                  ∙ sets_in bytes image (y.address - s.arena + offset) j h (omega (arith, fits, w.0.low, w.0.high)),
            ))
            (λ f q. absurd (let z : ◌≡◌ {A = ℕ} 0 1 = cc in omega arith))
        go (Created size g pools) w = λ q. absurd (let z : ◌≡◌ {A = ℕ} 0 1 = cc in omega arith)
        go (Granted y) w = λ q. absurd (let z : ◌≡◌ {A = ℕ} 0 1 = cc in omega arith)
        go (Released y) w = λ q. absurd (let z : ◌≡◌ {A = ℕ} 0 1 = cc in omega arith)
        go (Shrunk y) w = λ q. absurd (let z : ◌≡◌ {A = ℕ} 0 1 = cc in omega arith)
        go Reset w = λ q. absurd (let z : ◌≡◌ {A = ℕ} 0 1 = cc in omega arith)
        go (Refused why) w = λ q. absurd (let z : ◌≡◌ {A = ℕ} 0 1 = cc in omega arith)
