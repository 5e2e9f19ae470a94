-- In a sound state: what a lookup of an address finds, and what the calls on an address then come to. Assumes nothing.
use Rattle.std.specs.Prelude.{Option, Some, None, Ok, Err}
use Prim.Native.Nat.{ℕ, ◌+◌, ◌-◌, ◌*◌, ◌≤◌, ◌<◌}
use mathlib.Core.List.{List, [], ◌∷◌}
use mathlib.Core.Bool.{true}
use mathlib.Core.Path.{◌≡◌, refl, sym, ap, subst, ◌∙◌}
use native.Mathlib.Omega.{arith}
use lib.ListN.{length}
use borrow.Author.Tests.{eq-eqb, ne_eqb, le-ltb, lt-ltb}
use Rattle.numbers.specs.Units.{units_of}
use Rattle.numbers.proofs.Bools.{not_both}
use Rattle.state.specs.declared.State.{State}
use Rattle.state.specs.declared.Span.{Span}
use Rattle.state.specs.declared.NotHeld.TheVariants.{NoSpan, NoStop}
use Rattle.state.specs.Held.{Held, range}
use Rattle.state.specs.declared.Refusal.TheVariants.{InvalidArgument, InvalidState}
use Rattle.state.specs.declared.Answer.TheVariants.{Shown, Shrunk}
use Rattle.state.specs.Table.{block_at}
use Rattle.state.specs.Find.{holds, lookup}
use Rattle.state.proofs.Find.{Least, least_of}
use Rattle.shape.specs.Shaped.{Shaped}
use Rattle.shape.proofs.Shaped.{shaped_is}
use Rattle.shape_facts.proofs.Facts.{found_in, unit_g, pool_3}
use Rattle.machine.specs.Turn.{turn, refuse, span, unit_of}
use Rattle.machine.specs.Span.{held_of, held_in, query_held, query_found, query_turn}
use Rattle.machine.specs.Release.{release_units, release_held, release_found, release_turn}
use Rattle.machine.specs.Shrink.{shrink_tail, shrink_units, shrink_held, shrink_found, shrink_turn}
use Rattle.machine.proofs.Cases.{Holds}
use Rattle.ledger.specs.Ledger.{In}
use Rattle.ledger.specs.Agrees.{within, Sound}
use Rattle.ledger.proofs.View.{within_range}
use Rattle.ledger.proofs.Table.{Stands, stands_of}
use Rattle.ledger.proofs.Look.{seen, seen_in, Told, held_told}

-- a ledger that has an entry isn't empty
pub some_entry : (l : List Span) (a z : ℕ) → In a z l → 0 < length l
some_entry [] a z i = absurd i
some_entry (x ∷ l) a z i = omega arith

-- what stands at an address, and in the ledger
pub data Finds (s : State) (u t : List ℕ) (l : List Span) (a : ℕ) : Type 0 where
  nowhere : lookup s a ≡ None → ((z : ℕ) → In a z l → ⊥) → Finds s u t l a
  nothing : (j : ℕ) → j < s.count → lookup s a ≡ Some j → held_in s u t a j ≡ Err NoSpan → ((z : ℕ) → In a z l → ⊥) → Finds s u t l a
  entry : (j i e : ℕ) → j < s.count → lookup s a ≡ Some j → held_in s u t a j ≡ Ok (range i e) → i < e → e ≤ (block_at s j).area
      → a ≡ (block_at s j).base + i * s.granularity → In a ((e - i) * s.granularity) l → e - i ≤ (block_at s j).used → Finds s u t l a

module _ (s : State) (u t : List ℕ) (l : List Span) (o : Sound s u t l) (len : length s.blocks ≡ 64) where
  abbrev pub shaped : Shaped s (length u) (length t)
  shaped = shaped_is s (length u) (length t) o.shape

  abbrev pub stands : Stands s.granularity s.w s.slots s.count s.blocks (length u) (length t)
  stands = stands_of s (length u) (length t) (shaped_is s (length u) (length t) o.shape) len

  pub unit_is : (j : ℕ) → j < s.count → unit_of s (block_at s j) ≡ s.granularity
  unit_is j h = unit_g s (length u) (length t) shaped (block_at s j).pool (pool_3 s (length u) (length t) shaped j h)

  told_in : (a j : ℕ) → Some j ≡ lookup s a → Told s.granularity s.w s.slots s.count s.blocks u t stands l o.agrees a j (held_in s u t a j)
  told_in a j e =
      let r = found_in s a j e in
      let q : within (block_at s j).base (block_at s j).size a ≡ true = r.1 in
      subst (λ (g : ℕ). Told s.granularity s.w s.slots s.count s.blocks u t stands l o.agrees a j (held_of s.w (block_at s j) g u t a)) (sym (unit_is j r.0))
      (held_told s.granularity s.w s.slots s.count s.blocks u t stands l o.agrees a j r.0 q (within_range (block_at s j).base (block_at s j).size a q).0)

  pub finds : (a : ℕ) → Finds s u t l a
  finds a = go (lookup s a) refl
    where
      held : (j : ℕ) → lookup s a ≡ Some j → (x : Held) → held_in s u t a j ≡ x → Told s.granularity s.w s.slots s.count s.blocks u t stands l o.agrees a j x → Finds s u t l a
      held j e (Err NoSpan) z q = nothing j (found_in s a j (sym e)).0 e z q
      held j e (Err NoStop) z q = absurd q
      held j e (Ok r) z q = entry j r.from r.to (found_in s a j (sym e)).0 e z q.0 q.1 q.2 q.3 q.4

      go : (x : Option ℕ) → lookup s a ≡ x → Finds s u t l a
      go None e = nowhere e (λ z mem.
          let y = seen s.granularity s.w s.slots s.count s.blocks u t stands l o.agrees a z mem in
          let none = subst (Least 0 s.count (λ i. holds (block_at s i) a)) e (least_of s.count (λ i. holds (block_at s i) a)) in
          not_both (holds (block_at s y.block) a) (seen_in s.granularity s.w s.slots s.count s.blocks u t stands l o.agrees a z y) (none y.block (omega arith) y.known))
      go (Some j) e = held j e (held_in s u t a j) refl (told_in a j (sym e))

  -- a span that stands there is an entry
  pub held_entry : (a j i e : ℕ) → Holds s u t a j i e → (j < s.count) × Told s.granularity s.w s.slots s.count s.blocks u t stands l o.agrees a j (Ok (range i e))
  held_entry a j i e h = (
    (found_in s a j h.found).0,
    subst (Told s.granularity s.w s.slots s.count s.blocks u t stands l o.agrees a j) h.held (told_in a j h.found),
  )

  -- no span is at address 0
  pub not-zero : (a z : ℕ) → In a z l → a ≡ 0 → ⊥
  not-zero a z mem e =
      let y = seen s.granularity s.w s.slots s.count s.blocks u t stands l o.agrees a z mem in
      omega (arith, y.address, (shaped.sound y.block y.known).above, shaped.head.arena_low)

  -- ---- query
  pub query_at : (a : ℕ) (x : Option ℕ) → lookup s a ≡ x → query_turn s u t a ≡ query_found s u t a x
  unfolding query_turn
  query_at a x e = rw (o.shape, e)

  pub query_held_lem : (a j : ℕ) (x : Held) → lookup s a ≡ Some j → held_in s u t a j ≡ x → query_turn s u t a ≡ query_held s u t a j x
  query_held_lem a j x e z = query_at a (Some j) e ∙ ap (query_held s u t a j) z

  pub query_entry : (a j i e : ℕ) → j < s.count → lookup s a ≡ Some j → held_in s u t a j ≡ Ok (range i e) → query_turn s u t a ≡ turn (Shown (span a ((e - i) * s.granularity))) s u t
  query_entry a j i e h p q = query_held_lem a j (Ok (range i e)) p q ∙ ap (λ (g : ℕ). turn (Shown (span a ((e - i) * g))) s u t) (unit_is j h)

  -- ---- release
  pub release-zero : (a : ℕ) → a ≡ 0 → release_turn s u t a ≡ refuse InvalidArgument s u t
  unfolding release_turn
  release-zero a e = rw (o.shape, eq-eqb a 0 e)

  pub release_at : (a : ℕ) (x : Option ℕ) → (a ≡ 0 → ⊥) → lookup s a ≡ x → release_turn s u t a ≡ release_found s u t a x
  unfolding release_turn
  release_at a x ne e = rw (o.shape, ne_eqb a 0 ne, e)

  pub release_held_lem : (a j : ℕ) (x : Held) → (a ≡ 0 → ⊥) → lookup s a ≡ Some j → held_in s u t a j ≡ x → release_turn s u t a ≡ release_held s u t a j x
  release_held_lem a j x ne e z = release_at a (Some j) ne e ∙ ap (release_held s u t a j) z

  pub release_entry : (a j i e : ℕ) → (a ≡ 0 → ⊥) → lookup s a ≡ Some j → held_in s u t a j ≡ Ok (range i e) → In a ((e - i) * s.granularity) l → e - i ≤ (block_at s j).used
      → release_turn s u t a ≡ release_units s u t a j i e
  release_entry a j i e ne p q mem used =
      release_held_lem a j (Ok (range i e)) ne p q
      ∙ rw (le-ltb (block_at s j).used (e - i) used, ne_eqb s.live 0 (λ z. omega (arith, o.live, some_entry l a ((e - i) * s.granularity) mem)))

  -- ---- shrink
  pub shrink_release : (a size : ℕ) → size ≡ 0 → shrink_turn s u t a size ≡ release_turn s u t a
  unfolding shrink_turn
  shrink_release a size e = rw (eq-eqb size 0 e)

  pub shrink-zero : (a size : ℕ) → (size ≡ 0 → ⊥) → a ≡ 0 → shrink_turn s u t a size ≡ refuse InvalidArgument s u t
  unfolding shrink_turn
  shrink-zero a size ns e = rw (ne_eqb size 0 ns, o.shape, eq-eqb a 0 e)

  pub shrink_at : (a size : ℕ) (x : Option ℕ) → (size ≡ 0 → ⊥) → (a ≡ 0 → ⊥) → lookup s a ≡ x → shrink_turn s u t a size ≡ shrink_found s u t a size x
  unfolding shrink_turn
  shrink_at a size x ns ne e = rw (ne_eqb size 0 ns, o.shape, ne_eqb a 0 ne, e)

  pub shrink_held_lem : (a size j : ℕ) (x : Held) → (size ≡ 0 → ⊥) → (a ≡ 0 → ⊥) → lookup s a ≡ Some j → held_in s u t a j ≡ x → shrink_turn s u t a size ≡ shrink_held s u t a size j x
  shrink_held_lem a size j x ns ne e z = shrink_at a size (Some j) ns ne e ∙ ap (shrink_held s u t a size j) z

  -- the units that a size takes, of a span that stands there
  pub shrink_units_lem : (a size j i e : ℕ) → (size ≡ 0 → ⊥) → (a ≡ 0 → ⊥) → j < s.count → lookup s a ≡ Some j → held_in s u t a j ≡ Ok (range i e) → e - i ≤ (block_at s j).used
      → shrink_turn s u t a size ≡ shrink_units s u t a j i e (units_of size s.granularity)
  shrink_units_lem a size j i e ns ne h p q used =
      shrink_held_lem a size j (Ok (range i e)) ns ne p q
      ∙ rw (le-ltb (block_at s j).used (e - i) used) (ap (λ (g : ℕ). shrink_units s u t a j i e (units_of size g)) (unit_is j h))

  pub units_more : (a j i e n : ℕ) → e - i < n → shrink_units s u t a j i e n ≡ refuse InvalidState s u t
  units_more a j i e n h = rw (lt-ltb (e - i) n h)

  pub units_same : (a j i e n : ℕ) → j < s.count → n ≡ e - i → shrink_units s u t a j i e n ≡ turn (Shrunk (span a (n * s.granularity))) s u t
  units_same a j i e n h q =
      rw (le-ltb (e - i) n (omega arith), eq-eqb n (e - i) q) (ap (λ (g : ℕ). turn (Shrunk (span a (n * g))) s u t) (unit_is j h))

  pub units_less : (a j i e n : ℕ) → n < e - i → shrink_units s u t a j i e n ≡ shrink_tail s u t a j i e n
  units_less a j i e n q = rw (le-ltb (e - i) n (omega arith), ne_eqb n (e - i) (λ z. omega arith))
