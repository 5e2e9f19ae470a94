-- In every state reached: a block is looked into and a place found in it exactly if it is the lowest of its whole area; and what an allocation enters is
-- new to the ledger. Assumes nothing.
use Prim.Native.Nat.{ℕ, ◌<◌}
use mathlib.Core.List.{List, ◌∷◌}
use mathlib.Core.Logic.{inl, inr, ⊎_elim, ◌↔◌}
use mathlib.Core.Path.{◌≡◌, refl, ap, subst}
use native.Mathlib.Omega.{arith}
use Rattle.slots.specs.Slots.{slot_of}
use Rattle.std.specs.Prelude.{Ok}
use Rattle.block.specs.Search.{look_into}
use Rattle.block.proofs.Window.{look_found}
use Rattle.state.specs.declared.State.{State}
use Rattle.state.specs.declared.Span.{Span}
use Rattle.state.specs.declared.Answer.{Answer}
use Rattle.state.specs.declared.Answer.TheVariants.{Granted}
use Rattle.state.specs.Table.{block_at}
use Rattle.machine.specs.Turn.{span}
use Rattle.machine.specs.Machine.{alloc, step}
use Rattle.ledger.proofs.SoundBlock.{sound_windowed}
use Rattle.ledger.specs.Ledger.{enter}
use Rattle.ledger.specs.Agrees.{view_of}
use Rattle.ledger.specs.First.{LowestPlace}
use Rattle.ledger.specs.Reached.{Reached, called}
use Rattle.ledger.proofs.Calls.{room_u}
use Rattle.ledger.proofs.Finds.{shaped, stands}
use Rattle.ledger.proofs.Reached.{Known, reached_known}
use Rattle.demands.specs.Apart.{Vacant}
use Rattle.demands.proofs.Spans.{known_apart, known_inside}

module _ {s : State} {u t : List ℕ} {l : List Span} (r : Reached s u t l) where
  abbrev k : Known s u t l
  k = reached_known r

  -- 01, Search: in any state reached by calls this equals the lowest fit in the whole block
  pub found_exactly : (j n i : ℕ) → j < s.count → 0 < n → (look_into s.w (block_at s j) u n ≡ Ok i) ↔ LowestPlace s.w u n (block_at s j) i
  found_exactly j n i h pos =
      let b = block_at s j in
      let f = shaped s u t l k.sound k.sized.blocks in
      let st = stands s u t l k.sound k.sized.blocks in
      look_found s.w b u n
      (sound_windowed b (slot_of s.w b.slot u) (slot_of s.w b.slot t) (view_of s.granularity b l) (k.sound.agrees.each j h)
      (room_u s.granularity s.w s.slots s.count s.blocks u t st l k.sound.agrees j h) (f.sound j h).end) pos i

  -- an allocation enters just its answer, at an address where the ledger had none
  pub alloc_enters : (size a z : ℕ) → (step s u t (alloc size)).answer ≡ Granted (span a z)
      → (enter (step s u t (alloc size)).answer l ≡ span a z ∷ l) × Vacant l a
  alloc_enters size a z e =
      let x = step s u t (alloc size) in
      let after : Known x.state x.used x.stop (span a z ∷ l) = reached_known (subst (λ (c : Answer). Reached x.state x.used x.stop (enter c l)) e (called r (alloc size))) in (
        ap (λ (c : Answer). enter c l) e,
        λ y m.
            let own = (known_inside after a z (inl (refl, refl))).1.some in
            let other = (known_inside after a y (inr m)).1.some in
            ⊎_elim (λ c. omega arith) (λ c. omega arith) ((known_apart after).0 a y m),
      )
