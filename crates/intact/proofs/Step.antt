-- One act: it reaches a state as a call without an image does, or leaves it; and no byte of another live span changes. Assumes nothing.
use Prim.Native.Nat.{ℕ, ◌+◌, ◌-◌, ◌≤◌, ◌<◌}
use mathlib.Core.List.{List}
use mathlib.Core.Logic.{◌⊎◌, inl, inr, ⊎_elim}
use mathlib.Core.Path.{◌≡◌, refl, sym, ap, subst, ◌∙◌}
use native.Mathlib.Omega.{arith}
use lib.ListN.{length, get_or}
use Rattle.numbers.proofs.Split.{by_eq, by_le}
use Rattle.state.specs.declared.State.{State}
use Rattle.state.specs.declared.Span.{Span}
use Rattle.machine.specs.Turn.{Turn}
use Rattle.machine.specs.Machine.{Call, step}
use Rattle.ledger.specs.Ledger.{enter, In}
use Rattle.ledger.specs.Reached.{Reached, called}
use Rattle.ledger.proofs.Reached.{Known, reached_known}
use Rattle.demands.proofs.Spans.{spans_lie_apart, span_in_one_block, block_in_arena, one_entry}
use Rattle.demands.proofs.Addresses.{query_shows}
use Rattle.filling.specs.Unused.{unused, lent_step, image_after}
use Rattle.filling.specs.InArena.{Outside}
use Rattle.filling.proofs.Lent.{lent_cases, unused_refused, others_stay}
use Rattle.filling.specs.Copying.{copy_image}
use Rattle.filling.proofs.Written.{copied_out, copied_within}
use Rattle.intact.specs.Acts.{Act, plain, call, copy, World, act, ReachedBy, byte_at, Writes}
use Rattle.intact.proofs.Arena.{arena_stays}
use Rattle.intact.proofs.Kept.{two_apart, Kept, call_kept}

-- ---- a call with an image, in a state that was reached
module _ {s : State} {u t : List ℕ} {l : List Span} (r : Reached s u t l) where
  abbrev known : Known s u t l
  known = reached_known r

  -- the states reached are those of calls without an image, and the ledger is written by the same rule
  pub lent_reached : (bytes : ℕ) (c : Call) → let x = lent_step s u t bytes c in Reached x.state x.used x.stop (enter x.answer l)
  lent_reached bytes c =
      lent_cases s u t bytes (λ (x : Turn). Reached x.state x.used x.stop (enter x.answer l)) (step s u t c) (λ e. called r c) (λ why. r)

  lent_arena : (bytes : ℕ) (c : Call) (a z : ℕ) → let x = lent_step s u t bytes c in In a z (enter x.answer l) → x.state.arena ≡ s.arena
  lent_arena bytes c a z =
      lent_cases s u t bytes (λ (x : Turn). In a z (enter x.answer l) → x.state.arena ≡ s.arena) (step s u t c) (λ e. arena_stays s u t l c a z) (λ why m. refl)

  module _ (a z z' at : ℕ) (was : In a z' l) (low : a ≤ at) (high : at < a + z) where
    in_arena : s.arena ≤ at
    in_arena =
        let y = span_in_one_block r a z' was in
        omega (arith, y.1.low, (block_in_arena r y.0 y.1.stands).0)

    -- a live span that stays live has no more bytes than before, and they are what they were
    pub call_stays : (pattern : ℕ) (image : List ℕ) (c : Call) → In a z (enter (lent_step s u t (length image) c).answer l)
        → (z ≤ z') × (get_or (image_after s u t pattern image c) (at - s.arena) 0 ≡ get_or image (at - s.arena) 0)
    call_stays pattern image c m =
        let q = kept m in
        (q.0, others_stay s u t pattern image known.sized c at in_arena q.1)
      where
        P : Turn → Type 0
        P x = In a z (enter x.answer l) → Kept z z' at (unused s u t c x)

        kept : P (lent_step s u t (length image) c)
        kept =
            lent_cases s u t (length image) P (step s u t c) (λ e. call_kept r a z z' at was low high c)
            (λ why m. (omega (arith, one_entry r a z z' m was), subst (Outside at) (sym (unused_refused s u t c why)) tt))

    -- a write into another span leaves them
    pub copy_stays : (image : List ℕ) (b offset : ℕ) (bytes : List ℕ) → (b ≡ a → ⊥) → In a z l
        → get_or (copy_image s u t image b offset bytes) (at - s.arena) 0 ≡ get_or image (at - s.arena) 0
    copy_stays image b offset bytes ne m =
        ⊎_elim (λ e. ap (λ (after : List ℕ). get_or after (at - s.arena) 0) e)
        (λ q.
        let y = (query_shows r b q.0).0 q.1 in
        let apart = two_apart l (spans_lie_apart r) a z b q.0 (λ e. ne (sym e)) m y in
        copied_out s u t b image offset bytes at in_arena (⊎_elim (λ c. inl (omega (arith, c))) (λ c. inr (omega (arith, c, q.2))) apart))
        (copied_within s u t b image offset bytes)

-- ---- an act
pub act_reached : (w : World) (x : Act) → ReachedBy w → ReachedBy (act w x)
act_reached w (plain c) r = called r c
act_reached w (call pattern c) r = lent_reached r (length w.image) c
act_reached w (copy a offset bytes) r = r

-- the span at a, live before and after, and a byte of it
pub act_stays : (w : World) (x : Act) → ReachedBy w → (a z z' at : ℕ) → In a z' w.ledger → In a z (act w x).ledger → (Writes a at x → ⊥) → a ≤ at → at < a + z
    → (z ≤ z') × (byte_at (act w x) at ≡ byte_at w at)
act_stays w (plain c) r a z z' at was is own low high = (
  (call_kept r a z z' at was low high c is).0,
  ap (λ (base : ℕ). get_or w.image (at - base) 0) (arena_stays w.state w.used w.stop w.ledger c a z is),
)
act_stays w (call pattern c) r a z z' at was is own low high =
    let q = call_stays r a z z' at was low high pattern w.image c is in
    let arena = lent_arena r (length w.image) c a z is in
    (q.0, ap (λ (base : ℕ). get_or (image_after w.state w.used w.stop pattern w.image c) (at - base) 0) arena ∙ q.1)
act_stays w (copy b offset bytes) r a z z' at was is own low high = (
  omega (arith, one_entry r a z z' is was),
  by_eq b a own_span (λ ne. copy_stays r a z z' at was low high w.image b offset bytes ne is),
)
  where
    out : b ≡ a → (at < b + offset) ⊎ (b + offset + length bytes ≤ at)
    out e =
        by_le (a + offset) at
        (λ p. by_le (a + offset + length bytes) at (λ q. inr (omega (arith, e, q))) (λ q. absurd (own (e, p, q))))
        (λ p. inl (omega (arith, e, p)))

    own_span : b ≡ a → byte_at (act w (copy b offset bytes)) at ≡ byte_at w at
    own_span e =
        copied_out w.state w.used w.stop b w.image offset bytes at (in_arena r a z z' at was low high) (out e)
