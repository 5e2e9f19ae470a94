-- The arena stays where it is while a span is live. Assumes nothing.
use Prim.Native.Nat.{ℕ, ◌-◌}
use mathlib.Core.Bool.{true, false}
use mathlib.Core.List.{List}
use mathlib.Core.Path.{◌≡◌, refl}
use Rattle.block.specs.Marking.{mark_released}
use Rattle.state.specs.declared.State.{State}
use Rattle.state.specs.declared.Span.{Span}
use Rattle.state.specs.Table.{block_at}
use Rattle.machine.specs.Turn.{Turn, with_live}
use Rattle.machine.specs.Release.{less_used, release_units, release_turn}
use Rattle.machine.specs.Machine.{Call, create, alloc, release, shrink, query, soft_reset, hard_reset, step}
use Rattle.machine.proofs.Cases.{search_arena, settle_cases, create_cases, query_cases, release_cases, shrink_cases, reset_cases, alloc_cases}
use Rattle.ledger.specs.Ledger.{enter, In}

module _ (s : State) (u t : List ℕ) (l : List Span) where
  abbrev Same : Turn → Type 0
  Same x = (a z : ℕ) → In a z (enter x.answer l) → x.state.arena ≡ s.arena

  freed : (a j i e : ℕ) → Same (release_units s u t a j i e)
  freed a j i e =
      let m = mark_released s.w (block_at s j) i e u t in
      settle_cases Same (with_live (less_used s j m.block (e - i)) (s.live - 1)) m.used m.stop _ j (λ n b z y. refl) (λ n g b z y. refl) (λ n g h b z y. refl)

  released : (a : ℕ) → Same (release_turn s u t a)
  released a = release_cases Same s u t a (λ why cond b z y. refl) (λ j i e k. freed a j i e)

  pub arena_stays : (c : Call) → Same (step s u t c)
  arena_stays (create a) = create_cases Same s u t a (λ e b z y. refl) (λ e b z y. absurd y)
  arena_stays (alloc size) =
      alloc_cases Same s u t size (λ why early cond b z y. refl) (λ bytes k miss short b z y. search_arena s u bytes) (λ bytes j i k e b z y. search_arena s u bytes) (λ bytes at slot k miss m b z y. search_arena s u bytes)
  arena_stays (release a) = released a
  arena_stays (shrink a size) = shrink_cases Same s u t a size (λ why cond b z y. refl) (λ none. released a) (λ j i e n k same b z y. refl) (λ j i e n k b z y. refl)
  arena_stays (query a) = query_cases Same s u t a (λ why cond b z y. refl) (λ j i e k b z y. refl)
  arena_stays soft_reset = reset_cases Same s u t false (λ bad b z y. refl) (λ e b z y. absurd y) (λ e i b z y. absurd y)
  arena_stays hard_reset = reset_cases Same s u t true (λ bad b z y. refl) (λ e b z y. absurd y) (λ e i b z y. absurd y)
