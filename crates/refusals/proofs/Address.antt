-- Query, release and shrink give each refusal under its condition. Assumes nothing.
use Prim.Native.Nat.{ℕ, ◌+◌, ◌-◌, ◌<◌}
use mathlib.Core.Bool.{true, false, ◌||◌}
use mathlib.Core.List.{List}
use mathlib.Core.Logic.{◌⊎◌, inl, inr, ⊎_elim}
use mathlib.Core.Path.{◌≡◌, ap, ◌∙◌}
use native.Mathlib.Nat.{div-eq_of_lt}
use native.Mathlib.Omega.{arith}
use borrow.Author.Tests.{eqb-false, eq-eqb, ne_eqb, lt-ltb, le-ltb}
use lib.Dec.{ltb, eqb}
use Rattle.numbers.specs.Units.{units_of}
use Rattle.numbers.proofs.Bools.{or_left, or_right}
use Rattle.numbers.proofs.Split.{by_eq}
use Rattle.state.specs.declared.State.{State}
use Rattle.state.specs.declared.Refusal.{Refusal}
use Rattle.state.specs.declared.Refusal.TheVariants.{InvalidArgument, TooLarge, InvalidState, NoMapping, BadShape, Damaged}
use Rattle.state.specs.declared.Answer.TheVariants.{Refused}
use Rattle.state.specs.Table.{block_at}
use Rattle.machine.specs.Turn.{Turn, unit_of}
use Rattle.machine.specs.Span.{query_turn}
use Rattle.machine.specs.Release.{release_turn}
use Rattle.machine.specs.Shrink.{shrink_turn}
use Rattle.machine.specs.Machine.{release, shrink, query}
use Rattle.machine.specs.When.{Good, InBlock, unit_at, When}
use Rattle.machine.proofs.Look.{at_none, held_none, held_endless, held_units}
use Rattle.refusals.proofs.Look.{not-zero, at_block, unit_some}

module _ (s : State) (u t : List ℕ) where
  module _ (a : ℕ) where
    some : Good s u t → (j : ℕ) → InBlock s u t a j → eqb a 0 ≡ false
    some good j here = ne_eqb a 0 (not-zero s u t good a j here)

    -- ---- query
    pub query_when : (why : Refusal) → When s u t why (query a) → (query_turn s u t a).answer ≡ Refused why
    unfolding query_turn
    query_when InvalidArgument (good, inl none) = rw (good, at_none s u t a none)
    query_when InvalidArgument (good, inr (j, here, none)) = rw (good, at_block s u t good a j here, held_none s u t a j none)
    query_when Damaged (good, j, here, st, none) = rw (good, at_block s u t good a j here, held_endless s u t a j st none)
    query_when BadShape e = rw e
    query_when TooLarge e = absurd e
    query_when InvalidState e = absurd e
    query_when NoMapping e = absurd e

    -- ---- release: a span that is too long, or no live one
    damaged : (j i n : ℕ) → ((block_at s j).used < n) ⊎ (s.live ≡ 0) → ltb (block_at s j).used (i + n - i) || eqb s.live 0 ≡ true
    damaged j i n (inl l) = or_left (ltb (block_at s j).used (i + n - i)) (eqb s.live 0) (lt-ltb (block_at s j).used (i + n - i) (omega (arith, l)))
    damaged j i n (inr l) = or_right (ltb (block_at s j).used (i + n - i)) (eqb s.live 0) (eq-eqb s.live 0 l)

    pub release_when : (why : Refusal) → When s u t why (release a) → (release_turn s u t a).answer ≡ Refused why
    unfolding release_turn
    release_when InvalidArgument (good, inl z) = rw (good, eq-eqb a 0 z)
    release_when InvalidArgument (good, inr (j, here, none)) = rw (good, some good j here, at_block s u t good a j here, held_none s u t a j none)
    release_when InvalidState (good, ne, none) = rw (good, ne_eqb a 0 ne, at_none s u t a none)
    release_when Damaged (good, j, here, st, inl none) = rw (good, some good j here, at_block s u t good a j here, held_endless s u t a j st none)
    release_when Damaged (good, j, here, st, inr (n, has, q)) =
        rw (good, some good j here, at_block s u t good a j here, held_units s u t a j n st has, damaged j (unit_at s u t a j) n q)
    release_when BadShape e = rw e
    release_when TooLarge e = absurd e
    release_when NoMapping e = absurd e

  -- ---- shrink
  module _ (a size : ℕ) where
    -- to 0 it is a release
    pub as_release : size ≡ 0 → (why : Refusal) → When s u t why (release a) → When s u t why (shrink a size)
    as_release z InvalidArgument (good, inl q) = (good, inl q)
    as_release z InvalidArgument (good, inr q) = (good, inr (inr q))
    as_release z InvalidState q = (q.0, inl (z, q.1, q.2))
    as_release z Damaged (good, j, here, st, inl q) = (good, j, here, st, inl q)
    as_release z Damaged (good, j, here, st, inr q) = (good, j, here, st, inr (q.0, q.1, ⊎_elim (λ l. inl l) (λ l. inr (z, l)) q.2))
    as_release z BadShape q = q
    as_release z TooLarge q = q
    as_release z NoMapping q = q

    -- no units are asked for with no bytes
    no_units : Good s u t → size ≡ 0 → (j n : ℕ) → InBlock s u t a j → n < units_of size (unit_of s (block_at s j)) → ⊥
    no_units good z j n here l =
        let k = unit_some s u t good j here.0 in
        let e : units_of size (unit_of s (block_at s j)) ≡ 0 = ap (λ (x : ℕ). units_of x (unit_of s (block_at s j))) z ∙ div-eq_of_lt (omega arith) in
        omega (arith, e, l)

    when_release : size ≡ 0 → (why : Refusal) → When s u t why (shrink a size) → When s u t why (release a)
    when_release z InvalidArgument (good, inl q) = (good, inl q)
    when_release z InvalidArgument (good, inr (inl q)) = absurd (omega (arith, q.0, z))
    when_release z InvalidArgument (good, inr (inr q)) = (good, inr q)
    when_release z InvalidState (good, inl q) = (good, q.1, q.2)
    when_release z InvalidState (good, inr q) = absurd (no_units good z q.0 q.1 q.2 q.6)
    when_release z Damaged (good, j, here, st, inl q) = (good, j, here, st, inl q)
    when_release z Damaged (good, j, here, st, inr q) = (good, j, here, st, inr (q.0, q.1, ⊎_elim (λ l. inl l) (λ l. inr l.1) q.2))
    when_release z BadShape q = q
    when_release z TooLarge q = q
    when_release z NoMapping q = q

    shrink-zero : size ≡ 0 → shrink_turn s u t a size ≡ release_turn s u t a
    unfolding shrink_turn
    shrink-zero z = rw (eq-eqb size 0 z)

    shrink_some : eqb size 0 ≡ false → (why : Refusal) → When s u t why (shrink a size) → (shrink_turn s u t a size).answer ≡ Refused why
    unfolding shrink_turn
    shrink_some ne InvalidArgument (good, inl z) = rw (ne, good, eq-eqb a 0 z)
    shrink_some ne InvalidArgument (good, inr (inl q)) = by_eq a 0 (λ z. rw (ne, good, eq-eqb a 0 z)) (λ no. rw (ne, good, ne_eqb a 0 no, at_none s u t a q.1))
    shrink_some ne InvalidArgument (good, inr (inr (j, here, none))) = rw (ne, good, some a good j here, at_block s u t good a j here, held_none s u t a j none)
    shrink_some ne InvalidState (good, inl q) = absurd (eqb-false size 0 ne q.0)
    shrink_some ne InvalidState (good, inr (j, n, here, st, has, l, m)) =
        let i = unit_at s u t a j in
        rw (
          ne,
          good,
          some a good j here,
          at_block s u t good a j here,
          held_units s u t a j n st has,
          le-ltb (block_at s j).used (i + n - i) (omega (arith, l)),
          lt-ltb (i + n - i) (units_of size (unit_of s (block_at s j))) (omega (arith, m)),
        )
    shrink_some ne Damaged (good, j, here, st, inl none) = rw (ne, good, some a good j here, at_block s u t good a j here, held_endless s u t a j st none)
    shrink_some ne Damaged (good, j, here, st, inr (n, has, inl l)) =
        let i = unit_at s u t a j in
        rw (ne, good, some a good j here, at_block s u t good a j here, held_units s u t a j n st has, lt-ltb (block_at s j).used (i + n - i) (omega (arith, l)))
    shrink_some ne Damaged (good, j, here, st, inr (n, has, inr l)) = absurd (eqb-false size 0 ne l.0)
    shrink_some ne BadShape e = rw (ne, e)
    shrink_some ne TooLarge e = absurd e
    shrink_some ne NoMapping e = absurd e

    pub shrink_when : (why : Refusal) → When s u t why (shrink a size) → (shrink_turn s u t a size).answer ≡ Refused why
    shrink_when why q =
        by_eq size 0 (λ z. ap (λ (x : Turn). x.answer) (shrink-zero z) ∙ release_when a why (when_release z why q)) (λ ne. shrink_some (ne_eqb size 0 ne) why q)
