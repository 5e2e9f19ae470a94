-- What a good shape adds of an address in a block: it is not 0, and no other block has it. Assumes nothing.
use Rattle.std.specs.Prelude.{Option, Some, None}
use Prim.Native.Nat.{ℕ, ◌+◌, ◌≤◌, ◌<◌}
use mathlib.Core.List.{List}
use mathlib.Core.Logic.{⊎_elim}
use mathlib.Core.Path.{◌≡◌, ap}
use native.Mathlib.Omega.{arith}
use borrow.Author.Tests.{leb-true, ltb-true}
use lib.Dec.{leb, ltb}
use lib.ListN.{length}
use Rattle.numbers.proofs.Bools.{not_both, and_left, and_right}
use Rattle.numbers.proofs.Split.{same_of_not-lt}
use Rattle.state.specs.declared.State.{State}
use Rattle.state.specs.Table.{block_at}
use Rattle.state.specs.Find.{holds, lookup}
use Rattle.shape.specs.Shaped.{Shaped}
use Rattle.shape.proofs.Shaped.{shaped_is}
use Rattle.machine.specs.Turn.{unit_of}
use Rattle.machine.specs.When.{Good, InBlock}
use Rattle.machine.proofs.Look.{Looks, looks}
use Rattle.shape_facts.proofs.Facts.{pool_3, unit_g}

module _ (s : State) (u t : List ℕ) (good : Good s u t) where
  abbrev facts : Shaped s (length u) (length t)
  facts = shaped_is s (length u) (length t) good

  low : (a j : ℕ) → InBlock s u t a j → (block_at s j).base ≤ a
  low a j q = leb-true _ _ (and_left (leb (block_at s j).base a) (ltb a ((block_at s j).base + (block_at s j).size)) q.1)

  high : (a j : ℕ) → InBlock s u t a j → a < (block_at s j).base + (block_at s j).size
  high a j q = ltb-true _ _ (and_right (leb (block_at s j).base a) (ltb a ((block_at s j).base + (block_at s j).size)) q.1)

  -- the arena doesn't start at 0
  pub not-zero : (a j : ℕ) → InBlock s u t a j → a ≡ 0 → ⊥
  not-zero a j q e = omega (arith, low a j q, (facts.sound j q.0).above, facts.head.arena_low)

  -- a unit has a byte
  pub unit_some : (j : ℕ) → j < s.count → 0 < unit_of s (block_at s j)
  unit_some j h = omega (arith, unit_g s (length u) (length t) facts (block_at s j).pool (pool_3 s (length u) (length t) facts j h), facts.head.g_low)

  not_later : (a i j : ℕ) → InBlock s u t a i → InBlock s u t a j → i < j → ⊥
  not_later a i j p q l =
      ⊎_elim (λ e. omega (arith, e, high a i p, low a j q)) (λ e. omega (arith, e, high a j q, low a i p)) (facts.bytes_apart i j l q.0)

  pub at_block : (a j : ℕ) → InBlock s u t a j → lookup s a ≡ Some j
  at_block a j h = go (lookup s a) (looks s u t a)
    where
      go : (r : Option ℕ) → Looks s u t a r → r ≡ Some j
      go (Some i) q = ap Some (same_of_not-lt i j (not_later a i j q h) (not_later a j i h q))
      go None q = absurd (not_both (holds (block_at s j) a) h.1 (q j h.0))
