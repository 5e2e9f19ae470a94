-- A table with no block, as creation and a hard reset leave it, has a good shape. Assumes nothing.
use Prim.Native.Nat.{ℕ, ◌%◌, ◌≤◌}
use mathlib.Core.Bool.{Bool, true, ◌||◌}
use mathlib.Core.List.{List, [], ◌∷◌}
use mathlib.Core.Path.{◌≡◌, refl, sym, subst, ◌∙◌}
use native.Mathlib.Omega.{arith}
use borrow.Author.Tests.{leb-true}
use lib.Dec.{leb, eqb}
use Rattle.numbers.specs.Pick.{pick}
use Rattle.numbers.proofs.Bools.{picked, and_both}
use Rattle.block.specs.declared.Block.{Block}
use Rattle.sizes.proofs.InForce.{granularity_in_force_good, base_size_in_force_good}
use Rattle.state.specs.declared.State.{State}
use Rattle.state.specs.Table.{sum}
use Rattle.state.specs.Shape.{is_zero, arena_ok, numbers_ok, good_shape}
use Rattle.state.proofs.Tests.{every_at}
use Rattle.shape.specs.Parts.{head_ok}
use Rattle.shape.specs.Facts.{Headed, Lent}
use Rattle.shape.proofs.Head.{headed, lent, head_of}
use Rattle.shape.proofs.Sums.{no_sums}
use Rattle.shape.proofs.Enough.{enough_good}
use Rattle.shape_facts.proofs.Cleared.{slots_room}
use Rattle.state.specs.declared.Asked.{Asked}
use Rattle.machine.specs.Create.{slots_of, grantable, fresh_state}
use Rattle.machine.specs.Reset.{empty_table}
use Rattle.shape_kept.proofs.After.{empty_block, empty_age, empty_pool}
use Rattle.shape_kept.proofs.Head.{head_kept, lent_kept}

pub empty_good : (s : State) (u t : ℕ) → Headed s → Lent s u t → good_shape (empty_table s) u t ≡ true
unfolding sum
empty_good s u t h l =
    enough_good (empty_table s) u t (record {
      head = head_kept s 0 0 _ _ _ h (omega arith);
      lent = lent_kept s 0 0 _ _ _ u t l;
      sound = λ i m. absurd (omega arith);
      slots_apart = λ i j k m e. omega arith;
      pools = λ p m. empty_pool s p m ∙ no_sums (empty_table s) p;
      empties = λ p m. none s.immediate;
      live = omega arith;
      age_low = λ k m. absurd (omega arith);
      next = λ j k e m. absurd (omega arith);
      zeros = λ i k m. subst (λ (b : Block). is_zero b ≡ true) (sym (empty_block s i)) refl;
      zero_ages = λ i k m. empty_age s i;
    })
  where
    none : (b : Bool) → 0 ≤ pick b 0 1
    none b = omega arith

-- ---- what creation grants
module _ (a : Asked) (u t : ℕ) (granted : grantable a u t ≡ true) where
  abbrev slots : ℕ
  slots = slots_of a.w u t

  abbrev made : State
  made = fresh_state a slots

  abbrev tests : List Bool
  tests = leb 1 a.w ∷ leb a.w 16384 ∷ leb 1 slots ∷ arena_ok a.arena a.length ∷ []

  numbers : numbers_ok made ≡ true
  numbers =
      and_both _ _ (base_size_in_force_good a.size)
      (and_both _ _ (granularity_in_force_good a.granularity)
      (and_both _ _ (picked (λ (n : ℕ). eqb n 1 || eqb n 3 ≡ true) (eqb (a.flags % 2) 0) 1 3 (λ e. refl) (λ e. refl))
      (and_both _ _ (every_at tests 0 granted)
      (and_both _ _ (every_at tests 1 granted)
      (and_both _ _ (every_at tests 3 granted) refl)))))

  head : head_ok made u t ≡ true
  head =
      let room = slots_room a.w u t in
      head_of made u t numbers (leb-true 1 slots (every_at tests 2 granted)) (omega arith) room.0 room.1 (omega arith)

  pub created_good : good_shape made u t ≡ true
  created_good = empty_good made u t (headed made u t head) (lent made u t head)
