-- The rule of shrink, by the cases that the code tells apart, which compares in bytes what the rule compares in units. Assumes nothing.
use Rattle.std.specs.Prelude.{Ok}
use Prim.Native.Nat.{ℕ, ◌-◌, ◌≤◌, ◌<◌}
use mathlib.Core.Bool.{true, false}
use mathlib.Core.List.{List}
use mathlib.Core.Path.{◌≡◌}
use native.Mathlib.Omega.{arith}
use lib.Dec.{ltb, eqb}
use Rattle.numbers.specs.Units.{units_of, bytes_of}
use Rattle.numbers.proofs.Split.{by_le}
use Rattle.numbers.proofs.Units.{units-le}
use Rattle.state.specs.declared.State.{State}
use Rattle.state.specs.Held.{range}
use Rattle.state.specs.declared.Refusal.TheVariants.{InvalidState, Damaged}
use Rattle.state.specs.Table.{block_at}
use Rattle.machine.specs.Turn.{refuse, unit_of}
use Rattle.machine.specs.Release.{release_turn}
use Rattle.machine.specs.Shrink.{shrink_tail, shrink_units, shrink_held, shrink_turn}

-- ---- bytes for units
module _ (size unit : ℕ) (some : 0 < unit) where
  pub units_over : (n : ℕ) → bytes_of n unit < size → n < units_of size unit
  units_over n l = by_le (units_of size unit) n (λ g. absurd (omega (arith, (units-le size unit n some).0 (omega arith)))) (λ g. g)

  pub units_within : (n : ℕ) → size ≤ bytes_of n unit → units_of size unit ≤ n
  units_within n l = omega (arith, (units-le size unit n some).1 l)

-- ---- a span, by the units that it is to keep
module _ (s : State) (u t : List ℕ) (a j i e n : ℕ) where
  pub more_units : ltb (e - i) n ≡ true → refuse InvalidState s u t ≡ shrink_units s u t a j i e n
  more_units z = rw z

  pub fewer_units : ltb (e - i) n ≡ false → eqb n (e - i) ≡ false → shrink_tail s u t a j i e n ≡ shrink_units s u t a j i e n
  fewer_units y z = rw (y, z)

module _ (s : State) (u t : List ℕ) (a size j i e : ℕ) where
  pub shrunk_damaged : ltb (block_at s j).used (e - i) ≡ true → refuse Damaged s u t ≡ shrink_held s u t a size j (Ok (range i e))
  shrunk_damaged z = rw z

  pub shrunk_units : ltb (block_at s j).used (e - i) ≡ false
      → shrink_units s u t a j i e (units_of size (unit_of s (block_at s j))) ≡ shrink_held s u t a size j (Ok (range i e))
  shrunk_units z = rw z

-- ---- without a byte
pub shrink_none : (s : State) (u t : List ℕ) (a size : ℕ) → eqb size 0 ≡ true → release_turn s u t a ≡ shrink_turn s u t a size
unfolding shrink_turn
shrink_none s u t a size e = rw e
