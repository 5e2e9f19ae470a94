-- What stands at an address, in the words of the table of refusals, and in the machine's: the one gives the other. Assumes nothing.
use Rattle.std.specs.Prelude.{Option, Some, None, Ok, Err}
use Prim.Native.Nat.{ℕ, ◌+◌, ◌-◌, ◌%◌, ◌<◌}
use mathlib.Core.Bool.{Bool, true, false}
use mathlib.Core.List.{List}
use mathlib.Core.Path.{◌≡◌, refl, ap, ap₂, ◌∙◌}
use native.Mathlib.Omega.{arith}
use borrow.Author.Tests.{eqb-true, eqb-false, eq-eqb}
use lib.Dec.{eqb}
use Rattle.numbers.specs.Pick.{pick}
use Rattle.numbers.proofs.Bools.{not_both}
use Rattle.numbers.proofs.Split.{same_of_not-lt}
use Rattle.bits.specs.Bits.{bit}
use Rattle.state.specs.declared.State.{State}
use Rattle.state.specs.declared.NotHeld.TheVariants.{NoSpan, NoStop as noStop}
use Rattle.state.specs.Held.{Held, range}
use Rattle.state.specs.Table.{block_at}
use Rattle.state.specs.Find.{holds, least_from, lookup}
use Rattle.state.proofs.Find.{Least, least_is, least_of}
use Rattle.machine.specs.Turn.{unit_of}
use Rattle.machine.specs.Span.{starts, up_to, held_at, held_in}
use Rattle.machine.specs.When.{InNone, InBlock, unit_at, used_of, stop_of, IsStart, NoStop, HasUnits}

module _ (s : State) (u t : List ℕ) where
  -- ---- the block
  abbrev pub Looks : ℕ → Option ℕ → Type 0
  Looks a None = InNone s u t a
  Looks a (Some j) = InBlock s u t a j

  pub looks : (a : ℕ) → Looks a (lookup s a)
  looks a = go (lookup s a) (least_of s.count (λ i. holds (block_at s i) a))
    where
      go : (r : Option ℕ) → Least 0 s.count (λ i. holds (block_at s i) a) r → Looks a r
      go (Some j) q = (q.high, q.passes)
      go None q = λ j l. q j (omega arith) l

  pub at_none : (a : ℕ) → InNone s u t a → lookup s a ≡ None
  at_none a none = go (lookup s a) (looks a)
    where
      go : (r : Option ℕ) → Looks a r → r ≡ None
      go (Some j) q = absurd (not_both (holds (block_at s j) a) q.1 (none j q.0))
      go None q = refl

  -- ---- the span
  abbrev pub Seen : ℕ → ℕ → Held → Type 0
  Seen a j (Err NoSpan) = IsStart s u t a j → ⊥
  Seen a j (Err noStop) = IsStart s u t a j × NoStop s u t a j
  Seen a j (Ok units) = (units.from ≡ unit_at s u t a j) × (units.from < units.to) × IsStart s u t a j × HasUnits s u t a j (units.to - units.from)

  module _ (a j : ℕ) where
    abbrev offset : ℕ
    offset = (a - (block_at s j).base) % unit_of s (block_at s j)

    abbrev at : ℕ
    at = unit_at s u t a j

    abbrev area : ℕ
    area = (block_at s j).area

    abbrev stops : ℕ → Bool
    stops k = eqb (bit (stop_of s u t j) k) 1

    ends : IsStart s u t a j → (r : Option ℕ) → Least at (at + (area - at)) stops r → Seen a j (up_to at r)
    ends st (Some e) q = (
      refl,
      omega (arith, q.low),
      st,
      (
        omega (arith, q.low),
        omega (arith, q.low, q.high),
        (let z : at + (e + 1 - at) - 1 ≡ e = omega (arith, q.low) in ap (bit (stop_of s u t j)) z ∙ eqb-true (bit (stop_of s u t j) e) 1 q.passes),
        λ k l m b. not_both (stops k) (eq-eqb (bit (stop_of s u t j) k) 1 b) (q.before k l (omega (arith, q.low))),
      ),
    )
    ends st None q = (st, λ k l m b. not_both (stops k) (eq-eqb (bit (stop_of s u t j) k) 1 b) (q k l (omega arith)))

    started : offset ≡ 0 → (c : Bool) → starts (used_of s u t j) (stop_of s u t j) at ≡ c → Seen a j (pick c (up_to at (least_from at (area - at) stops)) (Err NoSpan))
    started z true e = ends (z, e) (least_from at (area - at) stops) (least_is at (area - at) stops)
    started z false e = λ st. not_both (starts (used_of s u t j) (stop_of s u t j) at) st.1 e

    aligned : (c : Bool) → eqb offset 0 ≡ c → Seen a j (pick c (held_at (used_of s u t j) (stop_of s u t j) area at) (Err NoSpan))
    aligned true e = started (eqb-true offset 0 e) (starts (used_of s u t j) (stop_of s u t j) at) refl
    aligned false e = λ st. eqb-false offset 0 e st.0

    pub seen : Seen a j (held_in s u t a j)
    seen = aligned (eqb offset 0) refl

  -- a span has one length, and then there is a stop bit
  one-length : (a j n m : ℕ) → HasUnits s u t a j n → HasUnits s u t a j m → n ≡ m
  one-length a j n m p q =
      same_of_not-lt n m
      (λ l. q.3 (unit_at s u t a j + n - 1) (omega (arith, p.0)) (omega (arith, p.0)) p.2)
      (λ l. p.3 (unit_at s u t a j + m - 1) (omega (arith, q.0)) (omega (arith, q.0)) q.2)

  has_stop : (a j n : ℕ) → HasUnits s u t a j n → NoStop s u t a j → ⊥
  has_stop a j n q none = none (unit_at s u t a j + n - 1) (omega (arith, q.0)) (omega (arith, q.0, q.1)) q.2

  pub held_none : (a j : ℕ) → (IsStart s u t a j → ⊥) → held_in s u t a j ≡ Err NoSpan
  held_none a j not_start = go (held_in s u t a j) (seen a j)
    where
      go : (h : Held) → Seen a j h → h ≡ Err NoSpan
      go (Err NoSpan) q = refl
      go (Err noStop) q = absurd (not_start q.0)
      go (Ok r) q = absurd (not_start q.2)

  pub held_endless : (a j : ℕ) → IsStart s u t a j → NoStop s u t a j → held_in s u t a j ≡ Err noStop
  held_endless a j st none = go (held_in s u t a j) (seen a j)
    where
      go : (h : Held) → Seen a j h → h ≡ Err noStop
      go (Err NoSpan) q = absurd (q st)
      go (Err noStop) q = refl
      go (Ok r) q = absurd (has_stop a j (r.to - r.from) q.3 none)

  pub held_units : (a j n : ℕ) → IsStart s u t a j → HasUnits s u t a j n → held_in s u t a j ≡ Ok (range (unit_at s u t a j) (unit_at s u t a j + n))
  held_units a j n st has = go (held_in s u t a j) (seen a j)
    where
      go : (h : Held) → Seen a j h → h ≡ Ok (range (unit_at s u t a j) (unit_at s u t a j + n))
      go (Err NoSpan) q = absurd (q st)
      go (Err noStop) q = absurd (has_stop a j n has q.1)
      go (Ok r) q =
          let k : r.to - r.from ≡ n = one-length a j (r.to - r.from) n q.3 has in
          let z : r.to ≡ unit_at s u t a j + n = omega (arith, k, q.0, q.1) in
          ap₂ (λ (x y : ℕ). Ok (range x y)) q.0 z
