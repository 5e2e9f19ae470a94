-- Marking, release and shrink keep what a block's window promises (`Windowed`). Assumes nothing.
use Prim.Native.Nat.{ℕ, ◌+◌, ◌-◌, ◌*◌, ◌≤◌, ◌<◌}
use mathlib.Core.List.{List}
use mathlib.Core.Logic.{◌⊎◌, inl, inr, ⊎_elim}
use mathlib.Core.Path.{◌≡◌, sym, ◌∙◌}
use native.Mathlib.Omega.{arith}
use lib.Dec.{eqb}
use lib.ListN.{length}
use borrow.Author.Tests.{eq-eqb, ne_eqb}
use Rattle.numbers.proofs.Bools.{not_both, picked}
use Rattle.numbers.proofs.Split.{by_eq, by_le}
use Rattle.bits.specs.Bits.{bit, ones, Filled}
use Rattle.bits.proofs.Count.{ones_filled, ones_all-one, ones_none}
use Rattle.block.specs.declared.Block.{Block}
use Rattle.block.specs.Record.{empty_flag, dirty_flag, on, off, with_numbers}
use Rattle.block.specs.Marking.{moved, full, marked, emptied, widened, released, shrunk}
use Rattle.block.specs.Search.{is_dirty}
use Rattle.block.specs.Window.{Windowed}
use Rattle.block.proofs.Flags.{dirty_on}

-- ---- marking
moved_low : (x own other k : ℕ) → x ≤ k → (x ≡ own → other ≤ k) → moved x own other ≤ k
unfolding moved
moved_low x own other k h f = by_eq x own (λ e. rw (eq-eqb x own e) (f e)) (λ ne. rw (ne_eqb x own ne) h)

moved_high : (x own other k : ℕ) → k < x → (x ≡ own → k < other) → k < moved x own other
unfolding moved
moved_high x own other k h f = by_eq x own (λ e. rw (eq-eqb x own e) (f e)) (λ ne. rw (ne_eqb x own ne) h)

pub moved-le : (x own other top : ℕ) → x ≤ top → other ≤ top → moved x own other ≤ top
unfolding moved
moved-le x own other top h g = picked (λ (n : ℕ). n ≤ top) (eqb x own) other x (λ e. g) (λ e. h)

-- What marking asks: a new block's window leaves the span out already, so only the free units outside the span need lie in it
pub record Ready (b : Block) (u : List ℕ) (i e : ℕ) : Type 0 where
  pub room : b.area ≤ 32 * length u
  pub count : b.used ≡ ones u 0 b.area
  pub window : (k : ℕ) → k < b.area → bit u k ≡ 0 → (k < i) ⊎ (e ≤ k) → (b.start ≤ k) × (k < b.end)
  pub within : b.end ≤ b.area
  pub some : i < e
  pub fits : e ≤ b.area
  pub free : (k : ℕ) → i ≤ k → k < e → bit u k ≡ 0

pub windowed_ready : {b : Block} {u : List ℕ} (i e : ℕ) → Windowed b u → i < e → e ≤ b.area → ((k : ℕ) → i ≤ k → k < e → bit u k ≡ 0) → Ready b u i e
windowed_ready i e s l h f = record {
  room = s.room;
  count = s.count;
  window = λ k x y o. s.window k x y;
  within = s.within;
  some = l;
  fits = h;
  free = f;
}

module _ (b : Block) (u v : List ℕ) (i e : ℕ) (s : Ready b u i e) (f : Filled u i (e - i) 1 v) where
  counted : b.used + (e - i) ≡ ones v 0 b.area
  counted = omega (arith, s.count, ones_filled 0 0 b.area f (omega arith) (omega (arith, s.some, s.fits)) (λ k p q. s.free k p (omega (arith, s.some))))

  room_kept : b.area ≤ 32 * length v
  room_kept = omega (arith, f.size, s.room)

  full_kept : b.used + (e - i) ≡ b.area → Windowed (full b (b.used + (e - i))) v
  full_kept h =
      let used : (k : ℕ) → k < b.area → bit v k ≡ 1 = λ k l. ones_all-one v 0 b.area k (sym counted ∙ h) (omega arith) (omega arith) in
      record {
        room = room_kept;
        count = counted;
        window = λ k l z. absurd (omega (arith, used k l));
        within = omega arith;
        exact = λ d. record { place = (0, omega arith, λ k p q. absurd (omega arith)); none_longer = λ j l g. omega (arith, used j (omega arith), g j (omega arith) (omega arith)) };
      }

  part_kept : (flags : ℕ) → Windowed (with_numbers b (on flags dirty_flag) (b.used + (e - i)) (moved b.start i e) (moved b.end e i) b.largest) v
  part_kept flags = record {
    room = room_kept;
    count = counted;
    window = λ k l z.
        by_le i k
        (λ p. by_le e k
        (λ q. outside k l z (inr q))
        (λ q. absurd (omega (arith, f.inside k p (omega arith)))))
        (λ p. outside k l z (inl p));
    within = moved-le b.end e i b.area s.within (omega (arith, s.some, s.fits));
    exact = λ d. absurd (not_both (is_dirty (with_numbers b (on flags dirty_flag) 0 0 0 0)) (dirty_on flags) d);
  }
    where
      was : (k : ℕ) → (k < i) ⊎ (e ≤ k) → bit v k ≡ bit u k
      was k (inl p) = f.below k p
      was k (inr p) = f.above k (omega (arith, s.some))

      outside : (k : ℕ) → k < b.area → bit v k ≡ 0 → (k < i) ⊎ (e ≤ k) → (moved b.start i e ≤ k) × (k < moved b.end e i)
      outside k l z o =
          let w = s.window k l (sym (was k o) ∙ z) o in (
            moved_low b.start i e k w.0 (λ q. ⊎_elim (λ p. absurd (omega arith)) (λ p. p) o),
            moved_high b.end e i k w.1 (λ q. ⊎_elim (λ p. p) (λ p. absurd (omega arith)) o),
          )

  pub marked_kept : Windowed (marked b i e) v
  unfolding marked
  marked_kept =
      by_eq (b.used + (e - i)) b.area (λ h. rw (eq-eqb (b.used + (e - i)) b.area h) (full_kept h))
      (λ ne. rw (ne_eqb (b.used + (e - i)) b.area ne) (part_kept (off b.flags empty_flag)))

-- ---- units made free
module _ (b : Block) (u v : List ℕ) (i e : ℕ) (s : Windowed b u) (some : i < e) (fits : e ≤ b.area)
    (taken : (k : ℕ) → i ≤ k → k < e → bit u k ≡ 1) (f : Filled u i (e - i) 0 v) where
  left : b.used ≡ ones v 0 b.area + (e - i)
  left = omega (arith, s.count, ones_filled 1 0 b.area f (omega arith) (omega arith) (λ k p q. taken k p (omega arith)))

  pub widened_kept : Windowed (widened b i e) v
  widened_kept = record {
    room = omega (arith, f.size, s.room);
    count = omega (arith, left);
    window = λ k l z.
        by_le i k
        (λ p. by_le e k
        (λ q. let w = s.window k l (sym (f.above k (omega arith)) ∙ z) in (omega arith, omega arith))
        (λ q. (omega arith, omega arith)))
        (λ p. let w = s.window k l (sym (f.below k p) ∙ z) in (omega arith, omega arith));
    within = omega (arith, s.within);
    exact = λ d. absurd (not_both (is_dirty (widened b i e)) (dirty_on b.flags) d);
  }

  pub shrunk_kept : Windowed (shrunk b i e) v
  shrunk_kept = widened_kept

  pub released_kept : Windowed (released b i e) v
  unfolding released
  released_kept =
      by_eq (b.used - (e - i)) 0 (λ h. rw (eq-eqb (b.used - (e - i)) 0 h) (emptied_kept (omega (arith, left))))
      (λ ne. rw (ne_eqb (b.used - (e - i)) 0 ne) widened_kept)
    where
      emptied_kept : ones v 0 b.area ≡ 0 → Windowed (emptied b) v
      emptied_kept z = record {
        room = omega (arith, f.size, s.room);
        count = sym z;
        window = λ k l y. (omega arith, l);
        within = omega arith;
        exact = λ d. record { place = (0, omega arith, λ k p q. ones_none v 0 b.area k z (omega arith) (omega arith)); none_longer = λ j l g. omega arith };
      }
