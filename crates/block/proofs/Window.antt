-- The window law: what the search finds in the window is the lowest fit of the whole block, and tightening keeps that; so do marking, release
-- and shrink. Assumes nothing.
use Prim.Native.Nat.{ℕ, ◌+◌, ◌-◌, ◌*◌, ◌≤◌, ◌<◌}
use mathlib.Core.Bool.{Bool, true, false}
use mathlib.Core.List.{List}
use mathlib.Core.Logic.{◌⊎◌, inl, inr, ⊎_elim, ◌↔◌}
use mathlib.Core.Path.{◌≡◌, refl, ap, subst}
use native.Mathlib.Omega.{arith}
use lib.Dec.{lit<, leb}
use lib.ListN.{length}
use borrow.Author.Tests.{le-leb}
use Rattle.numbers.specs.Pick.{pick}
use Rattle.numbers.proofs.Bools.{not_both}
use Rattle.numbers.proofs.Split.{by_le, same_of_not-lt}
use Rattle.bits.specs.Bits.{ones, filled}
use Rattle.bits.proofs.Filled.{filled_has}
use Rattle.bits.proofs.Count.{ones-le, ones_filled}
use Rattle.runs.specs.Window.{FreeAt, NoFit, Lowest, Tightened, Sought}
use Rattle.runs.specs.declared.Search.{Search}
use Rattle.runs.specs.declared.Search.TheVariants.{At, Tight, Full}
use Rattle.runs.specs.Seek.{seek}
use Rattle.runs.proofs.Seek.{seek_is}
use Rattle.slots.specs.Slots.{slot_of}
use Rattle.block.specs.declared.Block.{Block}
use Rattle.std.specs.Prelude.{Result, Ok, Err}
use Rattle.block.specs.Search.{is_dirty, worth_searching, looked, tightened, look_into}
use Rattle.block.specs.Window.{Longest, Windowed}

-- n free units in a row: the used count leaves room for them
free_room : (u : List ℕ) (area i n : ℕ) → area ≤ 32 * length u → i + n ≤ area → FreeAt u n i → ones u 0 area + n ≤ area
free_room u area i n r h f =
    let g = filled_has u i n 1 (lit< tt) (omega arith) in
    omega (arith, ones_filled 0 0 area g (omega arith) (omega arith) f, ones-le (filled u i n 1) 0 area)

-- none is longer than the longest
longest_le : (u : List ℕ) (area m i n : ℕ) → Longest u area m → i + n ≤ area → FreeAt u n i → n ≤ m
longest_le u area m i n g h f = by_le n m (λ p. p) (λ p. absurd (g.none_longer i (omega arith) (λ k a b. f k a (omega arith))))

module _ (b : Block) (u : List ℕ) (s : Windowed b u) where
  -- any fit of the whole block is seen: the block is looked into, and the fit lies in the window
  pub fit_seen : (i n : ℕ) → 0 < n → i + n ≤ b.area → FreeAt u n i → (worth_searching b n ≡ true) × (b.start ≤ i) × (i + n ≤ b.end)
  unfolding worth_searching
  fit_seen i n pos h f =
      let p = s.window i (omega arith) (f i (omega arith) (omega arith)) in
      let q = s.window (i + n - 1) (omega arith) (f (i + n - 1) (omega arith) (omega arith)) in
      (rw (le-leb n (b.area - b.used) (omega (arith, s.count, free_room u b.area i n s.room h f))) (go (is_dirty b) refl), omega arith, omega arith)
    where
      go : (d : Bool) → is_dirty b ≡ d → pick d true (leb n b.largest) ≡ true
      go true e = refl
      go false e = le-leb n b.largest (longest_le u b.area b.largest i n (s.exact e) h f)

  -- looked into and found at i in the window, exactly if i is the lowest fit of the whole block
  pub window_law : (i n : ℕ) → 0 < n → ((worth_searching b n ≡ true) × Lowest u b.start b.end n i) ↔ Lowest u 0 b.area n i
  window_law i n pos = (
    λ q.
        record {
          low = omega arith;
          high = omega (arith, q.1.high, s.within);
          free = q.1.free;
          least = λ j a c d f. let r = fit_seen j n pos d f in q.1.least j r.1 c r.2 f;
        },
    λ q.
        let r = fit_seen i n pos q.high q.free in
        (r.0, record { low = r.1; high = r.2; free = q.free; least = λ j a c d f. q.least j (omega arith) c (omega (arith, s.within)) f }),
  )

  -- not looked into, or nothing found in the window: the whole block has no fit
  pub window_none : (n : ℕ) → 0 < n → (worth_searching b n ≡ false) ⊎ NoFit u b.end n b.start b.end → NoFit u b.area n 0 b.area
  window_none n pos o i a c d f =
      let r = fit_seen i n pos d f in
      ⊎_elim (λ e. absurd (not_both (worth_searching b n) r.0 e)) (λ g. g i r.1 (omega (arith, r.2)) r.2 f) o

  -- tightening keeps all of it
  pub tight_windowed : (first last longest : ℕ) → Tightened u b.start b.end first last longest → Windowed (tightened b first last longest) u
  tight_windowed first last longest q = record {
    room = s.room;
    count = s.count;
    window = λ k h f.
        let w = s.window k h f in (
          by_le first k (λ p. p) (λ p. absurd (omega (arith, q.before k w.0 p))),
          by_le last k (λ p. absurd (omega (arith, q.after k p w.1))) (λ p. p),
        );
    within = omega (arith, q.high, s.within);
    exact = λ e.
        record {
          place = (q.place.0, omega (arith, q.place.2, s.within), q.place.3);
          none_longer = λ i h f.
              let r = fit_seen i (longest + 1) (omega arith) h f in
              q.none_longer i r.1 (omega (arith, r.2)) r.2 f;
        };
  }

-- ---- the search in one block
module _ (b : Block) (u : List ℕ) (n : ℕ) (s : Windowed b u) (pos : 0 < n) where
  -- what an answer says of the whole block
  abbrev pub Outcome : Result ℕ Block → Type 0
  Outcome (Ok i) = Lowest u 0 b.area n i
  Outcome (Err c) = NoFit u b.area n 0 b.area × Windowed c u

  looked_outcome : worth_searching b n ≡ true → (r : Search) → Sought u b.start b.end n r → Outcome (looked b r)
  looked_outcome e (At i) q = (window_law b u s i n pos).0 (e, q)
  looked_outcome e (Tight f l m) q =
      (window_none b u s n pos (inr (λ i x y z g. q.0.none_longer i x y (omega (arith, q.1)) (λ k c d. g k c (omega (arith, q.1))))), tight_windowed b u s f l m q.0)
  looked_outcome e Full q =
      (window_none b u s n pos (inr (λ i x y z g. omega (arith, q i x y, g i (omega arith) (omega arith)))), s)

  picked : (l : Bool) → worth_searching b n ≡ l → (r : Search) → Sought u b.start b.end n r → Outcome (pick l (looked b r) (Err b))
  picked true e r q = looked_outcome e r q
  picked false e r q = (window_none b u s n pos (inl e), s)

module _ (w : ℕ) (b : Block) (ws : List ℕ) (n : ℕ) (s : Windowed b (slot_of w b.slot ws)) (pos : 0 < n) where
  pub look_outcome : Outcome b (slot_of w b.slot ws) n s pos (look_into w b ws n)
  unfolding look_into
  look_outcome =
      picked b (slot_of w b.slot ws) n s pos (worth_searching b n) refl (seek (slot_of w b.slot ws) b.start b.end n) (seek_is (slot_of w b.slot ws) b.start b.end n pos)

  -- found at i, exactly if i is the lowest fit of the whole block
  pub look_found : (i : ℕ) → (look_into w b ws n ≡ Ok i) ↔ Lowest (slot_of w b.slot ws) 0 b.area n i
  look_found i = (λ e. subst (Outcome b (slot_of w b.slot ws) n s pos) e look_outcome, λ q. back (look_into w b ws n) look_outcome q)
    where
      back : (x : Result ℕ Block) → Outcome b (slot_of w b.slot ws) n s pos x → Lowest (slot_of w b.slot ws) 0 b.area n i → x ≡ Ok i
      back (Ok j) o q =
          ap Ok (same_of_not-lt j i (λ l. q.least j o.low l o.high o.free) (λ l. o.least i q.low l q.high q.free))
      back (Err c) o q = absurd (o.0 i q.low (omega (arith, q.high)) q.high q.free)

  -- missed, exactly if the whole block has no fit; and the block that is left is as sound
  pub look_missed : (c : Block) → look_into w b ws n ≡ Err c → NoFit (slot_of w b.slot ws) b.area n 0 b.area × Windowed c (slot_of w b.slot ws)
  look_missed c e = subst (Outcome b (slot_of w b.slot ws) n s pos) e look_outcome
