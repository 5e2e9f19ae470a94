-- The lowest place for a new block, by the order of addresses. Assumes nothing.
use Rattle.std.specs.Prelude.{Some, None}
use Prim.Native.Nat.{ℕ, ◌+◌, ◌-◌, ◌/◌, ◌%◌, ◌^◌, ◌≤◌, ◌<◌}
use mathlib.Core.Bool.{true, false}
use mathlib.Core.Logic.{◌⊎◌, inl, inr}
use mathlib.Core.Path.{◌≡◌, refl, sym, ap, subst, ◌∙◌}
use native.Mathlib.Omega.{arith}
use borrow.Author.Tests.{le-leb, lt-leb, lt-ltb, le-ltb}
use lib.Dec.{lit<, leb}
use Rattle.numbers.specs.Align.{align_up}
use Rattle.numbers.proofs.Bools.{and_both, and_fails_left, and_fails_right}
use Rattle.numbers.proofs.Align.{up_low, up_high, up_divides}
use Rattle.numbers.proofs.Split.{by_eq, by_le}
use Rattle.block.specs.declared.Block.{Block}
use Rattle.state.specs.declared.State.{State}
use Rattle.state.specs.Table.{block_at, age_at, all}
use Rattle.state.specs.Find.{clear, place_at, place_free, placed, lowest_place}
use Rattle.state.proofs.Tests.{all_of, all_fails}
use Rattle.state.proofs.Find.{least_only}
use Rattle.table.specs.Ordered.{Arranged}

pub clear_out : (b : Block) (at size : ℕ) → (at + size ≤ b.base) ⊎ (b.base + b.size ≤ at) → clear b at size ≡ true
clear_out b at size (inl p) = rw (le-ltb b.base (at + size) p)
clear_out b at size (inr p) =
    by_le (at + size) b.base (λ q. rw (le-ltb b.base (at + size) q)) (λ q. rw (lt-ltb b.base (at + size) q, le-ltb at (b.base + b.size) p))

pub clear_in : (b : Block) (at size : ℕ) → b.base < at + size → at < b.base + b.size → clear b at size ≡ false
clear_in b at size p q = rw (lt-ltb b.base (at + size) p, lt-ltb at (b.base + b.size) q)

-- an end rounded up to the next multiple
pub record Above (x r : ℕ) : Type 0 where
  pub low : x ≤ r
  pub high : r < x + 65536
  pub whole : r % 65536 ≡ 0

pub above : (x : ℕ) → x ≤ 2 ^ 48 → Above x (align_up x 65536)
above x h = record {
  low = up_low x 65536 (lit< tt) (omega arith);
  high = up_high x 65536 (lit< tt) (omega arith);
  whole = up_divides x 65536 16 (lit< tt) (omega arith) (omega arith) refl;
}

module _ (s : State) (r : Arranged s) (size : ℕ) where
  abbrev here : ℕ → Block
  here k = block_at s (age_at s k)

  -- some block is in the way
  abbrev pub Blocked : ℕ → Type 0
  Blocked q = (i : ℕ) × (i < s.count) × (clear (block_at s i) q size ≡ false)

  -- the walk has passed k blocks, and at is the lowest multiple that may still do
  pub record Passed (k at : ℕ) : Type 0 where
    pub within : k ≤ s.count
    pub whole : at % 65536 ≡ 0
    pub low : s.arena ≤ at
    pub high : at ≤ s.arena + s.length
    pub behind : (j : ℕ) → j < k → (here j).base + (here j).size ≤ at
    pub before : (j : ℕ) → k ≤ j → j < s.count → at ≤ (here j).base
    pub blocked : (q : ℕ) → s.arena ≤ q → q < at → q % 65536 ≡ 0 → Blocked q

  pub passed_none : Passed 0 s.arena
  passed_none = record {
    within = omega arith;
    whole = r.arena;
    low = omega arith;
    high = omega arith;
    behind = λ j h. absurd (omega arith);
    before = λ j p h. r.low (age_at s j) (r.ordered.age j h);
    blocked = λ q p h e. absurd (omega arith);
  }

  pub passed_more : (k at next : ℕ) → Passed k at → k < s.count → (here k).base < at + size → Above ((here k).base + (here k).size) next → Passed (k + 1) next
  passed_more k at next p h l a =
      let o = r.ordered in
      let i = o.age k h in
      let low = r.low (age_at s k) i in
      let high = r.high (age_at s k) i in
      let some = r.some (age_at s k) i in
      record {
        within = omega arith;
        whole = a.whole;
        low = omega (arith, low, a.low);
        high = omega (arith, high, a.high, a.whole, r.arena, r.length);
        behind = λ j g. by_eq j k (λ e. rw e a.low) (λ ne. omega (arith, o.behind j k (omega (arith, ne)) h, a.low));
        before = λ j g m. omega (arith, o.behind k j (omega arith) m, a.high, a.whole, r.base (age_at s j) (o.age j m));
        blocked = λ q g m e. by_le at q
            (λ n. (age_at s k, i, clear_in (here k) q size (omega (arith, l)) (omega (arith, a.high, a.whole))))
            (λ n. p.blocked q g n e);
      }

  -- ---- what the rule says of a multiple
  abbrev index : ℕ → ℕ
  index at = (at - s.arena) / 65536

  at_index : (at : ℕ) → at % 65536 ≡ 0 → s.arena ≤ at → place_at s (index at) ≡ at
  at_index at e h = omega (arith, r.arena)

  free_here : (k at : ℕ) → place_at s k ≡ at → at + size ≤ s.arena + s.length
      → ((i : ℕ) → i < s.count → clear (block_at s i) at size ≡ true) → place_free s size k ≡ true
  free_here k at e h f =
      rw e
      (and_both (leb (at + size) (s.arena + s.length)) (all s.count (λ i. clear (block_at s i) at size)) (le-leb (at + size) (s.arena + s.length) h)
      (all_of s.count (λ i. clear (block_at s i) at size) f))

  blocked_here : (k : ℕ) → Blocked (place_at s k) → place_free s size k ≡ false
  blocked_here k b =
      and_fails_right (leb (place_at s k + size) (s.arena + s.length)) (all s.count (λ i. clear (block_at s i) (place_at s k) size))
      (all_fails s.count (λ i. clear (block_at s i) (place_at s k) size) b.0 b.1 b.2)

  past_here : (k : ℕ) → s.arena + s.length < place_at s k + size → place_free s size k ≡ false
  past_here k h =
      and_fails_left (leb (place_at s k + size) (s.arena + s.length)) (all s.count (λ i. clear (block_at s i) (place_at s k) size))
      (lt-leb (place_at s k + size) (s.arena + s.length) h)

  -- ---- the answers
  -- at is clear of every block: the rule's answer
  place_here : (k at : ℕ) → 0 < size → Passed k at → at + size ≤ s.arena + s.length → ((l : ℕ) → k ≤ l → l < s.count → at + size ≤ (here l).base)
      → Some at ≡ lowest_place s size
  place_here k at pos p h f =
      let e = at_index at p.whole p.low in
      let free : (i : ℕ) → i < s.count → clear (block_at s i) at size ≡ true = λ i g.
      let w = r.ordered.has i g in
      subst (λ (n : ℕ). clear (block_at s n) at size ≡ true) w.2
      (clear_out (here w.0) at size (by_le k w.0 (λ m. inl (f w.0 m w.1)) (λ m. inr (p.behind w.0 m)))) in
      sym (ap Some e)
      ∙ ap (placed s)
      (least_only (s.length / 65536) (place_free s size) (Some (index at))
      (record {
        low = omega arith;
        high = omega (arith, r.length, p.low);
        passes = free_here (index at) at e h free;
        before = λ j x l. blocked_here j (p.blocked (place_at s j) (omega arith) (omega (arith, e)) (omega (arith, r.arena)));
      }))

  pub place_gap : (k at : ℕ) → 0 < size → Passed k at → k < s.count → at + size ≤ (here k).base → Some at ≡ lowest_place s size
  place_gap k at pos p h g =
      let o = r.ordered in
      place_here k at pos p (omega (arith, r.high (age_at s k) (o.age k h)))
      (λ l m n. by_eq l k (λ e. rw e g) (λ ne. omega (arith, o.behind k l (omega (arith, ne)) n)))

  pub place_last : (at : ℕ) → 0 < size → Passed s.count at → at + size ≤ s.arena + s.length → Some at ≡ lowest_place s size
  place_last at pos p h = place_here s.count at pos p h (λ l m n. absurd (omega arith))

  pub place_none : (at : ℕ) → Passed s.count at → s.arena + s.length < at + size → None ≡ lowest_place s size
  place_none at p h =
      ap (placed s)
      (least_only (s.length / 65536) (place_free s size) None
      (λ j x l. by_le at (place_at s j) (λ g. past_here j (omega arith))
      (λ g. blocked_here j (p.blocked (place_at s j) (omega arith) g (omega (arith, r.arena))))))
