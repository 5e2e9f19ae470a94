-- The block at an address, by the order of addresses. Assumes nothing.
use Rattle.std.specs.Prelude.{Option, Some, None, slice_get, slice_index_or}
use Rattle.std.specs.List.Sorted.{IsPartitionedBy, IsPartitionPoint}
use Rattle.std.proofs.lemmas.Bool.{leb-true}
use Rattle.std.proofs.lemmas.List.{get_or-take, length-take-le, get_or_default}
use Rattle.std.proofs.lemmas.Option.{slice_get-get_or, get_or_from_slice_get}
use Prim.Native.Nat.{ℕ, ◌+◌, ◌-◌, ◌≤◌, ◌<◌}
use mathlib.Core.Bool.{Bool, true, false, ◌&&◌}
use mathlib.Core.List.{List}
use mathlib.Core.Logic.{◌⊎◌, inl, inr}
use mathlib.Core.Path.{◌≡◌, sym, ap, subst, ◌∙◌}
use native.Mathlib.Omega.{arith}
use borrow.Author.Tests.{le-leb, lt-leb, lt-ltb, le-ltb}
use lib.Dec.{ltb, leb}
use lib.ListN.{length, take, get_or}
use Rattle.numbers.proofs.Bools.{not_both, and_right, and_both}
use Rattle.numbers.proofs.Split.{by_eq, by_le}
use Rattle.block.specs.declared.Block.{Block}
use Rattle.state.specs.declared.State.{State}
use Rattle.state.specs.Table.{block_at, age_at}
use Rattle.state.specs.Find.{holds, lookup}
use Rattle.state.proofs.Find.{least_only}
use Rattle.table.specs.Ordered.{Ordered}

pub holds_in : (b : Block) (a : ℕ) → b.base ≤ a → a < b.base + b.size → holds b a ≡ true
holds_in b a p q = rw (le-leb b.base a p, lt-ltb a (b.base + b.size) q)

pub holds_out : (b : Block) (a : ℕ) → (a < b.base) ⊎ (b.base + b.size ≤ a) → holds b a ≡ false
holds_out b a (inl p) = rw (lt-leb b.base a p)
holds_out b a (inr q) = by_le b.base a (λ p. rw (le-leb b.base a p, le-ltb a (b.base + b.size) q)) (λ p. rw (lt-leb b.base a p))

module _ (s : State) (o : Ordered s) (a : ℕ) where
  abbrev here : ℕ → Block
  here k = block_at s (age_at s k)

  -- a block in another place does not hold it
  other : (k l : ℕ) → k < s.count → l < s.count → (here k).base ≤ a → a < (here k).base + (here k).size → (l ≡ k → ⊥) → holds (here l) a ≡ false
  other k l hk hl p q ne =
      by_le k l (λ g. holds_out (here l) a (inl (omega (arith, o.behind k l (omega (arith, ne)) hl))))
      (λ g. holds_out (here l) a (inr (omega (arith, o.behind l k g hk))))

  pub look_here : (k : ℕ) → k < s.count → (here k).base ≤ a → a < (here k).base + (here k).size → Some (age_at s k) ≡ lookup s a
  look_here k h p q =
      least_only s.count (λ i. holds (block_at s i) a) (Some (age_at s k))
      (record {
        low = omega arith;
        high = o.age k h;
        passes = holds_in (here k) a p q;
        before = λ j x l.
            let w = o.has j (omega (arith, o.age k h)) in
            subst (λ (i : ℕ). holds (block_at s i) a ≡ false) w.2
            (other k w.0 h w.1 p q (λ e. omega (arith, sym w.2 ∙ ap (age_at s) e)));
      })

  pub look_none : ((k : ℕ) → k < s.count → (a < (here k).base) ⊎ ((here k).base + (here k).size ≤ a)) → None ≡ lookup s a
  look_none f =
      least_only s.count (λ i. holds (block_at s i) a) None
      (λ j x l. let w = o.has j l in subst (λ (i : ℕ). holds (block_at s i) a ≡ false) w.2 (holds_out (here w.0) a (f w.0 w.1)))

  -- ---- the search over the order: a place passes if its block starts at or before the address
  abbrev pub starts : ℕ → Bool
  starts i = ltb i 64 && leb (block_at s i).base a

  module _ (full : length s.order ≡ 64) where
    pub ages : length (take s.count s.order) ≡ s.count
    ages = length-take-le s.count s.order (omega (arith, full, o.few))

    pub age_is : (k : ℕ) (d : ℕ) → k < s.count → slice_index_or (take s.count s.order) k d ≡ age_at s k
    age_is k d h = get_or-take s.count s.order k d h ∙ get_or_default s.order k d 0 (omega (arith, full, o.few))

    passes : (k : ℕ) → k < s.count → (here k).base ≤ a → starts (age_at s k) ≡ true
    passes k h l =
        and_both (ltb (age_at s k) 64) (leb (here k).base a) (lt-ltb (age_at s k) 64 (omega (arith, o.age k h, o.few))) (le-leb (here k).base a l)

    pub parted : IsPartitionedBy starts (take s.count s.order)
    parted i j d l h e =
        let m : j < s.count = omega (arith, ages) in
        let low : (here j).base ≤ a = leb-true (here j).base a (and_right (ltb (age_at s j) 64) (leb (here j).base a) (sym (ap starts (age_is j d m)) ∙ e)) in
        ap starts (age_is i d (omega arith))
        ∙ passes i (omega arith) (by_eq i j (λ z. rw z low) (λ ne. omega (arith, low, o.behind i j (omega (arith, ne)) m)))

    -- the first n places pass, and no other
    module _ (n : ℕ) (p : IsPartitionPoint (λ y. starts y ≡ true) (λ y. starts y ≡ false) (take s.count s.order) n) (few : n ≤ s.count) where
      before : (k : ℕ) → k < n → (here k).base ≤ a
      before k h =
          leb-true (here k).base a
          (and_right (ltb (age_at s k) 64) (leb (here k).base a) (sym (ap starts (age_is k 0 (omega arith))) ∙ p.0 k 0 (omega arith) h))

      after : (k : ℕ) → n ≤ k → k < s.count → a < (here k).base
      after k l h =
          by_le (here k).base a
          (λ low. absurd (not_both (starts (age_at s k)) (passes k h low) (sym (ap starts (age_is k 0 h)) ∙ p.1 k 0 l (omega (arith, ages)))))
          (λ g. g)

      pub none_starts : n ≡ 0 → None ≡ lookup s a
      none_starts z = look_none (λ k h. inl (after k (omega arith) h))

      pub last_age : 0 < n → (age_at s (n - 1) < s.count) × ((here (n - 1)).base ≤ a)
      last_age h = (o.age (n - 1) (omega arith), before (n - 1) (omega arith))

      pub last_holds : 0 < n → a - (here (n - 1)).base < (here (n - 1)).size → Some (age_at s (n - 1)) ≡ lookup s a
      last_holds h l = look_here (n - 1) (omega arith) (before (n - 1) (omega arith)) (omega (arith, before (n - 1) (omega arith)))

      pub last_ends : 0 < n → (here (n - 1)).size ≤ a - (here (n - 1)).base → None ≡ lookup s a
      last_ends h l =
          look_none
          (λ k g. by_le n k (λ m. inl (after k m g))
          (λ m. inr (by_eq k (n - 1) (λ z. rw z (omega (arith, l, before (n - 1) (omega arith))))
          (λ ne. omega (arith, o.behind k (n - 1) (omega (arith, ne)) (omega arith), before (n - 1) (omega arith))))))

-- ---- the last of the first n
module _ (xs : List ℕ) (n : ℕ) (h : n ≤ length xs) (r : Option ℕ) (q : r ≡ slice_get (take n xs) (length (take n xs) - 1)) where
  long : length (take n xs) ≡ n
  long = length-take-le n xs h

  pub no_last : r ≡ None → n ≡ 0
  no_last e =
      by_eq n 0 (λ z. z)
      (λ ne.
      let i : length (take n xs) - 1 ≡ n - 1 = omega (arith, long) in
      let got : None ≡ Some (get_or (take n xs) (n - 1) 0) = sym e ∙ q ∙ ap (slice_get (take n xs)) i ∙ slice_get-get_or (take n xs) (n - 1) 0 (omega (arith, long, ne)) in
      absurd (let z : ◌≡◌ {A = ℕ} 0 1 = cc in omega arith))

  pub last_is : (x : ℕ) → r ≡ Some x → (0 < n) × (x ≡ get_or xs (n - 1) 0)
  last_is x e =
      by_eq n 0
      (λ z. let got = subst (λ (m : ℕ). slice_get (take m xs) (length (take m xs) - 1) ≡ Some x) z (sym q ∙ e) in absurd (let z : ◌≡◌ {A = ℕ} 0 1 = cc in omega arith))
      (λ ne.
      let i : length (take n xs) - 1 ≡ n - 1 = omega (arith, long) in (
        omega (arith, ne),
        sym (get_or_from_slice_get (take n xs) (n - 1) x 0 (sym (q ∙ ap (slice_get (take n xs)) i) ∙ e)) ∙ get_or-take n xs (n - 1) 0 (omega (arith, ne)),
      ))
