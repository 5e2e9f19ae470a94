-- What a chain over the first elements of a list finds, as the definitions say it: the first place that passes, and the last element that
-- does. Assumes nothing.
use Prim.Native.Nat.{ℕ, zero, suc, ◌≤◌, ◌<◌}
use mathlib.Core.Bool.{Bool, true, false, cond}
use mathlib.Core.List.{List, [], ◌∷◌, reverse}
use mathlib.Core.Path.{◌≡◌, refl, sym, ap, ◌∙◌}
use native.Mathlib.Omega.{arith}
use borrow.Author.Tests.{lt-ltb, le-ltb}
use lib.Dec.{ltb, eqb}
use lib.ListN.{length, get_or, take}
use denote.Ref.{Bor}
use native.Mathlib.Numerals.{add-one}
use Rattle.numbers.specs.Pick.{pick}
use Rattle.std.proofs.Common.{Option, Some, None, length-take, get_or-take}
use Rattle.std.proofs.lemmas.List.{take_more, reverse-append}
use Rattle.std.specs.List.{position_or_len, find}
use Rattle.std.specs.Option.{unwrap_or, option_map}
use Rattle.std.proofs.lemmas.List.Sums.{position_or_len_is}
use Rattle.block.specs.declared.Block.{Block}
use Rattle.state.specs.declared.State.{State}
use Rattle.state.specs.Table.{zero_block, block_at}
use Rattle.state.specs.Find.{least, latest, size_or}
use Rattle.state.proofs.Find.{Least, least_of}

module _ {A : Type 0} (p : A → Bool) (xs : List A) (n : ℕ) (d : A) (fits : n ≤ length xs) where
  long : length (take n xs) ≡ n
  long = omega (arith, length-take n xs)

  -- what an iterator's `position` over the first n answers, or n
  abbrev pub place_or : ℕ
  place_or = unwrap_or (cond (ltb (position_or_len p (take n xs)) (length (take n xs))) (Some (position_or_len p (take n xs))) None) n

  pub first_place : place_or ≡ unwrap_or (least n (λ k. p (get_or xs k d))) n
  first_place = go (least n (λ k. p (get_or xs k d))) (least_of n (λ k. p (get_or xs k d)))
    where
      test : ℕ → Bool
      test k = p (get_or xs k d)

      read : (k : ℕ) → k < n → p (get_or (take n xs) k d) ≡ p (get_or xs k d)
      read k l = ap p (get_or-take n xs k d l)

      go : (r : Option ℕ) → Least 0 n (λ k. p (get_or xs k d)) r → place_or ≡ unwrap_or r n
      go (Some i) q =
          let e : position_or_len p (take n xs) ≡ i =
          position_or_len_is p (take n xs) i d (omega (arith, q.high, long))
          (λ k l. read k (omega (arith, q.high)) ∙ q.before k (omega arith) l) (λ l. read i q.high ∙ q.passes) in
          rw (e, lt-ltb i (length (take n xs)) (omega (arith, q.high, long)))
      go None q =
          let e : position_or_len p (take n xs) ≡ n =
          position_or_len_is p (take n xs) n d (omega (arith, long))
          (λ k l. read k l ∙ q k (omega arith) l) (λ l. absurd (omega (arith, long))) in
          rw (e, le-ltb n (length (take n xs)) (omega (arith, long)))

-- ---- the size of the last of the first n blocks that is in pool p, or the record's size
module _ (s : State) (p : ℕ) where
  abbrev pub in_pool : Block → Bool
  in_pool b = eqb b.pool p

  abbrev pub size_found : Option Block → ℕ
  size_found r = unwrap_or (option_map (λ (b : Block). b.size) r) s.size

  one_more : (n : ℕ) → n < length s.blocks
      → find in_pool (reverse (take (suc n) s.blocks)) ≡ cond (in_pool (block_at s n)) (Some (block_at s n)) (find in_pool (reverse (take n s.blocks)))
  one_more n h =
      ap (λ (bs : List Block). find in_pool (reverse bs)) (ap (λ (m : ℕ). take m s.blocks) (sym (add-one n)) ∙ take_more s.blocks n zero_block h)
      ∙ ap (find in_pool) (reverse-append (take n s.blocks) (block_at s n ∷ []))

  pub newest_is : (n : ℕ) → n ≤ length s.blocks → size_found (find in_pool (reverse (take n s.blocks))) ≡ size_or s (latest n (λ i. in_pool (block_at s i)))
  unfolding latest
  newest_is zero h = refl
  newest_is (suc n) h = ap size_found (one_more n (omega arith)) ∙ go (in_pool (block_at s n)) (newest_is n (omega arith))
    where
      rest : Option Block
      rest = find in_pool (reverse (take n s.blocks))

      go : (b : Bool) → size_found rest ≡ size_or s (latest n (λ i. in_pool (block_at s i)))
          → size_found (cond b (Some (block_at s n)) rest) ≡ size_or s (pick b (Some n) (latest n (λ i. in_pool (block_at s i))))
      go true e = refl
      go false e = e

  -- read behind references
  pub size_behind : (r : Option (Bor Block)) → unwrap_or (option_map (λ (b : Bor Block). b.now.size) r) s.size ≡ size_found (option_map (λ (b : Bor Block). b.now) r)
  size_behind None = refl
  size_behind (Some b) = refl
