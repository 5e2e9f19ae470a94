-- What a search of a pool tells of the blocks as they stood before it. Assumes nothing.
use Prim.Native.Nat.{ℕ, zero, suc, ◌+◌, ◌≤◌, ◌<◌}
use mathlib.Core.Bool.{Bool, true, false}
use mathlib.Core.List.{List}
use mathlib.Core.Path.{◌≡◌, refl, sym, ap₂, subst, ◌∙◌}
use native.Mathlib.Nat.{zero-add}
use native.Mathlib.Omega.{arith}
use lib.Dec.{eqb}
use lib.Seq.{get_or-set_other}
use Rattle.numbers.specs.Pick.{pick}
use Rattle.numbers.proofs.Bools.{not_both}
use Rattle.numbers.proofs.Split.{by_eq}
use Rattle.block.specs.declared.Block.{Block}
use Rattle.std.specs.Prelude.{Result, Ok, Err, Option, Some, None}
use Rattle.block.specs.Search.{look_into}
use Rattle.state.specs.declared.State.{State}
use Rattle.state.specs.declared.Hit.{Hit}
use Rattle.state.specs.declared.Searched.{Searched}
use Rattle.state.specs.Table.{zero_block, block_at}
use Rattle.state.specs.Shape.{in_pool}
use Rattle.machine.specs.Turn.{put_block}
use Rattle.machine.specs.Alloc.{after, search_from, search_pool}

-- ---- which block is found
module _ (u : List ℕ) (p n : ℕ) where
  -- of the blocks from age i up to e
  abbrev pub Hits : State → ℕ → ℕ → Option Hit → Type 0
  Hits s i e (Some hit) = (i ≤ hit.age) × (hit.age < e) × (in_pool s p hit.age ≡ true) × (look_into s.w (block_at s hit.age) u n ≡ Ok hit.unit)
  Hits s i e None = (j unit : ℕ) → i ≤ j → j < e → in_pool s p j ≡ true → look_into s.w (block_at s j) u n ≡ Ok unit → ⊥

  -- what is known of the later blocks is known of all if block i is not found
  later : (s r : State) (i e : ℕ) → r.w ≡ s.w → ((j : ℕ) → i < j → block_at r j ≡ block_at s j)
      → ((unit : ℕ) → in_pool s p i ≡ true → look_into s.w (block_at s i) u n ≡ Ok unit → ⊥)
      → (h : Option Hit) → Hits r (suc i) e h → Hits s i e h
  later s r i e w same none (Some hit) q = (
    omega (arith, q.0),
    q.1,
    subst (λ (b : Block). eqb b.pool p ≡ true) (same hit.age q.0) q.2,
    ap₂ (λ (x : ℕ) (b : Block). look_into x b u n) (sym w) (sym (same hit.age q.0)) ∙ q.3,
  )
  later s r i e w same none None q = λ j unit l m x y.
      by_eq j i
      (λ z. none unit (subst (λ (k : ℕ). in_pool s p k ≡ true) z x) (subst (λ (k : ℕ). look_into s.w (block_at s k) u n ≡ Ok unit) z y))
      (λ ne.
      let h : i < j = omega (arith, ne) in
      q j unit h m (subst (λ (b : Block). eqb b.pool p ≡ true) (sym (same j h)) x)
      (ap₂ (λ (x : ℕ) (b : Block). look_into x b u n) w (same j h) ∙ y))

  differ : (b : Block) (unit : ℕ) → Err b ≡ Ok unit → ⊥
  differ b unit e = let z : ◌≡◌ {A = ℕ} 0 1 = cc in omega arith

  after_hits : (s : State) (i e : ℕ) (rest : State → Searched) → i < e → in_pool s p i ≡ true
      → ((r : State) → Hits r (suc i) e (rest r).hit) → (l : Result ℕ Block) → look_into s.w (block_at s i) u n ≡ l → Hits s i e (after s i rest l).hit
  after_hits s i e rest h x ih (Ok unit) q = (omega arith, h, x, q)
  after_hits s i e rest h x ih (Err b) q =
      later s (put_block s i b) i e refl (λ j l. get_or-set_other s.blocks i j b zero_block (λ z. omega arith))
      (λ unit y z. differ b unit (sym q ∙ z)) (rest (put_block s i b)).hit (ih (put_block s i b))

  from_hits : (i k : ℕ) (s : State) → Hits s i (i + k) (search_from u p n i k s).hit
  unfolding search_from
  from_hits i zero s = λ j unit l m x y. omega arith
  from_hits i (suc k) s = go (λ r. subst (λ (e : ℕ). Hits r (suc i) e (search_from u p n (suc i) k r).hit) (let z : suc i + k ≡ i + suc k = omega arith in z) (from_hits (suc i) k r)) (in_pool s p i) refl
    where
      go : ((r : State) → Hits r (suc i) (i + suc k) (search_from u p n (suc i) k r).hit) → (c : Bool) → in_pool s p i ≡ c
          → Hits s i (i + suc k) (pick c (after s i (search_from u p n (suc i) k) (look_into s.w (block_at s i) u n)) (search_from u p n (suc i) k s)).hit
      go ih true e = after_hits s i (i + suc k) (search_from u p n (suc i) k) (omega arith) e ih (look_into s.w (block_at s i) u n) refl
      go ih false e = later s s i (i + suc k) refl (λ j l. refl) (λ unit x y. not_both (in_pool s p i) x e) (search_from u p n (suc i) k s).hit (ih s)

  pub search_hits : (s : State) → Hits s 0 s.count (search_pool s u p n).hit
  search_hits s = subst (λ (e : ℕ). Hits s 0 e (search_pool s u p n).hit) (zero-add s.count) (from_hits 0 s.count s)
