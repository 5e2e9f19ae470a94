-- A state that is not BadShape, as plain facts: all that follows, and what is enough for it. Assumes nothing.
use Rattle.std.specs.Prelude.{ℕ, ◌+◌, ◌≤◌, ◌<◌, ◌≡◌, true, ◌⊎◌, eqb}
use Rattle.numbers.specs.Pick.{pick}
use Rattle.sizes.specs.Limits.{slot_limit}
use Rattle.state.specs.declared.State.{State}
use Rattle.state.specs.Table.{block_at, age_at, pool_at, sum, one}
use Rattle.state.specs.Shape.{is_zero, empties_of}
use Rattle.shape.specs.Parts.{pool_sum}
use Rattle.shape.specs.Facts.{Headed, Lent, ShapedBlockIn}

pub record Shaped (s : State) (usedWords stopWords : ℕ) : Type 0 where
  pub head : Headed s
  pub lent : Lent s usedWords stopWords
  pub sound : (i : ℕ) → i < s.count → ShapedBlockIn s (block_at s i)
  pub sized : (i : ℕ) → i < s.count → 0 < (block_at s i).size
  -- two blocks share no slot and no byte
  pub slots_apart : (i j : ℕ) → i < j → j < s.count → (block_at s i).slot ≡ (block_at s j).slot → ⊥
  pub bytes_apart : (i j : ℕ) → i < j → j < s.count
      → ((block_at s i).base + (block_at s i).size ≤ (block_at s j).base) ⊎ ((block_at s j).base + (block_at s j).size ≤ (block_at s i).base)
  -- the pools
  pub pools : (p : ℕ) → p < 3 → pool_at s p ≡ pool_sum s s.count p
  pub empties : (p : ℕ) → p < 3 → empties_of s p ≤ pick s.immediate 0 1
  pub live : s.live ≤ sum s.count (λ i. (block_at s i).used)
  -- the address order: places hold ages, each age has one place, and a block at a later place lies at higher addresses
  pub age_low : (k : ℕ) → k < s.count → age_at s k < s.count
  pub age_once : (i : ℕ) → i < s.count → sum s.count (λ k. one (eqb (age_at s k) i)) ≡ 1
  pub place_of : (i : ℕ) → i < s.count → (k : ℕ) × (k < s.count) × (age_at s k ≡ i)
  pub behind : (k l : ℕ) → k < l → l < s.count
      → (block_at s (age_at s k)).base + (block_at s (age_at s k)).size ≤ (block_at s (age_at s l)).base
  pub rising : (k l : ℕ) → k < l → l < s.count → (block_at s (age_at s k)).base < (block_at s (age_at s l)).base
  -- the zeros after the last block
  pub zeros : (i : ℕ) → s.count ≤ i → i < slot_limit → is_zero (block_at s i) ≡ true
  pub zero_ages : (i : ℕ) → s.count ≤ i → i < slot_limit → age_at s i ≡ 0

-- enough for it: of the address order only that places hold ages, and that neighbours lie in order
pub record Enough (s : State) (usedWords stopWords : ℕ) : Type 0 where
  pub head : Headed s
  pub lent : Lent s usedWords stopWords
  pub sound : (i : ℕ) → i < s.count → ShapedBlockIn s (block_at s i)
  pub slots_apart : (i j : ℕ) → i < j → j < s.count → (block_at s i).slot ≡ (block_at s j).slot → ⊥
  pub pools : (p : ℕ) → p < 3 → pool_at s p ≡ pool_sum s s.count p
  pub empties : (p : ℕ) → p < 3 → empties_of s p ≤ pick s.immediate 0 1
  pub live : s.live ≤ sum s.count (λ i. (block_at s i).used)
  pub age_low : (k : ℕ) → k < s.count → age_at s k < s.count
  pub next : (j k : ℕ) → k ≡ j + 1 → k < s.count
      → (block_at s (age_at s j)).base + (block_at s (age_at s j)).size ≤ (block_at s (age_at s k)).base
  pub zeros : (i : ℕ) → s.count ≤ i → i < slot_limit → is_zero (block_at s i) ≡ true
  pub zero_ages : (i : ℕ) → s.count ≤ i → i < slot_limit → age_at s i ≡ 0
