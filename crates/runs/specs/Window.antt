-- Free units in a window of a used map, from start up to end. Assumes nothing.
use Rattle.std.specs.Prelude.{ℕ, ◌+◌, ◌-◌, ◌≤◌, ◌<◌, List, ◌⊎◌, ◌≡◌}
use Rattle.bits.specs.Bits.{bit}
use Rattle.runs.specs.declared.Search.{Search}
use Rattle.runs.specs.declared.Search.TheVariants.{At, Tight, Full}

-- the n units from `from` on are free
abbrev pub FreeAt : List ℕ → ℕ → ℕ → Type 0
FreeAt ws n from = (k : ℕ) → from ≤ k → k < from + n → bit ws k ≡ 0

-- every unit from `from` up to `to` is used
abbrev pub UsedIn : List ℕ → ℕ → ℕ → Type 0
UsedIn ws from to = (k : ℕ) → from ≤ k → k < to → bit ws k ≡ 1

-- no n free units, within a window that ends at end, start from `from` on and before `to`
abbrev pub NoFit : List ℕ → ℕ → ℕ → ℕ → ℕ → Type 0
NoFit ws end n from to = (i : ℕ) → from ≤ i → i < to → i + n ≤ end → FreeAt ws n i → ⊥

-- i is the lowest place of n free units in the window
pub record Lowest (ws : List ℕ) (start end n i : ℕ) : Type 0 where
  pub low : start ≤ i
  pub high : i + n ≤ end
  pub free : FreeAt ws n i
  pub least : NoFit ws end n start i

-- the window has a free unit: first is its first, last the end of its last free run, and longest the length of its longest
pub record Tightened (ws : List ℕ) (start end first last longest : ℕ) : Type 0 where
  pub low : start ≤ first
  pub some : first < last
  pub high : last ≤ end
  pub before : UsedIn ws start first
  pub opens : bit ws first ≡ 0
  pub closes : bit ws (last - 1) ≡ 0
  pub after : UsedIn ws last end
  pub place : (i : ℕ) × (start ≤ i) × (i + longest ≤ end) × FreeAt ws longest i
  pub none_longer : NoFit ws end (longest + 1) start end

-- what a search for n units answers
abbrev pub Sought : List ℕ → ℕ → ℕ → ℕ → Search → Type 0
Sought ws start end n (At i) = Lowest ws start end n i
Sought ws start end n (Tight first last longest) = Tightened ws start end first last longest × (longest < n)
Sought ws start end n Full = UsedIn ws start end

-- the units from `from` up to `to` are a maximal free run of the window, clipped at both of its ends
pub record FreeRun (ws : List ℕ) (start end from to : ℕ) : Type 0 where
  pub low : start ≤ from
  pub some : from < to
  pub high : to ≤ end
  pub free : (k : ℕ) → from ≤ k → k < to → bit ws k ≡ 0
  pub opens : (from ≡ start) ⊎ (bit ws (from - 1) ≡ 1)
  pub closes : (to ≡ end) ⊎ (bit ws to ≡ 1)
