-- The library's number of some bytes is the definition's. Assumes nothing.
use Rattle.std.proofs.Common.{ℕ, ◌+◌, ◌<◌, List, take, drop, get_or, ◌≡◌, sym, ap, ◌∙◌, arith}
use Rattle.std.specs.Int.{w16, w32, w64, from_le_bytes}
use Rattle.std.proofs.lemmas.List.{get_or-take, get_or-drop}
use Rattle.records.specs.Bytes.{u16_at, u32_at, u64_at}

module _ (bs xs : List ℕ) (n i : ℕ) (e : xs ≡ take n (drop i bs)) where
  byte : (k j : ℕ) → k < n → j ≡ i + k → get_or xs k 0 ≡ get_or bs j 0
  byte k j h p =
      ap (λ (l : List ℕ). get_or l k 0) e ∙ get_or-take n (drop i bs) k 0 h ∙ get_or-drop i bs k 0 ∙ ap (λ (m : ℕ). get_or bs m 0) (sym p)

pub u16_of : (bs xs : List ℕ) (i : ℕ) → xs ≡ take 2 (drop i bs) → from_le_bytes w16 xs ≡ u16_at bs i
u16_of bs xs i e =
    let b = byte bs xs 2 i e in
    simp (b 0 i (omega arith) (omega arith), b 1 (i + 1) (omega arith) (omega arith)) (omega arith)

pub u32_of : (bs xs : List ℕ) (i : ℕ) → xs ≡ take 4 (drop i bs) → from_le_bytes w32 xs ≡ u32_at bs i
u32_of bs xs i e =
    let b = byte bs xs 4 i e in
    simp (
      b 0 i (omega arith) (omega arith),
      b 1 (i + 1) (omega arith) (omega arith),
      b 2 (i + 2) (omega arith) (omega arith),
      b 3 (i + 2 + 1) (omega arith) (omega arith),
    ) (omega arith)

pub u64_of : (bs xs : List ℕ) (i : ℕ) → xs ≡ take 8 (drop i bs) → from_le_bytes w64 xs ≡ u64_at bs i
u64_of bs xs i e =
    let b = byte bs xs 8 i e in
    simp (
      b 0 i (omega arith) (omega arith),
      b 1 (i + 1) (omega arith) (omega arith),
      b 2 (i + 2) (omega arith) (omega arith),
      b 3 (i + 2 + 1) (omega arith) (omega arith),
      b 4 (i + 4) (omega arith) (omega arith),
      b 5 (i + 4 + 1) (omega arith) (omega arith),
      b 6 (i + 4 + 2) (omega arith) (omega arith),
      b 7 (i + 4 + 2 + 1) (omega arith) (omega arith),
    ) (omega arith)
