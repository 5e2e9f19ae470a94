-- The numbers in the record as plain facts, from the tests on them. Assumes nothing.
use Prim.Native.Nat.{ℕ, ◌+◌, ◌*◌, ◌%◌, ◌^◌, ◌≤◌, ◌<◌}
use mathlib.Core.Path.{◌≡◌}
use mathlib.Core.Bool.{Bool, true, not, ◌&&◌, ◌||◌}
use mathlib.Core.List.{List, [], ◌∷◌}
use mathlib.Core.Logic.{◌⊎◌, inl, inr, ⊎_elim}
use native.Mathlib.Omega.{arith}
use lib.Dec.{leb, eqb}
use borrow.Author.Tests.{leb-true, eqb-true, eqb-false, not-true, le-leb}
use Rattle.numbers.proofs.Bools.{and_left, and_right, and_both, or_cases}
use Rattle.sizes.specs.Limits.{is_granularity, is_power_of_two, is_base_size}
use Rattle.state.specs.declared.State.{State}
use Rattle.state.specs.Shape.{arena_ok, numbers_ok, slots_ok, slices_ok, count_ok}
use Rattle.state.proofs.Tests.{every_at}
use Rattle.shape.specs.Parts.{head_ok}
use Rattle.shape.specs.Facts.{Headed, Lent}

-- the lists as they stand in the definition
abbrev arena_tests : ℕ → ℕ → List Bool
arena_tests base length =
    not (eqb base 0) ∷ not (eqb length 0) ∷ eqb (base % 65536) 0 ∷ eqb (length % 65536) 0 ∷ leb (base + length) (2 ^ 48) ∷ []

abbrev number_tests : State → List Bool
number_tests s =
    is_base_size s.size ∷ is_granularity s.granularity ∷ (eqb s.poolcount 1 || eqb s.poolcount 3) ∷ leb 1 s.w ∷ leb s.w 16384 ∷ arena_ok s.arena s.length ∷ []

abbrev pub head_tests : State → ℕ → ℕ → List Bool
head_tests s u t = numbers_ok s ∷ slots_ok s ∷ slices_ok s u t ∷ count_ok s ∷ []

pub not-zero : (n : ℕ) → not (eqb n 0) ≡ true → 0 < n
not-zero n e = omega (arith, eqb-false n 0 (not-true (eqb n 0) e))

pub words_high : (s : State) → numbers_ok s ≡ true → s.w ≤ 16384
words_high s e = leb-true s.w 16384 (every_at (number_tests s) 4 e)

pub one-or_three : (n : ℕ) → eqb n 1 || eqb n 3 ≡ true → (n ≡ 1) ⊎ (n ≡ 3)
one-or_three n e = ⊎_elim (λ p. inl (eqb-true n 1 p)) (λ p. inr (eqb-true n 3 p)) (or_cases (eqb n 1) (eqb n 3) e)

size_bounds : (n : ℕ) → is_base_size n ≡ true → (65536 ≤ n) × (n ≤ 33554432)
unfolding is_base_size
size_bounds n e = (
  leb-true 65536 n (and_right (is_power_of_two n) (leb 65536 n) (and_left (is_power_of_two n && leb 65536 n) (leb n 33554432) e)),
  leb-true n 33554432 (and_right (is_power_of_two n && leb 65536 n) (leb n 33554432) e),
)

listed : (n : ℕ) → is_granularity n ≡ true → (n ≡ 64) ⊎ ((n ≡ 128) ⊎ (n ≡ 256))
unfolding is_granularity
listed n e =
    ⊎_elim
    (λ p. ⊎_elim (λ q. inl (eqb-true n 64 q)) (λ q. inr (inl (eqb-true n 128 q))) (or_cases (eqb n 64) (eqb n 128) p))
    (λ p. inr (inr (eqb-true n 256 p)))
    (or_cases (eqb n 64 || eqb n 128) (eqb n 256) e)

pub headed : (s : State) (u t : ℕ) → head_ok s u t ≡ true → Headed s
unfolding head_ok
headed s u t e =
    let n = every_at (head_tests s u t) 0 e in
    let slots = every_at (head_tests s u t) 1 e in
    let a = every_at (number_tests s) 5 n in
    let size = size_bounds s.size (every_at (number_tests s) 0 n) in
    let g = listed s.granularity (every_at (number_tests s) 1 n) in
    let pools = one-or_three s.poolcount (every_at (number_tests s) 2 n) in
    record {
      size_good = every_at (number_tests s) 0 n;
      size_low = size.0;
      size_high = size.1;
      g_listed = g;
      g_low = ⊎_elim (λ p. omega arith) (λ r. ⊎_elim (λ p. omega arith) (λ p. omega arith) r) (g);
      g_high = ⊎_elim (λ p. omega arith) (λ r. ⊎_elim (λ p. omega arith) (λ p. omega arith) r) (g);
      pools_listed = pools;
      pools_low = ⊎_elim (λ p. omega arith) (λ p. omega arith) pools;
      pools_high = ⊎_elim (λ p. omega arith) (λ p. omega arith) pools;
      w_low = leb-true 1 s.w (every_at (number_tests s) 3 n);
      w_high = words_high s n;
      arena_low = not-zero s.arena (every_at (arena_tests s.arena s.length) 0 a);
      arena_whole = eqb-true (s.arena % 65536) 0 (every_at (arena_tests s.arena s.length) 2 a);
      length_low = not-zero s.length (every_at (arena_tests s.arena s.length) 1 a);
      length_whole = eqb-true (s.length % 65536) 0 (every_at (arena_tests s.arena s.length) 3 a);
      top = leb-true (s.arena + s.length) (2 ^ 48) (every_at (arena_tests s.arena s.length) 4 a);
      slots_low = leb-true 1 s.slots (and_left (leb 1 s.slots) (leb s.slots 64) slots);
      slots_high = leb-true s.slots 64 (and_right (leb 1 s.slots) (leb s.slots 64) slots);
      count_slots = leb-true s.count s.slots (every_at (head_tests s u t) 3 e);
    }

pub lent : (s : State) (u t : ℕ) → head_ok s u t ≡ true → Lent s u t
unfolding head_ok
lent s u t e =
    let both = every_at (head_tests s u t) 2 e in
    record {
      used_room = leb-true (s.slots * s.w) u (and_left (leb (s.slots * s.w) u) (leb (s.slots * s.w) t) both);
      stop_room = leb-true (s.slots * s.w) t (and_right (leb (s.slots * s.w) u) (leb (s.slots * s.w) t) both);
    }

pub head_of : (s : State) (u t : ℕ) → numbers_ok s ≡ true → 1 ≤ s.slots → s.slots ≤ 64 → s.slots * s.w ≤ u → s.slots * s.w ≤ t → s.count ≤ s.slots
    → head_ok s u t ≡ true
unfolding head_ok
head_of s u t n low high used stop count =
    and_both (numbers_ok s) _ n
    (simp (le-leb 1 s.slots low, le-leb s.slots 64 high, le-leb (s.slots * s.w) u used, le-leb (s.slots * s.w) t stop, le-leb s.count s.slots count))
