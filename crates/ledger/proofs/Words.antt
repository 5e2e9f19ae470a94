-- Every call leaves 32-bit words in both maps. Assumes nothing.
use Prim.Native.Nat.{ℕ, zero, suc, ◌+◌, ◌-◌, ◌*◌, ◌^◌, ◌<◌}
use mathlib.Core.List.{List, [], ◌∷◌, ◌++◌}
use mathlib.Core.Bool.{true, false}
use mathlib.Core.Path.{sym, subst}
use native.Mathlib.Omega.{arith}
use lib.Dec.{lit<}
use lib.ListN.{length, take, drop, replicate, length-take, get_or-eq_default}
use lib.Seq.{get_or-take, get_or-drop}
use Rattle.numbers.proofs.Split.{by_le}
use Rattle.bits.specs.Bits.{Words, filled}
use Rattle.bits.proofs.Filled.{words_filled, words_zeros}
use Rattle.slots.specs.Slots.{slot_of, put_slot, fill_slot}
use Rattle.slots.proofs.Laws.{words_slot}
use Rattle.numbers.specs.Units.{units_of}
use Rattle.block.specs.Marking.{mark_released, fresh}
use Rattle.state.specs.declared.State.{State}
use Rattle.state.specs.Table.{block_at, pool_at}
use Rattle.state.specs.Change.{inserted}
use Rattle.machine.specs.Turn.{Turn, with_live, clear_slot}
use Rattle.state.specs.declared.Asked.{Asked}
use Rattle.machine.specs.Create.{slots_of, granted}
use Rattle.machine.specs.Alloc.{pool_for, units_for, search_for, new_size, alloc_marked, alloc_made}
use Rattle.machine.specs.Release.{less_used, release_units, release_turn}
use Rattle.machine.specs.Reset.{clear_blocks}
use Rattle.machine.specs.Machine.{Call, create, alloc, release, shrink, query, soft_reset, hard_reset, step}
use Rattle.machine.proofs.Cases.{settle_cases, create_cases, query_cases, release_cases, shrink_cases, reset_cases, alloc_cases}

-- ---- lists of words
words-append : (xs ys : List ℕ) → Words xs → Words ys → Words (xs ++ ys)
words-append [] ys p q i = q i
words-append (x ∷ xs) ys p q zero = p zero
words-append (x ∷ xs) ys p q (suc i) = words-append xs ys (λ j. p (suc j)) q i

words-take : (n : ℕ) (ws : List ℕ) → Words ws → Words (take n ws)
words-take n ws p i =
    by_le n i
    (λ h. subst (λ (x : ℕ). x < 2 ^ 32) (sym (get_or-eq_default (take n ws) 0 {n = i} (omega (arith, length-take n ws)))) (lit< tt))
    (λ h. subst (λ (x : ℕ). x < 2 ^ 32) (sym (get_or-take n ws i 0 h)) (p i))

words-drop : (n : ℕ) (ws : List ℕ) → Words ws → Words (drop n ws)
words-drop n ws p i = subst (λ (x : ℕ). x < 2 ^ 32) (sym (get_or-drop n ws i 0)) (p (n + i))

words_put : (w k : ℕ) (ws x : List ℕ) → Words ws → Words x → Words (put_slot w k ws x)
words_put w k ws x p q =
    words-append (take (k * w) ws) (x ++ drop w (drop (k * w) ws)) (words-take (k * w) ws p)
    (words-append x (drop w (drop (k * w) ws)) q (words-drop w (drop (k * w) ws) (words-drop (k * w) ws p)))

fill_words : (w k : ℕ) (ws : List ℕ) (i n v : ℕ) → v < 2 → Words ws → Words (fill_slot w k ws i n v)
fill_words w k ws i n v h p = words_put w k ws (filled (slot_of w k ws) i n v) p (words_filled (slot_of w k ws) i n v (words_slot w k ws p) h)

clear_words : (w k : ℕ) (ws : List ℕ) → Words ws → Words (clear_slot w k ws)
clear_words w k ws p = words_put w k ws (replicate w 0) p (words_zeros w)

blocks_words : (s : State) (n : ℕ) (ws : List ℕ) → Words ws → Words (clear_blocks s n ws)
unfolding clear_blocks
blocks_words s zero ws p = p
blocks_words s (suc n) ws p = clear_words s.w (block_at s n).slot (clear_blocks s n ws) (blocks_words s n ws p)

-- ---- the calls
abbrev pub Wordy : Turn → Type 0
Wordy x = Words x.used × Words x.stop

pub created_words : (a : Asked) (u t : List ℕ) → Words u → Words t → Wordy (granted a (slots_of a.w (length u) (length t)) u t)
created_words a u t p q =
    let n = slots_of a.w (length u) (length t) * a.w in
    (words-append (replicate n 0) (drop n u) (words_zeros n) (words-drop n u p), words-append (replicate n 0) (drop n t) (words_zeros n) (words-drop n t q))

mark_words : (s : State) (u t : List ℕ) → Words u → Words t → (j i n : ℕ) → Wordy (alloc_marked s u t j i n)
mark_words s u t p q j i n =
    (fill_words s.w (block_at s j).slot u i (i + n - i) 1 (lit< tt) p, fill_words s.w (block_at s j).slot t (i + n - 1) 1 1 (lit< tt) q)

make_words : (s : State) (u t : List ℕ) → Words u → Words t → (p n size at slot : ℕ) → Wordy (alloc_made s u t p n size at slot)
make_words s u t a b p n size at slot =
    mark_words (inserted s (fresh at size p slot (units_of size (pool_at s p).granularity) n)) (clear_slot s.w slot u) (clear_slot s.w slot t)
    (clear_words s.w slot u a) (clear_words s.w slot t b) s.count 0 n

module _ (s : State) (u t : List ℕ) (p : Words u) (q : Words t) where
  free_words : (a j i e : ℕ) → Wordy (release_units s u t a j i e)
  free_words a j i e =
      let b = block_at s j in
      let m = mark_released s.w b i e u t in
      let r = with_live (less_used s j m.block (e - i)) (s.live - 1) in
      let v = fill_words s.w b.slot u i (e - i) 0 (lit< tt) p in
      let y = fill_words s.w b.slot t (e - 1) 1 0 (lit< tt) q in
      settle_cases Wordy r m.used m.stop _ j (λ n. (v, y))
      (λ n g. (clear_words s.w (block_at r j).slot m.used v, clear_words s.w (block_at r j).slot m.stop y)) (λ n g h. (v, y))

  release_words : (a : ℕ) → Wordy (release_turn s u t a)
  release_words a = release_cases Wordy s u t a (λ why cond. (p, q)) (λ j i e k. free_words a j i e)

  pub step_words : (c : Call) → Wordy (step s u t c)
  step_words (create a) = create_cases Wordy s u t a (λ e. (p, q)) (λ e. created_words a u t p q)
  step_words (alloc size) =
      alloc_cases Wordy s u t size (λ why early cond. (p, q)) (λ bytes k miss short. (p, q)) (λ bytes j i k e. mark_words (search_for s u bytes).state u t p q j i (units_for s bytes))
      (λ bytes at slot k miss m. make_words (search_for s u bytes).state u t p q (pool_for s bytes) (units_for s bytes) (new_size (search_for s u bytes).state (pool_for s bytes) bytes) at slot)
  step_words (release a) = release_words a
  step_words (shrink a size) =
      shrink_cases Wordy s u t a size (λ why cond. (p, q)) (λ none. release_words a) (λ j i e n k same. (p, q))
      (λ j i e n k. (
        fill_words s.w (block_at s j).slot u (i + n) (e - (i + n)) 0 (lit< tt) p,
        fill_words s.w (block_at s j).slot (fill_slot s.w (block_at s j).slot t (e - 1) 1 0) (i + n - 1) 1 1 (lit< tt) (fill_words s.w (block_at s j).slot t (e - 1) 1 0 (lit< tt) q),
      ))
  step_words (query a) = query_cases Wordy s u t a (λ why cond. (p, q)) (λ j i e k. (p, q))
  step_words soft_reset = reset_cases Wordy s u t false (λ bad. (p, q)) (λ e. (blocks_words s s.count u p, blocks_words s s.count t q)) (λ e i. (blocks_words s s.count u p, blocks_words s s.count t q))
  step_words hard_reset = reset_cases Wordy s u t true (λ bad. (p, q)) (λ e. (blocks_words s s.count u p, blocks_words s s.count t q)) (λ e i. (blocks_words s s.count u p, blocks_words s s.count t q))
