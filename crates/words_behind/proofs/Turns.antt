-- Each turn on maps with more words behind them: the same turn, with those words behind. Assumes nothing.
use Rattle.std.specs.Prelude.{Err}
use Prim.Native.Nat.{ℕ, zero, suc, ◌+◌, ◌-◌, ◌*◌, ◌/◌, ◌%◌, ◌≤◌, ◌<◌}
use mathlib.Core.Bool.{Bool, true, false, not, ◌||◌}
use mathlib.Core.List.{List, ◌++◌}
use mathlib.Core.Path.{◌≡◌, refl, sym, ap, ap₂, subst, ◌∙◌}
use native.Mathlib.Omega.{arith}
use lib.Dec.{eqb}
use lib.ListN.{length, length-append}
use lib.Seq.{get_or-set_other}
use borrow.Author.Tests.{le-leb}
use Rattle.numbers.specs.Pick.{pick}
use Rattle.numbers.specs.Units.{units_of}
use Rattle.slots.specs.Slots.{fill_slot}
use Rattle.block.specs.declared.Block.{Block}
use Rattle.std.specs.Prelude.{Result, Ok, Err}
use Rattle.block.specs.Marking.{fresh}
use Rattle.block.specs.Search.{look_into}
use Rattle.state.specs.declared.State.{State}
use Rattle.state.specs.declared.NotHeld.TheVariants.{NoSpan}
use Rattle.state.specs.Held.{Held}
use Rattle.state.specs.declared.Answer.{Answer}
use Rattle.state.specs.declared.Refusal.TheVariants.{BadShape}
use Rattle.state.specs.Table.{zero_block, block_at, pool_at}
use Rattle.state.specs.Shape.{in_pool, clauses, good_shape, bad_shape}
use Rattle.state.specs.Change.{inserted, removed}
use Rattle.machine.specs.Turn.{Turn, turn, refuse, put_block, unit_of, clear_slot}
use Rattle.machine.specs.Alloc.{after, search_from, alloc_marked, alloc_made}
use Rattle.machine.specs.Span.{held_at, held_in}
use Rattle.machine.specs.Release.{settle}
use Rattle.machine.specs.Shrink.{shrink_tail}
use Rattle.machine.specs.Reset.{clear_blocks}
use Rattle.shape_facts.proofs.Made.{length_cleared}
use Rattle.shape_facts.proofs.Clear.{length_clear}
use Rattle.shape_kept.specs.Sized.{Sized}
use Rattle.shape_kept.proofs.After.{inserted_new}
use Rattle.shape_kept.proofs.Words.{length_fill_slot}
use Rattle.words_behind.specs.Behind.{behind}
use Rattle.words_behind.proofs.Lists.{slot_behind, fill_behind, clear_behind}

-- a test between two turns
pub pick_behind : (v v' : List ℕ) (c : Bool) (x y x' y' : Turn) → x ≡ behind x' v v' → y ≡ behind y' v v' → pick c x y ≡ behind (pick c x' y') v v'
pick_behind v v' true x y x' y' p q = p
pick_behind v v' false x y x' y' p q = q

module _ (u t v v' : List ℕ) where
  -- a slot lies in both maps
  abbrev pub Room : ℕ → ℕ → Type 0
  Room w slot = ((slot + 1) * w ≤ length u) × ((slot + 1) * w ≤ length t)

  -- ---- the shape reads lengths alone
  pub good_behind : (s : State) → s.slots * s.w ≤ length u → s.slots * s.w ≤ length t
      → good_shape s (length (u ++ v)) (length (t ++ v')) ≡ good_shape s (length u) (length t)
  unfolding clauses
  good_behind s p q =
      rw (
        le-leb (s.slots * s.w) (length (u ++ v)) (omega (arith, p, length-append u v)),
        le-leb (s.slots * s.w) (length (t ++ v')) (omega (arith, q, length-append t v')),
        le-leb (s.slots * s.w) (length u) p,
        le-leb (s.slots * s.w) (length t) q,
      )

  pub bad_behind : (s : State) → s.slots * s.w ≤ length u → s.slots * s.w ≤ length t → (x y : Turn)
      → (good_shape s (length u) (length t) ≡ true → x ≡ behind y v v')
      → pick (bad_shape s (length (u ++ v)) (length (t ++ v'))) (refuse BadShape s (u ++ v) (t ++ v')) x
      ≡ behind (pick (bad_shape s (length u) (length t)) (refuse BadShape s u t) y) v v'
  bad_behind s p q x y f =
      ap (λ (g : Bool). pick (not g) (refuse BadShape s (u ++ v) (t ++ v')) x) (good_behind s p q) ∙ go (good_shape s (length u) (length t)) refl
    where
      go : (g : Bool) → good_shape s (length u) (length t) ≡ g
          → pick (not g) (refuse BadShape s (u ++ v) (t ++ v')) x ≡ behind (pick (not g) (refuse BadShape s u t) y) v v'
      go true e = f e
      go false e = refl

  -- ---- what stands at an address
  pub held_behind : (s : State) (a j : ℕ) → Room s.w (block_at s j).slot → held_in s (u ++ v) (t ++ v') a j ≡ held_in s u t a j
  held_behind s a j r =
      ap₂ (λ (x y : List ℕ). held x y) (slot_behind s.w (block_at s j).slot u v r.0) (slot_behind s.w (block_at s j).slot t v' r.1)
    where
      held : List ℕ → List ℕ → Held
      held x y = pick (eqb ((a - (block_at s j).base) % unit_of s (block_at s j)) 0) (held_at x y (block_at s j).area ((a - (block_at s j).base) / unit_of s (block_at s j))) (Err NoSpan)

  -- ---- marking
  pub mark_behind : (s : State) (j i n : ℕ) → Room s.w (block_at s j).slot → alloc_marked s (u ++ v) (t ++ v') j i n ≡ behind (alloc_marked s u t j i n) v v'
  mark_behind s j i n r =
      ap₂ (λ (x y : List ℕ). turn (alloc_marked s u t j i n).answer (alloc_marked s u t j i n).state x y)
      (fill_behind s.w (block_at s j).slot u v r.0 i (i + n - i) 1) (fill_behind s.w (block_at s j).slot t v' r.1 (i + n - 1) 1 1)

  pub cut_behind : (s : State) (a j i e n : ℕ) → Room s.w (block_at s j).slot → shrink_tail s (u ++ v) (t ++ v') a j i e n ≡ behind (shrink_tail s u t a j i e n) v v'
  cut_behind s a j i e n r =
      let w = s.w in
      let slot = (block_at s j).slot in
      let old = length_fill_slot w slot t (e - 1) 1 0 r.1 in
      ap₂ (λ (x y : List ℕ). turn (shrink_tail s u t a j i e n).answer (shrink_tail s u t a j i e n).state x y)
      (fill_behind w slot u v r.0 (i + n) (e - (i + n)) 0)
      (ap (λ (x : List ℕ). fill_slot w slot x (i + n - 1) 1 1) (fill_behind w slot t v' r.1 (e - 1) 1 0)
      ∙ fill_behind w slot (fill_slot w slot t (e - 1) 1 0) v' (omega (arith, old, r.1)) (i + n - 1) 1 1)

  -- ---- a block that has no used unit
  pub settle_behind : (answer : Answer) (s : State) (j : ℕ) → Room s.w (block_at s j).slot → settle answer s (u ++ v) (t ++ v') j ≡ behind (settle answer s u t j) v v'
  settle_behind answer s j r =
      pick_behind v v' (not (eqb (block_at s j).used 0)) _ _ (turn answer s u t) _ refl
      (pick_behind v v' (not (eqb (pool_at s (block_at s j).pool).empty 0) || s.immediate) _ _ _ _
      (ap₂ (λ (x y : List ℕ). turn answer (removed s j) x y) (clear_behind s.w (block_at s j).slot u v r.0) (clear_behind s.w (block_at s j).slot t v' r.1)) refl)

-- ---- the search reads no other word
look_behind : (w : ℕ) (b : Block) (u v : List ℕ) (n : ℕ) → (b.slot + 1) * w ≤ length u → look_into w b (u ++ v) n ≡ look_into w b u n
unfolding look_into
look_behind w b u v n h = rw (slot_behind w b.slot u v h)

pub search_behind : (u v : List ℕ) (p n i k : ℕ) (s : State) → ((j : ℕ) → i ≤ j → j < i + k → ((block_at s j).slot + 1) * s.w ≤ length u)
    → search_from (u ++ v) p n i k s ≡ search_from u p n i k s
unfolding search_from
search_behind u v p n i zero s room = refl
search_behind u v p n i (suc k) s room =
    go (λ r. search_behind u v p n (suc i) k r) (in_pool s p i)
  where
    missed : ((r : State) → ((j : ℕ) → suc i ≤ j → j < suc i + k → ((block_at r j).slot + 1) * r.w ≤ length u) → search_from (u ++ v) p n (suc i) k r ≡ search_from u p n (suc i) k r)
        → (l : Result ℕ Block) → after s i (search_from (u ++ v) p n (suc i) k) l ≡ after s i (search_from u p n (suc i) k) l
    missed ih (Ok unit) = refl
    missed ih (Err b) =
        ih (put_block s i b)
        (λ j p q.
        subst (λ (c : Block). (c.slot + 1) * s.w ≤ length u) (sym (get_or-set_other s.blocks i j b zero_block (λ z. omega (arith, p, z))))
        (room j (omega (arith, p)) (omega (arith, q))))

    go : ((r : State) → ((j : ℕ) → suc i ≤ j → j < suc i + k → ((block_at r j).slot + 1) * r.w ≤ length u) → search_from (u ++ v) p n (suc i) k r ≡ search_from u p n (suc i) k r)
        → (c : Bool)
        → pick c (after s i (search_from (u ++ v) p n (suc i) k) (look_into s.w (block_at s i) (u ++ v) n)) (search_from (u ++ v) p n (suc i) k s)
        ≡ pick c (after s i (search_from u p n (suc i) k) (look_into s.w (block_at s i) u n)) (search_from u p n (suc i) k s)
    go ih true =
        ap (after s i (search_from (u ++ v) p n (suc i) k)) (look_behind s.w (block_at s i) u v n (room i (omega arith) (omega arith)))
        ∙ missed ih (look_into s.w (block_at s i) u n)
    go ih false = ih s (λ j p q. room j (omega (arith, p)) (omega (arith, q)))

-- ---- a new block
pub make_behind : (u t v v' : List ℕ) (s : State) (p n size at slot : ℕ) → Sized s → s.count < 64 → Room u t v v' s.w slot
    → alloc_made s (u ++ v) (t ++ v') p n size at slot ≡ behind (alloc_made s u t p n size at slot) v v'
make_behind u t v v' s p n size at slot z h r =
    let b = fresh at size p slot (units_of size (pool_at s p).granularity) n in
    let w = s.w in
    let e : (block_at (inserted s b) s.count).slot ≡ slot = ap (λ (c : Block). c.slot) (inserted_new s z b h) in
    let room : Room (clear_slot w slot u) (clear_slot w slot t) v v' w slot = (omega (arith, length_cleared w slot u r.0, r.0), omega (arith, length_cleared w slot t r.1, r.1)) in
    ap₂ (λ (x y : List ℕ). alloc_marked (inserted s b) x y s.count 0 n) (clear_behind w slot u v r.0) (clear_behind w slot t v' r.1)
    ∙ mark_behind (clear_slot w slot u) (clear_slot w slot t) v v' (inserted s b) s.count 0 n
    (subst (λ (k : ℕ). Room (clear_slot w slot u) (clear_slot w slot t) v v' w k) (sym e) room)

-- ---- all slots cleared
pub clear_blocks_behind : (s : State) (n : ℕ) (u v : List ℕ) → ((i : ℕ) → i < n → ((block_at s i).slot + 1) * s.w ≤ length u) → clear_blocks s n (u ++ v) ≡ clear_blocks s n u ++ v
unfolding clear_blocks
clear_blocks_behind s zero u v room = refl
clear_blocks_behind s (suc n) u v room =
    ap (clear_slot s.w (block_at s n).slot) (clear_blocks_behind s n u v (λ i h. room i (omega arith)))
    ∙ clear_behind s.w (block_at s n).slot (clear_blocks s n u) v
    (omega (arith, length_clear s n u (λ i h. room i (omega arith)), room n (omega arith)))
