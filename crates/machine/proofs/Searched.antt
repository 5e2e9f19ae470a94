-- What a search of a pool leaves: the record but for the blocks' windows, largest fields and dirty flags. So each block lies where it lay, and the lowest slot, the lowest place and the newest block's size are found as before. Assumes nothing.
use Rattle.std.specs.Prelude.{Option, Some, None}
use Prim.Native.Nat.{ℕ, zero, suc, ◌+◌, ◌/◌}
use mathlib.Core.Bool.{Bool, not, ◌&&◌}
use mathlib.Core.List.{List}
use mathlib.Core.Path.{◌≡◌, refl, sym, ap, ap₂, subst, ◌∙◌}
use native.Mathlib.Omega.{arith}
use lib.Dec.{leb, ltb, eqb}
use lib.ListN.{length}
use lib.Seq.{set_out, get_or-set_same, get_or-set_other}
use Rattle.numbers.specs.Pick.{pick}
use Rattle.numbers.proofs.Bools.{picked}
use Rattle.numbers.proofs.Split.{by_eq, by_le}
use Rattle.block.specs.declared.Block.{Block}
use Rattle.std.specs.Prelude.{Result, Ok, Err}
use Rattle.block.specs.Search.{look_into}
use Rattle.block.proofs.LiesAs.{LiesAs, lies_refl, lies_trans, missed_lies}
use Rattle.state.specs.declared.State.{State}
use Rattle.state.specs.declared.Searched.{Searched}
use Rattle.state.specs.Table.{zero_block, block_at, all}
use Rattle.state.specs.Shape.{in_pool}
use Rattle.state.specs.Find.{least_from, least, latest, slot_free, lowest_slot, clear, place_at, place_free, placed, lowest_place, newest, size_or, newest_size}
use Rattle.state.specs.Change.{with_table}
use Rattle.machine.specs.Turn.{put_block}
use Rattle.machine.specs.Alloc.{after, search_from, search_pool}

-- r is s with other blocks
abbrev pub OtherBlocks : State → State → Type 0
OtherBlocks s r = r ≡ with_table s s.count r.blocks s.order s.pools

-- and each lies where it lay
abbrev LeftBlocks : State → State → Type 0
LeftBlocks s r = OtherBlocks s r × ((i : ℕ) → LiesAs (block_at r i) (block_at s i))

put_lies : (s : State) (j : ℕ) (b : Block) → LiesAs b (block_at s j) → (i : ℕ) → LiesAs (block_at (put_block s j b) i) (block_at s i)
put_lies s j b l i =
    by_eq i j
    (λ e. subst (λ (k : ℕ). LiesAs (block_at (put_block s j b) k) (block_at s k)) (sym e)
    (by_le (suc j) (length s.blocks) (λ h. lies_trans (lies_refl (get_or-set_same s.blocks j b zero_block h)) l)
    (λ h. lies_refl (rw (set_out s.blocks j b (omega arith))))))
    (λ ne. lies_refl (get_or-set_other s.blocks j i b zero_block ne))

after_left : (u : List ℕ) (n : ℕ) (s : State) (i : ℕ) (rest : State → Searched) → ((r : State) → LeftBlocks r (rest r).state) → (l : Result ℕ Block)
    → look_into s.w (block_at s i) u n ≡ l → LeftBlocks s (after s i rest l).state
after_left u n s i rest ih (Ok unit) e = (refl, λ j. lies_refl refl)
after_left u n s i rest ih (Err b) e =
    let q = ih (put_block s i b) in
    (q.0, λ j. lies_trans (q.1 j) (put_lies s i b (missed_lies s.w (block_at s i) u n b e) j))

from_left : (u : List ℕ) (p n i k : ℕ) (s : State) → LeftBlocks s (search_from u p n i k s).state
unfolding search_from
from_left u p n i zero s = (refl, λ j. lies_refl refl)
from_left u p n i (suc k) s =
    picked (λ (r : Searched). LeftBlocks s r.state) (in_pool s p i) _ _
    (λ e. after_left u n s i (search_from u p n (suc i) k) (from_left u p n (suc i) k) (look_into s.w (block_at s i) u n) refl) (λ e. from_left u p n (suc i) k s)

-- ---- one test and another, the same at each index
least_same : (k n : ℕ) (f g : ℕ → Bool) → ((i : ℕ) → f i ≡ g i) → least_from k n f ≡ least_from k n g
unfolding least_from
least_same k zero f g h = refl
least_same k (suc n) f g h = ap₂ (λ (b : Bool) (r : Option ℕ). pick b (Some k) r) (h k) (least_same (suc k) n f g h)

latest_same : (n : ℕ) (f g : ℕ → Bool) → ((i : ℕ) → f i ≡ g i) → latest n f ≡ latest n g
unfolding latest
latest_same zero f g h = refl
latest_same (suc n) f g h = ap₂ (λ (b : Bool) (r : Option ℕ). pick b (Some n) r) (h n) (latest_same n f g h)

all_same : (n : ℕ) (f g : ℕ → Bool) → ((i : ℕ) → f i ≡ g i) → all n f ≡ all n g
unfolding all
all_same zero f g h = refl
all_same (suc n) f g h = ap₂ (λ (b c : Bool). b && c) (all_same n f g h) (h n)

module _ (s : State) (bs : List Block) where
  abbrev other : State
  other = with_table s s.count bs s.order s.pools

  module _ (lie : (i : ℕ) → LiesAs (block_at other i) (block_at s i)) where
    slot_alike : lowest_slot other ≡ lowest_slot s
    slot_alike =
        least_same 0 s.slots (slot_free other) (slot_free s)
        (λ k. all_same s.count (λ i. not (eqb (block_at other i).slot k)) (λ i. not (eqb (block_at s i).slot k)) (λ i. ap (λ (n : ℕ). not (eqb n k)) (lie i).slot))

    clear_alike : (at size i : ℕ) → clear (block_at other i) at size ≡ clear (block_at s i) at size
    clear_alike at size i = ap₂ (λ (b n : ℕ). not (ltb b (at + size) && ltb at (b + n))) (lie i).base (lie i).size

    placed_alike : (x : Option ℕ) → placed other x ≡ placed s x
    placed_alike (Some k) = refl
    placed_alike None = refl

    place_alike : (size : ℕ) → lowest_place other size ≡ lowest_place s size
    place_alike size =
        placed_alike (least (s.length / 65536) (place_free other size))
        ∙ ap (placed s) (least_same 0 (s.length / 65536) (place_free other size) (place_free s size)
        (λ k. ap (λ (b : Bool). leb (place_at s k + size) (s.arena + s.length) && b)
        (all_same s.count (λ i. clear (block_at other i) (place_at s k) size) (λ i. clear (block_at s i) (place_at s k) size) (clear_alike (place_at s k) size))))

    size_alike : (x : Option ℕ) → size_or other x ≡ size_or s x
    size_alike (Some i) = (lie i).size
    size_alike None = refl

    newest_alike : (p : ℕ) → newest_size other p ≡ newest_size s p
    newest_alike p =
        size_alike (newest other p)
        ∙ ap (size_or s) (latest_same s.count (λ i. eqb (block_at other i).pool p) (λ i. eqb (block_at s i).pool p) (λ i. ap (λ (n : ℕ). eqb n p) (lie i).pool))

-- ---- a search
module _ (s : State) (u : List ℕ) (p n : ℕ) where
  abbrev r : State
  r = (search_pool s u p n).state

  pub search_other : OtherBlocks s r
  search_other = (from_left u p n 0 s.count s).0

  pub search_lies : (i : ℕ) → LiesAs (block_at r i) (block_at s i)
  search_lies = (from_left u p n 0 s.count s).1

  pub search_slot : lowest_slot r ≡ lowest_slot s
  search_slot = ap lowest_slot search_other ∙ slot_alike s r.blocks search_lies

  pub search_place : (size : ℕ) → lowest_place r size ≡ lowest_place s size
  search_place size = ap (λ (x : State). lowest_place x size) search_other ∙ place_alike s r.blocks search_lies size

  pub search_newest : (q : ℕ) → newest_size r q ≡ newest_size s q
  search_newest q = ap (λ (x : State). newest_size x q) search_other ∙ newest_alike s r.blocks search_lies q
