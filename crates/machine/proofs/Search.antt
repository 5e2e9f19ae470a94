-- One block more of the search: a law for each way through a turn. Assumes nothing.
use Prim.Native.Nat.{ℕ, suc}
use mathlib.Core.Bool.{Bool, true, false}
use mathlib.Core.List.{List}
use mathlib.Core.Path.{◌≡◌, sym, ap, ◌∙◌}
use native.Mathlib.Omega.{arith}
use lib.Dec.{eqb}
use lib.Seq.{set-get_or}
use Rattle.numbers.specs.Pick.{pick}
use Rattle.block.specs.declared.Block.{Block}
use Rattle.std.specs.Prelude.{Result, Ok, Err}
use Rattle.block.specs.Search.{look_into}
use Rattle.state.specs.declared.State.{State}
use Rattle.state.specs.declared.Searched.{Searched}
use Rattle.state.specs.Table.{zero_block, block_at}
use Rattle.state.specs.Change.{with_table}
use Rattle.machine.specs.Turn.{put_block}
use Rattle.machine.specs.Alloc.{searched, after, search_from, hit_at}

-- a look into block i, if it is of the pool
abbrev pub looked_at : List ℕ → ℕ → ℕ → State → ℕ → Result ℕ Block
looked_at u p n s i = pick (eqb (block_at s i).pool p) (look_into s.w (block_at s i) u n) (Err (block_at s i))

-- a block put back as it was
pub put_same_block : (s : State) (i : ℕ) → put_block s i (block_at s i) ≡ s
put_same_block s i = ap (λ (bs : List Block). with_table s s.count bs s.order s.pools) (set-get_or s.blocks i zero_block)

turn_found : (s : State) (i unit : ℕ) (rest : State → Searched) (c : Bool) (l : Result ℕ Block) → pick c l (Err (block_at s i)) ≡ Ok unit
    → pick c (after s i rest l) (rest s) ≡ searched (hit_at i unit) s
turn_found s i unit rest true l e = ap (after s i rest) e
turn_found s i unit rest false l e = let z : ◌≡◌ {A = ℕ} 0 1 = cc in absurd (omega arith)

turn_missed : (s : State) (i : ℕ) (b : Block) (rest : State → Searched) (c : Bool) (l : Result ℕ Block) → pick c l (Err (block_at s i)) ≡ Err b
    → pick c (after s i rest l) (rest s) ≡ rest (put_block s i b)
turn_missed s i b rest true l e = ap (after s i rest) e
turn_missed s i b rest false l e =
    let same : block_at s i ≡ b = cc in
    sym (ap rest (ap (put_block s i) (sym same) ∙ put_same_block s i))

pub search_found : (u : List ℕ) (p n i k unit : ℕ) (s : State) → looked_at u p n s i ≡ Ok unit → search_from u p n i (suc k) s ≡ searched (hit_at i unit) s
unfolding search_from
search_found u p n i k unit s e = turn_found s i unit (search_from u p n (suc i) k) (eqb (block_at s i).pool p) (look_into s.w (block_at s i) u n) e

pub search_missed : (u : List ℕ) (p n i k : ℕ) (b : Block) (s : State) → looked_at u p n s i ≡ Err b
    → search_from u p n i (suc k) s ≡ search_from u p n (suc i) k (put_block s i b)
unfolding search_from
search_missed u p n i k b s e = turn_missed s i b (search_from u p n (suc i) k) (eqb (block_at s i).pool p) (look_into s.w (block_at s i) u n) e
