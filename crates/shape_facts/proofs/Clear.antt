-- The slots of the standing blocks, cleared one more at a time. Assumes nothing.
use Prim.Native.Nat.{ℕ, zero, suc, ◌+◌, ◌*◌, ◌≤◌, ◌<◌}
use mathlib.Core.List.{List}
use mathlib.Core.Path.{◌≡◌, refl, ap, ◌∙◌}
use native.Mathlib.Numerals.{add-one}
use native.Mathlib.Omega.{arith}
use lib.ListN.{length, replicate, length-replicate}
use Rattle.slots.proofs.Laws.{length_put_slot}
use Rattle.state.specs.declared.State.{State}
use Rattle.state.specs.Table.{block_at}
use Rattle.machine.specs.Turn.{clear_slot}
use Rattle.machine.specs.Reset.{clear_blocks}

pub clear_none : (s : State) (ws : List ℕ) → ws ≡ clear_blocks s 0 ws
unfolding clear_blocks
clear_none s ws = refl

pub clear_more : (s : State) (n : ℕ) (ws : List ℕ) → clear_blocks s (n + 1) ws ≡ clear_slot s.w (block_at s n).slot (clear_blocks s n ws)
unfolding clear_blocks
clear_more s n ws = ap (λ (m : ℕ). clear_blocks s m ws) (add-one n)

pub length_clear : (s : State) (n : ℕ) (ws : List ℕ) → ((i : ℕ) → i < n → ((block_at s i).slot + 1) * s.w ≤ length ws)
    → length (clear_blocks s n ws) ≡ length ws
unfolding clear_blocks
length_clear s zero ws h = refl
length_clear s (suc n) ws h =
    let e = length_clear s n ws (λ i l. h i (omega arith)) in
    length_put_slot s.w (block_at s n).slot (clear_blocks s n ws) (replicate s.w 0) (omega (arith, e, h n (omega arith))) (length-replicate s.w 0) ∙ e
