-- A slot of words that have more words behind them. Assumes nothing.
use Prim.Native.Nat.{ℕ, zero, suc, ◌+◌, ◌*◌, ◌≤◌}
use mathlib.Core.List.{List, [], ◌∷◌, ◌++◌}
use mathlib.Core.Path.{◌≡◌, refl, ap, ap₂, ◌∙◌}
use native.Mathlib.Nat.{not-suc-le-zero, le_of_suc-le-suc}
use native.Mathlib.Omega.{arith}
use lib.ListN.{length, take, drop, length-drop, replicate}
use Rattle.slots.specs.Slots.{slot_of, put_slot, fill_slot}
use Rattle.bits.specs.Bits.{filled}
use Rattle.machine.specs.Turn.{clear_slot}

take_behind : (k : ℕ) (ws v : List ℕ) → k ≤ length ws → take k (ws ++ v) ≡ take k ws
take_behind zero ws v h = refl
take_behind (suc k) [] v h = absurd (not-suc-le-zero h)
take_behind (suc k) (x ∷ ws) v h = ap (λ (l : List ℕ). x ∷ l) (take_behind k ws v (le_of_suc-le-suc h))

drop_behind : (k : ℕ) (ws v : List ℕ) → k ≤ length ws → drop k (ws ++ v) ≡ drop k ws ++ v
drop_behind zero ws v h = refl
drop_behind (suc k) [] v h = absurd (not-suc-le-zero h)
drop_behind (suc k) (x ∷ ws) v h = drop_behind k ws v (le_of_suc-le-suc h)

append_assoc : (a b c : List ℕ) → a ++ (b ++ c) ≡ (a ++ b) ++ c
append_assoc [] b c = refl
append_assoc (x ∷ a) b c = ap (λ (l : List ℕ). x ∷ l) (append_assoc a b c)

module _ (w slot : ℕ) (ws v : List ℕ) (room : (slot + 1) * w ≤ length ws) where
  dropped : drop (slot * w) (ws ++ v) ≡ drop (slot * w) ws ++ v
  dropped = drop_behind (slot * w) ws v (omega arith)

  left : w ≤ length (drop (slot * w) ws)
  left = omega (arith, length-drop (slot * w) ws)

  pub slot_behind : slot_of w slot (ws ++ v) ≡ slot_of w slot ws
  slot_behind = ap (take w) dropped ∙ take_behind w (drop (slot * w) ws) v left

  pub put_behind : (x : List ℕ) → put_slot w slot (ws ++ v) x ≡ put_slot w slot ws x ++ v
  put_behind x =
      let rest = drop w (drop (slot * w) ws) in
      ap₂ (λ (a b : List ℕ). a ++ (x ++ b)) (take_behind (slot * w) ws v (omega arith)) (ap (drop w) dropped ∙ drop_behind w (drop (slot * w) ws) v left)
      ∙ ap (λ (l : List ℕ). take (slot * w) ws ++ l) (append_assoc x rest v)
      ∙ append_assoc (take (slot * w) ws) (x ++ rest) v

  pub fill_behind : (i n x : ℕ) → fill_slot w slot (ws ++ v) i n x ≡ fill_slot w slot ws i n x ++ v
  fill_behind i n x =
      ap (λ (p : List ℕ). put_slot w slot (ws ++ v) (filled p i n x)) slot_behind ∙ put_behind (filled (slot_of w slot ws) i n x)

  pub clear_behind : clear_slot w slot (ws ++ v) ≡ clear_slot w slot ws ++ v
  clear_behind = put_behind (replicate w 0)
