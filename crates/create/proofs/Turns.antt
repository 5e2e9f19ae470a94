-- Creation's rule where it grants, and the words that it clears. Assumes nothing.
use Prim.Native.Nat.{ℕ, ◌*◌, ◌≤◌}
use mathlib.Core.Bool.{true}
use mathlib.Core.List.{List, ◌++◌}
use mathlib.Core.Path.{◌≡◌, ap, ◌∙◌}
use lib.ListN.{length, take, drop, replicate}
use Rattle.std.proofs.Common.{length-take-le}
use Rattle.state.specs.declared.State.{State}
use Rattle.state.specs.declared.Answer.TheVariants.{Created}
use Rattle.machine.specs.Turn.{turn}
use Rattle.state.specs.declared.Asked.{Asked}
use Rattle.machine.specs.Create.{slots_of, grantable, fresh_state, cleared, create_turn}

pub granted_is : (a : Asked) (u t : List ℕ) (s : State) (n : ℕ) (x y : List ℕ) → grantable a (length u) (length t) ≡ true
    → n ≡ slots_of a.w (length u) (length t) → s ≡ fresh_state a n → x ≡ cleared (n * a.w) u → y ≡ cleared (n * a.w) t
    → turn (Created s.size s.granularity s.poolcount) s x y ≡ create_turn a u t
unfolding create_turn
granted_is a u t s n x y e k q i j = rw (e, q, i, j, k)

-- the first n words filled with zeros, no later ones
pub filled_is : (n : ℕ) (ws front : List ℕ) → n ≤ length ws → front ≡ replicate (length (take n ws)) 0 → front ++ drop n ws ≡ cleared n ws
filled_is n ws front h e = ap (λ (xs : List ℕ). xs ++ drop n ws) (e ∙ ap (λ (k : ℕ). replicate k 0) (length-take-le n ws h))
