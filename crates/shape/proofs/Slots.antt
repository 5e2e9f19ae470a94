-- The marks of the slots that were seen. Assumes nothing.
use Prim.Native.Nat.{ℕ, zero, suc, ◌<◌}
use mathlib.Core.Path.{◌≡◌, refl, ap, ◌∙◌}
use mathlib.Core.Bool.{Bool, true, false}
use mathlib.Core.List.{List}
use lib.ListN.{length, get_or, set, replicate}
use lib.Seq.{get_or-set_same, get_or-set_other}
use Rattle.numbers.proofs.Split.{by_eq}

pub none_seen : (n k : ℕ) → get_or (replicate n false) k false ≡ false
none_seen zero k = refl
none_seen (suc n) zero = refl
none_seen (suc n) (suc k) = none_seen n k

-- marks stay
pub mark_stays : (seen : List Bool) (v k : ℕ) → v < length seen → get_or seen k false ≡ true → get_or (set seen v true) k false ≡ true
mark_stays seen v k h e =
    by_eq k v
    (λ q. ap (λ (n : ℕ). get_or (set seen v true) n false) q ∙ get_or-set_same seen v true false h)
    (λ ne. get_or-set_other seen v k true false ne ∙ e)
