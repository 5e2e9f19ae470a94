-- A turn that is fixed is fixed in its answer, its record and each word: two outcomes that meet one contract are the same. Assumes nothing.
use Prim.Native.Nat.{ℕ}
use mathlib.Core.List.{List}
use mathlib.Core.Path.{◌≡◌, sym, ap, ◌∙◌}
use Rattle.state.specs.declared.State.{State}
use Rattle.state.specs.declared.Answer.{Answer}
use Rattle.machine.specs.Turn.{Turn, turn}

pub one_outcome : (rule : Turn) (a b : Answer) (r s : State) (u v t w : List ℕ) → turn a r u t ≡ rule → turn b s v w ≡ rule → (a ≡ b) × (r ≡ s) × (u ≡ v) × (t ≡ w)
one_outcome rule a b r s u v t w e f =
    let p = e ∙ sym f in
    (ap (λ (x : Turn). x.answer) p, ap (λ (x : Turn). x.state) p, ap (λ (x : Turn). x.used) p, ap (λ (x : Turn). x.stop) p)
