-- A block that an allocation makes shares no byte with one that stood before. Assumes nothing.
use Rattle.std.specs.Prelude.{Some}
use Prim.Native.Nat.{ℕ, ◌<◌}
use mathlib.Core.Path.{sym, ap, ◌∙◌}
use Rattle.state.specs.declared.State.{State}
use Rattle.state.specs.Table.{block_at}
use Rattle.state.specs.Find.{lowest_place}
use Rattle.machine.specs.Turn.{Turn}
use Rattle.shape_kept.proofs.Make.{place_apart}
use Rattle.ledger.proofs.Table.{Beside}
use Rattle.demands.specs.Alloc.{Made}

pub made_beside : (s : State) (p n bytes : ℕ) (x : Turn) → Made s p n bytes x → (j : ℕ) → j < s.count → Beside (block_at s j) (block_at x.state s.count)
made_beside s p n bytes x m =
    place_apart s (block_at x.state s.count) (ap Some m.base_is ∙ sym m.is_lowest_place ∙ ap (lowest_place s) (sym m.size_is))
