-- In T1 the second span keeps its bytes while the first is released and others are allocated: so what `bytes_stay` asks is met there, by any image. Assumes nothing.
use Prim.Native.Nat.{ℕ}
use mathlib.Core.List.{List, [], ◌∷◌}
use mathlib.Core.Logic.{inl, inr}
use mathlib.Core.Path.{refl}
use Rattle.bits.specs.Bits.{digit, bit, put, set_bit, filled}
use Rattle.runs.specs.Seek.{free_from, lowest_fit, longest_run, last_end, seek}
use Rattle.block.specs.Marking.{moved, marked, released}
use Rattle.block.specs.Search.{worth_searching, look_into}
use Rattle.sizes.specs.Limits.{is_granularity, granularity_in_force, is_power_below, is_base_size, base_size_in_force}
use Rattle.sizes.specs.Pools.{pool_of}
use Rattle.sizes.specs.Sizes.{rounded, ideal_size}
use Rattle.state.specs.Table.{all, sum}
use Rattle.state.specs.Shape.{clauses}
use Rattle.state.specs.Find.{least_from, latest}
use Rattle.state.specs.Change.{list_from}
use Rattle.machine.specs.Create.{create_turn}
use Rattle.machine.specs.Alloc.{search_from, alloc_turn}
use Rattle.machine.specs.Release.{release_turn}
use Rattle.machine.specs.Machine.{alloc, release}
use Rattle.ledger.specs.Ledger.{strike}
use Rattle.demands.proofs.T1.{asked, first}
use Rattle.intact.specs.Acts.{World, plain, acts, Leave}

-- T1 after its creation, with an image
abbrev created : List ℕ → World
created image = record { state = first.state; used = first.used; stop = first.stop; ledger = []; image = image }

pub second_span_is_left : (image : List ℕ)
    → Leave 4194432 4194440 (acts (created image) (plain (alloc 100) ∷ plain (alloc 64) ∷ [])) (plain (release 4194304) ∷ plain (alloc 192) ∷ [])
unfolding Leave acts first asked strike create_turn is_granularity granularity_in_force is_power_below is_base_size base_size_in_force digit bit put set_bit filled free_from lowest_fit longest_run last_end seek moved marked released worth_searching look_into pool_of rounded ideal_size all sum clauses least_from latest list_from search_from alloc_turn release_turn
second_span_is_left image = ((64, inl (refl, refl)), λ x. x, ((64, inl (refl, refl)), λ x. x, (64, inr (inl (refl, refl)))))
