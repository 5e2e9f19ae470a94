-- Document 01's T1 as states reached, so there are such states; and its ledger, computed. Assumes nothing.
use Prim.Native.Nat.{ℕ}
use mathlib.Core.List.{List, [], ◌∷◌, ◌++◌}
use mathlib.Core.Path.{◌≡◌, refl}
use lib.ListN.{replicate}
use Rattle.bits.specs.Bits.{digit, bit, put, set_bit, filled}
use Rattle.bits.proofs.Filled.{words_zeros}
use Rattle.runs.specs.Seek.{free_from, lowest_fit, longest_run, last_end, seek}
use Rattle.block.specs.Marking.{moved, marked, released}
use Rattle.block.specs.Search.{worth_searching, look_into}
use Rattle.sizes.specs.Limits.{is_granularity, granularity_in_force, is_power_below, is_base_size, base_size_in_force}
use Rattle.sizes.specs.Pools.{pool_of}
use Rattle.sizes.specs.Sizes.{rounded, ideal_size}
use Rattle.state.specs.declared.State.{State}
use Rattle.state.specs.declared.Span.{Span}
use Rattle.state.specs.Table.{all, sum}
use Rattle.state.specs.Shape.{clauses}
use Rattle.state.specs.Find.{least_from, latest}
use Rattle.state.specs.Change.{list_from}
use Rattle.machine.specs.Turn.{Turn, span}
use Rattle.state.specs.declared.Asked.{Asked}
use Rattle.machine.specs.Create.{create_turn}
use Rattle.machine.specs.Alloc.{search_from, alloc_turn}
use Rattle.machine.specs.Span.{query_turn}
use Rattle.machine.specs.Release.{release_turn}
use Rattle.machine.specs.Shrink.{shrink_turn}
use Rattle.machine.specs.Reset.{clear_blocks, kept, reset_turn}
use Rattle.machine.specs.Machine.{Call, alloc, release, shrink, query, soft_reset, step}
use Rattle.ledger.specs.Ledger.{strike, enter}
use Rattle.ledger.specs.Reached.{Reached, created, called}

-- a list of calls leads from one state reached to another
abbrev Leads : State → List ℕ → List ℕ → List Span → List Call → Type 0
Leads s u t l [] = Reached s u t l
Leads s u t l (c ∷ cs) = Leads (step s u t c).state (step s u t c).used (step s u t c).stop (enter (step s u t c).answer l) cs

leads : {s : State} {u t : List ℕ} {l : List Span} → Reached s u t l → (cs : List Call) → Leads s u t l cs
leads r [] = r
leads {s = s} {u = u} {t = t} {l = l} r (c ∷ cs) =
    let x = step s u t c in leads {s = x.state} {u = x.used} {t = x.stop} {l = enter x.answer l} (called r c) cs

unfoldable pub asked : Asked
asked = record { size = 65536; granularity = 64; flags = 0; w = 256; arena = 4194304; length = 1048576 }

unfoldable pub first : Turn
first = create_turn asked (replicate 8192 0) (replicate 8192 0)

-- up to the reset
pub before : List Call
before = alloc 100 ∷ alloc 64 ∷ release 4194304 ∷ alloc 192 ∷ alloc 1 ∷ query 4194368 ∷ release 8388608 ∷ shrink 4194496 65 ∷ []

-- the creation is granted, so its state and all that follow are reached
begun : Reached first.state first.used first.stop []
unfolding first asked create_turn is_granularity granularity_in_force is_power_below is_base_size base_size_in_force
begun = created asked (replicate 8192 0) (replicate 8192 0) (words_zeros 8192) (words_zeros 8192) 65536 64 1 refl

pub calls : List Call
calls = before ++ (soft_reset ∷ query 4194496 ∷ [])

pub reached : Leads first.state first.used first.stop [] calls
reached = leads begun calls

-- ---- the ledger that the answers write
ledger_of : State → List ℕ → List ℕ → List Span → List Call → List Span
ledger_of s u t l [] = l
ledger_of s u t l (c ∷ cs) = ledger_of (step s u t c).state (step s u t c).used (step s u t c).stop (enter (step s u t c).answer l) cs

written : ledger_of first.state first.used first.stop [] before ≡ span 4194496 128 ∷ span 4194304 64 ∷ span 4194432 64 ∷ []
unfolding first asked before ledger_of strike create_turn is_granularity granularity_in_force is_power_below is_base_size base_size_in_force digit bit put set_bit filled free_from lowest_fit longest_run last_end seek moved marked released worth_searching look_into pool_of rounded ideal_size all sum clauses least_from latest list_from search_from alloc_turn query_turn release_turn shrink_turn clear_blocks kept reset_turn
written = refl
