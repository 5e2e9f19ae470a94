-- Document 01's T1, computed by the machine: the program's 8,192 words of each map. Assumes nothing.
use Prim.Native.Nat.{ℕ, ◌+◌}
use mathlib.Core.List.{List, [], ◌∷◌}
use mathlib.Core.Path.{◌≡◌, refl}
use lib.ListN.{replicate}
use Rattle.bits.specs.Bits.{digit, bit, put, set_bit, filled}
use Rattle.runs.specs.Seek.{free_from, lowest_fit, longest_run, last_end, seek}
use Rattle.block.specs.Marking.{moved, marked, released}
use Rattle.block.specs.Search.{worth_searching, look_into}
use Rattle.sizes.specs.Limits.{is_granularity, granularity_in_force, is_power_below, is_base_size, base_size_in_force}
use Rattle.sizes.specs.Pools.{pool_of}
use Rattle.sizes.specs.Sizes.{rounded, ideal_size}
use Rattle.state.specs.declared.State.{State}
use Rattle.state.specs.declared.Answer.{Answer}
use Rattle.state.specs.declared.Answer.TheVariants.{Created, Granted, Released, Shrunk, Reset, Refused}
use Rattle.state.specs.declared.Refusal.TheVariants.{InvalidArgument, InvalidState}
use Rattle.state.specs.Table.{zero_state, pool_at, all, sum}
use Rattle.state.specs.Shape.{clauses}
use Rattle.state.specs.Find.{least_from, latest}
use Rattle.state.specs.Change.{list_from}
use Rattle.machine.specs.Turn.{span}
use Rattle.machine.specs.Create.{create_turn}
use Rattle.machine.specs.Alloc.{search_from, alloc_turn}
use Rattle.machine.specs.Span.{query_turn}
use Rattle.machine.specs.Release.{release_turn}
use Rattle.machine.specs.Shrink.{shrink_turn}
use Rattle.machine.specs.Reset.{clear_blocks, kept, reset_turn}
use Rattle.machine.specs.Machine.{Call, create, alloc, release, shrink, query, soft_reset, step}

answers_of : State → List ℕ → List ℕ → List Call → List Answer
answers_of s u t [] = []
answers_of s u t (c ∷ cs) = (step s u t c).answer ∷ answers_of (step s u t c).state (step s u t c).used (step s u t c).stop cs

-- what the last line shows: live spans, blocks, used units
end_of : State → List ℕ → List ℕ → List Call → List ℕ
end_of s u t [] = s.live ∷ s.count ∷ ((pool_at s 0).used + (pool_at s 1).used + (pool_at s 2).used) ∷ []
end_of s u t (c ∷ cs) = end_of (step s u t c).state (step s u t c).used (step s u t c).stop cs

calls : List Call
calls =
    create (record { size = 65536; granularity = 64; flags = 0; w = 256; arena = 4194304; length = 1048576 })
    ∷ alloc 100
    ∷ alloc 64
    ∷ release 4194304
    ∷ alloc 192
    ∷ alloc 1
    ∷ query 4194368
    ∷ release 8388608
    ∷ shrink 4194496 65
    ∷ soft_reset
    ∷ query 4194496
    ∷ []

ran : answers_of zero_state (replicate 8192 0) (replicate 8192 0) calls
    ≡ Created 65536 64 1
    ∷ Granted (span 4194304 128)
    ∷ Granted (span 4194432 64)
    ∷ Released (span 4194304 128)
    ∷ Granted (span 4194496 192)
    ∷ Granted (span 4194304 64)
    ∷ Refused InvalidArgument
    ∷ Refused InvalidState
    ∷ Shrunk (span 4194496 128)
    ∷ Reset
    ∷ Refused InvalidArgument
    ∷ []
unfolding answers_of calls create_turn is_granularity granularity_in_force is_power_below is_base_size base_size_in_force digit bit put set_bit filled free_from lowest_fit longest_run last_end seek moved marked released worth_searching look_into pool_of rounded ideal_size all sum clauses least_from latest list_from search_from alloc_turn query_turn release_turn shrink_turn clear_blocks kept reset_turn
ran = refl

ended : end_of zero_state (replicate 8192 0) (replicate 8192 0) calls ≡ 0 ∷ 1 ∷ 0 ∷ []
unfolding end_of calls create_turn is_granularity granularity_in_force is_power_below is_base_size base_size_in_force digit bit put set_bit filled free_from lowest_fit longest_run last_end seek moved marked released worth_searching look_into pool_of rounded ideal_size all sum clauses least_from latest list_from search_from alloc_turn query_turn release_turn shrink_turn clear_blocks kept reset_turn
ended = refl
