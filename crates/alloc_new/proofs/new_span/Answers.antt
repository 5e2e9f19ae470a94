-- Place and slot are the definition's, so each branch is a branch of `alloc_placed`, which the search finds. With a place, a slot and room
-- for the words, a good shape lets the new block enter (`makeable`). Assumes nothing.
use Prim.Native.Nat.{ℕ}
use mathlib.Core.Path.{◌≡◌, sym, ap, subst, ◌∙◌}
use native.Mathlib.Omega.{arith}
use lib.ListN.{length}
use Rattle.numbers.specs.Units.{units_of}
use Rattle.block.specs.declared.Block.{Block}
use Rattle.block.specs.Marking.{fresh}
use Rattle.sizes.specs.declared.Pool.{Pool}
use Rattle.state.specs.Table.{pool_at}
use Rattle.state.proofs.Lengths.{blocks_64, order_64, pool_3}
use Rattle.shape_facts.specs.Ready.{Makeable}
use Rattle.shape_facts.proofs.New.{makeable}
use Rattle.alloc_new.proofs.new_span.Goals.{After-area_size_from_byte_size-area}
use Rattle.alloc_new.proofs.new_span.Goals as goal

-- the block's units, as the rule has them
area : (c : After-area_size_from_byte_size-area) → c.area_size_from_byte_size-area.result ≡ units_of c.args.bytes (pool_at c.args.s c.args.p).granularity
area c = c.area_size_from_byte_size-area.ensures ∙ ap (λ (q : Pool). units_of c.args.bytes q.granularity) c.pool_at-q.ensures

pub make_span-requires : goal.make_span-requires
make_span-requires c =
    let a = c.args in
    let at = c.in-Some.at in
    let k = c.in-Some-lowest_free_slot.slot in
    let units = area (goal.at.make_span-requires c).After-area_size_from_byte_size-area in
    let words = c.area_size_from_byte_size-words.ensures ∙ ap (λ (x : ℕ). units_of x 32) units in
    let b = c.new_block-b.ensures ∙ ap (λ (x : ℕ). fresh at a.bytes a.p k x a.n) units in
    subst (λ (x : Block). Makeable a.s (length a.used.now) (length a.stop.now) x a.n) (sym b)
    (makeable a.s (length a.used.now) (length a.stop.now) a.p a.n a.bytes c.requires at k (sym c.in-Some.is ∙ c.lowest_place.ensures) (sym c.in-Some-lowest_free_slot.is ∙ c.lowest_free_slot.ensures)
    (omega (arith, words, c.if-s-words.false)) (blocks_64 a.s _ c.well_formed.0) (order_64 a.s _ c.well_formed.0) (pool_3 a.s _ c.well_formed.0))
