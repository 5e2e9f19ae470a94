-- A pool whose step divides the size is the size's (`pool_here`), and otherwise the pool is one below it (`pool_after`). Assumes nothing.
use Prim.Native.Nat.{ℕ, ◌-◌}
use mathlib.Core.Path.{◌≡◌, sym, ap, ◌∙◌}
use native.Mathlib.Omega.{arith}
use Rattle.numbers.specs.Align.{align_up}
use Rattle.sizes.proofs.Pools.{pool_from, pool_first, few}
use Rattle.sizes.proofs.Walk.{step, step_some, pool_here, pool_after}
use Rattle.sizes.proofs.size_to_pool_id.Goals as goal

pub loop-id-init : goal.loop-id-init
loop-id-init c = pool_first _ _ _ c.requires.2

pub align_up-requires : goal.align_up-requires
align_up-requires c = step_some _ _ c.requires.1 (omega (arith, few _ c.requires.2))

pub returns-then-align_up-size : goal.returns-then-align_up-size
returns-then-align_up-size c =
    let a = c.args in
    pool_here a.size a.granularity (c.loop-id.id - 1) c.requires.0 c.requires.1 (omega arith) (omega (arith, few _ c.requires.2))
    (ap (λ (k : ℕ). align_up a.size (step a.granularity k)) (omega arith) ∙ sym c.align_up.ensures ∙ c.if-align_up-size.true) ∙ sym c.loop-id.invariant

pub loop-id-preserved : goal.loop-id-preserved
loop-id-preserved c =
    let a = c.args in
    c.loop-id.invariant
    ∙ pool_after _ _ _ c.requires.0 c.requires.1 (omega arith) (omega (arith, few _ c.requires.2))
    (λ e. c.if-align_up-size.false (c.align_up.ensures ∙ ap (λ (k : ℕ). align_up a.size (step a.granularity k)) (omega arith) ∙ e))

pub returns : goal.returns
unfolding pool_from
returns c = let a = c.args in let last : c.loop-id.id - 1 ≡ 0 = omega arith in sym (c.loop-id.invariant ∙ ap (pool_from a.size a.granularity) last)
