-- A request that is not refused: its units, and what the search of its pool leaves. Assumes nothing.
use Prim.Native.Nat.{ℕ, ◌%◌, ◌^◌, ◌≤◌, ◌<◌}
use mathlib.Core.Bool.{true}
use mathlib.Core.List.{List}
use mathlib.Core.Path.{◌≡◌, sym, ap, subst, ◌∙◌}
use native.Mathlib.Nat.{mod_self}
use native.Mathlib.Omega.{arith}
use lib.ListN.{length}
use lib.Pow.{pow_pos, pow_mono}
use Rattle.numbers.specs.Align.{align_up}
use Rattle.numbers.proofs.Align.{up_divides}
use Rattle.sizes.specs.Limits.{is_granularity}
use Rattle.sizes.proofs.InForce.{granularity_is, granularity_listed}
use Rattle.sizes.proofs.Sizes.{rounded_is}
use Rattle.state.specs.declared.State.{State}
use Rattle.shape.specs.Shaped.{Shaped}
use Rattle.shape.proofs.Shaped.{shaped_is}
use Rattle.machine.specs.Alloc.{pool_for, units_for, search_for}
use Rattle.machine.proofs.Cases.{Seeks}
use Rattle.shape_facts.proofs.Search.{Left, search_left}
use Rattle.shape_facts.specs.Ready.{Allocates}
use Rattle.shape_facts.proofs.Pool.{some_units, pool_in}
use Rattle.shape_kept.specs.Sized.{Sized}

-- rounding up gives a multiple, also where it wraps
up_whole : (size g : ℕ) → is_granularity g ≡ true → align_up size g % g ≡ 0
up_whole size g good =
    let r = granularity_is g good in
    let j = r.exponent in
    let low : j ≤ 64 = omega (arith, r.high) in
    subst (λ (u : ℕ). align_up size u % u ≡ 0) (sym r.is)
    (up_divides size (2 ^ j) j (pow_pos j) (pow_mono low) low (mod_self (2 ^ j)))

module _ (s : State) (u t : List ℕ) (size bytes : ℕ) (k : Seeks s u t size bytes) where
  pub seeks_shaped : Shaped s (length u) (length t)
  seeks_shaped = shaped_is s (length u) (length t) k.good

  pub seeks_ready : Allocates s (length u) (length t) bytes
  seeks_ready =
      let a = rounded_is size s.granularity bytes k.is in
      record {
        shaped = seeks_shaped;
        some = a.some;
        most = a.small;
        whole = ap (λ (n : ℕ). n % s.granularity) a.is ∙ up_whole size s.granularity (granularity_listed s.granularity seeks_shaped.head.g_listed);
      }

  pub seeks_some : 0 < units_for s bytes
  seeks_some = some_units s (length u) (length t) bytes seeks_ready

  pub seeks_pool : pool_for s bytes < 3
  seeks_pool = pool_in s (length u) (length t) bytes seeks_ready

  -- the search leaves a good shape, and every block where it was
  pub seeks_left : Sized s → Left u (length t) (pool_for s bytes) (units_for s bytes) seeks_some s (search_for s u bytes)
  seeks_left z = search_left u (length t) (pool_for s bytes) (units_for s bytes) seeks_some s seeks_shaped z.blocks
