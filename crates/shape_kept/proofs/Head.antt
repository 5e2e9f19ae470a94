-- What no change touches: creation's numbers, and the slots that the lent words hold; and a pool's record by its five numbers. Assumes nothing.
use Prim.Native.Nat.{ℕ, ◌≤◌}
use mathlib.Core.Bool.{true}
use mathlib.Core.List.{List}
use mathlib.Core.Path.{◌≡◌, subst, sym}
use Rattle.block.specs.declared.Block.{Block}
use Rattle.sizes.specs.declared.Pool.{Pool}
use Rattle.state.specs.declared.State.{State}
use Rattle.state.specs.Shape.{good_shape}
use Rattle.state.specs.Change.{with_rest}
use Rattle.shape.specs.Facts.{Headed, Lent}

module _ (s : State) (live count : ℕ) (blocks : List Block) (order : List ℕ) (pool : List Pool) where
  pub head_kept : Headed s → count ≤ s.slots → Headed (with_rest s live count blocks order pool)
  head_kept f h = record {
    size_good = f.size_good;
    size_low = f.size_low;
    size_high = f.size_high;
    g_listed = f.g_listed;
    g_low = f.g_low;
    g_high = f.g_high;
    pools_listed = f.pools_listed;
    pools_low = f.pools_low;
    pools_high = f.pools_high;
    w_low = f.w_low;
    w_high = f.w_high;
    arena_low = f.arena_low;
    arena_whole = f.arena_whole;
    length_low = f.length_low;
    length_whole = f.length_whole;
    top = f.top;
    slots_low = f.slots_low;
    slots_high = f.slots_high;
    count_slots = h;
  }

  pub lent_kept : (u t : ℕ) → Lent s u t → Lent (with_rest s live count blocks order pool) u t
  lent_kept u t l = record { used_room = l.used_room; stop_room = l.stop_room }

-- words of the same lengths
pub good_same : (s : State) (u t v w : ℕ) → v ≡ u → w ≡ t → good_shape s u t ≡ true → good_shape s v w ≡ true
good_same s u t v w p q e = subst (λ (x : ℕ). good_shape s x w ≡ true) (sym p) (subst (λ (y : ℕ). good_shape s u y ≡ true) (sym q) e)

pub pool_is : (q : Pool) (granularity blocks empty area used : ℕ) → q.granularity ≡ granularity → q.blocks ≡ blocks → q.empty ≡ empty → q.area ≡ area → q.used ≡ used
    → ◌≡◌ {A = Pool} q (record { granularity = granularity; blocks = blocks; empty = empty; area = area; used = used })
pool_is q granularity blocks empty area used a b c d e =
    made q.granularity q.blocks q.empty q.area q.used granularity blocks empty area used a b c d e
  where
    made : (a b c d e a' b' c' d' e' : ℕ) → a ≡ a' → b ≡ b' → c ≡ c' → d ≡ d' → e ≡ e'
        → ◌≡◌ {A = Pool} (record { granularity = a; blocks = b; empty = c; area = d; used = e }) (record { granularity = a'; blocks = b'; empty = c'; area = d'; used = e' })
    made a b c d e a' b' c' d' e' p q r s t = cc
