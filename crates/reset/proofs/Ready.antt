-- What a good shape gives to the functions that a reset is made of. Assumes nothing.
use Prim.Native.Nat.{ℕ}
use native.Mathlib.Omega.{arith}
use Rattle.state.specs.declared.State.{State}
use Rattle.state.specs.Table.{block_at}
use Rattle.shape.specs.Shaped.{Shaped}
use Rattle.shape.proofs.Shaped.{shaped_is}
use Rattle.shape_facts.proofs.Facts.{count_64, slot_room, pool_3}
use Rattle.reset.specs.Keepable.{Keepable}
use Rattle.reset.specs.Clearable.{Clearable}

module _ (s : State) (u t : ℕ) (f : Shaped s u t) where
  pub clearable_used : Clearable s u
  clearable_used = record {
    few = count_64 s u t f;
    narrow = omega (arith, f.head.w_high);
    room = λ i h. (slot_room s u t f (block_at s i).slot (f.sound i h).slot).0;
  }

  pub clearable_stop : Clearable s t
  clearable_stop = record {
    few = count_64 s u t f;
    narrow = omega (arith, f.head.w_high);
    room = λ i h. (slot_room s u t f (block_at s i).slot (f.sound i h).slot).1;
  }

  pub keepable : Keepable s
  keepable = record {
    few = count_64 s u t f;
    pool = pool_3 s u t f;
    area = λ i h. omega (arith, (f.sound i h).area_high, f.head.w_high);
  }

pub ruleset ready = (shaped_is, clearable_used, clearable_stop, keepable)
