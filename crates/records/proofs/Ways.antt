-- What the bytes of a record must be: too few for a head are a cut record; a whole record has its head and stands within them. Assumes nothing.
use Prim.Native.Nat.{ℕ, ◌+◌, ◌≤◌, ◌<◌}
use mathlib.Core.Bool.{Bool, true, false}
use mathlib.Core.List.{List}
use mathlib.Core.Path.{◌≡◌, refl}
use native.Mathlib.Omega.{arith}
use borrow.Author.Tests.{lt-ltb, ltb-false}
use lib.Dec.{ltb, eqb}
use lib.ListN.{length}
use Rattle.std.specs.Prelude.{Option, Some, None, Ok, Err}
use Rattle.numbers.specs.Pick.{pick}
use Rattle.records.specs.declared.Call.{Call}
use Rattle.records.specs.declared.Record.{Record}
use Rattle.records.specs.declared.Unread.TheVariants.{Cut, Bad}
use Rattle.records.specs.Bytes.{u16_at}
use Rattle.records.specs.Records.{payload_of, call_of, whole, of_payload, record_of}

-- fewer than four bytes
pub no_head : (bs : List ℕ) → length bs < 4 → Err Cut ≡ record_of bs
unfolding record_of
no_head bs h = rw (lt-ltb (length bs) 4 h)

-- ---- a whole record has its head and stands within the bytes
module _ (r : Record) (bs : List ℕ) where
  room : (b : Bool) (m : ℕ) (k : Call) → ltb (length bs) (4 + m) ≡ b → pick b (Err Cut) (whole (4 + m) k) ≡ Ok r → (4 ≤ r.length) × (r.length ≤ length bs)
  room true m k h e = absurd cc
  room false m k h e =
      let l = ltb-false (length bs) (4 + m) h in
      let q : 4 + m ≡ r.length = cc in
      (omega arith, omega arith)

  said : (b : Bool) (m : ℕ) (k : Call) → pick b (pick (ltb (length bs) (4 + m)) (Err Cut) (whole (4 + m) k)) (Err Bad) ≡ Ok r
      → (4 ≤ r.length) × (r.length ≤ length bs)
  said true m k e = room (ltb (length bs) (4 + m)) m k refl e
  said false m k e = absurd cc

  known : (p : Option ℕ) (i kind : ℕ) → of_payload bs i kind p ≡ Ok r → (4 ≤ r.length) × (r.length ≤ length bs)
  known (Some m) i kind e = said (eqb i m) m (call_of bs kind) e
  known None i kind e = absurd cc

  headed : (b : Bool) → pick b (Err Cut) (of_payload bs (u16_at bs 0) (u16_at bs 2) (payload_of (u16_at bs 2))) ≡ Ok r → (4 ≤ r.length) × (r.length ≤ length bs)
  headed true e = absurd cc
  headed false e = known (payload_of (u16_at bs 2)) (u16_at bs 0) (u16_at bs 2) e

  pub whole_size : record_of bs ≡ Ok r → (4 ≤ r.length) × (r.length ≤ length bs)
  unfolding record_of
  whole_size e = headed (ltb (length bs) 4) e
