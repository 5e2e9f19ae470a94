-- Document 01, The trace: the record that some bytes start with. Assumes nothing.
use Rattle.std.specs.Prelude.{ℕ, ◌+◌, ◌≤◌, List, Option, Some, None, Result, Ok, Err, ltb, eqb, length}
use Rattle.numbers.specs.Pick.{pick}
use Rattle.state.specs.declared.Asked.{Asked}
use Rattle.records.specs.declared.Call.{Call}
use Rattle.records.specs.declared.Call.TheVariants.{Create, Alloc, Release, Shrink, Query, SoftReset, HardReset}
use Rattle.records.specs.declared.Record.{Record}
use Rattle.records.specs.declared.Unread.{Unread}
use Rattle.records.specs.declared.Unread.TheVariants.{Cut, Bad}
use Rattle.records.specs.Bytes.{u16_at, u32_at, u64_at}

-- the payload length of a kind: 1 create, 2 alloc, 3 release, 4 shrink, 5 query, 6 soft reset, 7 hard reset
unfoldable pub payload_of : ℕ → Option ℕ
payload_of kind =
    pick (eqb kind 1) (Some 32)
    (pick (eqb kind 2) (Some 8)
    (pick (eqb kind 3) (Some 8)
    (pick (eqb kind 4) (Some 16)
    (pick (eqb kind 5) (Some 8)
    (pick (eqb kind 6) (Some 0)
    (pick (eqb kind 7) (Some 0) None))))))

-- a record with a payload of its kind's length fits into so many bytes
abbrev pub Holds : Option ℕ → ℕ → Type 0
Holds (Some n) size = 4 + n ≤ size
Holds None size = ⊥

-- block size, g, flags and W of four bytes each, arena base and length of eight
abbrev pub asked_of : List ℕ → Asked
asked_of bs = record { size = u32_at bs 4; granularity = u32_at bs 8; flags = u32_at bs 12; w = u32_at bs 16; arena = u64_at bs 20; length = u64_at bs 28 }

-- the call of a whole record of a known kind
unfoldable pub call_of : List ℕ → ℕ → Call
call_of bs kind =
    pick (eqb kind 1) (Create (asked_of bs))
    (pick (eqb kind 2) (Alloc (u64_at bs 4))
    (pick (eqb kind 3) (Release (u64_at bs 4))
    (pick (eqb kind 4) (Shrink (u64_at bs 4) (u64_at bs 12))
    (pick (eqb kind 5) (Query (u64_at bs 4))
    (pick (eqb kind 6) SoftReset HardReset)))))

-- a whole record: n bytes, and a call
abbrev pub whole : ℕ → Call → Result Record Unread
whole n c = Ok (record { length = n; call = c })

-- bad if the record's payload length isn't that of its kind; cut if fewer bytes are there
abbrev pub of_payload : List ℕ → ℕ → ℕ → Option ℕ → Result Record Unread
of_payload bs said kind None = Err Bad
of_payload bs said kind (Some n) = pick (eqb said n) (pick (ltb (length bs) (4 + n)) (Err Cut) (whole (4 + n) (call_of bs kind))) (Err Bad)

-- two-byte payload length, two-byte kind, payload
unfoldable pub record_of : List ℕ → Result Record Unread
record_of bs = pick (ltb (length bs) 4) (Err Cut) (of_payload bs (u16_at bs 0) (u16_at bs 2) (payload_of (u16_at bs 2)))
