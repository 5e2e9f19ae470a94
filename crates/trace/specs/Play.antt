-- Document 01, The trace: records one after the other through the machine. Assumes nothing.
use Rattle.std.specs.Prelude.{ℕ, zero, suc, ◌+◌, Bool, true, false, List, [], ◌++◌, ◌≡◌, Result, Ok, Err, drop}
use Rattle.state.specs.declared.State.{State}
use Rattle.machine.specs.Turn.{Turn}
use Rattle.machine.specs.Machine as machine
use Rattle.records.specs.declared.Record.{Record}
use Rattle.records.specs.declared.Unread.{Unread}
use Rattle.records.specs.declared.Unread.TheVariants.{Cut, Bad}
use Rattle.records.specs.Records.{record_of}
use Rattle.calls.specs.Calls.{call_by}
use Rattle.lines.specs.Lines.{answer_line}
use Rattle.text.specs.Put.{Puts}

-- ---- what so many records leave: the allocator's record and the maps, the bytes taken, the lines, and whether a bad record follows
pub record Run : Type 0 where
  pub state : State
  pub used : List ℕ
  pub stop : List ℕ
  pub taken : ℕ
  pub lines : List ℕ
  pub bad : Bool

abbrev pub stopped : State → List ℕ → List ℕ → Bool → Run
stopped s u t bad = record { state = s; used = u; stop = t; taken = 0; lines = []; bad = bad }

-- the run p after a record of n bytes with its line
abbrev pub prepended : ℕ → List ℕ → Run → Run
prepended n line p = record { state = p.state; used = p.used; stop = p.stop; taken = n + p.taken; lines = line ++ p.lines; bad = p.bad }

abbrev pub after_call : (State → List ℕ → List ℕ → Run) → ℕ → Turn → Run
after_call rest n t = prepended n (answer_line t.answer) (rest t.state t.used t.stop)

-- a bad record isn't executed
abbrev pub after_record : (State → List ℕ → List ℕ → List ℕ → Run) → State → List ℕ → List ℕ → List ℕ → Result Record Unread → Run
after_record rest s u t bs (Err Cut) = stopped s u t false
after_record rest s u t bs (Err Bad) = stopped s u t true
after_record rest s u t bs (Ok r) = after_call (λ s u t. rest s u t (drop r.length bs)) r.length (machine.step s u t (call_by r.call))

-- at most k records from the front of the bytes, as long as they are whole and good
unfoldable pub play : ℕ → State → List ℕ → List ℕ → List ℕ → Run
play zero s u t bs = stopped s u t false
play (suc k) s u t bs = after_record (play k) s u t bs (record_of bs)

-- ---- what the trace library leaves of a run: the lines at the front of the lent bytes, which are otherwise as they were
pub record Plays (p : Run) (before : List ℕ) (s : State) (u t : List ℕ) (size : ℕ) (wrong : Bool) (after : List ℕ) (written : ℕ) : Type 0 where
  pub state : s ≡ p.state
  pub used : u ≡ p.used
  pub stop : t ≡ p.stop
  pub taken : size ≡ p.taken
  pub bad : wrong ≡ p.bad
  pub lines : Puts before 0 p.lines after written
