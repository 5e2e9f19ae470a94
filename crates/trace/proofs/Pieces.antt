-- A trace may come in pieces, however it is cut: what is played of the bytes that are there is the front of what is played of them all. Assumes nothing.
use Prim.Native.Nat.{ℕ, zero, suc, ◌+◌, ◌-◌}
use mathlib.Core.List.{List, ◌++◌}
use mathlib.Core.Path.{◌≡◌, refl, sym, ap, subst, ◌∙◌}
use native.Mathlib.Omega.{arith}
use lib.ListN.{length, drop, length-drop, length-append}
use lib.Seq.{drop-append-le, drop-drop}
use Rattle.std.specs.Prelude.{Result, Ok, Err}
use Rattle.state.specs.declared.State.{State}
use Rattle.machine.specs.Turn.{Turn}
use Rattle.machine.specs.Machine as machine
use Rattle.records.specs.declared.Record.{Record}
use Rattle.records.specs.declared.Unread.{Unread}
use Rattle.records.specs.declared.Unread.TheVariants.{Cut, Bad}
use Rattle.records.specs.Records.{record_of}
use Rattle.records.proofs.Ways.{whole_size}
use Rattle.records.proofs.More.{Not-cut, record_more}
use Rattle.lines.specs.Lines.{answer_line}
use Rattle.calls.specs.Calls.{call_by}
use Rattle.trace.specs.Play.{Run, prepended, after_record, play}
use Rattle.trace.proofs.Going.{behind_none, behind_two, first}
use Rattle.trace.proofs.Whole.{enough}

-- all records of the bytes
abbrev pub all : State → List ℕ → List ℕ → List ℕ → Run
all s u t bs = play (length bs) s u t bs

-- a run, and then all records of what it left and of the bytes behind
abbrev pub then : Run → List ℕ → List ℕ → Run
then p bs cs = prepended p.taken p.lines (all p.state p.used p.stop (drop p.taken bs ++ cs))

step : (s : State) (u t bs cs : List ℕ) (r : Record) → record_of bs ≡ Ok r
    → let x = machine.step s u t (call_by r.call) in all s u t (bs ++ cs) ≡ prepended r.length (answer_line x.answer) (all x.state x.used x.stop (drop r.length bs ++ cs))
step s u t bs cs r e =
    let n : ℕ = r.length in
    let x : Turn = machine.step s u t (call_by r.call) in
    let z = whole_size r bs e in
    let l = length-append bs cs in
    let w : record_of (bs ++ cs) ≡ Ok r = record_more bs cs (subst (Not-cut bs cs) (sym e) tt) ∙ e in
    first (length (bs ++ cs) - 1) (length (bs ++ cs)) s u t (bs ++ cs) (omega (arith, l, z.0, z.1))
    ∙ ap (after_record (play (length (bs ++ cs) - 1)) s u t (bs ++ cs)) w
    ∙ ap (prepended n (answer_line x.answer))
    (enough (length (bs ++ cs) - 1) x.state x.used x.stop (drop n (bs ++ cs)) (omega (arith, length-drop n (bs ++ cs), z.0))
    ∙ ap (all x.state x.used x.stop) (drop-append-le n bs cs z.1))

joined : (n : ℕ) (line : List ℕ) (q : Run) (bs cs : List ℕ) → prepended n line (then q (drop n bs) cs) ≡ then (prepended n line q) bs cs
joined n line q bs cs =
    behind_two n q.taken line q.lines (all q.state q.used q.stop (drop q.taken (drop n bs) ++ cs))
    ∙ ap (λ (ds : List ℕ). prepended (n + q.taken) (line ++ q.lines) (all q.state q.used q.stop (ds ++ cs))) (drop-drop q.taken n bs)

by_record : (k : ℕ) (s : State) (u t bs cs : List ℕ) (r : Result Record Unread) → record_of bs ≡ r
    → ((s : State) (u t ds : List ℕ) → all s u t (ds ++ cs) ≡ then (play k s u t ds) ds cs)
    → all s u t (bs ++ cs) ≡ then (after_record (play k) s u t bs r) bs cs
by_record k s u t bs cs (Err Cut) e f = behind_none (all s u t (bs ++ cs))
by_record k s u t bs cs (Err Bad) e f = behind_none (all s u t (bs ++ cs))
by_record k s u t bs cs (Ok r) e f =
    let n : ℕ = r.length in
    let x : Turn = machine.step s u t (call_by r.call) in
    step s u t bs cs r e ∙ ap (prepended n (answer_line x.answer)) (f x.state x.used x.stop (drop n bs))
    ∙ joined n (answer_line x.answer) (play k x.state x.used x.stop (drop n bs)) bs cs

-- whatever bytes come behind, and however many records are played first
pub pieces : (k : ℕ) (s : State) (u t bs cs : List ℕ) → all s u t (bs ++ cs) ≡ then (play k s u t bs) bs cs
unfolding play
pieces zero s u t bs cs = behind_none (all s u t (bs ++ cs))
pieces (suc k) s u t bs cs = by_record k s u t bs cs (record_of bs) refl (λ s u t ds. pieces k s u t ds cs)
