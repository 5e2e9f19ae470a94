-- A caller that reads a trace in pieces of any size, and plays what is there with whatever room it has, writes what the trace comes to. Assumes nothing.
use Prim.Native.Nat.{ℕ, zero, suc, ◌+◌, ◌-◌, ◌≤◌}
use mathlib.Core.Bool.{Bool, true, false}
use mathlib.Core.List.{List, [], ◌++◌, append_assoc, append-nil}
use mathlib.Core.Path.{◌≡◌, refl, sym, ap, subst, ◌∙◌}
use native.Mathlib.Omega.{arith}
use borrow.Author.Tests.{ne_eqb}
use lib.ListN.{length, drop, length-drop, length-append}
use Rattle.numbers.specs.Pick.{pick}
use Rattle.numbers.proofs.Split.{by_le}
use Rattle.std.specs.Prelude.{Result, Ok, Err}
use Rattle.state.specs.declared.State.{State}
use Rattle.state.specs.Table.{zero_state}
use Rattle.machine.specs.Turn.{Turn}
use Rattle.machine.specs.Machine as machine
use Rattle.records.specs.declared.Record.{Record}
use Rattle.records.specs.declared.Unread.{Unread}
use Rattle.records.specs.declared.Unread.TheVariants.{Cut, Bad}
use Rattle.records.specs.Records.{record_of}
use Rattle.records.proofs.Ways.{no_head, whole_size}
use Rattle.records.proofs.More.{Not-cut, record_more}
use Rattle.lines.specs.Last.{end_line, bad_line, last_line}
use Rattle.calls.specs.Calls.{call_by}
use Rattle.trace.specs.Play.{Run, stopped, after_record, play}
use Rattle.trace.specs.Output.{output}
use Rattle.trace.proofs.Whole.{enough}
use Rattle.trace.proofs.Pieces.{all, pieces}

-- what is written from a state and an offset on
abbrev pub from : State → List ℕ → List ℕ → ℕ → List ℕ → List ℕ
from s u t o bs = (all s u t bs).lines ++ last_line (all s u t bs).state (o + (all s u t bs).taken) (length bs - (all s u t bs).taken)

taken_by : (k : ℕ) (s : State) (u t bs : List ℕ) (r : Result Record Unread) → record_of bs ≡ r
    → ((s : State) (u t ds : List ℕ) → (play k s u t ds).taken ≤ length ds) → (after_record (play k) s u t bs r).taken ≤ length bs
taken_by k s u t bs (Err Cut) e f = omega arith
taken_by k s u t bs (Err Bad) e f = omega arith
taken_by k s u t bs (Ok r) e f =
    let x : Turn = machine.step s u t (call_by r.call) in
    omega (arith, f x.state x.used x.stop (drop r.length bs), length-drop r.length bs, (whole_size r bs e).1)

taken_most : (k : ℕ) (s : State) (u t bs : List ℕ) → (play k s u t bs).taken ≤ length bs
unfolding play
taken_most zero s u t bs = omega arith
taken_most (suc k) s u t bs = taken_by k s u t bs (record_of bs) refl (taken_most k)

-- the lines of what is played first, and then what is written from there on
moved : (p q : Run) (o : ℕ) (bs cs : List ℕ) → p.taken ≤ length bs
    → (p.lines ++ q.lines) ++ last_line q.state (o + (p.taken + q.taken)) (length (bs ++ cs) - (p.taken + q.taken))
    ≡ p.lines ++ (q.lines ++ last_line q.state (o + p.taken + q.taken) (length (drop p.taken bs ++ cs) - q.taken))
moved p q o bs cs h =
    let a : o + (p.taken + q.taken) ≡ o + p.taken + q.taken = omega arith in
    let l = length-append bs cs in
    let m = length-append (drop p.taken bs) cs in
    let d = length-drop p.taken bs in
    let whole : length (bs ++ cs) ≡ p.taken + length (drop p.taken bs ++ cs) = omega (arith, l, m, d, h) in
    let b : length (bs ++ cs) - (p.taken + q.taken) ≡ length (drop p.taken bs ++ cs) - q.taken = omega (arith, whole) in
    ap (λ (n : ℕ). (p.lines ++ q.lines) ++ last_line q.state n (length (bs ++ cs) - (p.taken + q.taken))) a
    ∙ ap (λ (n : ℕ). (p.lines ++ q.lines) ++ last_line q.state (o + p.taken + q.taken) n) b ∙ append_assoc p.lines q.lines _

abbrev ends : ℕ → List ℕ → Run → List ℕ
ends o ds r = r.lines ++ last_line r.state (o + r.taken) (length ds - r.taken)

pub played : (k : ℕ) (s : State) (u t : List ℕ) (o : ℕ) (bs cs : List ℕ) → let p = play k s u t bs in
    from s u t o (bs ++ cs) ≡ p.lines ++ from p.state p.used p.stop (o + p.taken) (drop p.taken bs ++ cs)
played k s u t o bs cs =
    let p : Run = play k s u t bs in
    ap (ends o (bs ++ cs)) (pieces k s u t bs cs)
    ∙ moved p (all p.state p.used p.stop (drop p.taken bs ++ cs)) o bs cs (taken_most k s u t bs)

-- ---- the last line
front : (s : State) (u t bs : List ℕ) → all s u t bs ≡ after_record (play (length bs)) s u t bs (record_of bs)
unfolding play
front s u t bs = sym (enough (suc (length bs)) s u t bs (omega arith))

none_left : (s : State) (u t : List ℕ) (o : ℕ) (bs : List ℕ) (b : Bool) → ends o bs (stopped s u t b) ≡ last_line s o (length bs)
none_left s u t o bs b =
    let p : o + 0 ≡ o = omega arith in
    let q : length bs - 0 ≡ length bs = omega arith in
    ap (λ (n : ℕ). last_line s n (length bs - 0)) p ∙ ap (last_line s o) q

last_cut : (s : State) (u t : List ℕ) (o : ℕ) (bs : List ℕ) → record_of bs ≡ Err Cut → from s u t o bs ≡ last_line s o (length bs)
last_cut s u t o bs e = ap (ends o bs) (front s u t bs ∙ ap (after_record (play (length bs)) s u t bs) e) ∙ none_left s u t o bs false

bad_head : (bs : List ℕ) → record_of bs ≡ Err Bad → 4 ≤ length bs
bad_head bs e = by_le 4 (length bs) (λ h. h) (λ h. let c = no_head bs h in absurd cc)

last_bad : (s : State) (u t : List ℕ) (o : ℕ) (bs cs : List ℕ) → record_of bs ≡ Err Bad → from s u t o (bs ++ cs) ≡ last_line s o (length bs)
last_bad s u t o bs cs e =
    let h = bad_head bs e in
    let r : record_of (bs ++ cs) ≡ Err Bad = record_more bs cs (subst (Not-cut bs cs) (sym e) tt) ∙ e in
    ap (ends o (bs ++ cs)) (front s u t (bs ++ cs) ∙ ap (after_record (play (length (bs ++ cs))) s u t (bs ++ cs)) r) ∙ none_left s u t o (bs ++ cs) true
    ∙ ap (λ (b : Bool). pick b (end_line s) (bad_line o)) (ne_eqb (length (bs ++ cs)) 0 (λ z. omega (arith, length-append bs cs)) ∙ sym (ne_eqb (length bs) 0 (λ z. omega arith)))

-- ---- a caller: bs wait, cs are still to come, and out is what it writes from here on
pub data Session : State → List ℕ → List ℕ → ℕ → List ℕ → List ℕ → List ℕ → Type 0 where
  reads : {s : State} {u t : List ℕ} {o : ℕ} {bs cs out : List ℕ} (more rest : List ℕ) → cs ≡ more ++ rest → Session s u t o (bs ++ more) rest out → Session s u t o bs cs out
  plays : {s : State} {u t : List ℕ} {o : ℕ} {bs cs out : List ℕ} (k : ℕ) (next : List ℕ) → out ≡ (play k s u t bs).lines ++ next
      → Session (play k s u t bs).state (play k s u t bs).used (play k s u t bs).stop (o + (play k s u t bs).taken) (drop (play k s u t bs).taken bs) cs next
      → Session s u t o bs cs out
  finishes : {s : State} {u t : List ℕ} {o : ℕ} {bs cs out : List ℕ} → record_of bs ≡ Err Cut → cs ≡ [] → out ≡ last_line s o (length bs) → Session s u t o bs cs out
  stops : {s : State} {u t : List ℕ} {o : ℕ} {bs cs out : List ℕ} → record_of bs ≡ Err Bad → out ≡ last_line s o (length bs) → Session s u t o bs cs out

pub session : {s : State} {u t : List ℕ} {o : ℕ} {bs cs out : List ℕ} → Session s u t o bs cs out → out ≡ from s u t o (bs ++ cs)
session {s} {u} {t} {o} {bs} (reads more rest e r) =
    session r ∙ ap (from s u t o) (append_assoc bs more rest ∙ ap (λ (ds : List ℕ). bs ++ ds) (sym e))
session {s} {u} {t} {o} {bs} {cs} (plays k next e r) = e ∙ ap (λ (l : List ℕ). (play k s u t bs).lines ++ l) (session r) ∙ sym (played k s u t o bs cs)
session {s} {u} {t} {o} {bs} (finishes e n q) =
    q ∙ sym (last_cut s u t o bs e) ∙ ap (from s u t o) (sym (append-nil bs) ∙ ap (λ (ds : List ℕ). bs ++ ds) (sym n))
session {s} {u} {t} {o} {bs} {cs} (stops e q) = q ∙ sym (last_bad s u t o bs cs e)

-- however a trace is cut into pieces, and whatever room there was for lines
pub session_output : (u t bs out : List ℕ) → Session zero_state u t 0 [] bs out → out ≡ output u t bs
unfolding output
session_output u t bs out r =
    let p : Run = all zero_state u t bs in
    let z : 0 + p.taken ≡ p.taken = omega arith in
    session r ∙ ap (λ (n : ℕ). p.lines ++ last_line p.state n (length bs - p.taken)) z
