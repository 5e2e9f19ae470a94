-- However many records are allowed, once they are enough: what a whole trace comes to. Assumes nothing.
use Prim.Native.Nat.{ℕ, zero, suc, ◌+◌, ◌-◌, ◌≤◌}
use mathlib.Core.List.{List}
use mathlib.Core.Path.{◌≡◌, refl, sym, ap, ◌∙◌}
use native.Mathlib.Nat.{add-zero, add-suc}
use native.Mathlib.Omega.{arith}
use lib.ListN.{length, drop, length-drop}
use Rattle.std.specs.Prelude.{Result, Ok, Err}
use Rattle.state.specs.declared.State.{State}
use Rattle.state.specs.Table.{zero_state}
use Rattle.machine.specs.Turn.{Turn}
use Rattle.machine.specs.Machine as machine
use Rattle.records.specs.declared.Record.{Record}
use Rattle.records.specs.declared.Unread.{Unread}
use Rattle.records.specs.declared.Unread.TheVariants.{Cut, Bad}
use Rattle.records.specs.Records.{record_of}
use Rattle.records.proofs.Ways.{no_head, whole_size}
use Rattle.lines.specs.Lines.{answer_line}
use Rattle.calls.specs.Calls.{call_by}
use Rattle.trace.specs.Play.{prepended, after_record, play}
use Rattle.trace.specs.Output.{whole, output}

next : (k : ℕ) (s : State) (u t bs : List ℕ) (r : Result Record Unread) → record_of bs ≡ r → length bs ≤ suc k
    → ((s : State) (u t ds : List ℕ) → length ds ≤ k → play (suc k) s u t ds ≡ play k s u t ds)
    → after_record (play (suc k)) s u t bs r ≡ after_record (play k) s u t bs r
next k s u t bs (Err Cut) e h f = refl
next k s u t bs (Err Bad) e h f = refl
next k s u t bs (Ok r) e h f =
    let x : Turn = machine.step s u t (call_by r.call) in
    ap (prepended r.length (answer_line x.answer)) (f x.state x.used x.stop (drop r.length bs) (omega (arith, length-drop r.length bs, (whole_size r bs e).0)))

-- one more than there can be changes nothing
one_more : (k : ℕ) (s : State) (u t bs : List ℕ) → length bs ≤ k → play (suc k) s u t bs ≡ play k s u t bs
unfolding play
one_more zero s u t bs h = ap (after_record (play zero) s u t bs) (sym (no_head bs (omega arith)))
one_more (suc k) s u t bs h = next k s u t bs (record_of bs) refl h (one_more k)

more : (j k : ℕ) (s : State) (u t bs : List ℕ) → length bs ≤ k → play (k + j) s u t bs ≡ play k s u t bs
more zero k s u t bs h = ap (λ (n : ℕ). play n s u t bs) (add-zero k)
more (suc j) k s u t bs h =
    ap (λ (n : ℕ). play n s u t bs) (add-suc k j) ∙ one_more (k + j) s u t bs (omega arith) ∙ more j k s u t bs h

pub enough : (k : ℕ) (s : State) (u t bs : List ℕ) → length bs ≤ k → play k s u t bs ≡ play (length bs) s u t bs
enough k s u t bs h =
    let e : k ≡ length bs + (k - length bs) = omega arith in
    ap (λ (n : ℕ). play n s u t bs) e ∙ more (k - length bs) (length bs) s u t bs (omega arith)

-- the lines of `play` and prepended them that of `finish` are what is written for the bytes
pub output_is : (k : ℕ) (u t bs : List ℕ) → length bs ≤ k → whole bs (play k zero_state u t bs) ≡ output u t bs
unfolding output
output_is k u t bs h = ap (whole bs) (enough k zero_state u t bs h)
