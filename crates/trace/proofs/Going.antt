-- A run on its way: the lines so far, and the run of what is left. Assumes nothing.
use Prim.Native.Nat.{ℕ, suc, ◌+◌, ◌*◌, ◌/◌, ◌≤◌}
use mathlib.Core.Bool.{Bool, true, false}
use mathlib.Core.List.{List, [], ◌++◌, append_assoc, append-nil}
use mathlib.Core.Path.{◌≡◌, refl, sym, ap, subst, ◌∙◌}
use native.Mathlib.Nat.{div-mul-le_self}
use native.Mathlib.Omega.{arith}
use lib.ListN.{length, drop, length-drop}
use lib.Seq.{drop-drop}
use Rattle.std.specs.Prelude.{Ok, Err}
use Rattle.state.specs.declared.State.{State}
use Rattle.machine.specs.Turn.{Turn}
use Rattle.machine.specs.Machine as machine
use Rattle.records.specs.declared.Record.{Record}
use Rattle.records.specs.declared.Unread.{Unread}
use Rattle.records.specs.declared.Unread.TheVariants.{Cut, Bad}
use Rattle.records.specs.Records.{record_of}
use Rattle.lines.specs.Lines.{answer_line}
use Rattle.text.specs.Put.{Puts}
use Rattle.text.proofs.Put.{join}
use Rattle.lines.proofs.Lines.{answer_most}
use Rattle.records.proofs.Ways.{whole_size}
use Rattle.calls.specs.Calls.{call_by}
use Rattle.trace.specs.Play.{Run, stopped, prepended, after_record, play, Plays}

-- so many records are left of a whole run over bs
pub record Going (all : Run) (bs before : List ℕ) (left : ℕ) (s : State) (u t : List ℕ) (taken : ℕ) (out : List ℕ) (written : ℕ) : Type 0 where
  pub lines : List ℕ
  pub rest : all ≡ prepended taken lines (play left s u t (drop taken bs))
  pub put : Puts before 0 lines out written
  pub within : taken ≤ length bs
  pub room : written + 80 * left ≤ length before

abbrev with : Run → ℕ → List ℕ → Run
with p n l = record { state = p.state; used = p.used; stop = p.stop; taken = n; lines = l; bad = p.bad }

pub behind_none : (p : Run) → p ≡ prepended 0 [] p
behind_none p = let e : p.taken ≡ 0 + p.taken = omega arith in ap (λ (n : ℕ). with p n p.lines) e

pub behind_two : (a n : ℕ) (l m : List ℕ) (p : Run) → prepended a l (prepended n m p) ≡ prepended (a + n) (l ++ m) p
behind_two a n l m p =
    let e : a + (n + p.taken) ≡ a + n + p.taken = omega arith in
    ap (λ (k : ℕ). with p k (l ++ (m ++ p.lines))) e ∙ ap (with p (a + n + p.taken)) (sym (append_assoc l m p.lines))

pub start : (k : ℕ) (s : State) (u t bs before : List ℕ) → k ≡ length before / 80 → Going (play (length before / 80) s u t bs) bs before k s u t 0 before 0
start k s u t bs before e = record {
  lines = [];
  rest = ap (λ (n : ℕ). play n s u t bs) (sym e) ∙ behind_none (play k s u t bs);
  put = record { place = refl; whole = refl };
  within = omega arith;
  room = omega (arith, e, div-mul-le_self (length before) 80);
}

pub first : (k left : ℕ) (s : State) (u t ds : List ℕ) → left ≡ suc k → play left s u t ds ≡ after_record (play k) s u t ds (record_of ds)
unfolding play
first k left s u t ds e = ap (λ (n : ℕ). play n s u t ds) e

abbrev pub is_bad : Unread → Bool
is_bad Cut = false
is_bad Bad = true

module _ {all : Run} {bs before : List ℕ} {left : ℕ} {s : State} {u t : List ℕ} {taken : ℕ} {out : List ℕ} {written : ℕ} where
  -- what is left comes to nothing more
  end_of : (bad : Bool) → Going all bs before left s u t taken out written → play left s u t (drop taken bs) ≡ stopped s u t bad
      → Plays all before s u t taken bad out written
  end_of bad g e =
      let a : all ≡ prepended taken g.lines (stopped s u t bad) = g.rest ∙ ap (prepended taken g.lines) e in record {
        state = sym (ap (λ (r : Run). r.state) a);
        used = sym (ap (λ (r : Run). r.used) a);
        stop = sym (ap (λ (r : Run). r.stop) a);
        taken = omega (arith, ap (λ (r : Run). r.taken) a);
        bad = sym (ap (λ (r : Run). r.bad) a);
        lines = subst (λ (l : List ℕ). Puts before 0 l out written) (sym (append-nil g.lines) ∙ sym (ap (λ (r : Run). r.lines) a)) g.put;
      }

  pub no_room : left ≡ 0 → Going all bs before left s u t taken out written → Plays all before s u t taken false out written
  unfolding play
  no_room e g = end_of false g (ap (λ (k : ℕ). play k s u t (drop taken bs)) e)

  -- a bad record, or one that is cut
  pub ended : (k : ℕ) (why : Unread) → left ≡ suc k → record_of (drop taken bs) ≡ Err why → Going all bs before left s u t taken out written
      → Plays all before s u t taken (is_bad why) out written
  ended k Cut h e g = end_of false g (first k left s u t (drop taken bs) h ∙ ap (after_record (play k) s u t (drop taken bs)) e)
  ended k Bad h e g = end_of true g (first k left s u t (drop taken bs) h ∙ ap (after_record (play k) s u t (drop taken bs)) e)

  -- a record whose call came to x
  pub one_more : (k : ℕ) (r : Record) (x : Turn) (after : List ℕ) (end : ℕ) → left ≡ suc k → record_of (drop taken bs) ≡ Ok r
      → x ≡ machine.step s u t (call_by r.call) → Puts out written (answer_line x.answer) after end → Going all bs before left s u t taken out written
      → Going all bs before k x.state x.used x.stop (taken + r.length) after end
  one_more k r x after end h e q p g =
      let n : ℕ = r.length in
      let rest : Turn → Run = λ y. prepended n (answer_line y.answer) (play k y.state y.used y.stop (drop n (drop taken bs))) in record {
        lines = g.lines ++ answer_line x.answer;
        rest =
            g.rest ∙ ap (prepended taken g.lines) (first k left s u t (drop taken bs) h ∙ ap (after_record (play k) s u t (drop taken bs)) e ∙ ap rest (sym q))
            ∙ behind_two taken n g.lines (answer_line x.answer) (play k x.state x.used x.stop (drop n (drop taken bs)))
            ∙ ap (λ (ds : List ℕ). prepended (taken + n) (g.lines ++ answer_line x.answer) (play k x.state x.used x.stop ds)) (drop-drop n taken bs);
        put = join g.put p;
        within = omega (arith, (whole_size r (drop taken bs) e).1, length-drop taken bs, g.within);
        room = omega (arith, g.room, p.place, answer_most x.answer);
      }
