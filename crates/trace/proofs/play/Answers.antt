-- A whole record is one step of `Going`; a cut record, a bad one or no room ends it, as in the definition. Assumes nothing.
use Rattle.std.proofs.Common.{ℕ, Bool, List, ◌≡◌, ◌+◌, ◌-◌, ◌/◌, subst, length, drop, take_all, length-drop, refl, sym, ap, ◌∙◌, arith}
use Rattle.machine.specs.Turn.{turn}
use denote.Enum.Bare.{sameb}
use Rattle.records.specs.contracts.Unread.{the_type}
use Rattle.records.specs.declared.Unread.{Unread}
use Rattle.records.specs.declared.Unread.TheVariants.{Cut, Bad}
use Rattle.records.specs.Records.{record_of}
use Rattle.records.proofs.Ways.{whole_size}
use Rattle.state.specs.declared.State.{State}
use Rattle.trace.specs.Play.{Run, Plays}
use Rattle.trace.proofs.Going.{is_bad, no_room, ended, one_more}
use Rattle.trace.proofs.play.Goals.{After-read}
use Rattle.trace.proofs.play.Goals as goal

-- what was read is the record at the front of what is left
front : (c : After-read) → c.read.result ≡ record_of (drop c.loop.p.taken c.args.bytes.now)
front c =
    let a = c.args in
    let n = c.loop.p.taken in
    c.read.ensures ∙ ap record_of (take_all (length a.bytes.now - n) (drop n a.bytes.now) (omega (arith, length-drop n a.bytes.now, c.loop.invariant.going.within)))

same_bad : (why : Unread) → sameb the_type why Bad ≡ is_bad why
same_bad Cut = refl
same_bad Bad = refl

-- the same run, with what it says of a bad record
with_bad : {all : Run} {before : List ℕ} {s : State} {u t : List ℕ} {taken : ℕ} {said bad : Bool} {out : List ℕ} {written : ℕ}
    → Plays all before s u t taken said out written → bad ≡ said → Plays all before s u t taken bad out written
with_bad {all} {before} {s} {u} {t} {taken} {said} {bad} {out} {written} p e = subst (λ (b : Bool). Plays all before s u t taken b out written) (sym e) p

pub returns-in-Err-clause-plays : goal.returns-in-Err-clause-plays
returns-in-Err-clause-plays c =
    let why = c.in-Err.unread in
    with_bad (ended (length c.args.out.now / 80 - (c.loop.counter + 1)) why (omega arith) (sym (front (goal.at.returns-in-Err-clause-plays c).After-read) ∙ c.in-Err.is)
    c.loop.invariant.going) (grind (arith, c.eq.ensures ∙ same_bad why))

pub overflow_add-p : goal.overflow_add-p
overflow_add-p c =
    let a = c.args in
    let n = c.loop.p.taken in
    omega (arith, (whole_size c.in-Ok.record (drop n a.bytes.now) (sym (front (goal.at.overflow_add-p c).After-read) ∙ c.in-Ok.is)).1, length-drop n a.bytes.now, c.loop.invariant.going.within)

pub loop-preserved : goal.loop-preserved
loop-preserved c =
    let f = c.in-Ok in
    let k = c.call-o in record {
      going =
          one_more (length c.args.out.now / 80 - (c.loop.counter + 1)) f.record (turn k.result.answer k.result.state k.new.used k.new.stop) c.put_answer.new.out c.put_answer.result
          (omega arith) (sym (front (goal.at.loop-preserved c).After-read) ∙ f.is) k.ensures c.put_answer.ensures c.loop.invariant.going;
      good = c.loop.invariant.good;
    }

pub returns-clause-plays : goal.returns-clause-plays
returns-clause-plays c = rw c.loop.invariant.good (no_room (omega arith) c.loop.invariant.going)
