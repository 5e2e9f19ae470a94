-- A turn writes one number behind what is there (`one_more`); after the last one the line feed ends the line (`whole`). Assumes nothing.
use Rattle.std.proofs.Common.{ℕ, ◌+◌, ◌<◌, ◌≡◌, List, ◌∷◌, ◌++◌, length, take, get_or, ap, ◌∙◌, subst, arith}
use Rattle.text.specs.Decimal.{decimal}
use Rattle.text.specs.Line.{spaced}
use Rattle.text.specs.Put.{Puts}
use Rattle.text.proofs.Put.{join}
use Rattle.text.proofs.Line.{one_more, whole}
use Rattle.text.proofs.put_line.Goals as goal

-- a turn: the number of its index, behind what is there
turn : (word ns : List ℕ) (i at : ℕ) {out mid after : List ℕ} {end here n behind : ℕ} → i < length ns → Puts out at (word ++ spaced (take i ns)) mid end
    → Puts mid here (32 ∷ decimal n) after behind → here ≡ end → n ≡ get_or ns i 0 → Puts out at (word ++ spaced (take (i + 1) ns)) after behind
turn word ns i at {out} {mid} {after} {end} {here} {n} {behind} h p q e f =
    subst (λ (bs : List ℕ). Puts out at bs after behind) (ap (λ (m : ℕ). (word ++ spaced (take i ns)) ++ (32 ∷ decimal m)) f ∙ one_more word ns i h)
    (join p (subst (λ (k : ℕ). Puts mid k (32 ∷ decimal n) after behind) e q))

pub loop-n-preserved : goal.loop-n-preserved
loop-n-preserved c = let a = c.args in
    let l = c.loop-n in record {
      written = turn a.word.now a.numbers.now l.n-index a.at c.loop-n-test.true l.invariant.written c.put_number-end.ensures.written (grind arith) (grind arith);
      room = grind (arith, l.invariant.room, c.put_number-end.ensures.short);
    }

pub returns : goal.returns
returns c = let a = c.args in
    subst (λ (bs : List ℕ). Puts a.out.now a.at bs c.put_byte.new.out c.put_byte.result) (whole a.word.now a.numbers.now c.loop-n.n-index (omega arith))
    (join c.loop-n.invariant.written c.put_byte.ensures)
