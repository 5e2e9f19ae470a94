-- The loop keeps: no bit from `start` up to word `i` is `value`, and the mask has the word's bits that are not before `start`. So the ones of
-- `bits` are those of this word that are `value` (`seen_masked`), and the lowest one is the first such bit; if the words end, there is none.
-- Assumes nothing.
use Rattle.std.proofs.Common.{◌≡◌, ℕ, ◌+◌, ◌-◌, ◌*◌, ◌%◌, ◌^◌, length, get_or, Bool, bit_and, ap, ◌∙◌, arith}
use mir.Val.{bool_byte}
use Rattle.bits.specs.Walk.{Seen, flipped}
use Rattle.bits.proofs.Find.{seen_masked, seen_none, found-one}
use Rattle.bits.proofs.index.bit_vector_index_of.Goals.{After-flip}
use Rattle.bits.proofs.index.bit_vector_index_of.Goals as goal

-- the ones of a word
seen_here : (c : After-flip) → let a = c.args in Seen a.buf.now (32 * length a.buf.now) a.start (bool_byte a.value) c.loop-i.i (bit_and c.flip.result c.loop-i.mask)
seen_here c =
    let a = c.args in
    let l = c.loop-i in
    let same : (v : Bool) → v ≡ a.value → flipped (get_or a.buf.now l.i 0) v ≡ flipped (get_or a.buf.now l.i 0) a.value =
    λ v e. ap (flipped (get_or a.buf.now l.i 0)) e in
    rw (c.flip.ensures ∙ same _ (grind arith))
    (seen_masked a.buf.now (32 * length a.buf.now) a.start a.value l.i l.mask (c.type_inv.buf l.i).fits (omega arith) (omega arith)
    (λ k p q r. l.invariant.none k p q) l.invariant.mask)

pub returns-then-bits-ne0 : goal.returns-then-bits-ne0
returns-then-bits-ne0 c =
    let a = c.args in
    let l = c.loop-i in
    found-one a.buf.now a.start (bool_byte a.value) l.i (bit_and c.flip.result l.mask)
    (seen_here (goal.at.returns-then-bits-ne0 c).After-flip) c.if-bits-ne0.true

pub loop-i-preserved : goal.loop-i-preserved
loop-i-preserved c =
    let a = c.args in
    let l = c.loop-i in
    let past : 0 ≡ a.start - 32 * (l.i + 1) = omega arith in
    record {
      mask = ap (λ (n : ℕ). 4294967295 * 2 ^ n % 2 ^ 32) past;
      none = λ k p q. seen_none a.buf.now (32 * length a.buf.now) a.start (bool_byte a.value) l.i (bit_and c.flip.result l.mask)
          (seen_here (goal.at.loop-i-preserved c).After-flip) c.if-bits-ne0.false k p q (omega arith);
    }
