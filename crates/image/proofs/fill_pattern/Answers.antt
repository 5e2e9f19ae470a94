-- The loop keeps: the first `i` bytes of the run are the pattern's. At its end the run is filled whole, and stands in the image. Assumes
-- nothing.
use Rattle.std.proofs.Common.{ℕ, ◌≡◌, ◌+◌, ◌-◌, List, length, take, drop, set, sym, ap, ◌∙◌, arith, rules, length-drop}
use Rattle.std.proofs.lemmas.List.{length-take}
use borrow.Rule.Slice.PartMut.{put_mid}
use native.Mathlib.Nat.{zero-add}
use Rattle.image.specs.Image.{pattern_byte, repeated, filled_at}
use Rattle.text.proofs.Put.{part}
use Rattle.image.proofs.Image.{filled_none, one_more, whole_run, byte_of, length_repeated}
use Rattle.image.proofs.fill_pattern.Goals as goal

pub loop-i-init : goal.loop-i-init
loop-i-init c = let a = c.args in sym (filled_none (take (a.at + a.n - a.at) (drop a.at a.image.now)) 0 a.pattern)

-- a turn that puts the pattern's byte
turn : (run bytes : List ℕ) (i pattern byte : ℕ) → bytes ≡ filled_at run 0 i pattern → byte ≡ pattern_byte pattern i → set bytes i byte ≡ filled_at run 0 (i + 1) pattern
turn run bytes i pattern byte e f =
    ap (λ (o : List ℕ). set o i byte) e ∙ ap (set (filled_at run 0 i pattern) i) f
    ∙ ap (λ (k : ℕ). set (filled_at run 0 i pattern) k (pattern_byte pattern i)) (sym (zero-add i)) ∙ one_more run 0 i pattern

pub loop-i-preserved : goal.loop-i-preserved
loop-i-preserved c = let a = c.args in
    let l = c.loop-i in
    turn (take (a.at + a.n - a.at) (drop a.at a.image.now)) l.byte-items l.i a.pattern _ l.invariant (search (rules, byte_of))

pub returns : goal.returns
returns c = let a = c.args in
    let l = c.loop-i in
    let run : List ℕ = take (a.at + a.n - a.at) (drop a.at a.image.now) in
    let n : length run ≡ a.n = simp (length-take, length-drop) (omega arith) in
    ap (put_mid a.at (a.at + a.n - a.at) a.image.now) (l.invariant ∙ ap (λ (k : ℕ). filled_at run 0 k a.pattern) (omega (arith, n)) ∙ whole_run run a.n a.pattern n)
    ∙ part a.image.now (repeated a.pattern a.n) a.at _ (omega (arith, length_repeated a.pattern a.n)) (omega (arith, length_repeated a.pattern a.n))
