-- The text of a number that is not below 10 is that of `n / 10` and its last digit (`more`). Assumes nothing.
use Rattle.std.proofs.Common.{ℕ, List, subst}
use Rattle.text.specs.Put.{Puts}
use Rattle.text.proofs.Put.{join}
use Rattle.text.proofs.Digits.{more}
use Rattle.text.proofs.+put_decimal.Goals as goal

pub returns : goal.returns
returns t c = let a = c.args in
    subst (λ (bs : List ℕ). Puts a.out.now a.at bs c.put_byte-2.new.out c.put_byte-2.result) (more a.n c.if-n-lt10.false c.ranges.n.fits)
    (join c.put_decimal-last.ensures c.put_byte-2.ensures)
