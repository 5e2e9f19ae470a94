use Rattle.std.proofs.Common.{ℕ, ◌+◌, ◌≤◌, ◌≡◌, List, length, refl, ap, ◌∙◌, arith}
use borrow.Rule.Slice.PartMut.{put_mid}
use Rattle.std.proofs.lemmas.Grind.{common_steps}
use Rattle.std.proofs.lemmas.List.Edits.{sets}
use Rattle.text.proofs.Put.{part}
use Rattle.text.proofs.put_bytes.Goals as goal

-- a part that has become the bytes
written : (l bs xs : List ℕ) (at k : ℕ) → xs ≡ bs → k ≡ length bs → at + length bs ≤ length l → put_mid at k l xs ≡ sets l at bs
written l bs xs at k e f h = ap (put_mid at k l) e ∙ part l bs at k f h

pub returns : goal.returns
returns c = let a = c.args in record {
  place = refl;
  whole = written a.out.now a.bytes.now _ a.at _ (grind (arith, common_steps)) (omega arith) (omega arith);
}
