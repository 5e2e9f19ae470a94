-- Bytes written one behind the other. Assumes nothing.
use Prim.Native.Nat.{ℕ, suc, ◌+◌, ◌≤◌}
use borrow.Rule.Slice.PartMut.{put_mid}
use mathlib.Core.List.{List, [], ◌∷◌, ◌++◌, append_assoc}
use mathlib.Core.Path.{◌≡◌, sym, ap, ◌∙◌}
use native.Mathlib.Nat.{add-zero, add-suc, suc-add}
use native.Mathlib.Omega.{arith}
use lib.ListN.{length, take, drop, length-append}
use lib.Seq.{sets, sets-eq, length-sets, drop-drop}
use Rattle.text.specs.Put.{Puts}

pub sets_append : (bs cs l : List ℕ) (i : ℕ) → sets (sets l i bs) (i + length bs) cs ≡ sets l i (bs ++ cs)
sets_append [] cs l i = ap (λ (k : ℕ). sets l k cs) (add-zero i)
sets_append (b ∷ bs) cs l i =
    ap (λ (k : ℕ). sets (sets l i (b ∷ bs)) k cs) (add-suc i (length bs) ∙ sym (suc-add i (length bs))) ∙ sets_append bs cs (lib.ListN.set l i b) (suc i)

pub size : {a bs b : List ℕ} {at m : ℕ} → Puts a at bs b m → length b ≡ length a
size {a} {bs} {b} {at} p = ap length p.whole ∙ length-sets a at bs

pub join : {a bs b cs d : List ℕ} {at m e : ℕ} → Puts a at bs b m → Puts b m cs d e → Puts a at (bs ++ cs) d e
join {a} {bs} {b} {cs} {d} {at} {m} {e} p q = record {
  place = omega (arith, p.place, q.place, length-append bs cs);
  whole = q.whole ∙ ap (λ (l : List ℕ). sets l m cs) p.whole ∙ ap (λ (k : ℕ). sets (sets a at bs) k cs) p.place ∙ sets_append bs cs a at;
}

-- a part of a list that was written as a whole
pub part : (l bs : List ℕ) (at k : ℕ) → k ≡ length bs → at + length bs ≤ length l → put_mid at k l bs ≡ sets l at bs
part l bs at k e h =
    ap (λ (d : List ℕ). take at l ++ (bs ++ d)) (drop-drop k at l ∙ ap (λ (n : ℕ). drop (at + n) l) e)
    ∙ sym (append_assoc (take at l) bs (drop (at + length bs) l)) ∙ sym (sets-eq bs l at h)
