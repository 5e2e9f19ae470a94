-- A walk of the function's MIR, by hand. The ghost step is `Lent.antt`'s `lends_mid`, taken at the exit.
-- Assumes `Logic`.
use mathlib.Core.Path.{◌≡◌, refl, sym, ◌∙◌, ap}
use Prim.Native.Nat.{ℕ, ◌<◌, ◌≤◌, ◌^◌, ◌+◌, ◌*◌, ◌-◌}
use native.Mathlib.Omega.{arith}
use mathlib.Core.List.{List, [], ◌∷◌, ◌++◌}
use lib.ListN.{length, take, drop as drop_list, take-append-drop, length-drop}
use mir.Syntax.{named, w64}
use mir.Val.{vint}
use base.Fml.{ftrue, flft}
use contract.Monad.{fact, fact_i}
use contract.Running.{tables}
use types.Kit.{‵, raw, ◌⊛◌, some, later, ◌$◌, ◌∵◌, !, qed, move, keep, use0, use2, split, split3, join, pick, fsplit, fjoin, suffices, frame, await, done}
use types.Run.{stop, fld, lit, bin, addr, and_then, no_more, returns, enter}
use types.ByLocal.{alloc_all, pass_all, free_all, look_at, get, get_in, through, sets, is}
use types.Part.{agg, whole, sub}
use denote.RattleType.{owns}
use denote.Builtin.{u32, usize}
use denote.Exit.{yes, no}
use denote.Plain.{uint_vals, uint_Tells}
use denote.Signature.{plain, mut_slice_of}
use denote.Slice.{MutSlice, Room, slice_val, mut_slice_vals, mut_slice_Tells}
use denote.Steps.{nothing, heard}
use denote.Triple.Walked.{Stays, stay_dropped, walk_of, ends_at, Goes-dropped, Goes-spent_slice}
use borrow.Table.Elements.{at, at_mul, length-take-le}
use Rattle.std.proofs.raw_atomic.Walks.{proved}
use Rattle.slots.proofs.Lent.{mid_lent, lends_mid}
use Rattle.slots.specs.contracts.slot_mut as f
use Rattle.slots.proofs.slot_mut.Statement.{statement}
use Rattle.slots.proofs.slot_mut.Code as code

abbrev stayed : Stays f.ended.signature.params f.ended.kept
stayed = (stay_dropped (mut_slice_of (0 ∷ []) tt (plain (λ _. u32))) no, (stay_dropped (plain (λ _. usize)) yes, (stay_dropped (plain (λ _. usize)) yes, tt)))

pub slot_mut_spec : {M : Type 1} → statement M
slot_mut_spec 𝓤 𝓛 𝓜 𝓡 wired =
    let c = f.clauses 𝓛 𝓜.mem 𝓡.returns in let W = walk_of 𝓛 f.ended stayed c in let 𝓣 = tables 𝓤 𝓛.H 𝓜 𝓡 𝓡.env in
    let number = Goes-dropped 𝓛 1 (plain (λ _. usize)) yes (λ κs x w. refl) in
    proved 𝓛 f.ended stayed c 𝓜 𝓡 (Goes-spent_slice 𝓛 1 (0 ∷ []) tt (plain (λ _. u32)), (number, (number, tt)))
    f.Key.name code.function (code.unfolded 𝓤 𝓛.H 𝓜 𝓡 wired)
    (λ κs. (mut_slice_vals, (uint_vals w64, (uint_vals w64, tt)))) (λ κs. (mut_slice_Tells (named 0) κs.0 u32, (uint_Tells w64, (uint_Tells w64, tt)))) (λ κs qs bounds a _ are.
    let κ = κs.0 in let q = qs.0 in let b = a.0.ref_ptr.0 in let o = a.0.ref_ptr.1 in let γ = a.0.ghost_name in let xs : List ℕ = a.0.now in let i : ℕ = a.1.0 in let w : ℕ = a.1.1.0 in
    let y : W.Ghost = ((κs, qs, bounds, a, (mut_slice_vals a.0, (vint w64 i ∷ [], (vint w64 w ∷ [], tt)))), tt) in
    let rm : Room u32 (length xs) = are.0.0.1 in
    qed 𝓛 (((‵ (flft κ q) ⊛ ‵ ftrue) ⊛ ‵ (owns (MutSlice (named 0) κ u32 ∷ usize ∷ usize ∷ []) a y.0.4)) ∷ raw (fact 𝓤 ((i + 1) * w ≤ length xs)) ∷ []) ∵
    move ! (1 ∷ []) $ heard ! _ (λ asked. split ! $ split ! $ move ! (2 ∷ []) $ fsplit ! $ keep ! (0 ∷ 2 ∷ 3 ∷ []) $
    -- [words; its token; true]
    let st : ℕ = i * w in
    let front : List ℕ = take st xs in
    let mid : List ℕ = take w (drop_list st xs) in
    let back : List ℕ = drop_list w (drop_list st xs) in
    let left : length (drop_list st xs) ≡ length xs - st = length-drop st xs in
    let before : length front ≡ st = length-take-le st xs (omega arith) in
    let count : length mid ≡ w = length-take-le w (drop_list st xs) (omega arith) in
    let cut : xs ≡ front ++ (mid ++ back) = sym (take-append-drop st xs) ∙ ap (λ (l : List ℕ). front ++ l) (sym (take-append-drop w (drop_list st xs))) in
    let on : at o 4 (length front) ≡ st * 4 + o = at_mul o 4 (length front) ∙ ap (λ (k : ℕ). k * 4 + o) before in
    let long : length xs < 2 ^ 64 = rm.0 in
    let bytes : length xs * 4 < 2 ^ 63 = rm.1 in
    let a_fits : st < 2 ^ 64 = omega arith in
    let e_fits : st + w < 2 ^ 64 = omega arith in
    let o_fits : st * 4 < 2 ^ 64 = omega arith in
    let m_fits : length mid < 2 ^ 64 = omega arith in
    let m_bytes : length mid * 4 < 2 ^ 63 = omega arith in
    let m_is : st + w - st ≡ length mid = omega arith in
    enter ! _ _ _ _ _ $ alloc_all ! (λ l. pass_all ! refl ((tt, (tt, (record { fits = long }, tt))), ((tt, record { fits = are.1.0.1 }), ((tt, record { fits = are.1.1.0.1 }), tt))) $
    -- let a = slot * w;
    sets ! (bin ! (get ! refl) (get ! refl) (record { fits = a_fits })) refl (tt, record { fits = a_fits }) $
    -- let e = a + w;
    sets ! (bin ! (get ! refl) (get ! refl) (record { fits = e_fits })) refl (tt, record { fits = e_fits }) $
    -- &mut words[a..e]
    sets ! (bin ! (get ! refl) (lit ! tt) (record { fits = o_fits })) refl (tt, record { fits = o_fits }) $
    sets ! (bin ! (get_in ! (fld ! refl (stop !)) (sub ! 0 refl (whole !))) (get ! refl) tt) refl (tt, tt) $
    sets ! (is ! (bin ! (get ! refl) (get ! refl) (omega arith)) (ap (vint w64) m_is)) refl (tt, record { fits = m_fits }) $
    sets ! (addr ! (through ! refl (stop !))) refl (tt, tt) $
    sets ! (agg ! (and_then ! (get ! refl) (and_then ! (get ! refl) (no_more !)))) refl (tt, (tt, (record { fits = m_fits }, tt))) $
    -- the part under a name of its own
    use2 𝓛 (later (some (mid_lent 𝓛 u32 (named 0) κ q b o γ xs front mid back cut (st * 4 + o) on (m_fits, m_bytes)))) (lends_mid 𝓛 u32 (named 0) κ q b o γ xs front mid back cut (st * 4 + o) on (m_fits, m_bytes) (mut_slice_vals a.0)) $ await ! tt $ pick ! (λ δ.
    returns ! (look_at ! 0 refl) $ free_all ! refl $ keep ! (0 ∷ 2 ∷ []) $ split3 ! $
    -- [the part; the token; what the whole ends as; true]
    suffices ! _ (ends_at 𝓛 f.ended stayed c y (slice_val (b, st * 4 + o) (length mid)) (record { ref_ptr = (b, st * 4 + o); ghost_name = δ; now = mid }) (tt, (tt, (tt, tt))) (tt, (tt, (tt, tt)))) $
    nothing ! $ nothing ! $ fjoin ! $ nothing ! $ fjoin ! $ nothing ! $ fjoin ! $ join ! $ move ! (1 ∷ 3 ∷ []) $ join ! $ join ! $ frame ! $
    use0 𝓛 (raw (fact 𝓤 (mid ≡ mid))) (fact_i 𝓤 (mid ≡ mid) _ refl) $ frame ! $ done !))))
