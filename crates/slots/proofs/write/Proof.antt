-- A walk of the function's MIR, by hand. All that it knows of `slot_mut` and `put` is their contracts.
-- `words` is lent for a new lifetime α. `slot_mut` spends that loan, and `put` writes to the part that it returns. By `slot_mut`'s `LendsPart`, what `put` says
-- of the part's last list says the loan's, and once α is over `words` is back at that list. Assumes `Logic`.
use mathlib.Core.Path.{◌≡◌, refl, ◌∙◌, ap}
use Prim.Native.Nat.{ℕ, ◌<◌, ◌≤◌, ◌^◌, ◌+◌, ◌*◌}
use native.Mathlib.Omega.{arith}
use mathlib.Core.Bool.{Bool}
use mathlib.Core.List.{List, [], ◌∷◌}
use lib.ListN.{length}
use base.Fraction.{full_share}
use mir.Syntax.{named, w64}
use mir.Val.{Val, vint, vbool, vunit, bool_byte}
use base.Logic.{id⊢}
use base.Fml.{ftrue, flft}
use contract.Monad.{fact, fact_i}
use contract.Running.{tables}
use types.Kit.{‵, raw, ◌⊛◌, some, given, later, ◌$◌, ◌∵◌, !, qed, move, keep, drop, use0, use1, use2, use3, split, split3, join, fsplit, feq_i, feq_l, pick, learn, await, rewrite, suffices, done}
use types.Run.{stop, hop, fld, from, of_opd, unit_lit, addr, and_then, no_more, returns, enter}
use types.ByLocal.{alloc_all, pass_all, free_all, look_at, look_in_at, get, get_in, sets, lands_as}
use types.Part.{agg, whole, sub}
use types.Tokens.{lft_new, lft_end}
use denote.RattleType.{owns}
use denote.Builtin.{u32, usize, bool, unit}
use denote.Exit.{yes}
use denote.Laws.{shows}
use denote.Plain.{uint_Makes, uint_vals, uint_Tells, bool_Makes, bool_vals, bool_Tells}
use denote.Ref.{MutBor}
use denote.Signature.{plain}
use denote.Slice.{MutSlice, Room, finally, mut_slice_vals, mut_slice_Tells}
use denote.Steps.{nothing, owned, heard, peeks, only}
use denote.Triple.Call.{calls_at}
use denote.Triple.Clauses.{Lasts, lasts}
use denote.Triple.Spec.{triple_of}
use denote.Triple.Table.{framed}
use denote.Triple.Walked.{says, Stays, stay_dropped, stay_slice, walk_of, ends_at, Goes-dropped, Goes-slice}
use borrow.Rule.Slice.PartMut.{put_mid}
use Rattle.std.proofs.raw_atomic.Walks.{proved}
use Rattle.bits.specs.Bits.{filled}
use Rattle.slots.specs.Slots.{slot_of}
use Rattle.slots.specs.Back.{LendsPart}
use Rattle.slots.proofs.Laws.{length_slot}
use Rattle.slots.proofs.Lent.{again_lent, lends_slice_again, comes_back_slice, part_told}
use Rattle.slots.specs.contracts.write as f
use Rattle.slots.proofs.write.Statement.{statement}
use Rattle.slots.proofs.write.Code as code
use Rattle.slots.specs.contracts.slot_mut as g
use Rattle.slots.proofs.slot_mut.Met as slot_mut
use Rattle.slots.specs.contracts.put as h
use Rattle.slots.proofs.put.Met as put

abbrev stayed : Stays f.ended.signature.params f.ended.kept
stayed = let number = stay_dropped (plain (λ _. usize)) yes in
    (stay_slice (0 ∷ []) tt (plain (λ _. u32)), (number, (number, (number, (number, (stay_dropped (plain (λ _. bool)) yes, tt))))))

pub write_spec : {M : Type 1} → statement M
write_spec 𝓤 𝓛 𝓜 𝓡 wired =
    let c = f.clauses 𝓛 𝓜.mem 𝓡.returns in let W = walk_of 𝓛 f.ended stayed c in
    let number = Goes-dropped 𝓛 1 (plain (λ _. usize)) yes (λ κs x w. refl) in
    proved 𝓛 f.ended stayed c 𝓜 𝓡 (Goes-slice 𝓛 1 0 tt (plain (λ _. u32)), (number, (number, (number, (number, (Goes-dropped 𝓛 1 (plain (λ _. bool)) yes (λ κs x w. refl), tt))))))
    f.Key.name code.function (code.unfolded 𝓤 𝓛.H 𝓜 𝓡 wired)
    (λ κs. (mut_slice_vals, (uint_vals w64, (uint_vals w64, (uint_vals w64, (uint_vals w64, (bool_vals, tt)))))))
    (λ κs. (mut_slice_Tells (named 0) κs.0 u32, (uint_Tells w64, (uint_Tells w64, (uint_Tells w64, (uint_Tells w64, (bool_Tells, tt))))))) (λ κs qs bounds a _ are.
    let κ = κs.0 in let q = qs.0 in let b = a.0.ref_ptr.0 in let o = a.0.ref_ptr.1 in let γ = a.0.ghost_name in let xs : List ℕ = a.0.now in
    let i : ℕ = a.1.0 in let w : ℕ = a.1.1.0 in let s : ℕ = a.1.1.1.0 in let n : ℕ = a.1.1.1.1.0 in let t : Bool = a.1.1.1.1.1.0 in
    let y : W.Ghost = ((κs, qs, bounds, a, (mut_slice_vals a.0, (vint w64 i ∷ [], (vint w64 w ∷ [], (vint w64 s ∷ [], (vint w64 n ∷ [], (vbool t ∷ [], tt))))))), tt) in
    let rm : Room u32 (length xs) = are.0.0.1 in
    let w_fits : w < 2 ^ 64 = are.1.1.0.1 in
    let zs : List ℕ = put_mid (i * w) w xs (filled (slot_of w i xs) s n (bool_byte t)) in
    qed 𝓛 (((‵ (flft κ q) ⊛ ‵ ftrue) ⊛ ‵ (owns (MutSlice (named 0) κ u32 ∷ usize ∷ usize ∷ usize ∷ usize ∷ bool ∷ []) a y.0.4)) ∷
    raw (fact 𝓤 (((i + 1) * w ≤ length xs) × (s + n ≤ 32 * w) × (w < 2 ^ 32))) ∷ []) ∵
    move ! (1 ∷ []) $ heard ! _ (λ asked. split ! $ split ! $ move ! (2 ∷ []) $ fsplit ! $ keep ! (0 ∷ 2 ∷ []) $
    enter ! _ _ _ _ _ $ alloc_all ! (λ l. pass_all ! refl ((tt, (tt, (record { fits = rm.0 }, tt))), ((tt, record { fits = are.1.0.1 }), ((tt, record { fits = are.1.1.0.1 }), ((tt, record { fits = are.1.1.1.0.1 }), ((tt, record { fits = are.1.1.1.1.0.1 }), ((tt, tt), tt)))))) $
    -- [words; its token; the locals]
    sets ! (addr ! (from ! (fld ! refl (hop ! (look_in_at ! 1 (sub ! 0 refl (whole !))) (stop !))))) refl (tt, tt) $
    sets ! (agg ! (and_then ! (get ! refl) (and_then ! (get_in ! (fld ! refl (stop !)) (sub ! 1 refl (whole !))) (no_more !)))) refl (tt, (tt, (record { fits = rm.0 }, tt))) $
    lft_new ! tt (λ α.
    move ! (1 ∷ 2 ∷ []) $ use2 𝓛 (later (some (again_lent 𝓛 u32 (named 0) κ q (α ∷ []) b o γ xs))) (lends_slice_again 𝓛 u32 (named 0) κ q (α ∷ []) b o γ xs) $ await ! tt $ pick ! (λ δ. split ! $
    -- [the loan; what words keeps; the token of α; the locals]
    let x : MutBor (List ℕ) = record { ref_ptr = (b, o); ghost_name = δ; now = xs } in
    let G = triple_of 𝓛 g.signature (g.spec 𝓛 𝓜.mem 𝓡.returns) in
    let z : G.Ghost = (((α ∷ [], tt), (full_share, tt), tt, (x, (i, (w, tt))), (mut_slice_vals x, (vint w64 i ∷ [], (vint w64 w ∷ [], tt)))), tt) in
    nothing ! $ owned ! usize _ (uint_Makes 𝓛 w64) w _ (refl, w_fits) $ join ! $ owned ! usize _ (uint_Makes 𝓛 w64) i _ (refl, are.1.0.1) $ join ! $ move ! (1 ∷ 0 ∷ []) $ join ! $
    nothing ! $ move ! (3 ∷ 0 ∷ []) $ join ! $ join ! $
    use0 𝓛 (raw (fact 𝓤 ((i + 1) * w ≤ length xs))) (fact_i 𝓤 ((i + 1) * w ≤ length xs) _ asked.0) $ move ! (1 ∷ 0 ∷ []) $ use2 𝓛 (raw (G.pre z)) (id⊢ 𝓤 _) $
    calls_at ! (framed 𝓤 𝓛.H 𝓜 (tables 𝓤 𝓛.H 𝓜 𝓡 𝓡.env)) G (slot_mut.met 𝓤 𝓛 𝓜 𝓡 (code.calls-slots::slot_mut 𝓡.env wired)) z
    (and_then ! (get ! refl) (and_then ! (get ! refl) (and_then ! (get ! refl) (no_more !)))) (λ v.
    use1 𝓛 (later (some (λ (r : MutBor (List ℕ)). ((‵ (flft (α ∷ []) full_share) ⊛ ‵ ftrue) ⊛ ‵ ((MutSlice (named 0) (α ∷ []) u32).own_val r (v ∷ []))) ⊛
    some (λ (ws : Lasts g.ended z.0.0 z.0.3). ‵ (lasts g.ended z.0.0 z.0.3 ws) ⊛ raw (fact 𝓤 (r.now ≡ slot_of w i xs)) ⊛ ‵ (LendsPart (i * w) w x r))))) (id⊢ 𝓤 _) $
    await ! tt $ pick ! (λ r. split ! $ split ! $ split ! $ move ! (3 ∷ []) $ pick ! (λ ws. split3 ! $ drop ! $ heard ! _ (λ is_slot. move ! (3 ∷ []) $
    peeks ! (MutSlice (named 0) (α ∷ []) u32) _ (shows 𝓛 (MutSlice (named 0) (α ∷ []) u32)) r (v ∷ []) (λ is.
    lands_as ! (ap only is.0.0) refl (tt, (tt, (record { fits = is.0.1.0 }, tt))) $
    rewrite ! 0 (λ (us : List Val). ‵ ((MutSlice (named 0) (α ∷ []) u32).own_val r us)) is.0.0 refl $
    -- [the part; what the loan ends as; the token of α; true; what words keeps; the locals]
    sets ! (addr ! (from ! (fld ! refl (hop ! (look_in_at ! 7 (sub ! 0 refl (whole !))) (stop !))))) refl (tt, tt) $
    sets ! (agg ! (and_then ! (get ! refl) (and_then ! (get_in ! (fld ! refl (stop !)) (sub ! 1 refl (whole !))) (no_more !)))) refl (tt, (tt, (record { fits = is.0.1.0 }, tt))) $
    let P = triple_of 𝓛 h.signature (h.spec 𝓛 𝓜.mem 𝓡.returns) in
    let z' : P.Ghost = (((α ∷ [], tt), (full_share, tt), tt, (r, (s, (n, (t, tt)))), (mut_slice_vals r, (vint w64 s ∷ [], (vint w64 n ∷ [], (vbool t ∷ [], tt))))), tt) in
    let long : length r.now ≡ w = ap (λ (ys : List ℕ). length ys) is_slot ∙ length_slot w i xs asked.0 in
    let ask = (s + n ≤ 32 * length r.now) × (length r.now < 2 ^ 32) in
    let meets : ask = (omega (arith, asked.1), omega (arith, asked.2)) in
    nothing ! $ owned ! bool _ (bool_Makes 𝓛) t _ refl $ join ! $ owned ! usize _ (uint_Makes 𝓛 w64) n _ (refl, are.1.1.1.1.0.1) $ join ! $ owned ! usize _ (uint_Makes 𝓛 w64) s _ (refl, are.1.1.1.0.1) $ join ! $
    move ! (1 ∷ 0 ∷ []) $ join ! $ move ! (2 ∷ 3 ∷ 0 ∷ []) $ join ! $ join ! $
    use0 𝓛 (raw (fact 𝓤 ask)) (fact_i 𝓤 ask _ meets) $ move ! (1 ∷ 0 ∷ []) $ use2 𝓛 (raw (P.pre z')) (id⊢ 𝓤 _) $
    calls_at ! (framed 𝓤 𝓛.H 𝓜 (tables 𝓤 𝓛.H 𝓜 𝓡 𝓡.env)) P (put.met 𝓤 𝓛 𝓜 𝓡 (code.calls-slots::put 𝓡.env wired)) z'
    (and_then ! (get ! refl) (and_then ! (get ! refl) (and_then ! (get ! refl) (and_then ! (get ! refl) (no_more !))))) (λ v'.
    use1 𝓛 (later (some (λ (u : Unit {0}). ((‵ (flft (α ∷ []) full_share) ⊛ ‵ ftrue) ⊛ ‵ (unit.own_val u (v' ∷ []))) ⊛
    some (λ (us : Lasts h.ended z'.0.0 z'.0.3). ‵ (lasts h.ended z'.0.0 z'.0.3 us) ⊛ raw (fact 𝓤 (us.0 ≡ filled r.now s n (bool_byte t))))))) (id⊢ 𝓤 _) $
    await ! tt $ pick ! (λ u. split ! $ split ! $ split ! $ lft_end ! tt $ move ! (2 ∷ []) $ feq_l ! (λ is_unit. lands_as ! (ap only is_unit) refl (tt, tt) $
    move ! (2 ∷ []) $ pick ! (λ us. split ! $ move ! (1 ∷ []) $ heard ! _ (λ is_filled. fsplit ! $ fsplit ! $ fsplit ! $
    rewrite ! 0 (λ (ys : List ℕ). ‵ (finally u32 r.ghost_name ys)) (is_filled ∙ ap (λ (ys : List ℕ). filled ys s n (bool_byte t)) is_slot) refl $
    -- [the part's last list; its length; its borrow; nothing; α is over; true; what the loan ends as; what words keeps; the locals]
    move ! (6 ∷ 0 ∷ []) $ use2 𝓛 (‵ (finally u32 δ zs)) (part_told 𝓛 (i * w) w x r (filled (slot_of w i xs) s n (bool_byte t))) $
    move ! (4 ∷ 6 ∷ 0 ∷ []) $
    use3 𝓛 (later (given (length zs ≡ length xs) (‵ ((MutSlice (named 0) κ u32).own_val (record { ref_ptr = (b, o); ghost_name = γ; now = zs }) (mut_slice_vals a.0)) ⊛ ‵ (flft κ q))))
    (comes_back_slice 𝓛 u32 (named 0) κ q (α ∷ []) b o γ xs δ zs) $ await ! tt $ learn ! (λ same. split ! $
    -- [words; its token; the locals]
    sets ! (of_opd ! (unit_lit !)) refl (tt, tt) $ returns ! (look_at ! 0 refl) $ free_all ! refl $ keep ! (0 ∷ 1 ∷ []) $
    suffices ! _ (ends_at 𝓛 f.ended stayed c y vunit tt (zs, (tt, (tt, (tt, (tt, (tt, tt)))))) (same, (tt, (tt, (tt, (tt, (tt, tt))))))) $ says ! refl $
    feq_i ! (List Val) (vunit ∷ []) (vunit ∷ []) refl $ nothing ! $ nothing ! $ join ! $ nothing ! $ join ! $ nothing ! $ join ! $ nothing ! $ join ! $ nothing ! $ join ! $
    move ! (2 ∷ 0 ∷ []) $ join ! $ nothing ! $ move ! (3 ∷ 0 ∷ []) $ join ! $ done !))))))))))))))))
