-- A part of a `&κ mut [R]` is lent on under a name of its own, for all the time that the slice has left, and the whole's name follows the part's. These are ghost steps: no code is walked.
--     lends_mid          what a `&κ mut [R]` on front ++ (mid ++ back) owns, with a token, updates to what a `&κ mut [R]` on mid owns, under a new name δ, the token and `follows` from δ to γ by ws ↦ front ++ (ws ++ back)
--     lends_slice_again, comes_back_slice      a `&κ mut [R]` is lent whole for κ' and, once κ' is over, comes back at the loan's last list
--     part_told          with `Back.antt`'s `LendsPart`, what says the part's last list says the whole's
--     lends_goes_back    `LendsPart` gives `Back.antt`'s `GoesBack`, at any lifetimes: it promises at least as much
-- Assumes `Logic`. It says nothing of the crate but `LendsPart` and `GoesBack`.
use mathlib.Core.Path.{◌≡◌, refl, sym, ◌∙◌, ap}
use Prim.Native.Nat.{ℕ, ◌+◌}
use native.Mathlib.Omega.{arith}
use mathlib.Core.List.{List, [], ◌∷◌, ◌++◌}
use lib.ListN.{length, length-append}
use seplogic.Ra.Ura.{Ura}
use mir.Syntax.{Lifetime, erased, named}
use mir.Val.{Val}
use base.Logic.{SProp, ent, sep, ex, guard}
use base.Stored.{coded_list}
use base.Fml.{Lft, GName, Share, flft, fdead, fobs, fres, fbor}
use types.Logic.{Logic, sem}
use types.Kit.{Item, mean, given, learn, check, use3, ‵, ◌⊛◌, ◌$◌, ◌∵◌, !, qed, by, move, drop, rewrite, later, some, await, pick, split, split3, join, group, fsplit, fsplit3, fjoin, feq_l, feq_i, use1, use2, assume, each, updating, now, show, done}
use types.SemTy.{cells, Arr, Body}
use types.Follow.{takes_part}
use types.Mut.{open_ref}
use contract.Lifetimes.{Lfts}
use denote.RattleType.{RattleType}
use denote.Memory.{mem}
use denote.Array.{Array}
use denote.Builtin.{u32}
use denote.Follow.{follows}
use denote.FollowSlice.{heres_id, slice_of, followed_slice}
use denote.Ref.{MutBor}
use denote.Slice.{MutSlice, Room, finally, res-finally, slice_val}
use borrow.Rule.Slice.Lend.{kept_f, sl_relend, sl_relent_backˡ}
use borrow.Rule.Slice.PartMut.{put_mid}
use borrow.Table.Elements.{at, cut_app, join_app}
use borrow.Table.Owned as table
use Rattle.slots.specs.Back.{LendsPart, GoesBack}

module _ {M : Type 1} {𝓤 : Ura M} (𝓛 : Logic 𝓤) (R : RattleType) (ℓ : Lifetime) (κ : Lft) (q : Share) (b o : ℕ) (γ : GName) (xs front mid back : List R.Denot) (cut : xs ≡ front ++ (mid ++ back)) (p : ℕ) (on : at o (mem R).size (length front) ≡ p) (rm : Room R (length mid)) where
  open 𝓛 use {H, A}

  abbrev around : List R.Denot → List R.Denot
  around ws = front ++ (ws ++ back)

  -- the part under a new name, the token, and what the slice ends as
  abbrev pub mid_lent : GName → Item 𝓤
  mid_lent δ = ‵ ((MutSlice ℓ κ R).own_val (record { ref_ptr = (b, p); ghost_name = δ; now = mid }) (slice_val (b, p) (length mid) ∷ [])) ⊛ ‵ (flft κ q) ⊛ ‵ (follows (Array R 0) (Array R 0) γ δ around)

  abbrev pub MidLent : GName → SProp 𝓤
  MidLent δ = sep 𝓤 (sem 𝓛 ((MutSlice ℓ κ R).own_val (record { ref_ptr = (b, p); ghost_name = δ; now = mid }) (slice_val (b, p) (length mid) ∷ []))) (sep 𝓤 (A.lft κ q) (sem 𝓛 (follows (Array R 0) (Array R 0) γ δ around)))

  abbrev Others : SProp 𝓤
  Others = sep 𝓤 (sem 𝓛 (cells (mem R) front b o)) (sem 𝓛 (cells (mem R) back b (at p (mem R).size (length mid))))

  put_within : (ws : List R.Denot) → ent 𝓤 (sep 𝓤 (sem 𝓛 ((Arr (mem R) (length mid)).own_at ws b p)) Others) (sem 𝓛 ((Arr (mem R) (length xs)).own_at (around ws) b o))
  put_within ws = qed 𝓛 (‵ ((Arr (mem R) (length mid)).own_at ws b p) ∷ ‵ (cells (mem R) front b o) ∷ ‵ (cells (mem R) back b (at p (mem R).size (length mid))) ∷ []) ∵ fsplit ! $ feq_l ! (λ e.
      let whole : length xs ≡ length front + length (mid ++ back) = ap length cut ∙ length-append front (mid ++ back) in
      let inner : length (mid ++ back) ≡ length mid + length back = length-append mid back in
      let now_whole : length (around ws) ≡ length front + length (ws ++ back) = length-append front (ws ++ back) in
      let now_inner : length (ws ++ back) ≡ length ws + length back = length-append ws back in
      rewrite ! 2 (λ (k : ℕ). ‵ (cells (mem R) back b (at p (mem R).size k))) (sym e) refl $ move ! (0 ∷ 2 ∷ []) $
      use2 𝓛 (‵ (cells (mem R) (ws ++ back) b p)) (join_app 𝓛 (mem R) ws back b p) $
      rewrite ! 0 (λ (k : ℕ). ‵ (cells (mem R) (ws ++ back) b k)) (sym on) refl $ move ! (1 ∷ 0 ∷ []) $
      use2 𝓛 (‵ (cells (mem R) (around ws) b o)) (join_app 𝓛 (mem R) front (ws ++ back) b o) $
      feq_i ! ℕ (length (around ws)) (length xs) (omega arith) $ fjoin ! $ done !)

  pub lends_mid : (vs : List Val)
      → ent 𝓤 (sep 𝓤 (sem 𝓛 ((MutSlice ℓ κ R).own_val (record { ref_ptr = (b, o); ghost_name = γ; now = xs }) vs)) (A.lft κ q)) (H.⇛ (ex 𝓤 MidLent))
  lends_mid vs = qed 𝓛 (‵ ((MutSlice ℓ κ R).own_val (record { ref_ptr = (b, o); ghost_name = γ; now = xs }) vs) ∷ ‵ (flft κ q) ∷ []) ∵ updating ! $ fsplit3 ! $ drop ! $
      rewrite ! 0 (λ (l : List R.Denot). ‵ (fobs γ ((coded_list R.coded).code l))) (heres_id R xs) refl $ open_ref ! tt (Arr (mem R) (length xs)) {b = b} {o = o} $ fsplit ! $ drop ! $
      rewrite ! 0 (λ (l : List R.Denot). ‵ (cells (mem R) l b o)) cut refl $
      use1 𝓛 (‵ (cells (mem R) front b o) ⊛ ‵ (cells (mem R) (mid ++ back) b (at o (mem R).size (length front)))) (cut_app 𝓛 (mem R) front (mid ++ back) b o) $ split ! $ move ! (1 ∷ []) $
      rewrite ! 0 (λ (k : ℕ). ‵ (cells (mem R) (mid ++ back) b k)) on refl $
      use1 𝓛 (‵ (cells (mem R) mid b p) ⊛ ‵ (cells (mem R) back b (at p (mem R).size (length mid)))) (cut_app 𝓛 (mem R) mid back b p) $ split ! $
      -- [the part; the elements after it; those before it; the open borrow; obs and auth of γ]
      feq_i ! ℕ (length mid) (length mid) refl $ fjoin ! $ move ! (2 ∷ 1 ∷ []) $ join ! $ move ! (2 ∷ 3 ∷ 4 ∷ 1 ∷ 0 ∷ []) $ group ! 5 $
      use1 𝓛 (later (some (λ (δ : GName). ‵ (fobs δ ((coded_list R.coded).code mid)) ⊛ ‵ (fbor κ (Body (Arr (mem R) (length mid)) b p δ)) ⊛ ‵ (flft κ q) ⊛ ‵ (follows (Array R 0) (Array R 0) γ δ around))))
      (takes_part 𝓛 (Arr (mem R) (length xs)) (Arr (mem R) (length mid)) around κ q b o b p γ Others put_within ((coded_list R.coded).code xs) ((coded_list R.coded).code xs) mid) $ await ! tt $ pick ! (λ δ. split3 ! $
      use2 𝓛 (‵ ((MutSlice ℓ κ R).own_val (record { ref_ptr = (b, p); ghost_name = δ; now = mid }) (slice_val (b, p) (length mid) ∷ []))) (slice_of 𝓛 R ℓ κ b p δ mid rm) $ now ! $ show ! MidLent δ $ done !)

-- a `&κ mut [R]` is lent whole for κ', and comes back: `Rule/Slice/Lend.antt`'s two laws, with the machine value
module _ {M : Type 1} {𝓤 : Ura M} (𝓛 : Logic 𝓤) (R : RattleType) (ℓ : Lifetime) (κ : Lft) (q : Share) (κ' : Lft) (b o : ℕ) (γ : GName) (xs : List R.Denot) where
  open 𝓛 use {H, A}

  abbrev v : Val
  v = slice_val (b, o) (length xs)

  abbrev pub again_lent : GName → Item 𝓤
  again_lent δ = ‵ ((MutSlice ℓ κ' R).own_val (record { ref_ptr = (b, o); ghost_name = δ; now = xs }) (v ∷ [])) ⊛ kept_f 𝓛 R κ q κ' γ δ xs b o

  pub lends_slice_again : ent 𝓤 (sep 𝓤 (sem 𝓛 ((MutSlice ℓ κ R).own_val (record { ref_ptr = (b, o); ghost_name = γ; now = xs }) (v ∷ []))) (A.lft κ q)) (H.⇛ (ex 𝓤 (λ (δ : GName). mean 𝓛 (again_lent δ))))
  lends_slice_again = qed 𝓛 (‵ ((MutSlice ℓ κ R).own_val (record { ref_ptr = (b, o); ghost_name = γ; now = xs }) (v ∷ [])) ∷ ‵ (flft κ q) ∷ []) ∵ updating ! $ fsplit ! $ fsplit ! $ drop ! $ fjoin ! $
      use2 𝓛 (later (some (λ (δ : GName). ‵ ((table.MutSlice erased κ' R).own_val (record { ref_ptr = (b, o); ghost_name = δ; now = xs })) ⊛ kept_f 𝓛 R κ q κ' γ δ xs b o))) (sl_relend 𝓛 R κ q κ' b o γ xs) $ await ! tt $ pick ! (λ δ. split ! $ fsplit ! $
      feq_i ! (List Val) (v ∷ []) (v ∷ []) refl $ fjoin ! $ fjoin ! $ now ! $ show ! (λ (g : GName). mean 𝓛 (again_lent g)) δ $ done !)

  pub comes_back_slice : (δ : GName) (ys : List R.Denot)
      → ent 𝓤 (sep 𝓤 (A.dead κ') (sep 𝓤 (mean 𝓛 (kept_f 𝓛 R κ q κ' γ δ xs b o)) (sem 𝓛 (finally R δ ys))))
      (H.⇛ (guard 𝓤 (length ys ≡ length xs) (sep 𝓤 (sem 𝓛 ((MutSlice ℓ κ R).own_val (record { ref_ptr = (b, o); ghost_name = γ; now = ys }) (v ∷ []))) (A.lft κ q))))
  comes_back_slice δ ys = qed 𝓛 (‵ (fdead κ') ∷ (kept_f 𝓛 R κ q κ' γ δ xs b o) ∷ ‵ (finally R δ ys) ∷ []) ∵ updating ! $
      use3 𝓛 (later (given (length ys ≡ length xs) (‵ ((table.MutSlice erased κ R).own_val (record { ref_ptr = (b, o); ghost_name = γ; now = ys })) ⊛ ‵ (flft κ q)))) (sl_relent_backˡ 𝓛 R κ q κ' b o γ δ xs ys) $ await ! tt $ learn ! (λ e. split ! $ fsplit ! $
      feq_i ! (List Val) (v ∷ []) (slice_val (b, o) (length ys) ∷ []) (ap (λ (n : ℕ). slice_val (b, o) n ∷ []) (sym e)) $ fjoin ! $ fjoin ! $ now ! $ check ! e $ done !)

module _ {M : Type 1} {𝓤 : Ura M} (𝓛 : Logic 𝓤) (a k : ℕ) (whole part : MutBor (List ℕ)) where
  pub part_told : (ys : List ℕ) → ent 𝓤 (sep 𝓤 (sem 𝓛 (LendsPart a k whole part)) (sem 𝓛 (finally u32 part.ghost_name ys))) (sem 𝓛 (finally u32 whole.ghost_name (put_mid a k whole.now ys)))
  part_told ys = qed 𝓛 (‵ (LendsPart a k whole part) ∷ ‵ (finally u32 part.ghost_name ys) ∷ []) ∵
      use2 𝓛 (‵ (fres whole.ghost_name ((coded_list u32.coded).code (put_mid a k whole.now ys)))) (followed_slice 𝓛 (Array u32 0) u32 (put_mid a k whole.now) whole.ghost_name part.ghost_name ys) $
      rewrite ! 0 (λ (l : List ℕ). ‵ (fres whole.ghost_name ((coded_list u32.coded).code l))) (sym (heres_id u32 (put_mid a k whole.now ys))) refl $
      by ! (res-finally 𝓛 (named 0) [] u32 whole.ghost_name (put_mid a k whole.now ys))

  pub lends_goes_back : (κs : Lfts 1) → ent 𝓤 (sem 𝓛 (LendsPart a k whole part)) (GoesBack 𝓛 κs a k whole part)
  lends_goes_back κs =
      qed 𝓛 (‵ (LendsPart a k whole part) ∷ []) ∵ each ! _ (λ q. each ! _ (λ ys. assume ! (‵ (finally u32 part.ghost_name ys) ⊛ ‵ (flft κs.0 q)) $ updating ! $ split ! $ move ! (2 ∷ 0 ∷ []) $
      use2 𝓛 (‵ (finally u32 whole.ghost_name (put_mid a k whole.now ys))) (part_told ys) $ now ! $ done !))
