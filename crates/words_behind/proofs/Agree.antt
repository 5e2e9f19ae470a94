-- Maps that agree below slots times W give the same answer, record and words there, and keep their own words behind; and so does a creation, which
-- reads no word at all. Assumes nothing.
use Prim.Native.Nat.{ℕ, ◌*◌, ◌≤◌}
use mathlib.Core.Bool.{Bool, true, false}
use mathlib.Core.List.{List}
use mathlib.Core.Path.{◌≡◌, refl, sym, ap, ap₂, ◌∙◌}
use native.Mathlib.Omega.{arith}
use lib.ListN.{length, take, drop, replicate, length-replicate, take-append-drop}
use lib.Seq.{length-take-le, take_at, drop_at}
use Rattle.numbers.specs.Pick.{pick}
use Rattle.state.specs.declared.State.{State}
use Rattle.state.specs.declared.Refusal.TheVariants.{InvalidArgument}
use Rattle.state.specs.Table.{zero_state}
use Rattle.machine.specs.Turn.{Turn, refuse}
use Rattle.state.specs.declared.Asked.{Asked}
use Rattle.machine.specs.Create.{slots_of, grantable, granted, create_turn}
use Rattle.machine.specs.Machine.{Call, step}
use Rattle.shape_kept.specs.Sized.{Sized}
use Rattle.shape_kept.proofs.Words.{words_kept}
use Rattle.words_behind.specs.Behind.{behind, OnState, Agree}
use Rattle.words_behind.proofs.Behind.{words_behind}

module _ (s : State) (z : Sized s) (c : Call) (o : OnState c) where
  abbrev n : ℕ
  n = s.slots * s.w

  module _ (u t : List ℕ) (room : n ≤ length u) (stop_room : n ≤ length t) where
    -- a call is its turn on the words below, with the rest behind
    apart : step s u t c ≡ behind (step s (take n u) (take n t) c) (drop n u) (drop n t)
    apart =
        ap₂ (λ (x y : List ℕ). step s x y c) (sym (take-append-drop n u)) (sym (take-append-drop n t))
        ∙ words_behind s (take n u) (take n t) (drop n u) (drop n t) z (omega (arith, length-take-le n u room)) (omega (arith, length-take-le n t stop_room)) c o

    long : (length (step s (take n u) (take n t) c).used ≡ n) × (length (step s (take n u) (take n t) c).stop ≡ n)
    long =
        let k = words_kept s (take n u) (take n t) z c in
        (k.0 ∙ length-take-le n u room, k.1 ∙ length-take-le n t stop_room)

    used_below : take n (step s u t c).used ≡ (step s (take n u) (take n t) c).used
    used_below = ap (λ (x : Turn). take n x.used) apart ∙ take_at (step s (take n u) (take n t) c).used (drop n u) n long.0

    stop_below : take n (step s u t c).stop ≡ (step s (take n u) (take n t) c).stop
    stop_below = ap (λ (x : Turn). take n x.stop) apart ∙ take_at (step s (take n u) (take n t) c).stop (drop n t) n long.1

    used_beyond : drop n (step s u t c).used ≡ drop n u
    used_beyond = ap (λ (x : Turn). drop n x.used) apart ∙ drop_at (step s (take n u) (take n t) c).used (drop n u) n long.0

    stop_beyond : drop n (step s u t c).stop ≡ drop n t
    stop_beyond = ap (λ (x : Turn). drop n x.stop) apart ∙ drop_at (step s (take n u) (take n t) c).stop (drop n t) n long.1

  pub agree : (u t u' t' : List ℕ) → n ≤ length u → n ≤ length t → n ≤ length u' → n ≤ length t' → take n u ≡ take n u' → take n t ≡ take n t'
      → Agree n u t u' t' (step s u t c) (step s u' t' c)
  agree u t u' t' h k h' k' e f =
      let same : step s (take n u) (take n t) c ≡ step s (take n u') (take n t') c = ap₂ (λ (x y : List ℕ). step s x y c) e f in
      record {
        answer = ap (λ (x : Turn). x.answer) (apart u t h k) ∙ ap (λ (x : Turn). x.answer) same ∙ sym (ap (λ (x : Turn). x.answer) (apart u' t' h' k'));
        state = ap (λ (x : Turn). x.state) (apart u t h k) ∙ ap (λ (x : Turn). x.state) same ∙ sym (ap (λ (x : Turn). x.state) (apart u' t' h' k'));
        used = used_below u t h k ∙ ap (λ (x : Turn). x.used) same ∙ sym (used_below u' t' h' k');
        stop = stop_below u t h k ∙ ap (λ (x : Turn). x.stop) same ∙ sym (stop_below u' t' h' k');
        used_behind = used_beyond u t h k;
        stop_behind = stop_beyond u t h k;
        used_behind' = used_beyond u' t' h' k';
        stop_behind' = stop_beyond u' t' h' k';
      }

-- ---- a creation
abbrev made : Asked → List ℕ → List ℕ → Bool → Turn
made a u t ok = pick ok (granted a (slots_of a.w (length u) (length t)) u t) (refuse InvalidArgument zero_state u t)

module _ (a : Asked) where
  -- by the lengths alone
  same_made : (u t u' t' : List ℕ) → length u ≡ length u' → length t ≡ length t' → (ok : Bool)
      → ((made a u t ok).answer ≡ (made a u' t' ok).answer) × ((made a u t ok).state ≡ (made a u' t' ok).state)
  same_made u t u' t' e f true = (refl, ap₂ (λ (x y : ℕ). (granted a (slots_of a.w x y) u t).state) e f)
  same_made u t u' t' e f false = (refl, refl)

  pub created_alike : (u t u' t' : List ℕ) → length u ≡ length u' → length t ≡ length t'
      → ((create_turn a u t).answer ≡ (create_turn a u' t').answer) × ((create_turn a u t).state ≡ (create_turn a u' t').state)
  unfolding create_turn
  created_alike u t u' t' e f =
      let ok = ap₂ (λ (x y : ℕ). grantable a x y) e f in
      let q = same_made u t u' t' e f (grantable a (length u') (length t')) in
      (ap (λ (b : Bool). (made a u t b).answer) ok ∙ q.0, ap (λ (b : Bool). (made a u t b).state) ok ∙ q.1)

  -- words behind the slots that it makes are kept; refused, all are
  kept_behind : (u t : List ℕ) (ok : Bool) → let k = slots_of a.w (length u) (length t) * a.w in
      (drop k (made a u t ok).used ≡ drop k u) × (drop k (made a u t ok).stop ≡ drop k t)
  kept_behind u t true =
      let k = slots_of a.w (length u) (length t) * a.w in
      (drop_at (replicate k 0) (drop k u) k (length-replicate k 0), drop_at (replicate k 0) (drop k t) k (length-replicate k 0))
  kept_behind u t false = (refl, refl)

  pub created_behind : (u t : List ℕ) → let k = slots_of a.w (length u) (length t) * a.w in
      (drop k (create_turn a u t).used ≡ drop k u) × (drop k (create_turn a u t).stop ≡ drop k t)
  unfolding create_turn
  created_behind u t = kept_behind u t (grantable a (length u) (length t))
