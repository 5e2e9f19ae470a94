-- Every state that calls reach is sound with its ledger, its lists have their lengths, and its maps are 32-bit words. Assumes nothing.
use Prim.Native.Nat.{ℕ}
use mathlib.Core.List.{List, []}
use mathlib.Core.Bool.{Bool, true, false}
use mathlib.Core.Path.{◌≡◌, refl, sym, subst}
use native.Mathlib.Omega.{arith}
use lib.ListN.{length}
use Rattle.numbers.specs.Pick.{pick}
use Rattle.bits.specs.Bits.{Words}
use Rattle.state.specs.declared.State.{State}
use Rattle.state.specs.declared.Span.{Span}
use Rattle.state.specs.declared.Answer.TheVariants.{Created}
use Rattle.state.specs.declared.Refusal.TheVariants.{InvalidArgument}
use Rattle.state.specs.Table.{zero_state}
use Rattle.machine.specs.Turn.{Turn, refuse}
use Rattle.state.specs.declared.Asked.{Asked}
use Rattle.machine.specs.Create.{slots_of, grantable, granted, create_turn}
use Rattle.machine.specs.Machine.{Call, step}
use Rattle.shape_kept.specs.Sized.{Sized}
use Rattle.shape_kept.proofs.Sized.{sized_kept}
use Rattle.shape_kept.proofs.Head.{good_same}
use Rattle.shape_kept.proofs.Words.{created_long}
use Rattle.shape_kept.proofs.Empty.{created_good}
use Rattle.ledger.specs.Ledger.{enter}
use Rattle.ledger.specs.Agrees.{Sound}
use Rattle.ledger.specs.Reached.{Reached, created, called}
use Rattle.ledger.proofs.Words.{step_words, created_words}
use Rattle.ledger.proofs.Step.{step_sound, created_right}

-- a creation that answers Created was granted
granted_is : (a : Asked) (u t : List ℕ) (size g pools : ℕ) → (create_turn a u t).answer ≡ Created size g pools
    → (grantable a (length u) (length t) ≡ true) × (create_turn a u t ≡ granted a (slots_of a.w (length u) (length t)) u t)
unfolding create_turn
granted_is a u t size g pools e = go (grantable a (length u) (length t)) refl e
  where
    go : (c : Bool) → grantable a (length u) (length t) ≡ c
        → (pick c (granted a (slots_of a.w (length u) (length t)) u t) (refuse InvalidArgument zero_state u t)).answer ≡ Created size g pools
        → (grantable a (length u) (length t) ≡ true) × (pick c (granted a (slots_of a.w (length u) (length t)) u t) (refuse InvalidArgument zero_state u t) ≡ granted a (slots_of a.w (length u) (length t)) u t)
    go true q z = (q, refl)
    go false q z = let y : ◌≡◌ {A = ℕ} 0 1 = cc in absurd (omega arith)

-- all that is known of a state that was reached
pub record Known (s : State) (u t : List ℕ) (l : List Span) : Type 0 where
  pub sound : Sound s u t l
  pub sized : Sized s
  pub used_words : Words u
  pub stop_words : Words t

abbrev Left : Turn → List Span → Type 0
Left x l = Known x.state x.used x.stop l

pub step_known : (s : State) (u t : List ℕ) (l : List Span) → Known s u t l → (c : Call) → Left (step s u t c) (enter (step s u t c).answer l)
step_known s u t l k c =
    let w = step_words s u t k.used_words k.stop_words c in
    record { sound = step_sound s u t l k.sound k.sized c; sized = sized_kept s u t k.sized c; used_words = w.0; stop_words = w.1 }

created_known : (a : Asked) (u t : List ℕ) → Words u → Words t → grantable a (length u) (length t) ≡ true → Left (granted a (slots_of a.w (length u) (length t)) u t) []
created_known a u t wu wt e =
    let x = granted a (slots_of a.w (length u) (length t)) u t in
    let r = created_right a u t [] in
    let q = created_long a u t in
    let w = created_words a u t wu wt in
    record {
      sound = record { shape = good_same x.state (length u) (length t) _ _ q.0 q.1 (created_good a (length u) (length t) e); agrees = r.agrees; live = r.live };
      sized = record { blocks = refl; order = refl; pools = refl };
      used_words = w.0;
      stop_words = w.1;
    }

pub reached_known : {s : State} {u t : List ℕ} {l : List Span} → Reached s u t l → Known s u t l
reached_known (created a u t wu wt size g pools e) =
    let q = granted_is a u t size g pools e in
    subst (λ (x : Turn). Left x []) (sym q.1) (created_known a u t wu wt q.0)
reached_known (called {s} {u} {t} {l} r c) = step_known s u t l (reached_known r) c

pub reached_sound : {s : State} {u t : List ℕ} {l : List Span} → Reached s u t l → Sound s u t l
reached_sound r = (reached_known r).sound
