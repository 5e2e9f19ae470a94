-- A run that takes no byte makes no call. Assumes nothing.
use Rattle.std.proofs.Common.{ℕ, zero, suc, List, Bool, ◌≡◌, refl, sym, arith, ◌∙◌}
use Rattle.std.specs.Prelude.{Result, Ok, Err}
use Rattle.state.specs.declared.State.{State}
use Rattle.records.specs.declared.Record.{Record}
use Rattle.records.specs.declared.Unread.{Unread}
use Rattle.records.specs.declared.Unread.TheVariants.{Cut, Bad}
use Rattle.records.specs.Records.{record_of}
use Rattle.records.proofs.Ways.{whole_size}
use Rattle.trace.specs.Play.{after_record, play, Plays}

-- the maps are as they were
abbrev pub SameMaps : List ℕ → List ℕ → List ℕ → List ℕ → Type 0
SameMaps u t v w = (v ≡ u) × (w ≡ t)

by_record : (k : ℕ) (s : State) (u t bs : List ℕ) (r : Result Record Unread) → record_of bs ≡ r → (after_record (play k) s u t bs r).taken ≡ 0
    → SameMaps u t (after_record (play k) s u t bs r).used (after_record (play k) s u t bs r).stop
by_record k s u t bs (Err Cut) e h = (refl, refl)
by_record k s u t bs (Err Bad) e h = (refl, refl)
by_record k s u t bs (Ok r) e h = absurd (omega (arith, h, (whole_size r bs e).0))

none_taken : (k : ℕ) (s : State) (u t bs : List ℕ) → (play k s u t bs).taken ≡ 0 → SameMaps u t (play k s u t bs).used (play k s u t bs).stop
unfolding play
none_taken zero s u t bs h = (refl, refl)
none_taken (suc k) s u t bs h = by_record k s u t bs (record_of bs) refl h

pub nothing_played : (k : ℕ) (s : State) (u t bs : List ℕ) {before after v w : List ℕ} {x : State} {bad : Bool} {written : ℕ}
    → Plays (play k s u t bs) before x v w 0 bad after written → SameMaps u t v w
nothing_played k s u t bs p = let same = none_taken k s u t bs (sym p.taken) in (p.used ∙ same.0, p.stop ∙ same.1)
