-- What a search knows of the free runs that it has passed, from the window's start a on. Assumes nothing.
use Rattle.std.proofs.Common.{◌≡◌, ℕ, ◌-◌, ◌≤◌, ◌<◌, max, List, subst, arith}
use Rattle.std.specs.Prelude.{Option, Some, None}
use Rattle.std.specs.declared.ops.Range.{Range}
use Rattle.bits.specs.Walk.{Seen}
use Rattle.runs.specs.Window.{UsedIn, NoFit, Lowest, Tightened}
use Rattle.runs.specs.Steps.{RunFrom, Stepped, StepAnswer}
use Rattle.runs.specs.declared.ranges.BitVectorRangeIterator.{BitVectorRangeIterator}
use Rattle.runs.specs.declared.window.Passed.{Passed}
use Rattle.runs.proofs.Laws.{Known, no_fit_yet, known_first, known_next, known_fit, known_end, fit_here}

-- up to where: the end of the last run, or the window's start
abbrev pub passed_to : ℕ → Option Passed → ℕ
passed_to a None = a
passed_to a (Some p) = p.last

abbrev pub KnownBy : List ℕ → ℕ → ℕ → ℕ → Option Passed → Type 0
KnownBy ws a end n None = Unit {0}
KnownBy ws a end n (Some p) = Known ws a end n p.last p.first p.longest

-- with the walk w over the window
pub record Searches (ws : List ℕ) (a end n : ℕ) (o : Option Passed) (w : BitVectorRangeIterator) : Type 0 where
  pub words : w.slice.now ≡ ws
  pub until : w.end ≡ end
  pub known : KnownBy ws a end n o
  pub seen : Seen ws end (passed_to a o) 0 w.at w.word

module _ (ws : List ℕ) (a end n : ℕ) where
  low : (o : Option Passed) → KnownBy ws a end n o → a ≤ passed_to a o
  low None k = omega arith
  low (Some p) k = omega (arith, k.part.low, k.part.some)

  no_fit : (o : Option Passed) → KnownBy ws a end n o → NoFit ws end n a (passed_to a o)
  no_fit None k = no_fit_yet ws end n a
  no_fit (Some p) k = known_fit ws a end n p.last p.first p.longest k

  -- what the next step answers
  pub stepped : (o : Option Passed) (w v : BitVectorRangeIterator) (r : Option (Range ℕ)) → Searches ws a end n o w → StepAnswer w v n r
      → Stepped ws end n (passed_to a o) r v
  stepped o w v r s f =
      let p = passed_to a o in
      let F : List ℕ → ℕ → Type 0 = λ xs e. Seen xs e p 0 w.at w.word → Stepped xs e n p r v in
      subst (λ (e : ℕ). F ws e) s.until (subst (λ (xs : List ℕ). F xs w.end) s.words (f p)) s.seen

  pub fits : (o : Option Passed) (s e : ℕ) (v : BitVectorRangeIterator) → 0 < n → KnownBy ws a end n o → RunFrom ws end n (passed_to a o) s e v → n ≤ e - s
      → Lowest ws a end n s
  fits o s e v pos k r g = fit_here ws a end n (passed_to a o) s e v pos (low o k) (no_fit o k) r g

  -- no run is left
  pub full : (o : Option Passed) → o ≡ None → UsedIn ws (passed_to a o) end → UsedIn ws a end
  full o e u = rw e at u

  pub tight : (o : Option Passed) (p : Passed) → o ≡ Some p → KnownBy ws a end n o → UsedIn ws (passed_to a o) end
      → Tightened ws a end p.first p.last p.longest × (p.longest < n)
  tight o p e k u =
      let known : Known ws a end n p.last p.first p.longest = rw e at k in
      (known_end ws a end n p.last p.first p.longest known (rw e at u), known.less)

  -- a run that is too short
  pub first_run : (o : Option Passed) (s e : ℕ) (v : BitVectorRangeIterator) → o ≡ None → RunFrom ws end n (passed_to a o) s e v → e - s < n
      → Known ws a end n e s (e - s)
  first_run o s e v is r g = known_first ws a end n s e v (rw is at r) g

  pub next_run : (o : Option Passed) (p : Passed) (s e m : ℕ) (v : BitVectorRangeIterator) → o ≡ Some p → KnownBy ws a end n o
      → RunFrom ws end n (passed_to a o) s e v → e - s < n → m ≡ max p.longest (e - s) → Known ws a end n e p.first m
  next_run o p s e m v is k r g h = known_next ws a end n p.last p.first p.longest s e m v (rw is at k) (rw is at r) g h
