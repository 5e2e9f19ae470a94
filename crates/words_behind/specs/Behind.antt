-- Words from slots times W on are neither read nor written. Assumes nothing.
use Rattle.std.specs.Prelude.{ℕ, List, ◌++◌, ◌≡◌, take, drop}
use Rattle.machine.specs.Turn.{Turn, turn}
use Rattle.machine.specs.Machine.{Call, create, alloc, release, shrink, query, soft_reset, hard_reset}

-- what a turn leaves, with more words after its maps
abbrev pub behind : Turn → List ℕ → List ℕ → Turn
behind x v w = turn x.answer x.state (x.used ++ v) (x.stop ++ w)

-- a call on a state: a creation makes its own
abbrev pub OnState : Call → Type 0
OnState (create a) = ⊥
OnState (alloc size) = Unit {0}
OnState (release a) = Unit {0}
OnState (shrink a size) = Unit {0}
OnState (query a) = Unit {0}
OnState soft_reset = Unit {0}
OnState hard_reset = Unit {0}

-- two turns on maps that agree below n: the same answer and record, the same words below n, and each map's own words from n on
pub record Agree (n : ℕ) (u t u' t' : List ℕ) (x y : Turn) : Type 0 where
  pub answer : x.answer ≡ y.answer
  pub state : x.state ≡ y.state
  pub used : take n x.used ≡ take n y.used
  pub stop : take n x.stop ≡ take n y.stop
  pub used_behind : drop n x.used ≡ drop n u
  pub stop_behind : drop n x.stop ≡ drop n t
  pub used_behind' : drop n y.used ≡ drop n u'
  pub stop_behind' : drop n y.stop ≡ drop n t'
