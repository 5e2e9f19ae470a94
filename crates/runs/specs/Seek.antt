-- The search in a window as a function. proofs/Seek.antt proves that its answer is `Sought` (`seek_is`) and that no other answer is
-- (`seek_only`). Assumes nothing.
use Rattle.std.specs.Prelude.{ℕ, zero, suc, ◌+◌, ◌-◌, max, leb, eqb}
use Rattle.numbers.specs.Names.{Units, Map}
use Rattle.numbers.specs.Pick.{pick}
use Rattle.bits.specs.Bits.{bit}
use Rattle.runs.specs.declared.Search.{Search}
use Rattle.runs.specs.declared.Search.TheVariants.{At, Tight, Full}

-- how many units from k on are free in a row, of the next m
unfoldable pub free_from : Map → Units → ℕ → Units
free_from u k zero = 0
free_from u k (suc m) = pick (eqb (bit u k) 0) (suc (free_from u (suc k) m)) 0

-- a place, or none
pub data Fit : Type 0 where
  fits : ℕ → Fit
  none : Fit

-- the lowest place of n free units among the m units from k on
unfoldable pub lowest_fit : Map → Units → Units → ℕ → Fit
lowest_fit u n k zero = none
lowest_fit u n k (suc m) = pick (leb n (free_from u k (suc m))) (fits k) (lowest_fit u n (suc k) m)

-- the length of the longest free run among them
unfoldable pub longest_run : Map → Units → ℕ → Units
longest_run u k zero = 0
longest_run u k (suc m) = max (free_from u k (suc m)) (longest_run u (suc k) m)

-- the end of the last free run among them
unfoldable pub last_end : Map → Units → ℕ → Units
last_end u k zero = k
last_end u k (suc m) = pick (eqb (bit u (k + m)) 0) (k + suc m) (last_end u k m)

-- no place for n units: the window tightens to its free units, if it has one
abbrev pub tight_or : Map → Units → ℕ → Fit → Search
tight_or u a m (fits first) = Tight first (last_end u a m) (longest_run u a m)
tight_or u a m none = Full

abbrev pub place_or : Map → Units → ℕ → Fit → Search
place_or u a m (fits i) = At i
place_or u a m none = tight_or u a m (lowest_fit u 1 a m)

-- the search for n units in the window from start up to end
unfoldable pub seek : Map → Units → Units → Units → Search
seek u start end n = place_or u start (end - start) (lowest_fit u n start (end - start))
