-- Document 01, The trace: what is written for any bytes at all. Assumes nothing.
use Rattle.std.specs.Prelude.{ℕ, ◌-◌, List, ◌++◌, length}
use Rattle.state.specs.Table.{zero_state}
use Rattle.lines.specs.Last.{last_line}
use Rattle.trace.specs.Play.{Run, play}

abbrev pub whole : List ℕ → Run → List ℕ
whole bs p = p.lines ++ last_line p.state p.taken (length bs - p.taken)

-- length bs is enough records: each takes a byte at least
unfoldable pub output : List ℕ → List ℕ → List ℕ → List ℕ
output u t bs = whole bs (play (length bs) zero_state u t bs)
