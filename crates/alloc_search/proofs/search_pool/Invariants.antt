use Rattle.std.proofs.Common.{◌≡◌, ℕ, ◌-◌, ◌≤◌}
use Rattle.state.specs.Table.{block_at}
use Rattle.machine.specs.Alloc.{search_from, search_pool}
use Rattle.alloc_search.proofs.search_pool.Given as goal

abbrev pub invariant-loop-i : goal.invariant-loop-i
invariant-loop-i l = record {
  words : l.r.w ≡ l.fn.s.w;
  later : (j : ℕ) → l.i ≤ j → block_at l.r j ≡ block_at l.fn.s j;
  rest : search_pool l.fn.s l.used l.pool l.n ≡ search_from l.used l.pool l.n l.i (l.fn.s.count - l.i) l.r;
}
