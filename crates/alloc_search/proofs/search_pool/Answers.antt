-- The loop keeps: a search of all blocks of the given record comes to what a search of the blocks from `i` on comes to in the present one,
-- and those blocks are unchanged. So a hit is the definition's hit, and at the end no block is left to search. Assumes nothing.
use Rattle.std.proofs.Common.{◌≡◌, ℕ, suc, ◌+◌, ◌-◌, ◌<◌, sym, ap, ◌∙◌, arith}
use native.Mathlib.Numerals.{add-one}
use lib.Seq.{get_or-set_other}
use Rattle.state.specs.Table.{zero_block}
use Rattle.machine.specs.Turn.{put_block}
use Rattle.machine.specs.Alloc.{search_from}
use Rattle.machine.proofs.Search.{search_found, search_missed}
use Rattle.alloc_search.proofs.search_pool.Goals as goal

-- what is left is one block and the rest
one_more : (count i : ℕ) → i < count → count - i ≡ suc (count - (i + 1))
one_more count i h = omega arith

pub returns-in-Ok : goal.returns-in-Ok
returns-in-Ok c =
    let a = c.args in
    let l = c.loop-i in
    let more = one_more a.s.count l.i (omega arith) in
    sym (l.invariant.rest ∙ ap (λ (k : ℕ). search_from a.used.now a.pool a.n l.i k l.r) more
    ∙ search_found a.used.now a.pool a.n l.i (a.s.count - (l.i + 1)) c.in-Ok.unit l.r (sym c.look_at.ensures ∙ c.in-Ok.is))

pub loop-i-preserved : goal.loop-i-preserved
loop-i-preserved c =
    let a = c.args in
    let l = c.loop-i in
    let b = c.in-Err.b in
    let more = one_more a.s.count l.i (omega arith) in
    record {
      words = l.invariant.words;
      later = λ j h. get_or-set_other l.r.blocks l.i j b zero_block (λ e. omega arith) ∙ l.invariant.later j (omega arith);
      rest = l.invariant.rest ∙ ap (λ (k : ℕ). search_from a.used.now a.pool a.n l.i k l.r) more
          ∙ search_missed a.used.now a.pool a.n l.i (a.s.count - (l.i + 1)) b l.r (sym c.look_at.ensures ∙ c.in-Err.is)
          ∙ ap (λ (k : ℕ). search_from a.used.now a.pool a.n k (a.s.count - (l.i + 1)) (put_block l.r l.i b)) (sym (add-one l.i));
    }

pub returns : goal.returns
unfolding search_from
returns c =
    let a = c.args in
    let l = c.loop-i in
    let none : a.s.count - l.i ≡ 0 = omega arith in
    sym (l.invariant.rest ∙ ap (λ (k : ℕ). search_from a.used.now a.pool a.n l.i k l.r) none)
