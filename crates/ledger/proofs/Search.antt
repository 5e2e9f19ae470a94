-- The search of a pool: what it leaves agrees with the ledger as before, and it finds the first block by age that has a place anywhere in its
-- area, and its lowest place. Assumes nothing.
use Prim.Native.Nat.{ℕ, zero, suc, ◌+◌, ◌≤◌, ◌<◌}
use mathlib.Core.Bool.{Bool, true, false}
use mathlib.Core.List.{List}
use mathlib.Core.Path.{◌≡◌, refl, sym, ap, subst, ◌∙◌}
use native.Mathlib.Omega.{arith}
use borrow.Author.Tests.{eqb-true, eqb-false}
use lib.ListN.{length}
use lib.Seq.{get_or-set_same, get_or-set_other}
use Rattle.numbers.specs.Pick.{pick}
use Rattle.numbers.proofs.Split.{by_eq}
use Rattle.slots.specs.Slots.{slot_of}
use Rattle.block.specs.declared.Block.{Block}
use Rattle.std.specs.Prelude.{Result, Ok, Err, Option, Some, None}
use Rattle.block.specs.Search.{look_into}
use Rattle.block.specs.Window.{Windowed}
use Rattle.block.proofs.Window.{look_found, look_missed}
use Rattle.block.proofs.LiesAs.{missed_lies}
use Rattle.state.specs.declared.State.{State}
use Rattle.state.specs.declared.Span.{Span}
use Rattle.state.specs.declared.Hit.{Hit}
use Rattle.state.specs.declared.Searched.{Searched}
use Rattle.state.specs.Table.{zero_block, block_at}
use Rattle.state.specs.Shape.{in_pool}
use Rattle.machine.specs.Turn.{put_block}
use Rattle.machine.specs.Alloc.{after, search_from, search_pool}
use Rattle.ledger.proofs.SoundBlock.{sound_windowed}
use Rattle.ledger.specs.Agrees.{view_of, Agrees}
use Rattle.ledger.specs.First.{NoPlace, LowestPlace, FirstFrom}
use Rattle.ledger.proofs.Table.{Stands, set_stands}
use Rattle.ledger.proofs.Calls.{room_u, missed_agrees}

module _ (u t : List ℕ) (l : List Span) (p n : ℕ) (pos : 0 < n) where
  -- what a state needs for a search
  pub record Ready (s : State) : Type 0 where
    pub stands : Stands s.granularity s.w s.slots s.count s.blocks (length u) (length t)
    pub agrees : Agrees s.granularity s.w s.slots s.count s.blocks u t l
    pub ends : (j : ℕ) → j < s.count → (block_at s j).end ≤ (block_at s j).area

  pub record Combed (s : State) (i : ℕ) (x : Searched) : Type 0 where
    pub ready : Ready x.state
    pub first : FirstFrom s u p n i x.hit

  -- one block more in front
  first_more : (s : State) (i : ℕ) → ((block_at s i).pool ≡ p → NoPlace s.w u n (block_at s i)) → (h : Option Hit) → FirstFrom s u p n (suc i) h → FirstFrom s u p n i h
  first_more s i f (Some hit) q = (
    omega (arith, q.0),
    q.1,
    q.2,
    q.3,
    λ o a b e. by_eq o i
        (λ z. subst (λ (o : ℕ). NoPlace s.w u n (block_at s o)) (sym z) (f (ap (λ (o : ℕ). (block_at s o).pool) (sym z) ∙ e)))
        (λ ne. q.4 o (omega (arith, ne)) b e),
  )
  first_more s i f None q = λ o a b e. by_eq o i
      (λ z. subst (λ (o : ℕ). NoPlace s.w u n (block_at s o)) (sym z) (f (ap (λ (o : ℕ). (block_at s o).pool) (sym z) ∙ e)))
      (λ ne. q o (omega (arith, ne)) b e)

  -- a block before them changed
  first_put : (s : State) (i : ℕ) (c : Block) (h : Option Hit) → FirstFrom (put_block s i c) u p n (suc i) h → FirstFrom s u p n (suc i) h
  first_put s i c (Some hit) q =
      let e : block_at (put_block s i c) hit.age ≡ block_at s hit.age = get_or-set_other s.blocks i hit.age c zero_block (λ z. omega (arith, q.0)) in (
        q.0,
        q.1,
        sym (ap (λ (b : Block). b.pool) e) ∙ q.2,
        subst (λ (b : Block). LowestPlace s.w u n b hit.unit) e q.3,
        λ o a b z.
            let e : block_at (put_block s i c) o ≡ block_at s o = get_or-set_other s.blocks i o c zero_block (λ z. omega arith) in
            subst (NoPlace s.w u n) e (q.4 o a b (ap (λ (b : Block). b.pool) e ∙ z)),
      )
  first_put s i c None q = λ o a b z.
      let e : block_at (put_block s i c) o ≡ block_at s o = get_or-set_other s.blocks i o c zero_block (λ z. omega arith) in
      subst (NoPlace s.w u n) e (q o a b (ap (λ (b : Block). b.pool) e ∙ z))

  abbrev Rest : (State → Searched) → ℕ → ℕ → Type 0
  Rest rest i count = (s : State) → s.count ≡ count → Ready s → Combed s i (rest s)

  module _ (s : State) (i : ℕ) (h : i < s.count) (r : Ready s) where
    abbrev b : Block
    b = block_at s i

    windowed : Windowed b (slot_of s.w b.slot u)
    windowed =
        sound_windowed b (slot_of s.w b.slot u) (slot_of s.w b.slot t) (view_of s.granularity b l) (r.agrees.each i h)
        (room_u s.granularity s.w s.slots s.count s.blocks u t r.stands l r.agrees i h) (r.ends i h)

    ready_put : (c : Block) → look_into s.w b u n ≡ Err c → c.end ≤ c.area → Ready (put_block s i c)
    ready_put c e end = record {
      stands = set_stands s.granularity s.w s.slots s.count s.blocks (length u) (length t) r.stands i h c (missed_lies s.w b u n c e);
      agrees = missed_agrees s.granularity s.w s.slots s.count s.blocks u t r.stands l r.agrees i h (r.ends i h) n pos c e;
      ends = λ j q. by_eq j i
          (λ z. subst (λ (j : ℕ). (block_at (put_block s i c) j).end ≤ (block_at (put_block s i c) j).area) (sym z)
          (subst (λ (x : Block). x.end ≤ x.area) (sym (get_or-set_same s.blocks i c zero_block (omega (arith, h, r.stands.few)))) end))
          (λ ne. subst (λ (x : Block). x.end ≤ x.area) (sym (get_or-set_other s.blocks i j c zero_block ne)) (r.ends j q));
    }

    after_combed : (rest : State → Searched) → Rest rest (suc i) s.count → b.pool ≡ p → (x : Result ℕ Block) → look_into s.w b u n ≡ x → Combed s i (after s i rest x)
    after_combed rest ih e (Ok k) z = record {
      ready = r;
      first = (omega arith, h, e, (look_found s.w b u n windowed pos k).0 z, λ o a c f. absurd (omega arith));
    }
    after_combed rest ih e (Err c) z =
        let m = look_missed s.w b u n windowed pos c z in
        let x = ih (put_block s i c) refl (ready_put c z m.1.within) in
        record {
          ready = x.ready;
          first = first_more s i (λ f. m.0) (rest (put_block s i c)).hit (first_put s i c (rest (put_block s i c)).hit x.first);
        }

  from_combed : (i k : ℕ) (s : State) → i + k ≡ s.count → Ready s → Combed s i (search_from u p n i k s)
  unfolding search_from
  from_combed i zero s e r = record { ready = r; first = λ o a b. absurd (omega arith) }
  from_combed i (suc k) s e r = go (λ r c q. from_combed (suc i) k r (omega (arith, e, c)) q) (in_pool s p i) refl
    where
      go : Rest (search_from u p n (suc i) k) (suc i) s.count → (c : Bool) → in_pool s p i ≡ c
          → Combed s i (pick c (after s i (search_from u p n (suc i) k) (look_into s.w (block_at s i) u n)) (search_from u p n (suc i) k s))
      go ih true z =
          let h : i < s.count = omega arith in
          after_combed s i h r (search_from u p n (suc i) k) ih (eqb-true (block_at s i).pool p z) (look_into s.w (block_at s i) u n) refl
      go ih false z =
          let x = ih s refl r in
          record { ready = x.ready; first = first_more s i (λ f. absurd (eqb-false (block_at s i).pool p z f)) (search_from u p n (suc i) k s).hit x.first }

  pub search_combed : (s : State) → Ready s → Combed s 0 (search_pool s u p n)
  search_combed s r = from_combed 0 s.count s (omega arith) r
