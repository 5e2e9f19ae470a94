-- What a search of a pool leaves: a state of good shape, in which every block is where it was; and where it found a place, that place. Assumes nothing.
use Prim.Native.Nat.{ℕ, zero, suc, ◌+◌, ◌-◌, ◌≤◌, ◌<◌}
use mathlib.Core.Bool.{Bool, true, false}
use mathlib.Core.List.{List}
use mathlib.Core.Logic.{◌⊎◌, inl, inr}
use mathlib.Core.Path.{◌≡◌, refl, sym, subst, ◌∙◌}
use native.Mathlib.Omega.{arith}
use borrow.Author.Tests.{leb-true, eqb-true}
use lib.Dec.{leb}
use lib.ListN.{length}
use Rattle.numbers.specs.Pick.{pick}
use Rattle.numbers.proofs.Split.{by_eq}
use Rattle.runs.specs.declared.Search.{Search}
use Rattle.runs.specs.declared.Search.TheVariants.{At as at, Tight, Full}
use Rattle.runs.specs.Window.{Sought}
use Rattle.runs.specs.Seek.{seek}
use Rattle.runs.proofs.Seek.{seek_is}
use Rattle.slots.specs.Slots.{slot_of}
use Rattle.block.specs.declared.Block.{Block}
use Rattle.std.specs.Prelude.{Result, Ok, Err, Option, Some, None}
use Rattle.block.specs.Search.{is_dirty, worth_searching, looked, tightened, look_into}
use Rattle.block.proofs.Flags.{empty_kept, off-le}
use Rattle.block.proofs.LiesAs.{numbers_lie}
use Rattle.state.specs.declared.State.{State}
use Rattle.state.specs.declared.Hit.{Hit}
use Rattle.state.specs.declared.Searched.{Searched}
use Rattle.state.specs.Table.{block_at}
use Rattle.state.specs.Shape.{in_pool}
use Rattle.shape.specs.Facts.{ShapedBlockIn}
use Rattle.shape.specs.Shaped.{Shaped}
use Rattle.machine.specs.Turn.{put_block}
use Rattle.machine.specs.Alloc.{searched, after, search_from, search_pool, hit_at}
use Rattle.shape_facts.proofs.Keep.{Same, same_refl, same_trans, put_here, put_there, put-length, put_shaped}

-- ---- a look into one block
-- a place was found: it lies in the block, and the used count leaves room for it
pub record Fits (b : Block) (n i : ℕ) : Type 0 where
  pub high : i + n ≤ b.area
  pub room : b.used + n ≤ b.area

-- what an answer says of the block that is left
abbrev pub Told : Block → ℕ → Result ℕ Block → Type 0
Told b n (Ok i) = Fits b n i
Told b n (Err c) = (c ≡ b) ⊎ ((f : ℕ) × (l : ℕ) × (m : ℕ) × (c ≡ tightened b f l m) × (f ≤ b.area) × (l ≤ b.area) × (m ≤ b.area))

module _ (b : Block) (u : List ℕ) (n : ℕ) (pos : 0 < n) (within : b.end ≤ b.area) (counted : b.used ≤ b.area) where
  looks_room : worth_searching b n ≡ true → b.used + n ≤ b.area
  unfolding worth_searching
  looks_room e = go (leb n (b.area - b.used)) refl e
    where
      go : (c : Bool) → leb n (b.area - b.used) ≡ c → pick c (pick (is_dirty b) true (leb n b.largest)) false ≡ true → b.used + n ≤ b.area
      go true h z = omega (arith, leb-true n (b.area - b.used) h)
      go false h z = let z : ◌≡◌ {A = ℕ} 0 1 = cc in absurd (omega arith)

  told_sought : worth_searching b n ≡ true → (r : Search) → Sought u b.start b.end n r → Told b n (looked b r)
  told_sought e (at i) q = record { high = omega (arith, q.high); room = looks_room e }
  told_sought e (Tight f l m) q =
      let t = q.0 in
      inr (f, l, m, refl, omega (arith, t.some, t.high), omega (arith, t.high), omega (arith, t.place.2))
  told_sought e Full q = inl refl

  told_pick : (c : Bool) → worth_searching b n ≡ c → (r : Search) → Sought u b.start b.end n r → Told b n (pick c (looked b r) (Err b))
  told_pick true e r q = told_sought e r q
  told_pick false e r q = inl refl

pub told : (w : ℕ) (b : Block) (u : List ℕ) (n : ℕ) → 0 < n → b.end ≤ b.area → b.used ≤ b.area → Told b n (look_into w b u n)
unfolding look_into
told w b u n pos h g =
    told_pick b (slot_of w b.slot u) n pos h g (worth_searching b n) refl (seek (slot_of w b.slot u) b.start b.end n) (seek_is (slot_of w b.slot u) b.start b.end n pos)

tight_same : (b : Block) (f l m : ℕ) → Same (tightened b f l m) b
tight_same b f l m = record { lies = numbers_lie b _ _ _ _ _; used = refl; empty = empty_kept b.flags }

tight_sound : (s : State) (b : Block) (f l m : ℕ) → ShapedBlockIn s b → f ≤ b.area → l ≤ b.area → m ≤ b.area → ShapedBlockIn s (tightened b f l m)
tight_sound s b f l m q x y z = record {
  slot = q.slot;
  pool = q.pool;
  base = q.base;
  area_low = q.area_low;
  area_whole = q.area_whole;
  area_size = q.area_size;
  area_high = q.area_high;
  used = q.used;
  start = x;
  end = y;
  largest = z;
  above = q.above;
  below = q.below;
  empty_unused = λ e. q.empty_unused (sym (empty_kept b.flags) ∙ e);
  unused_empty = λ e. empty_kept b.flags ∙ q.unused_empty e;
  flags = omega (arith, off-le b.flags 2, q.flags);
}

-- ---- the blocks in turn
module _ (u : List ℕ) (t p n : ℕ) (pos : 0 < n) where
  -- the place that was found: a block of the pool as it stood, and a place in it
  abbrev pub Place : State → Option Hit → Type 0
  Place r (Some hit) =
      (hit.age < r.count) × ((block_at r hit.age).pool ≡ p) × Fits (block_at r hit.age) n hit.unit × (look_into r.w (block_at r hit.age) u n ≡ Ok hit.unit)
  Place r None = Unit {0}

  pub record Left (s : State) (r : Searched) : Type 0 where
    pub shaped : Shaped r.state (length u) t
    pub size : length r.state.blocks ≡ 64
    pub order : r.state.order ≡ s.order
    pub pools : r.state.pools ≡ s.pools
    pub count : r.state.count ≡ s.count
    pub live : r.state.live ≡ s.live
    pub alike : (i : ℕ) → Same (block_at r.state i) (block_at s i)
    pub place : Place r.state r.hit

  left_trans : {s m : State} {r : Searched} → Left m r → m.order ≡ s.order → m.pools ≡ s.pools → m.count ≡ s.count → m.live ≡ s.live
      → ((i : ℕ) → Same (block_at m i) (block_at s i)) → Left s r
  left_trans q o e c l f = record {
    shaped = q.shaped;
    size = q.size;
    order = q.order ∙ o;
    pools = q.pools ∙ e;
    count = q.count ∙ c;
    live = q.live ∙ l;
    alike = λ i. same_trans (q.alike i) (f i);
    place = q.place;
  }

  left_here : (s : State) → Shaped s (length u) t → length s.blocks ≡ 64 → (h : Option Hit) → Place s h → Left s (searched h s)
  left_here s f len h q = record {
    shaped = f;
    size = len;
    order = refl;
    pools = refl;
    count = refl;
    live = refl;
    alike = λ i. same_refl refl;
    place = q;
  }

  abbrev Rest : (State → Searched) → ℕ → Type 0
  Rest rest count = (s : State) → s.count ≡ count → Shaped s (length u) t → length s.blocks ≡ 64 → Left s (rest s)

  -- the rest goes on with the block as it is now
  moved : (s : State) (i : ℕ) (c : Block) (rest : State → Searched) → Rest rest s.count → Shaped s (length u) t → length s.blocks ≡ 64 → i < s.count
      → Same c (block_at s i) → ShapedBlockIn s c → Left s (rest (put_block s i c))
  moved s i c rest ih f len h like sound =
      left_trans (ih (put_block s i c) refl (put_shaped s i c len (length u) t f h like sound) (put-length s i c len)) refl refl refl refl
      (λ k. by_eq k i
      (λ e. subst (λ (m : ℕ). Same (block_at (put_block s i c) m) (block_at s m)) (sym e)
      (same_trans (same_refl (put_here s i c len (omega (arith, h, f.head.count_slots, f.head.slots_high)))) like))
      (λ ne. same_refl (put_there s i c len k ne)))

  -- one block more
  after_left : (s : State) (i : ℕ) (rest : State → Searched) → Rest rest s.count → Shaped s (length u) t → length s.blocks ≡ 64 → i < s.count
      → (block_at s i).pool ≡ p → (l : Result ℕ Block) → look_into s.w (block_at s i) u n ≡ l → Told (block_at s i) n l → Left s (after s i rest l)
  after_left s i rest ih f len h e (Ok unit) z q = left_here s f len (hit_at i unit) (h, e, q, z)
  after_left s i rest ih f len h e (Err c) z (inl same) = moved s i c rest ih f len h (same_refl same)
      (subst (ShapedBlockIn s) (sym same) (f.sound i h))
  after_left s i rest ih f len h e (Err c) z (inr q) = moved s i c rest ih f len h
      (same_trans (same_refl q.3) (tight_same (block_at s i) q.0 q.1 q.2))
      (subst (ShapedBlockIn s) (sym q.3) (tight_sound s (block_at s i) q.0 q.1 q.2 (f.sound i h) q.4 q.5 q.6))

  from_left : (i k : ℕ) (s : State) → i + k ≡ s.count → Shaped s (length u) t → length s.blocks ≡ 64 → Left s (search_from u p n i k s)
  unfolding search_from
  from_left i zero s e f len = left_here s f len None tt
  from_left i (suc k) s e f len =
      go (λ r c g m. from_left (suc i) k r (omega (arith, e, c)) g m) (in_pool s p i) refl
    where
      go : Rest (search_from u p n (suc i) k) s.count → (c : Bool) → in_pool s p i ≡ c
          → Left s (pick c (after s i (search_from u p n (suc i) k) (look_into s.w (block_at s i) u n)) (search_from u p n (suc i) k s))
      go ih true z =
          let h : i < s.count = omega arith in
          after_left s i (search_from u p n (suc i) k) ih f len h (eqb-true (block_at s i).pool p z) (look_into s.w (block_at s i) u n) refl
          (told s.w (block_at s i) u n pos (f.sound i h).end (f.sound i h).used)
      go ih false z = ih s refl f len

  pub search_left : (s : State) → Shaped s (length u) t → length s.blocks ≡ 64 → Left s (search_pool s u p n)
  search_left s f len = from_left 0 s.count s (omega arith) f len
