-- Alloc gives each refusal under its condition. Assumes nothing.
use Rattle.std.specs.Prelude.{Option, Some, None}
use Prim.Native.Nat.{ℕ, ◌/◌}
use mathlib.Core.Bool.{false}
use mathlib.Core.List.{List}
use mathlib.Core.Logic.{◌⊎◌, inl, inr}
use mathlib.Core.Path.{◌≡◌, refl, sym, ap, ap₂, ◌∙◌}
use native.Mathlib.Omega.{arith}
use borrow.Author.Tests.{eq-eqb, ne_eqb, lt-ltb, le-ltb, lt-leb}
use lib.Dec.{leb}
use Rattle.std.specs.Prelude.{Option, Some, None}
use Rattle.numbers.specs.Align.{align_up}
use Rattle.numbers.specs.Units.{units_of}
use Rattle.sizes.specs.Sizes.{rounded, ideal_size}
use Rattle.state.specs.declared.State.{State}
use Rattle.state.specs.declared.Hit.{Hit}
use Rattle.state.specs.declared.Refusal.{Refusal}
use Rattle.state.specs.declared.Refusal.TheVariants.{InvalidArgument, TooLarge, InvalidState, NoMapping, BadShape, Damaged}
use Rattle.state.specs.declared.Answer.TheVariants.{Refused}
use Rattle.state.specs.Table.{pool_at}
use Rattle.state.specs.Find.{slot_free, lowest_slot, place_free, placed, lowest_place}
use Rattle.state.proofs.Find.{least_only}
use Rattle.machine.specs.Alloc.{pool_for, units_for, search_for, new_size, alloc_placed, alloc_searched, alloc_turn}
use Rattle.machine.specs.Machine.{alloc}
use Rattle.machine.specs.When.{NoneFound, size_for, NoRoom, NoSlot, PastSlot, When}
use Rattle.machine.proofs.Hits.{Hits, search_hits}
use Rattle.machine.proofs.Searched.{OtherBlocks, search_other, search_slot, search_place, search_newest}

module _ (s : State) (u t : List ℕ) where
  none_placed : (size : ℕ) → NoRoom s u t size → lowest_place s size ≡ None
  none_placed size none = ap (placed s) (sym (least_only (s.length / 65536) (place_free s size) None (λ k l h. none k h)))

  none_slot : NoSlot s u t → lowest_slot s ≡ None
  none_slot none = sym (least_only s.slots (slot_free s) None (λ k l h. none k h))

  -- ---- of a rounded size: its pool and units, the state as the search leaves it, and the block to be made
  module _ (z : ℕ) where
    abbrev p : ℕ
    p = pool_for s z

    abbrev n : ℕ
    n = units_for s z

    abbrev r : State
    r = (search_for s u z).state

    abbrev b : ℕ
    b = new_size r p z

    hit_none : NoneFound s u t z → (h : Option Hit) → Hits u p n s 0 s.count h → h ≡ None
    hit_none none (Some hit) q = absurd (none hit.age hit.unit q.1 q.2 q.3)
    hit_none none None q = refl

    other : OtherBlocks s r
    other = search_other s u p n

    size_same : b ≡ size_for s u t z
    size_same = ap (λ (m : ℕ). ideal_size m z) (search_newest s u p n p)

    abbrev words : State → ℕ → ℕ
    words x m = units_of (units_of m (pool_at x p).granularity) 32

    past : PastSlot s u t z → leb (words r b) r.w ≡ false
    past l = lt-leb (words r b) r.w (omega (arith, l, ap (λ (x : State). x.w) other, ap₂ (λ (x : State) (m : ℕ). words x m) other size_same))

    past_refused : PastSlot s u t z → (x : Option ℕ) (f : Option ℕ) → (alloc_placed r u t p n b x f).answer ≡ Refused NoMapping
    past_refused l (Some at) (Some slot) = rw (past l)
    past_refused l (Some at) None = refl
    past_refused l None f = refl

    slot_refused : (x : Option ℕ) → (alloc_placed r u t p n b x None).answer ≡ Refused NoMapping
    slot_refused (Some at) = refl
    slot_refused None = refl

    placed_refused : NoRoom s u t (size_for s u t z) ⊎ (NoSlot s u t ⊎ PastSlot s u t z) → (alloc_placed r u t p n b (lowest_place r b) (lowest_slot r)).answer ≡ Refused NoMapping
    placed_refused (inl none) =
        ap (λ (x : Option ℕ). (alloc_placed r u t p n b x (lowest_slot r)).answer) (ap (lowest_place r) size_same ∙ search_place s u p n (size_for s u t z) ∙ none_placed (size_for s u t z) none)
    placed_refused (inr (inl none)) =
        ap (λ (f : Option ℕ). (alloc_placed r u t p n b (lowest_place r b) f).answer) (search_slot s u p n ∙ none_slot none) ∙ slot_refused (lowest_place r b)
    placed_refused (inr (inr l)) = past_refused l (lowest_place r b) (lowest_slot r)

    searched_refused : NoneFound s u t z → NoRoom s u t (size_for s u t z) ⊎ (NoSlot s u t ⊎ PastSlot s u t z) → (alloc_searched r u t p n z (search_for s u z).hit).answer ≡ Refused NoMapping
    searched_refused none q =
        ap (λ (h : Option Hit). (alloc_searched r u t p n z h).answer) (hit_none none (search_for s u z).hit (search_hits u p n s)) ∙ placed_refused q

  pub alloc_when : (size : ℕ) (why : Refusal) → When s u t why (alloc size) → (alloc_turn s u t size).answer ≡ Refused why
  unfolding alloc_turn rounded
  alloc_when size InvalidArgument (good, e) = rw (good, eq-eqb (align_up size s.granularity) 0 e)
  alloc_when size TooLarge (good, l) =
      rw (good, ne_eqb (align_up size s.granularity) 0 (λ e. omega (arith, l, e)), lt-ltb 2147483647 (align_up size s.granularity) l)
  alloc_when size NoMapping (good, z, e, pos, small, none, q) =
      rw (good, ← e, ne_eqb z 0 (λ h. omega (arith, pos, h)), le-ltb 2147483647 z small) (searched_refused z none q)
  alloc_when size BadShape e = rw e
  alloc_when size InvalidState e = absurd e
  alloc_when size Damaged e = absurd e
