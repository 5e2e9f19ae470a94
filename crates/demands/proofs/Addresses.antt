-- A query answers just the ledger's entries; a release and a shrink are granted, or refused with each number, exactly by what the ledger has. Assumes nothing.
use Prim.Native.Nat.{ℕ, ◌≤◌, ◌<◌}
use mathlib.Core.List.{List, [], ◌∷◌}
use mathlib.Core.Logic.{◌⊎◌, inl, inr, ⊎_elim, ◌↔◌}
use mathlib.Core.Path.{◌≡◌, refl, sym, ap, subst, ◌∙◌}
use native.Mathlib.Omega.{arith}
use Rattle.numbers.specs.Units.{units_of, bytes_of}
use Rattle.numbers.proofs.Split.{by_eq}
use Rattle.state.specs.declared.State.{State}
use Rattle.state.specs.declared.Span.{Span}
use Rattle.state.specs.declared.Refusal.{Refusal}
use Rattle.state.specs.declared.Refusal.TheVariants.{InvalidArgument, InvalidState}
use Rattle.state.specs.declared.Answer.{Answer}
use Rattle.state.specs.declared.Answer.TheVariants.{Created, Granted, Released, Shrunk, Shown, Reset, Refused}
use Rattle.machine.specs.Turn.{span}
use Rattle.machine.specs.Machine.{query, release, shrink, step}
use Rattle.ledger.specs.Ledger.{In, strike}
use Rattle.ledger.specs.Reached.{Reached}
use Rattle.ledger.proofs.View.{strike_head, strike_tail}
use Rattle.ledger.proofs.Finds.{shrink_release}
use Rattle.ledger.proofs.Reached.{Known, reached_known}
use Rattle.demands.specs.Apart.{Apart, HasBlock, Vacant}
use Rattle.demands.proofs.Spans.{known_one, known_apart, known_inside}
use Rattle.demands.proofs.Answers.{Queried, unknown, known, queried, GivenBack, zero_address, no_block, no_span, struck, given_back, CutDown, too_many, shortened, cut_down}

-- ---- answers that differ
-- the size that an answer tells, and the number of its kind
size_in : Answer → ℕ
size_in (Granted x) = x.size
size_in (Released x) = x.size
size_in (Shrunk x) = x.size
size_in (Shown x) = x.size
size_in (Created size g pools) = 0
size_in Reset = 0
size_in (Refused why) = 0

shown_size : (a z y : ℕ) → Shown (span a z) ≡ Shown (span a y) → z ≡ y
unfolding size_in
shown_size a z y e = ap size_in e

released_size : (a z y : ℕ) → Released (span a z) ≡ Released (span a y) → z ≡ y
unfolding size_in
released_size a z y e = ap size_in e

shrunk_size : (a z y : ℕ) → Shrunk (span a z) ≡ Shrunk (span a y) → z ≡ y
unfolding size_in
shrunk_size a z y e = ap size_in e

shown-not : (x : Answer) (y : Span) (why : Refusal) → x ≡ Refused why → x ≡ Shown y → ⊥
shown-not x y why p q = let z : ◌≡◌ {A = ℕ} 0 1 = cc in omega arith

released-not : (x : Answer) (y : Span) (why : Refusal) → x ≡ Refused why → x ≡ Released y → ⊥
released-not x y why p q = let z : ◌≡◌ {A = ℕ} 0 1 = cc in omega arith

shrunk-not : (x : Answer) (y : Span) (why : Refusal) → x ≡ Refused why → x ≡ Shrunk y → ⊥
shrunk-not x y why p q = let z : ◌≡◌ {A = ℕ} 0 1 = cc in omega arith

not_1_3 : (x : Answer) → x ≡ Refused InvalidArgument → x ≡ Refused InvalidState → ⊥
not_1_3 x p q = let z : ◌≡◌ {A = ℕ} 0 1 = cc in omega arith

module _ {s : State} {u t : List ℕ} {l : List Span} (r : Reached s u t l) where
  abbrev k : Known s u t l
  k = reached_known r

  -- ---- query: (a, z) is shown exactly if it is in the ledger, otherwise refusal 1
  pub query_shows : (a z : ℕ) → ((step s u t (query a)).answer ≡ Shown (span a z)) ↔ In a z l
  query_shows a z = go (queried k a)
    where
      go : Queried s u t l a → ((step s u t (query a)).answer ≡ Shown (span a z)) ↔ In a z l
      go (unknown none e) = (λ q. absurd (shown-not _ (span a z) InvalidArgument e q), λ m. absurd (none z m))
      go (known y m e) = (
        λ q. subst (λ (x : ℕ). In a x l) (shown_size a y z (sym e ∙ q)) m,
        λ n. e ∙ ap (λ (x : ℕ). Shown (span a x)) (known_one k a y z m n),
      )

  pub query_refused : (a : ℕ) → ((step s u t (query a)).answer ≡ Refused InvalidArgument) ↔ Vacant l a
  query_refused a = go (queried k a)
    where
      go : Queried s u t l a → ((step s u t (query a)).answer ≡ Refused InvalidArgument) ↔ Vacant l a
      go (unknown none e) = (λ q. none, λ n. e)
      go (known y m e) = (λ q. absurd (shown-not _ (span a y) InvalidArgument q e), λ n. absurd (n y m))

  -- ---- release: granted exactly if it is in the ledger
  pub release_grants : (a z : ℕ) → ((step s u t (release a)).answer ≡ Released (span a z)) ↔ In a z l
  release_grants a z = go (given_back k a)
    where
      go : GivenBack s u t l a → ((step s u t (release a)).answer ≡ Released (span a z)) ↔ In a z l
      go (zero_address p none e) = (λ q. absurd (released-not _ (span a z) InvalidArgument e q), λ m. absurd (none z m))
      go (no_block p h none e) = (λ q. absurd (released-not _ (span a z) InvalidState e q), λ m. absurd (none z m))
      go (no_span p h none e) = (λ q. absurd (released-not _ (span a z) InvalidArgument e q), λ m. absurd (none z m))
      go (struck p y h m e) = (
        λ q. subst (λ (x : ℕ). In a x l) (released_size a y z (sym e ∙ q)) m,
        λ n. e ∙ ap (λ (x : ℕ). Released (span a x)) (known_one k a y z m n),
      )

  -- refusal 1 exactly if a is 0, or in a block and not in the ledger
  pub release_refused_1 : (a : ℕ) → ((step s u t (release a)).answer ≡ Refused InvalidArgument) ↔ ((a ≡ 0) ⊎ (HasBlock s a × Vacant l a))
  release_refused_1 a = go (given_back k a)
    where
      go : GivenBack s u t l a → ((step s u t (release a)).answer ≡ Refused InvalidArgument) ↔ ((a ≡ 0) ⊎ (HasBlock s a × Vacant l a))
      go (zero_address p none e) = (λ q. inl p, λ x. e)
      go (no_block p h none e) = (λ q. absurd (not_1_3 _ q e), λ x. ⊎_elim (λ c. absurd (p c)) (λ c. absurd (h c.0)) x)
      go (no_span p h none e) = (λ q. inr (h, none), λ x. e)
      go (struck p y h m e) = (λ q. absurd (released-not _ (span a y) InvalidArgument q e), λ x. ⊎_elim (λ c. absurd (p c)) (λ c. absurd (c.1 y m)) x)

  -- refusal 3 exactly if a is not 0 and in no block
  pub release_refused_3 : (a : ℕ) → ((step s u t (release a)).answer ≡ Refused InvalidState) ↔ ((a ≡ 0 → ⊥) × (HasBlock s a → ⊥))
  release_refused_3 a = go (given_back k a)
    where
      go : GivenBack s u t l a → ((step s u t (release a)).answer ≡ Refused InvalidState) ↔ ((a ≡ 0 → ⊥) × (HasBlock s a → ⊥))
      go (zero_address p none e) = (λ q. absurd (not_1_3 _ e q), λ x. absurd (x.0 p))
      go (no_block p h none e) = (λ q. (p, h), λ x. e)
      go (no_span p h none e) = (λ q. absurd (not_1_3 _ e q), λ x. absurd (x.1 h))
      go (struck p y h m e) = (λ q. absurd (released-not _ (span a y) InvalidState q e), λ x. absurd (x.1 h))

  -- ---- shrink: to size 0 it is a release
  pub shrink_to_none : (a : ℕ) → step s u t (shrink a 0) ≡ step s u t (release a)
  shrink_to_none a = shrink_release s u t l k.sound k.sized.blocks a 0 refl

  module _ (a size : ℕ) (some : size ≡ 0 → ⊥) where
    abbrev bytes : ℕ
    bytes = bytes_of (units_of size s.granularity) s.granularity

    -- granted exactly if the ledger has a span there of no fewer units
    pub shrink_grants : (y : ℕ) → ((step s u t (shrink a size)).answer ≡ Shrunk (span a y)) ↔ ((y ≡ bytes) × ((z : ℕ) × In a z l × (bytes ≤ z)))
    shrink_grants y = go (cut_down k a size some)
      where
        go : CutDown s u t l a size → ((step s u t (shrink a size)).answer ≡ Shrunk (span a y)) ↔ ((y ≡ bytes) × ((z : ℕ) × In a z l × (bytes ≤ z)))
        go (unknown none e) = (λ q. absurd (shrunk-not _ (span a y) InvalidArgument e q), λ x. absurd (none x.1.0 x.1.1))
        go (too_many z m h e) = (
          λ q. absurd (shrunk-not _ (span a y) InvalidState e q),
          λ x. absurd (omega (arith, known_one k a z x.1.0 m x.1.1, x.1.2)),
        )
        go (shortened z m h e) = (λ q. (sym (shrunk_size a bytes y (sym e ∙ q)), (z, m, h)), λ x. e ∙ ap (λ (c : ℕ). Shrunk (span a c)) (sym x.0))

    -- refusal 3 exactly if that has fewer units
    pub shrink_refused_3 : ((step s u t (shrink a size)).answer ≡ Refused InvalidState) ↔ ((z : ℕ) × In a z l × (z < bytes))
    shrink_refused_3 = go (cut_down k a size some)
      where
        go : CutDown s u t l a size → ((step s u t (shrink a size)).answer ≡ Refused InvalidState) ↔ ((z : ℕ) × In a z l × (z < bytes))
        go (unknown none e) = (λ q. absurd (not_1_3 _ e q), λ x. absurd (none x.0 x.1))
        go (too_many z m h e) = (λ q. (z, m, h), λ x. e)
        go (shortened z m h e) = (
          λ q. absurd (shrunk-not _ (span a bytes) InvalidState q e),
          λ x. absurd (omega (arith, known_one k a z x.0 m x.1, x.2)),
        )

    -- refusal 1 exactly if the ledger has none there
    pub shrink_refused_1 : ((step s u t (shrink a size)).answer ≡ Refused InvalidArgument) ↔ Vacant l a
    shrink_refused_1 = go (cut_down k a size some)
      where
        go : CutDown s u t l a size → ((step s u t (shrink a size)).answer ≡ Refused InvalidArgument) ↔ Vacant l a
        go (unknown none e) = (λ q. none, λ x. e)
        go (too_many z m h e) = (λ q. absurd (not_1_3 _ q e), λ x. absurd (x z m))
        go (shortened z m h e) = (λ q. absurd (shrunk-not _ (span a bytes) InvalidArgument q e), λ x. absurd (x z m))

-- ---- a strike takes the entries at its address, and no other
pub strike_takes : (l : List Span) → Apart l → ((a z : ℕ) → In a z l → 0 < z) → (a b y : ℕ) → In b y (strike a l) ↔ ((b ≡ a → ⊥) × In b y l)
strike_takes [] p q a b y = unfold strike in (λ m. absurd m, λ m. absurd m.1)
strike_takes (x ∷ l) p q a b y =
    by_eq x.address a
    (λ e. subst (λ (m : List Span). In b y m ↔ ((b ≡ a → ⊥) × In b y (x ∷ l))) (sym (strike_head x l a e)) (
      λ m. (λ z. ⊎_elim (λ c. absurd (omega (arith, q x.address x.size (inl (refl, refl))))) (λ c. absurd (omega (arith, q b y (inr m)))) (p.0 b y m), inr m),
      λ m. ⊎_elim (λ c. absurd (m.0 (sym c.0 ∙ e))) (λ c. c) m.1,
    ))
    (λ ne.
    let ih = strike_takes l p.1 (λ a z m. q a z (inr m)) a b y in
    subst (λ (m : List Span). In b y m ↔ ((b ≡ a → ⊥) × In b y (x ∷ l))) (sym (strike_tail x l a ne)) (
      λ m. ⊎_elim (λ c. ((λ z. ne (c.0 ∙ z)), inl c)) (λ c. let d = ih.0 c in (d.0, inr d.1)) m,
      λ m. ⊎_elim (λ c. inl c) (λ c. inr (ih.1 (m.0, c))) m.1,
    ))

-- so what a granted release strikes is gone, and all else stays
pub release_strikes : {s : State} {u t : List ℕ} {l : List Span} → Reached s u t l → (a b y : ℕ) → In b y (strike a l) ↔ ((b ≡ a → ⊥) × In b y l)
release_strikes {s} {u} {t} {l} r a b y =
    let k = reached_known r in
    strike_takes l (known_apart k) (λ a z m. (known_inside k a z m).1.some) a b y
