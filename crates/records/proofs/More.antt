-- Bytes that come behind a record do not change it. Assumes nothing.
use Prim.Native.Nat.{ℕ, ◌+◌, ◌*◌, ◌≤◌}
use mathlib.Core.Bool.{Bool, true, false}
use mathlib.Core.List.{List, ◌++◌}
use mathlib.Core.Path.{◌≡◌, refl, sym, ap, ap₂, subst, ◌∙◌}
use native.Mathlib.Omega.{arith}
use borrow.Author.Tests.{le-ltb, ne_eqb, ltb-false}
use lib.Dec.{ltb, eqb}
use lib.ListN.{length, length-append, get_or-append}
use Rattle.std.specs.Prelude.{Option, Some, None, Result, Ok, Err}
use Rattle.numbers.specs.Pick.{pick}
use Rattle.numbers.proofs.Split.{by_eq}
use Rattle.records.specs.declared.Call.TheVariants.{Create, Alloc, Release, Shrink, Query, HardReset}
use Rattle.records.specs.declared.Record.{Record}
use Rattle.records.specs.declared.Unread.{Unread}
use Rattle.records.specs.declared.Unread.TheVariants.{Cut, Bad}
use Rattle.records.specs.Bytes.{u16_at, u32_at, u64_at}
use Rattle.records.specs.Records.{payload_of, Holds, asked_of, call_of, whole, of_payload, record_of}

-- a payload of a kind that is known by now
holds : (n kind k : ℕ) → kind ≡ k → Holds (payload_of kind) n → Holds (payload_of k) n
holds n kind k e h = subst (λ (j : ℕ). Holds (payload_of j) n) e h

last : (bs : List ℕ) (k : ℕ) → (k ≡ 1 → ⊥) → (k ≡ 2 → ⊥) → (k ≡ 3 → ⊥) → (k ≡ 4 → ⊥) → (k ≡ 5 → ⊥) → (k ≡ 6 → ⊥) → HardReset ≡ call_of bs k
unfolding call_of
last bs k a b c d e f = rw (ne_eqb k 1 a, ne_eqb k 2 b, ne_eqb k 3 c, ne_eqb k 4 d, ne_eqb k 5 e, ne_eqb k 6 f)

module _ (bs cs : List ℕ) where
  u16_more : (i : ℕ) → i + 2 ≤ length bs → u16_at (bs ++ cs) i ≡ u16_at bs i
  u16_more i h = ap₂ (λ (a b : ℕ). a + 256 * b) (get_or-append bs cs 0 i (omega arith)) (get_or-append bs cs 0 (i + 1) (omega arith))

  u32_more : (i : ℕ) → i + 4 ≤ length bs → u32_at (bs ++ cs) i ≡ u32_at bs i
  u32_more i h = ap₂ (λ (a b : ℕ). a + 65536 * b) (u16_more i (omega arith)) (u16_more (i + 2) (omega arith))

  u64_more : (i : ℕ) → i + 8 ≤ length bs → u64_at (bs ++ cs) i ≡ u64_at bs i
  u64_more i h = ap₂ (λ (a b : ℕ). a + 4294967296 * b) (u32_more i (omega arith)) (u32_more (i + 4) (omega arith))

  asked_more : 36 ≤ length bs → asked_of (bs ++ cs) ≡ asked_of bs
  asked_more h = rw (u32_more 4 (omega arith), u32_more 8 (omega arith), u32_more 12 (omega arith), u32_more 16 (omega arith), u64_more 20 (omega arith), u64_more 28 (omega arith))

  abbrev Same : ℕ → Type 0
  Same kind = call_of (bs ++ cs) kind ≡ call_of bs kind

  at : (kind k : ℕ) → kind ≡ k → Same k → Same kind
  at kind k e h = subst Same (sym e) h

  call_more : (kind : ℕ) → Holds (payload_of kind) (length bs) → Same kind
  unfolding call_of payload_of
  call_more kind h =
      by_eq kind 1 (λ e. at kind 1 e (ap Create (asked_more (holds (length bs) kind 1 e h))))
      (λ a. by_eq kind 2 (λ e. at kind 2 e (ap Alloc (u64_more 4 (holds (length bs) kind 2 e h))))
      (λ b. by_eq kind 3 (λ e. at kind 3 e (ap Release (u64_more 4 (holds (length bs) kind 3 e h))))
      (λ c. by_eq kind 4 (λ e. let g = holds (length bs) kind 4 e h in at kind 4 e (ap₂ Shrink (u64_more 4 (omega (arith, g))) (u64_more 12 g)))
      (λ d. by_eq kind 5 (λ e. at kind 5 e (ap Query (u64_more 4 (holds (length bs) kind 5 e h))))
      (λ f. by_eq kind 6 (λ e. at kind 6 e refl)
      (λ g. sym (last (bs ++ cs) kind a b c d f g) ∙ last bs kind a b c d f g))))))

  -- it is no cut one
  abbrev pub Not-cut : Result Record Unread → Type 0
  Not-cut (Err Cut) = ⊥
  Not-cut (Err Bad) = Unit {0}
  Not-cut (Ok r) = Unit {0}

  roomy : (b : Bool) (m kind : ℕ) → ltb (length bs) (4 + m) ≡ b → Not-cut (pick b (Err Cut) (whole (4 + m) (call_of bs kind))) → Some m ≡ payload_of kind
      → pick (ltb (length (bs ++ cs)) (4 + m)) (Err Cut) (whole (4 + m) (call_of (bs ++ cs) kind)) ≡ pick b (Err Cut) (whole (4 + m) (call_of bs kind))
  roomy true m kind e n p = absurd n
  roomy false m kind e n p =
      let l = ltb-false (length bs) (4 + m) e in
      rw (le-ltb (length (bs ++ cs)) (4 + m) (omega (arith, length-append bs cs))) (ap (whole (4 + m)) (call_more kind (subst (λ (q : Option ℕ). Holds q (length bs)) p l)))

  said : (b : Bool) (m kind : ℕ) → Not-cut (pick b (pick (ltb (length bs) (4 + m)) (Err Cut) (whole (4 + m) (call_of bs kind))) (Err Bad)) → Some m ≡ payload_of kind
      → pick b (pick (ltb (length (bs ++ cs)) (4 + m)) (Err Cut) (whole (4 + m) (call_of (bs ++ cs) kind))) (Err Bad)
      ≡ pick b (pick (ltb (length bs) (4 + m)) (Err Cut) (whole (4 + m) (call_of bs kind))) (Err Bad)
  said true m kind n p = roomy (ltb (length bs) (4 + m)) m kind refl n p
  said false m kind n p = refl

  known : (q : Option ℕ) (i kind : ℕ) → Not-cut (of_payload bs i kind q) → q ≡ payload_of kind → of_payload (bs ++ cs) i kind q ≡ of_payload bs i kind q
  known None i kind n p = refl
  known (Some m) i kind n p = said (eqb i m) m kind n p

  headed : (b : Bool) → ltb (length bs) 4 ≡ b → Not-cut (pick b (Err Cut) (of_payload bs (u16_at bs 0) (u16_at bs 2) (payload_of (u16_at bs 2))))
      → pick (ltb (length (bs ++ cs)) 4) (Err Cut) (of_payload (bs ++ cs) (u16_at (bs ++ cs) 0) (u16_at (bs ++ cs) 2) (payload_of (u16_at (bs ++ cs) 2)))
      ≡ pick b (Err Cut) (of_payload bs (u16_at bs 0) (u16_at bs 2) (payload_of (u16_at bs 2)))
  headed true e n = absurd n
  headed false e n =
      let l = ltb-false (length bs) 4 e in
      rw (le-ltb (length (bs ++ cs)) 4 (omega (arith, length-append bs cs)), u16_more 0 (omega arith), u16_more 2 (omega arith)) (known (payload_of (u16_at bs 2)) (u16_at bs 0) (u16_at bs 2) n refl)

  pub record_more : Not-cut (record_of bs) → record_of (bs ++ cs) ≡ record_of bs
  unfolding record_of
  record_more n = headed (ltb (length bs) 4) refl n
