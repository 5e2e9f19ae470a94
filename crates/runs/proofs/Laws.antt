-- Laws of a walk over the runs of clear bits. Assumes nothing.
use Prim.Native.Nat.{ℕ, ◌+◌, ◌-◌, ◌*◌, ◌%◌, ◌^◌, ◌≤◌, ◌<◌, min, max}
use mathlib.Core.Path.{◌≡◌, sym, ap, ◌∙◌, subst}
use mathlib.Core.Bool.{false}
use mathlib.Core.List.{List}
use mathlib.Core.Logic.{◌⊎◌, inl, inr, ⊎_elim}
use native.Mathlib.Omega.{arith}
use lib.Bits.{and_le_l}
use lib.Dec.{lit<}
use lib.Count.{count_trailing_zeros}
use lib.ListN.{length, get_or}
use Rattle.std.specs.Prelude.{Option}
use Rattle.std.specs.declared.ops.Range.{Range}
use Rattle.numbers.proofs.Split.{le-or-lt, by_eq}
use Rattle.bits.specs.Bits.{digit, bit}
use Rattle.bits.specs.Walk.{flipped, Seen}
use Rattle.bits.proofs.Digits.{digit-lt, digit_of_zero, tz_below, tz_at, tz_lt}
use Rattle.bits.proofs.Words.{bit-lt, bit_at}
use Rattle.bits.proofs.Find.{flipped-lt, flip_one, flip_zero, from_digit, from_lt, from_low, from_high, from_one, seen_word, seen_from, lowest}
use Rattle.runs.specs.Window.{FreeAt, UsedIn, NoFit, Lowest, Tightened, FreeRun}
use Rattle.runs.specs.Walk.{ClearIn, Ends}
use Rattle.runs.specs.Steps.{HasSeen, SameWindow, RunFrom, Stepped, StepAnswer}
use Rattle.runs.specs.declared.ranges.BitVectorRangeIterator.{BitVectorRangeIterator}

-- what holds of the words and of the window's end after a step holds of them before it
pub in_window : (P : List ℕ → ℕ → Type 0) (w v : BitVectorRangeIterator) → SameWindow w v → P v.slice.now v.end → P w.slice.now w.end
in_window P w v s p = subst (λ (e : ℕ). P w.slice.now e) s.end (subst (λ (ws : List ℕ). P ws v.end) s.words p)

-- what a step answers of a walk that was only moved on, it answers of the walk before
pub step_after : (w u v : BitVectorRangeIterator) (hint : ℕ) (r : Option (Range ℕ)) → SameWindow w u → ((p : ℕ) → HasSeen w p → HasSeen u p)
    → StepAnswer u v hint r → StepAnswer w v hint r
step_after w u v hint r s moved f p h = in_window (λ (ws : List ℕ) (e : ℕ). Stepped ws e hint p r v) w u s (f p (moved p h))

pub used_is : (ws : List ℕ) (k : ℕ) → (bit ws k ≡ 0 → ⊥) → bit ws k ≡ 1
used_is ws k h = omega (arith, h, bit-lt ws k)

one_is : (x j : ℕ) → (digit x j ≡ 0 → ⊥) → digit x j ≡ 1
one_is x j h = omega (arith, h, digit-lt x j)

back : (k at : ℕ) → 32 * at ≤ k → 32 * at + (k - 32 * at) ≡ k
back k at l = omega arith

-- the walk is past the window or at the end of a word, with nothing left
pub seen_past : (ws : List ℕ) (end e v at : ℕ) → at ≤ length ws → e ≡ min (32 * at + 32) end → Seen ws end e v at 0
seen_past ws end e v at l h = record {
  stands = l;
  near = omega arith;
  fits = lit< tt;
  before = λ k p q r t. omega arith;
  zeros = λ j g p q r t. omega arith;
  ones = λ j g t. absurd (omega (arith, digit_of_zero j));
}

-- what lies past the window does not matter
pub seen_cut : (ws : List ℕ) (end e p v at bits : ℕ) → Seen ws end p v at bits → e ≡ min p end → Seen ws end e v at bits
seen_cut ws end e p v at bits s h = record {
  stands = s.stands;
  near = omega (arith, s.near);
  fits = s.fits;
  before = λ k q r t. s.before k (omega arith) r t;
  zeros = λ j g q t. s.zeros j g (omega arith) t;
  ones = λ j g t.
      let o = s.ones j g t in
      (o.0, omega (arith, o.1), o.2);
}

-- ---- a run that ends in its own word: word holds the clear bits from p on, i is its lowest, and rest has as ones the others from i on
abbrev pub rest_of : ℕ → ℕ
rest_of word = from_digit (flipped word false) (count_trailing_zeros 32 word)

run_digit : (word j : ℕ) → word < 2 ^ 32 → count_trailing_zeros 32 word ≤ j → j < 32 → digit (rest_of word) j ≡ 0 → digit word j ≡ 1
run_digit word j h p l e =
    one_is word j (flip_zero word false j h l (sym (from_high (flipped word false) (count_trailing_zeros 32 word) j p l) ∙ e))

-- the bits from i on, as far as rest has no ones, are clear
pub run_clear : (ws : List ℕ) (end p at word t : ℕ) → Seen ws end p 0 at word → t ≤ 32 → ((j : ℕ) → j < t → digit (rest_of word) j ≡ 0)
    → (k : ℕ) → 32 * at + count_trailing_zeros 32 word ≤ k → k < 32 * at + t → bit ws k ≡ 0
run_clear ws end p at word t s l z k q r =
    sym (ap (bit ws) (back k at (omega arith)))
    ∙ (s.ones (k - 32 * at) (omega arith) (run_digit word (k - 32 * at) s.fits (omega arith) (omega arith) (z (k - 32 * at) (omega arith)))).2

-- a run taken out of its word leaves less of it
pub run_taken : (word : ℕ) → word < 2 ^ 32 → (word ≡ 0 → ⊥) → (rest_of word ≡ 0 → ⊥)
    → from_digit word (count_trailing_zeros 32 (rest_of word)) < word
run_taken word h ne nr =
    by_eq (from_digit word j) word
    (λ e. absurd (omega (arith, ap (λ (n : ℕ). digit n i) e, from_low word j i before short, tz_at 32 word short)))
    (λ d. omega (arith, d, and_le_l word (4294967295 * 2 ^ j % 2 ^ 32)))
  where
    i : ℕ
    i = count_trailing_zeros 32 word

    j : ℕ
    j = count_trailing_zeros 32 (rest_of word)

    short : i < 32
    short = tz_lt 32 word h ne

    before : i < j
    before =
        let t : j < 32 = tz_lt 32 (rest_of word) (from_lt (flipped word false) i (flipped-lt word false h)) nr in
        let f = from_one (flipped word false) i j t (tz_at 32 (rest_of word) t) in
        let zj : digit word j ≡ 0 = flip_one word false j h t f.1 in
        let other : i ≡ j → ⊥ = λ q. omega (arith, zj, tz_at 32 word short, ap (digit word) q) in
        omega (arith, f.0, other)

pub ends_here : (ws : List ℕ) (end hint p at word start e : ℕ) → Seen ws end p 0 at word → (word ≡ 0 → ⊥) → (rest_of word ≡ 0 → ⊥)
    → start ≡ 32 * at + count_trailing_zeros 32 word → start < end → e ≡ min (32 * at + count_trailing_zeros 32 (rest_of word)) end
    → Ends ws start end hint e at (from_digit word (count_trailing_zeros 32 (rest_of word)))
ends_here ws end hint p at word start e s ne nr hs he h =
    let o = lowest ws end p 0 at word s ne in
    let i = count_trailing_zeros 32 word in
    let rest = rest_of word in
    let j = count_trailing_zeros 32 rest in
    let rw32 : rest < 2 ^ 32 = from_lt (flipped word false) i (flipped-lt word false s.fits) in
    let t : j < 32 = tz_lt 32 rest rw32 nr in
    let f = from_one (flipped word false) i j t (tz_at 32 rest t) in
    let zj : digit word j ≡ 0 = flip_one word false j s.fits t f.1 in
    let oi : digit word i ≡ 1 = tz_at 32 word o.short in
    let ne : i ≡ j → ⊥ = λ q. differ zj oi q in
    record {
      some = omega (arith, f.0, ne);
      inside = omega arith;
      free = λ k q r. run_clear ws end p at word j s (omega arith) (tz_below 32 rest) k (omega arith) (omega arith);
      stop = λ q r. subst (λ (n : ℕ). bit ws n ≡ 1) (at_stop q) (used_is ws (32 * at + j) (s.zeros j t (omega (arith, o.low, f.0)) (omega arith) zj));
      next = seen_cut ws end e (32 * at + j) 0 at (from_digit word j) (seen_from ws end p 0 at word j s (omega (arith, o.low, f.0)) (omega arith)) h;
    }
  where
    differ : {i j : ℕ} → digit word j ≡ 0 → digit word i ≡ 1 → i ≡ j → ⊥
    differ {i} {j} a b q = omega (arith, a, b, ap (digit word) q)

    at_stop : e < end → 32 * at + count_trailing_zeros 32 (rest_of word) ≡ e
    at_stop q = omega arith

-- ---- a run that goes on into word at, whose lowest bit in use is j
pub ends_later : (ws : List ℕ) (start end hint at e : ℕ) → get_or ws at 0 < 2 ^ 32 → at < length ws → (get_or ws at 0 ≡ 0 → ⊥) → start < 32 * at → start < end
    → ClearIn ws start (32 * at) end → e ≡ min (32 * at + count_trailing_zeros 32 (get_or ws at 0)) end
    → Ends ws start end hint e at (from_digit (flipped (get_or ws at 0) false) (count_trailing_zeros 32 (get_or ws at 0)))
ends_later ws start end hint at e hw l ne hs he c h =
    let w = get_or ws at 0 in
    let j = count_trailing_zeros 32 w in
    let t : j < 32 = tz_lt 32 w hw ne in
    record {
      some = omega arith;
      inside = omega arith;
      free = λ k q r. ⊎_elim
          (λ g. sym (ap (bit ws) (back k at g)) ∙ bit_at ws at (k - 32 * at) (omega arith) ∙ tz_below 32 w (k - 32 * at) (omega arith))
          (λ g. c k q g (omega arith)) (le-or-lt (32 * at) k);
      stop = λ q r. subst (λ (n : ℕ). bit ws n ≡ 1) (at_stop q) (bit_at ws at j t ∙ tz_at 32 w t);
      next = seen_cut ws end e (32 * at + j) 0 at (from_digit (flipped w false) j)
          (seen_from ws end (32 * at) 0 at (flipped w false) j (seen_word ws end (32 * at) false at hw l (omega arith) (λ k q r u f. omega arith)) (omega arith) (omega arith)) h;
    }
  where
    at_stop : e < end → 32 * at + count_trailing_zeros 32 (get_or ws at 0) ≡ e
    at_stop q = omega arith

-- a word that is 0 has clear bits only
pub zero_word : (ws : List ℕ) (at k : ℕ) → get_or ws at 0 ≡ 0 → 32 * at ≤ k → k < 32 * at + 32 → bit ws k ≡ 0
zero_word ws at k e p q =
    sym (ap (bit ws) (back k at p)) ∙ bit_at ws at (k - 32 * at) (omega arith) ∙ ap (λ (x : ℕ). digit x (k - 32 * at)) e ∙ digit_of_zero (k - 32 * at)

-- ---- a search for n clear bits: what a run tells
pub fit_here : (ws : List ℕ) (a end n p start e : ℕ) (w : BitVectorRangeIterator) → 0 < n → a ≤ p → NoFit ws end n a p → RunFrom ws end n p start e w → n ≤ e - start
    → Lowest ws a end n start
fit_here ws a end n p start e w h l none r g = record {
  low = omega (arith, r.low);
  high = omega (arith, r.ends.inside);
  free = λ k q t. r.ends.free k q (omega arith);
  least = λ i q t u f. ⊎_elim
      (λ v. absurd (omega (arith, r.used i v t, f i (omega arith) (omega arith))))
      (λ v. none i q v u f) (le-or-lt p i);
}

pub fit_later : (ws : List ℕ) (a end n p start e : ℕ) (w : BitVectorRangeIterator) → 0 < n → NoFit ws end n a p → RunFrom ws end n p start e w → e - start < n
    → NoFit ws end n a e
fit_later ws a end n p start e w h none r g i q t u f =
    ⊎_elim
    (λ v. ⊎_elim
    (λ x. absurd (omega (arith, r.ends.stop (omega (arith, r.ends.some)) g, f e (omega arith) (omega (arith, r.ends.some)))))
    (λ x. absurd (omega (arith, r.used i v x, f i (omega arith) (omega arith)))) (le-or-lt start i))
    (λ v. none i q v u f) (le-or-lt p i)

pub fit_none : (ws : List ℕ) (a end n p : ℕ) → 0 < n → NoFit ws end n a p → UsedIn ws p end → NoFit ws end n a end
fit_none ws a end n p h none c i q t u f =
    ⊎_elim (λ v. omega (arith, c i v t, f i (omega arith) (omega arith))) (λ v. none i q v u f) (le-or-lt p i)

-- ---- a search that finds no place: what it knows of the window as far as p
fit_mono : (ws : List ℕ) (end n m a b : ℕ) → n ≤ m → NoFit ws end n a b → NoFit ws end m a b
fit_mono ws end n m a b l h i q t u f = h i q t (omega arith) (λ k x y. f k x (omega arith))

run_hint : (ws : List ℕ) (end n m p start e : ℕ) (w : BitVectorRangeIterator) → RunFrom ws end n p start e w → e - start < n → RunFrom ws end m p start e w
run_hint ws end n m p start e w r g = record {
  low = r.low;
  used = r.used;
  ends = record { some = r.ends.some; inside = r.ends.inside; free = r.ends.free; stop = λ q t. r.ends.stop q g; next = r.ends.next };
  same = r.same;
}

pub record Part (ws : List ℕ) (a end p first most : ℕ) : Type 0 where
  pub low : a ≤ first
  pub some : first < p
  pub high : p ≤ end
  pub before : UsedIn ws a first
  pub opens : bit ws first ≡ 0
  pub closes : bit ws (p - 1) ≡ 0
  pub place : (i : ℕ) × (a ≤ i) × (i + most ≤ p) × FreeAt ws most i

-- up to p, the end of a run: the longest run has most units, fewer than n
pub record Known (ws : List ℕ) (a end n p first most : ℕ) : Type 0 where
  pub part : Part ws a end p first most
  pub less : most < n
  pub longest : NoFit ws end (most + 1) a p

pub no_fit_yet : (ws : List ℕ) (end n a : ℕ) → NoFit ws end n a a
no_fit_yet ws end n a i p q = absurd (omega arith)

pub known_first : (ws : List ℕ) (a end n s e : ℕ) (w : BitVectorRangeIterator) → RunFrom ws end n a s e w → e - s < n
    → Known ws a end n e s (e - s)
known_first ws a end n s e w r g = record {
  part = record {
    low = r.low;
    some = r.ends.some;
    high = r.ends.inside;
    before = r.used;
    opens = r.ends.free s (omega arith) r.ends.some;
    closes = r.ends.free (e - 1) (omega (arith, r.ends.some)) (omega (arith, r.ends.some));
    place = (s, r.low, omega (arith, r.ends.some), λ k q t. r.ends.free k q (omega (arith, r.ends.some)));
  };
  less = g;
  longest = fit_later ws a end (e - s + 1) a s e w (omega arith) (no_fit_yet ws end (e - s + 1) a) (run_hint ws end n (e - s + 1) a s e w r g) (omega arith);
}

pub known_next : (ws : List ℕ) (a end n p first most s e m : ℕ) (w : BitVectorRangeIterator) → Known ws a end n p first most
    → RunFrom ws end n p s e w → e - s < n → m ≡ max most (e - s) → Known ws a end n e first m
known_next ws a end n p first most s e m w x r g h =
    let y = x.part in
    record {
      part = record {
        low = y.low;
        some = omega (arith, y.some, r.low, r.ends.some);
        high = r.ends.inside;
        before = y.before;
        opens = y.opens;
        closes = r.ends.free (e - 1) (omega (arith, r.ends.some)) (omega (arith, r.ends.some));
        place = ⊎_elim
            (λ (q : most ≤ e - s).
            (s, omega (arith, y.low, y.some, r.low), omega (arith, r.ends.some), λ k t u. r.ends.free k t (omega (arith, r.ends.some))))
            (λ q.
            let i = y.place.0 in
            (i, y.place.1, omega (arith, y.place.2, r.low, r.ends.some), λ k t u. y.place.3 k t (omega arith)))
            (le-or-lt most (e - s));
      };
      less = omega (arith, x.less);
      longest = fit_later ws a end (m + 1) p s e w (omega arith) (fit_mono ws end (most + 1) (m + 1) a p (omega arith) x.longest)
          (run_hint ws end n (m + 1) p s e w r g) (omega arith);
    }

pub known_end : (ws : List ℕ) (a end n p first most : ℕ) → Known ws a end n p first most → UsedIn ws p end → Tightened ws a end first p most
known_end ws a end n p first most x h =
    let y = x.part in
    record {
      low = y.low;
      some = y.some;
      high = y.high;
      before = y.before;
      opens = y.opens;
      closes = y.closes;
      after = h;
      place = (y.place.0, y.place.1, omega (arith, y.place.2, y.high), y.place.3);
      none_longer = fit_none ws a end (most + 1) p (omega arith) x.longest h;
    }

pub known_fit : (ws : List ℕ) (a end n p first most : ℕ) → Known ws a end n p first most → NoFit ws end n a p
known_fit ws a end n p first most x = fit_mono ws end (most + 1) n a p (omega (arith, x.less)) x.longest

-- ---- the runs that a walk yields are the maximal ones of the window that starts at a, from its start or from where the last one stopped
pub run_maximal : (ws : List ℕ) (a end hint p start e at word : ℕ) → p ≤ start → UsedIn ws p start → Ends ws start end hint e at word → a ≤ p
    → (p ≡ a) ⊎ (bit ws p ≡ 1) → e - start < hint → FreeRun ws a end start e
run_maximal ws a end hint p start e at word low used ends l from g = record {
  low = omega (arith, low);
  some = ends.some;
  high = ends.inside;
  free = ends.free;
  opens = ⊎_elim
      (λ q. ⊎_elim inl (λ u. absurd (omega (arith, u, ap (bit ws) (same q), ends.free start (omega arith) ends.some))) (⊎_elim (λ z. inl (sym (same q) ∙ z)) inr from))
      (λ q. inr (used (start - 1) (omega arith) (omega arith))) (le-or-lt start p);
  closes = ⊎_elim (λ q. inl (omega (arith, ends.inside))) (λ q. inr (ends.stop q g)) (le-or-lt end e);
}
  where
    same : start ≤ p → p ≡ start
    same q = omega (arith, low)
