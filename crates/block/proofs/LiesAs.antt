-- Marking, release and search leave where a block lies: its base, size, pool, slot and area. Assumes nothing.
use Prim.Native.Nat.{ℕ, ◌+◌, ◌-◌}
use mathlib.Core.List.{List}
use mathlib.Core.Path.{◌≡◌, refl, ap, subst, ◌∙◌}
use lib.Dec.{eqb}
use Rattle.numbers.proofs.Bools.{picked}
use Rattle.runs.specs.declared.Search.{Search}
use Rattle.runs.specs.declared.Search.TheVariants.{At, Tight, Full}
use Rattle.runs.specs.Seek.{seek}
use Rattle.slots.specs.Slots.{slot_of}
use Rattle.block.specs.declared.Block.{Block}
use Rattle.std.specs.Prelude.{Result, Ok, Err}
use Rattle.block.specs.Record.{with_numbers}
use Rattle.block.specs.Marking.{marked, released}
use Rattle.block.specs.Search.{worth_searching, looked, look_into}

-- c is a later record of the block b
pub record LiesAs (c b : Block) : Type 0 where
  pub base : c.base ≡ b.base
  pub size : c.size ≡ b.size
  pub pool : c.pool ≡ b.pool
  pub slot : c.slot ≡ b.slot
  pub area : c.area ≡ b.area

pub lies_refl : {c b : Block} → c ≡ b → LiesAs c b
lies_refl e = record {
  base = ap (λ (x : Block). x.base) e;
  size = ap (λ (x : Block). x.size) e;
  pool = ap (λ (x : Block). x.pool) e;
  slot = ap (λ (x : Block). x.slot) e;
  area = ap (λ (x : Block). x.area) e;
}

pub lies_trans : {a b c : Block} → LiesAs a b → LiesAs b c → LiesAs a c
lies_trans p q = record {
  base = p.base ∙ q.base;
  size = p.size ∙ q.size;
  pool = p.pool ∙ q.pool;
  slot = p.slot ∙ q.slot;
  area = p.area ∙ q.area;
}

pub numbers_lie : (b : Block) (flags used start end largest : ℕ) → LiesAs (with_numbers b flags used start end largest) b
numbers_lie b flags used start end largest = record { base = refl; size = refl; pool = refl; slot = refl; area = refl }

pub marked_lies : (b : Block) (i e : ℕ) → LiesAs (marked b i e) b
unfolding marked
marked_lies b i e = picked (λ (c : Block). LiesAs c b) (eqb (b.used + (e - i)) b.area) _ _ (λ x. numbers_lie b _ _ _ _ _) (λ x. numbers_lie b _ _ _ _ _)

pub released_lies : (b : Block) (i e : ℕ) → LiesAs (released b i e) b
unfolding released
released_lies b i e = picked (λ (c : Block). LiesAs c b) (eqb (b.used - (e - i)) 0) _ _ (λ x. numbers_lie b _ _ _ _ _) (λ x. numbers_lie b _ _ _ _ _)

-- ---- a search
abbrev LiesIn : Block → Result ℕ Block → Type 0
LiesIn b (Ok i) = Unit {0}
LiesIn b (Err c) = LiesAs c b

looked_lies : (b : Block) (r : Search) → LiesIn b (looked b r)
looked_lies b (At i) = tt
looked_lies b (Tight first last longest) = numbers_lie b _ _ _ _ _
looked_lies b Full = lies_refl refl

pub missed_lies : (w : ℕ) (b : Block) (ws : List ℕ) (n : ℕ) (c : Block) → look_into w b ws n ≡ Err c → LiesAs c b
unfolding look_into
missed_lies w b ws n c e =
    subst (LiesIn b) e
    (picked (LiesIn b) (worth_searching b n) _ _ (λ x. looked_lies b (seek (slot_of w b.slot ws) b.start b.end n)) (λ x. lies_refl refl))
