-- Document 01, Edge figures at g = 64 and base block size 65,536: the starred rows, and one claim about all of them. Assumes nothing.
use Rattle.std.specs.Prelude.{◌≡◌, refl, Bool, true, false, ◌&&◌, List, [], ◌∷◌, ℕ, ◌-◌, ◌*◌, ◌^◌, eqb, Result, Ok, Err}
use Rattle.numbers.specs.Units.{units_of}
use Rattle.sizes.specs.declared.SizeError.{SizeError}
use Rattle.block.specs.declared.Block.{Block}
use Rattle.block.specs.Marking.{fresh, marked}
use Rattle.sizes.specs.Pools.{pool_of}
use Rattle.sizes.specs.Sizes.{number, rounded, ideal_size}

-- what a figure tells; requests are not rounded yet
pub data Figure : Type 0 where
  -- the size that a request is rounded to, or its refusal
  rounding : ℕ → Figure
  -- a request's pool, of three
  choosing : ℕ → Figure
  -- the first request of a pool: its span, and the block made for it
  first : ℕ → Figure
  -- two requests, where a block is made for the second too: its span and that block
  second : ℕ → ℕ → Figure
  -- the first request of a pool: its block's area and used count, window start and end, and largest run, after marking
  marking : ℕ → Figure

-- a refusal's number, or 0 and the rounded size
abbrev pub told : Result ℕ SizeError → List ℕ
told (Ok n) = 0 ∷ n ∷ []
told (Err why) = number why ∷ []

abbrev pub bytes : Result ℕ SizeError → ℕ
bytes (Ok n) = n
bytes (Err why) = 0

abbrev pub span : ℕ → ℕ
span asked = bytes (rounded asked 64)

abbrev pub first_block : ℕ → ℕ
first_block asked = ideal_size 65536 (span asked)

-- the first block, of so many units, with a span of n at unit 0
abbrev pub first_marked : ℕ → ℕ → Block
first_marked area n = marked (fresh 65536 (area * 64) 0 0 area n) 0 n

abbrev pub counts : Block → List ℕ
counts b = b.area ∷ b.used ∷ b.start ∷ b.end ∷ b.largest ∷ []

abbrev pub shown : Figure → List ℕ
shown (rounding asked) = told (rounded asked 64)
shown (choosing asked) = pool_of (span asked) 64 3 ∷ []
shown (first asked) = span asked ∷ first_block asked ∷ []
shown (second before asked) = span asked ∷ ideal_size (first_block before) (span asked) ∷ []
shown (marking asked) = counts (first_marked (units_of (first_block asked) 64) (units_of (span asked) 64))

pub record Row : Type 0 where
  pub figure : Figure
  pub wanted : List ℕ

abbrev pub row : Figure → List ℕ → Row
row f ns = record { figure = f; wanted = ns }

pub rows : List Row
rows =
    row (rounding 0) (1 ∷ [])
    ∷ row (rounding (2 ^ 64 - 63)) (1 ∷ [])
    ∷ row (rounding (2 ^ 64 - 64)) (2 ∷ [])
    ∷ row (rounding 2147483585) (2 ∷ [])
    ∷ row (choosing 64) (0 ∷ [])
    ∷ row (choosing 384) (1 ∷ [])
    ∷ row (choosing 256) (2 ∷ [])
    ∷ row (first 64) (64 ∷ 131072 ∷ [])
    ∷ row (first 300000) (300032 ∷ 393216 ∷ [])
    ∷ row (second 300000 1000000) (1000000 ∷ 1048576 ∷ [])
    ∷ row (marking 131072) (2048 ∷ 2048 ∷ 2048 ∷ 0 ∷ 0 ∷ [])
    ∷ []

abbrev pub same : List ℕ → List ℕ → Bool
same [] [] = true
same [] (n ∷ ns) = false
same (m ∷ ms) [] = false
same (m ∷ ms) (n ∷ ns) = eqb m n && same ms ns

abbrev pub all_right : List Row → Bool
all_right [] = true
all_right (r ∷ rs) = same (shown r.figure) r.wanted && all_right rs

pub rows_right : all_right rows ≡ true
unfolding rows rounded pool_of ideal_size marked
rows_right = refl
