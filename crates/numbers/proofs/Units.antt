-- Laws of bytes and units, over any unit. Assumes nothing.
use Rattle.std.proofs.Common.{◌≡◌, ℕ, ◌+◌, ◌-◌, ◌*◌, ◌/◌, ◌%◌, ◌<◌, ◌≤◌, ◌↔◌, ap, ◌∙◌, add-zero, mod-lt, div-lt_iff_lt-mul, div-add-mod', div-mul-le_self, arith}
use native.Mathlib.Nat.{mul-add-div_right, div-eq_of_lt, lt-div-mul-add}
use Rattle.numbers.specs.Units.{units_of, bytes_of}
use Rattle.numbers.proofs.Split.{by_eq}

-- whole units come back as they were
pub units_exact : (n unit : ℕ) → 0 < unit → units_of (bytes_of n unit) unit ≡ n
units_exact n unit h =
    mul-add-div_right h n (unit - 1) ∙ ap (λ (m : ℕ). n + m) (div-eq_of_lt {n = unit - 1} {m = unit} (omega arith)) ∙ omega arith

-- the units hold the bytes, and one unit less would not
pub units_hold : (size unit : ℕ) → 0 < unit → size ≤ bytes_of (units_of size unit) unit
units_hold size unit h = omega (arith, lt-div-mul-add {a = size + (unit - 1)} h)

pub units_tight : (size unit : ℕ) → 0 < unit → bytes_of (units_of size unit) unit < size + unit
units_tight size unit h = omega (arith, div-mul-le_self (size + (unit - 1)) unit)

-- a byte takes a unit
pub units_some : (size unit : ℕ) → 0 < unit → 0 < size → 0 < units_of size unit
units_some size unit h l =
    by_eq (units_of size unit) 0 (λ e. absurd (omega (arith, units_hold size unit h, ap (λ (n : ℕ). bytes_of n unit) e))) (λ ne. omega (arith, ne))

-- a size takes at most n units exactly if n units hold it
pub units-le : (size unit n : ℕ) → 0 < unit → (units_of size unit < n + 1) ↔ (size ≤ bytes_of n unit)
units-le size unit n h =
    let i = div-lt_iff_lt-mul {k = unit} {x = size + (unit - 1)} {y = n + 1} h in
    (λ l. omega (arith, i.0 l), λ l. i.1 (omega arith))

-- the quotient, and one more where something is left over
pub units_whole : (size unit : ℕ) → 0 < unit → size % unit ≡ 0 → units_of size unit ≡ size / unit
units_whole size unit h e =
    let w : size ≡ size / unit * unit = omega (arith, div-add-mod' size unit, e) in
    ap (λ (s : ℕ). units_of s unit) w ∙ units_exact (size / unit) unit h

pub units_odd : (size unit : ℕ) → 0 < unit → (size % unit ≡ 0 → ⊥) → units_of size unit ≡ size / unit + 1
units_odd size unit h ne =
    ap (λ (s : ℕ). s / unit) (by_parts (div-add-mod' size unit))
    ∙ mul-add-div_right h (size / unit + 1) (size % unit - 1)
    ∙ ap (λ (m : ℕ). size / unit + 1 + m) (div-eq_of_lt {n = size % unit - 1} {m = unit} (omega (arith, mod-lt size h)))
    ∙ add-zero (size / unit + 1)
  where
    by_parts : size / unit * unit + size % unit ≡ size → size + (unit - 1) ≡ (size / unit + 1) * unit + (size % unit - 1)
    by_parts w = omega (arith, ne)
