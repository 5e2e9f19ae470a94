-- Words cleared from the front; and the slots in force lie within both slices. Assumes nothing.
use Prim.Native.Nat.{ℕ, zero, suc, ◌*◌, ◌/◌, ◌≤◌, min}
use mathlib.Core.List.{List, [], ◌∷◌}
use mathlib.Core.Path.{◌≡◌, refl, ap}
use native.Mathlib.Nat.{not-suc-le-zero, le_of_suc-le-suc, mul-le-mul_right, div-mul-le_self}
use native.Mathlib.Omega.{arith}
use lib.ListN.{length}
use Rattle.machine.specs.Create.{slots_of, cleared}

pub length_cleared : (n : ℕ) (ws : List ℕ) → n ≤ length ws → length (cleared n ws) ≡ length ws
length_cleared zero ws h = refl
length_cleared (suc n) [] h = absurd (not-suc-le-zero h)
length_cleared (suc n) (x ∷ xs) h = ap suc (length_cleared n xs (le_of_suc-le-suc h))

pub slots_room : (w u t : ℕ) → (slots_of w u t * w ≤ u) × (slots_of w u t * w ≤ t)
slots_room w u t =
    let q = min u t / w in
    let m = mul-le-mul_right {m = min 64 q} {n = q} w (omega arith) in
    let l = div-mul-le_self (min u t) w in
    (omega (arith, m, l), omega (arith, m, l))
