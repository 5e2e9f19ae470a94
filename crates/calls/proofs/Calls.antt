-- The machine's step, where a call's own rule does not say it whole: a query changes nothing. Assumes nothing.
use Rattle.std.specs.Prelude.{Option, Some, None, Ok, Err}
use Prim.Native.Nat.{ℕ}
use mathlib.Core.Bool.{Bool, true, false}
use mathlib.Core.List.{List}
use mathlib.Core.Path.{◌≡◌, refl}
use Rattle.numbers.specs.Pick.{pick}
use lib.ListN.{length}
use Rattle.state.specs.declared.State.{State}
use Rattle.state.specs.Held.{Held}
use Rattle.state.specs.declared.Refusal.TheVariants.{BadShape}
use Rattle.state.specs.Shape.{bad_shape}
use Rattle.state.specs.Find.{lookup}
use Rattle.machine.specs.Turn.{turn, refuse}
use Rattle.machine.specs.Span.{held_in, query_held, query_found, query_turn}

still_held : (s : State) (u t : List ℕ) (a j : ℕ) (h : Held) → turn (query_held s u t a j h).answer s u t ≡ query_held s u t a j h
still_held s u t a j (Err why) = refl
still_held s u t a j (Ok units) = refl

still_found : (s : State) (u t : List ℕ) (a : ℕ) (f : Option ℕ) → turn (query_found s u t a f).answer s u t ≡ query_found s u t a f
still_found s u t a None = refl
still_found s u t a (Some j) = still_held s u t a j (held_in s u t a j)

still_either : (s : State) (u t : List ℕ) (a : ℕ) (b : Bool) → let x = pick b (refuse BadShape s u t) (query_found s u t a (lookup s a)) in turn x.answer s u t ≡ x
still_either s u t a true = refl
still_either s u t a false = still_found s u t a (lookup s a)

pub query_still : (s : State) (u t : List ℕ) (a : ℕ) → turn (query_turn s u t a).answer s u t ≡ query_turn s u t a
unfolding query_turn
query_still s u t a = still_either s u t a (bad_shape s (length u) (length t))
