-- Writes by the signals that they begin in.
use Rattle.std.specs.Prelude.{ℕ, ◌/◌, ◌^◌, ◌==◌, nat_lt, Bool, true, false, ◌&&◌, not, cond, List, [], ◌∷◌, Option, Some, None, slice_get}
use Rattle.bit_sets.specs.declared.span.Span.{Span}
use Rattle.flow_sets.specs.declared.uses.Write.{Write}
use Rattle.sv_types.specs.declared.design.ProcessKind.{ProcessKind}
use Rattle.sv_types.specs.declared.design.ProcessKind.TheVariants.{Continuous, Link, Comb, Latch, Star, Edges}
use Rattle.sv_types.specs.declared.design.Signal.{Signal}
use Rattle.sv_types.specs.Machine.{is_input}
use Rattle.least_breaks.specs.Least.{with_token}

abbrev pub signal_of : Span → ℕ
signal_of s = s.low / 2 ^ 32

abbrev pub is_declared : List Signal → ℕ → Bool
is_declared ss n = elim (slice_get ss n) [ None ↦ false | Some s ↦ s.declared ]

abbrev pub is_any_input : List Signal → ℕ → Bool
is_any_input ss n = elim (slice_get ss n) [ None ↦ false | Some s ↦ is_input s.kind ]

abbrev pub is_own_link : ProcessKind → ℕ → Bool
is_own_link Continuous n = false
is_own_link (Link port) n = port == n
is_own_link Comb n = false
is_own_link Latch n = false
is_own_link Star n = false
is_own_link (Edges es) n = false

abbrev pub is_continuous : ProcessKind → Bool
is_continuous Continuous = true
is_continuous (Link port) = true
is_continuous Comb = false
is_continuous Latch = false
is_continuous Star = false
is_continuous (Edges es) = false

abbrev pub is_of_value : List Signal → Span → Bool
is_of_value ss s = nat_lt s.low (2 ^ 64) && (is_declared ss (signal_of s) && nat_lt s.low s.high)

abbrev pub is_foreign : List Signal → ProcessKind → Span → Bool
is_foreign ss k s = is_any_input ss (signal_of s) && (nat_lt s.low s.high && not (is_own_link k (signal_of s)))

-- the least of a token and those of the writes of some kind
abbrev pub least_by : (Span → Bool) → Option ℕ → List Write → Option ℕ
least_by test least [] = least
least_by test least (w ∷ ws) = least_by test (cond (test w.of.span) (with_token least w.of.at) least) ws
