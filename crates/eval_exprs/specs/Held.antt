-- What an expression stands in.
use Rattle.std.specs.Prelude.{ℕ, Bool, List}
use Rattle.b4_core.specs.declared.bit.Bit4.{Bit4}
use Rattle.b4_core.specs.Vectors.{ext}
use Rattle.eval_parts.specs.Picks.{picked, tabulated}
use Rattle.sv_types.specs.declared.expression.Expr.{Expr}
use Rattle.sv_types.specs.Layouts.{layout, width_of, stored}
use Rattle.sv_types.specs.Surroundings.{Around, Callee, Parameter}
use Rattle.sv_types.specs.Functions.{callees_within}
use Rattle.eval_parts.specs.declared.paths.Found.{Found}
use Rattle.eval_parts.specs.Places.{window_of, bit_of, bit_or_x}
use Rattle.eval_parts.specs.Steps.{is_held}
use Rattle.eval_parts.specs.Surroundings.{now_of}
use Rattle.eval_forms.specs.Callees.{formals_in}
use Rattle.eval_exprs.specs.declared.held.Held.{Held}
use Rattle.eval_exprs.specs.declared.held.Scope.{Scope}

-- the functions, with calls that go so deep
abbrev pub callees_in : Scope → ℕ → Callee
callees_in sc = callees_within sc.depth sc.functions.now

-- the formals of each function
abbrev pub formals : Scope → ℕ → List Parameter
formals sc = formals_in sc.functions.now

abbrev pub around : Held → Around
around h = record { now = now_of h.signals.now h.locals.now; holds = is_held h.signals.now; callee = callees_in h.scope }

-- what a path reads
abbrev pub bits_of_path : Held → Expr → Found → ℕ → Bool → List Bit4
bits_of_path h e f w s =
    ext w s (stored (layout e.of).two_state (tabulated (width_of e.of) (λ j. bit_or_x (bit_of f.root (now_of h.signals.now h.locals.now)) (picked (window_of f.window) j))))
