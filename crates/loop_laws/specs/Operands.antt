-- Where constant indices in operands take too long.
use Rattle.std.specs.Prelude.{◌≡◌, ℕ, ◌≤◌, List, [], ◌∷◌, length, Option, None}
use Rattle.sv_types.specs.declared.expression.Expr.{Expr}
use Rattle.sv_types.specs.declared.expression.Form.TheVariants as V
use Rattle.sv_types.specs.Surroundings.{Parameter, Sight}
use Rattle.eval_forms.specs.declared.asked.Ask.TheVariants as A
use Rattle.eval_forms.specs.Asked.{Asked}
use Rattle.design_breaks.specs.Indices.{lesser, said}

-- one that was valued before isn't looked at again
abbrev pub long_asked : Sight → Asked → Option ℕ
long_asked k q = elim q.ask [ A.Bits w s ↦ (said q.of).long k | A.Again w s ↦ None | A.Place ↦ (said q.of).long k ]

abbrev pub all_long : Sight → List Asked → Option ℕ
all_long k [] = None
all_long k (q ∷ qs) = lesser (long_asked k q) (all_long k qs)

-- a call passes no more than there are formals
abbrev pub PassesFew : (ℕ → List Parameter) → Expr → Type 0
PassesFew fs e = (f : ℕ) (es : List Expr) → e.form ≡ V.Call f es → length es ≤ length (fs f)
