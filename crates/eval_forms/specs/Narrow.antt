-- Operands of which no type has more than 2^22 bits.
use Rattle.std.specs.Prelude.{◌≤◌, ⊤, Bool, List, [], ◌∷◌}
use Rattle.sv_types.specs.declared.expression.Expr.{Expr}
use Rattle.sv_types.specs.declared.expression.Choice.{Choice}
use Rattle.sv_types.specs.Operators.{Alternative}
use Rattle.sv_types.specs.Expressions.{meaning}
use Rattle.eval_parts.specs.Insides.{alternative}

abbrev pub AllNarrowOperands : List Expr → Type 0
AllNarrowOperands [] = ⊤
AllNarrowOperands (e ∷ es) = ((meaning e).widest ≤ 4194304) × AllNarrowOperands es

-- as far as there are places
abbrev pub AllNarrowAt : List (List Bool) → List Expr → Type 0
AllNarrowAt [] es = ⊤
AllNarrowAt (p ∷ ps) [] = ⊤
AllNarrowAt (p ∷ ps) (e ∷ es) = ((meaning e).widest ≤ 4194304) × AllNarrowAt ps es

abbrev pub IsNarrowAlternative : Alternative → Type 0
IsNarrowAlternative (Alternative.Only v) = v.widest ≤ 4194304
IsNarrowAlternative (Alternative.From low high) = (low.widest ≤ 4194304) × (high.widest ≤ 4194304)

abbrev pub ChoiceIsNarrow : Choice → Type 0
ChoiceIsNarrow c = IsNarrowAlternative (alternative c)

abbrev pub AllChoicesNarrow : List Choice → Type 0
AllChoicesNarrow [] = ⊤
AllChoicesNarrow (c ∷ cs) = ChoiceIsNarrow c × AllChoicesNarrow cs
