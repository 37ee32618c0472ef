-- Operands that are asked again.
use Rattle.std.specs.Prelude.{◌≡◌, ⊤, ℕ, List, [], ◌∷◌, Option}
use Rattle.sv_types.specs.declared.expression.Expr.{Expr}
use Rattle.sv_types.specs.Surroundings.{Around}
use Rattle.sv_types.specs.Meanings.{Meaning}
use Rattle.sv_types.specs.Expressions.{meaning}
use Rattle.eval_parts.specs.Insides.{Runs}
use Rattle.eval_forms.specs.declared.asked.Ask.{Ask}
use Rattle.eval_forms.specs.declared.asked.Ask.TheVariants as A
use Rattle.eval_forms.specs.Asked.{Asked}

-- what is asked is bits, for the first time
abbrev pub IsBits : Ask → Type 0
IsBits (A.Bits w s) = ⊤
IsBits (A.Again w s) = ⊥
IsBits A.Place = ⊥

-- what is asked again is the operand x
abbrev pub IsAgainOf : Ask → Expr → Expr → Type 0
IsAgainOf (A.Bits w s) e x = ⊤
IsAgainOf (A.Again w s) e x = e ≡ x
IsAgainOf A.Place e x = ⊥

abbrev pub AllAgainOf : Expr → List Asked → Type 0
AllAgainOf x [] = ⊤
AllAgainOf x (q ∷ qs) = IsAgainOf q.ask q.of x × AllAgainOf x qs

-- only the first operand is asked again
abbrev pub OnlyFirstAgain : List Asked → Type 0
OnlyFirstAgain [] = ⊤
OnlyFirstAgain (q ∷ qs) = IsBits q.ask × AllAgainOf q.of qs

-- what is asked again ran to its end on the budget with which the whole began
abbrev pub IsReady : Ask → Meaning → Around → Option ℕ → Type 0
IsReady (A.Bits w s) m a start = ⊤
IsReady (A.Again w s) m a start = Runs m a start
IsReady A.Place m a start = ⊥

abbrev pub AllReady : List Asked → Around → Option ℕ → Type 0
AllReady [] a start = ⊤
AllReady (q ∷ qs) a start = IsReady q.ask (meaning q.of) a start × AllReady qs a start
