-- Expressions that outputs are connected to, as targets.
use Rattle.std.specs.Prelude.{◌++◌, Bool, true, Option, Some, None, List}
use Rattle.v_tree.specs.declared.expressions.VPrim.{VPrim, fold-VPrim}
use Rattle.v_tree.specs.declared.expressions.VSel.{VSel, fold-VSel}
use Rattle.v_meaning.specs.Selects.{SelMeaning}
use Rattle.v_meaning.specs.Statements.{Target}
use Rattle.v_meaning.specs.Modules.{over, connected_expr, connected_prim, connected_sel}

-- an operand and a select of such an expression
abbrev pub connected_of_prim : VPrim → Option Target
connected_of_prim = fold-VPrim (Option Target) (Option Target) (Option SelMeaning) connected_expr connected_prim connected_sel

abbrev pub connected_of_sel : VSel → Option SelMeaning
connected_of_sel = fold-VSel (Option Target) (Option Target) (Option SelMeaning) connected_expr connected_prim connected_sel

-- these, and others behind them if there are such
abbrev pub behind : {A : Type 0} → List A → Option (List A) → Option (List A)
behind xs ys = over (λ rest. xs ++ rest) ys

-- it holds of a thing, if there is one
abbrev pub if_some : {A : Type 0} → (A → Bool) → Option A → Bool
if_some f None = true
if_some f (Some x) = f x
