-- What operands and lists of expressions mean.
use Rattle.std.specs.Prelude.{Bool, true, false, List, map}
use Rattle.b4_core.specs.declared.operators.EqOp.TheVariants.{Logic, Case}
use Rattle.v_tree.specs.declared.expressions.VExpr.{VExpr}
use Rattle.v_tree.specs.declared.expressions.VPrim.{VPrim, fold-VPrim}
use Rattle.v_tree.specs.declared.expressions.VSel.{VSel}
use Rattle.v_meaning.specs.Selects.{SelMeaning}
use Rattle.v_meaning.specs.Values.{Meaning, meaning, sel_meaning, expr_step, prim_step, sel_step, equal, unequal}

-- the meaning of an operand
abbrev pub prim_meaning : VPrim → Meaning
prim_meaning = fold-VPrim Meaning Meaning SelMeaning expr_step prim_step sel_step

abbrev pub meanings : List VExpr → List Meaning
meanings es = map meaning es

abbrev pub sel_meanings : List VSel → List SelMeaning
sel_meanings ss = map sel_meaning ss

-- `==`, `!=`, `===` and `!==`
abbrev pub comparison : Bool → Bool → Meaning → Meaning → Meaning
comparison false false = equal Logic
comparison false true = unequal Logic
comparison true false = equal Case
comparison true true = unequal Case
