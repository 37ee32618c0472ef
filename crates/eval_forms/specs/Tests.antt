-- The alternatives of `inside`, tested by the bits that were asked for them.
use Rattle.std.specs.Prelude.{◌≡◌, ℕ, Bool, List, [], ◌∷◌, ◌++◌, length, map, flat_map, drop}
use Rattle.b4_core.specs.declared.bit.Bit4.{Bit4}
use Rattle.b4_core.specs.declared.bit.Bit4.TheVariants.{Zero}
use Rattle.b4_core.specs.declared.operators.EqOp.TheVariants.{Wild}
use Rattle.b4_core.specs.declared.operators.OrdOp.TheVariants.{LessEqual, GreaterEqual}
use Rattle.b4_core.specs.Bits.{and4}
use Rattle.b4_core.specs.Compare.{equality, order_value}
use Rattle.sv_types.specs.declared.expression.Expr.{Expr}
use Rattle.sv_types.specs.declared.expression.Form.{Form}
use Rattle.sv_types.specs.declared.expression.Choice.{Choice, Choice-F, out-Choice}
use Rattle.sv_types.specs.Surroundings.{Parameter}
use Rattle.sv_types.specs.Operators.{both_signed}
use Rattle.sv_types.specs.Expressions.{meaning}
use Rattle.eval_parts.specs.Insides.{alternative, AlternativeFits, AllAlternativesFit}
use Rattle.eval_forms.specs.Asked.{choice_asked, widths_asked}

-- a value, by ==?
abbrev pub wild_test : List (List Bit4) → Bit4
wild_test [] = Zero
wild_test (p ∷ []) = Zero
wild_test (p ∷ q ∷ vs) = equality Wild p q

-- a range, by both of its bounds, of which each is compared by a sign
abbrev pub range_test : Bool → Bool → List (List Bit4) → Bit4
range_test low high [] = Zero
range_test low high (p ∷ []) = Zero
range_test low high (p ∷ q ∷ []) = Zero
range_test low high (p ∷ q ∷ r ∷ []) = Zero
range_test low high (p ∷ q ∷ r ∷ u ∷ vs) = and4 (order_value GreaterEqual low p q) (order_value LessEqual high r u)

abbrev pub test_of : Expr → Choice-F Choice Form Expr → List (List Bit4) → Bit4
test_of x (Choice-F.Value v) vs = wild_test vs
test_of x (Choice-F.Range low high) vs = range_test (both_signed (meaning x) (meaning low)) (both_signed (meaning x) (meaning high)) vs

-- all alternatives in order, each by the bits that it asked for
abbrev pub tests_of : Expr → List Choice → List (List Bit4) → List Bit4
tests_of x [] vs = []
tests_of x (c ∷ cs) vs = test_of x (out-Choice c) vs ∷ tests_of x cs (drop (length (choice_asked x (out-Choice c))) vs)

-- bits that begin with those that an alternative asked for
pub record TestFits (x : Expr) (c : Choice) (vs : List (List Bit4)) : Type 0 where
  pub formals : ℕ → List Parameter
  pub fits : AlternativeFits (meaning x) formals (alternative c)
  pub later : List ℕ
  pub lengths : map length vs ≡ widths_asked (choice_asked x (out-Choice c)) ++ later

pub record TestsFit (x : Expr) (cs : List Choice) (vs : List (List Bit4)) : Type 0 where
  pub formals : ℕ → List Parameter
  pub fits : AllAlternativesFit (meaning x) formals (map alternative cs)
  pub lengths : map length vs ≡ widths_asked (flat_map (λ c. choice_asked x (out-Choice c)) cs)
