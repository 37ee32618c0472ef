-- `inside` by its alternatives (IEEE 1800-2017 clause 11.4.13).
use Rattle.std.specs.Prelude.{◌≡◌, ⊤, List, [], ◌∷◌, ◌++◌, length, map, flat_map}
use Rattle.b4_core.specs.declared.bit.Bit4.{Bit4}
use Rattle.b4_core.specs.declared.operators.RedOp.TheVariants.{Or}
use Rattle.row_machine.specs.Valuation.{Valuation}
use Rattle.sv_types.specs.declared.expression.Expr.{Expr}
use Rattle.sv_types.specs.declared.expression.Choice.{Choice, out-Choice}
use Rattle.sv_types.specs.Surroundings.{Around}
use Rattle.sv_types.specs.Operators.{is_inside}
use Rattle.sv_types.specs.Expressions.{meaning}
use Rattle.v_tree.specs.declared.names.Helper.{Helper}
use Rattle.v_tree.specs.declared.expressions.VExpr.{VExpr}
use Rattle.v_meaning.specs.Scopes.{Scope}
use Rattle.v_meaning.specs.Values as T
use Rattle.v_build.specs.Trees.{meanings}
use Rattle.eval_parts.specs.Insides.{alternative}
use Rattle.eval_forms.specs.Asked.{Asked, choice_asked}
use Rattle.path_flatten.specs.Helping.{EachHelps}
use Rattle.path_flatten.specs.Naming.{SameNumbers}
use Rattle.form_lower.specs.Calls.{NamesOf}
use Rattle.form_lower.specs.Wilds.{GivesBit}
use Rattle.expr_lower.specs.Lowering.{SameEach}

-- what an alternative asks, and what all of them do
abbrev pub choice_asks : Expr → Choice → List Asked
choice_asks x c = choice_asked x (out-Choice c)

abbrev pub choices_ask : Expr → List Choice → List Asked
choices_ask x cs = flat_map (λ c. choice_asked x (out-Choice c)) cs

-- one bit that says whether a value is an alternative, made of what the alternative asks
pub record Alternates (x : Expr) (c : Choice) (parts : List T.Meaning) (hs : List Helper) (r : T.Meaning) : Type 0 where
  pub bit : (a : Around) (sc : Scope) (v : Valuation) → EachHelps hs sc → (meaning x).misfits ≡ 0 → SameEach (choice_asks x c) a parts sc v
      → GivesBit r (is_inside (meaning x) a (alternative c)) sc v
  pub names : NamesOf parts r

-- it is made of the last ones of a list
pub record Takes (x : Expr) (c : Choice) (old new : List VExpr) (hs : List Helper) (r : T.Meaning) : Type 0 where
  pub taken : List VExpr
  pub split : old ≡ new ++ taken
  pub count : length taken ≡ length (choice_asks x c)
  pub alternates : Alternates x c (meanings taken) hs r

-- one by one
abbrev pub AllGiveBits : List T.Meaning → List Bit4 → Scope → Valuation → Type 0
AllGiveBits [] [] sc v = ⊤
AllGiveBits [] (b ∷ bs) sc v = ⊥
AllGiveBits (m ∷ ms) [] sc v = ⊥
AllGiveBits (m ∷ ms) (b ∷ bs) sc v = GivesBit m b sc v × AllGiveBits ms bs sc v

pub record AllAlternate (x : Expr) (cs : List Choice) (parts : List T.Meaning) (hs : List Helper) (rs : List T.Meaning) : Type 0 where
  pub bits : (a : Around) (sc : Scope) (v : Valuation) → EachHelps hs sc → (meaning x).misfits ≡ 0 → SameEach (choices_ask x cs) a parts sc v
      → AllGiveBits rs (map (is_inside (meaning x) a) (map alternative cs)) sc v
  pub count : length parts ≡ length (choices_ask x cs)
  pub some : length rs ≡ length cs
  pub names : (sc : Scope) → SameNumbers (T.all_names parts sc) (T.all_names rs sc)

-- the alternatives in order, behind the value itself
pub record Lists (x : Expr) (cs : List Choice) (parts : List T.Meaning) (hs : List Helper) (rs : List T.Meaning) : Type 0 where
  pub first : T.Meaning
  pub rest : List T.Meaning
  pub split : parts ≡ first ∷ rest
  pub all : AllAlternate x cs rest hs rs

-- the only alternative, or the reduction with or of all of them
abbrev pub any_of : List T.Meaning → T.Meaning
any_of [] = T.reduce Or (T.concatenation [])
any_of (m ∷ []) = m
any_of (m ∷ k ∷ ks) = T.reduce Or (T.concatenation (m ∷ k ∷ ks))
