-- On how many bits the arithmetic and the order comparisons of an expression are done.
use Rattle.std.specs.Prelude.{ℕ, ◌+◌, ◌*◌, max, List, [], ◌∷◌, map, length, Option, Some, None}
use Rattle.v_tree.specs.declared.expressions.VExpr.{VExpr, VExpr-F, fold-VExpr}
use Rattle.v_tree.specs.declared.expressions.VExtent.{VExtent}
use Rattle.v_tree.specs.declared.expressions.VPrim.{VPrim, VPrim-F, fold-VPrim}
use Rattle.v_tree.specs.declared.expressions.VSel.{VSel, VSel-F, fold-VSel}
use Rattle.v_meaning.specs.Scopes.{Scope, named}
use Rattle.v_meaning.specs.Values.{width_of}
use Rattle.v_eval.specs.Paths.{selecting}
use Rattle.v_eval.specs.Operators.{prefix_of, infix_of, prefix_width, operand_width, prefix_most, infix_width, left_width, right_width, infix_most}

-- An expression: its width alone, and the most bits on which it does arithmetic or compares by order where it is valued at
-- a width.
pub record Limits : Type 0 where
  pub wide : Scope → ℕ
  pub most : ℕ → Scope → ℕ

-- A select: its base where that is a decimal number, its extent, and the most bits for its base.
pub record SelLimits : Type 0 where
  pub decimal : Option ℕ
  pub extent : Option VExtent
  pub most : Scope → ℕ

-- alone
abbrev pub most_alone : Limits → Scope → ℕ
most_alone l sc = l.most (l.wide sc) sc

-- as what is assigned to so many bits
abbrev pub most_given : ℕ → Limits → Scope → ℕ
most_given n l sc = l.most (max n (l.wide sc)) sc

abbrev pub most_of_all : List Limits → Scope → ℕ
most_of_all [] sc = 0
most_of_all (l ∷ ls) sc = max (most_alone l sc) (most_of_all ls sc)

abbrev pub most_of_sels : List SelLimits → Scope → ℕ
most_of_sels [] sc = 0
most_of_sels (s ∷ ss) sc = max (s.most sc) (most_of_sels ss sc)

abbrev pub most_of_args : List ℕ → List Limits → Scope → ℕ
most_of_args [] ls sc = 0
most_of_args (n ∷ ns) [] sc = 0
most_of_args (n ∷ ns) (l ∷ ls) sc = max (most_given n l sc) (most_of_args ns ls sc)

abbrev pub joined_wide : List Limits → Scope → ℕ
joined_wide [] sc = 0
joined_wide (l ∷ ls) sc = joined_wide ls sc + l.wide sc

abbrev pub prim_limits : VPrim-F Limits Limits SelLimits → Limits
prim_limits (VPrim-F.Number bits) = record { wide = λ sc. length bits; most = λ w sc. 0 }
prim_limits (VPrim-F.Paren inner) = inner
prim_limits (VPrim-F.Name name sels) = record {
  wide = λ sc. width_of (named sc.names name) (map (λ (s : SelLimits). selecting s.decimal s.extent) sels);
  most = λ w sc. most_of_sels sels sc;
}
prim_limits (VPrim-F.Call name args) = record { wide = λ sc. (sc.callee name).width; most = λ w sc. most_of_args (sc.callee name).inputs args sc }
prim_limits (VPrim-F.Repeat count items) = record { wide = λ sc. count * joined_wide items sc; most = λ w sc. most_of_all items sc }
prim_limits (VPrim-F.Concat items) = record { wide = joined_wide items; most = λ w sc. most_of_all items sc }
prim_limits (VPrim-F.Sign signed of) = record { wide = of.wide; most = λ w sc. most_alone of sc }

abbrev pub expr_limits : VExpr-F Limits Limits SelLimits → Limits
expr_limits (VExpr-F.Prim a) = a
expr_limits (VExpr-F.Unary op a) = record {
  wide = λ sc. prefix_width (prefix_of op) (a.wide sc);
  most = λ w sc. let n = operand_width (prefix_of op) w (a.wide sc) in max (prefix_most (prefix_of op) n) (a.most n sc);
}
expr_limits (VExpr-F.Binary op a b) = record {
  wide = λ sc. infix_width (infix_of op) (a.wide sc) (b.wide sc);
  most = λ w sc.
      let m = left_width (infix_of op) w (a.wide sc) (b.wide sc) in
      let n = right_width (infix_of op) w (a.wide sc) (b.wide sc) in
      max (infix_most (infix_of op) m n) (max (a.most m sc) (b.most n sc));
}
expr_limits (VExpr-F.Choose on a b) = record {
  wide = λ sc. max (a.wide sc) (b.wide sc);
  most = λ w sc. max (most_alone on sc) (max (a.most w sc) (b.most w sc));
}

abbrev pub sel_limits : VSel-F Limits Limits SelLimits → SelLimits
sel_limits (VSel-F.Decimal base extent) = record { decimal = Some base; extent = extent; most = λ sc. 0 }
sel_limits (VSel-F.Expr base extent) = record { decimal = None; extent = extent; most = most_alone base }

abbrev pub limits : VExpr → Limits
limits = fold-VExpr Limits Limits SelLimits expr_limits prim_limits sel_limits

abbrev pub limits_of_prim : VPrim → Limits
limits_of_prim = fold-VPrim Limits Limits SelLimits expr_limits prim_limits sel_limits

abbrev pub limits_of_sel : VSel → SelLimits
limits_of_sel = fold-VSel Limits Limits SelLimits expr_limits prim_limits sel_limits
