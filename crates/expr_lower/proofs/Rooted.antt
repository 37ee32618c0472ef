-- What a step selects from, if it is no path, names all that it names as what a path stands on.
use Rattle.std.proofs.Common.{◌≡◌, false, refl, subst}
use Rattle.sv_types.specs.declared.expression.Expr.{Expr}
use Rattle.sv_types.specs.declared.expression.Form.{Form, out-Form}
use Rattle.sv_types.specs.declared.expression.Choice.{Choice}
use Rattle.sv_types.specs.Expressions.{meaning}
use Rattle.sv_types.proofs.Terms.{Steps, by-expr}
use Rattle.eval_parts.specs.Steps.{is_path}
use Rattle.expr_lower.specs.Leaves.{leaves, onto, Each, IsLowered}
use Rattle.path_steps.proofs.Alike.{Alike}
use Rattle.path_steps.proofs.Alike as K
use Rattle.expr_lower.proofs.AskedLeaves as A

abbrev AlikeForm : Form → Type 0
AlikeForm f = (e : Expr) → e.form ≡ f → is_path (out-Form e.form) ≡ false → Each IsLowered (onto (leaves e)) → Alike (meaning e)

abbrev AlikeExpr : Expr → Type 0
AlikeExpr e = is_path (out-Form e.form) ≡ false → Each IsLowered (onto (leaves e)) → Alike (meaning e)

abbrev AnyChoice : Choice → Type 0
AnyChoice c = Unit {0}

alike-steps : Steps AnyChoice AlikeForm AlikeExpr
alike-steps = record {
  value = λ e h. tt;
  range = λ low high h g. tt;
  expr = λ e h kind all. h e refl kind all;
  literal = λ v goes_on e is kind all. K.alike-Literal e v goes_on is;
  fill = λ b e is kind all. K.alike-Fill e b is;
  constant = λ v e is kind all. K.alike-Constant e v is;
  signal = λ n e is kind all. absurd (A.path-Signal e n is kind);
  local = λ n e is kind all. absurd (A.path-Local e n is kind);
  member = λ x k h0 e is kind all. absurd (A.path-Member e x k is kind);
  index = λ x y h0 h1 e is kind all. absurd (A.path-Index e x y is kind);
  part_select = λ x left right h0 e is kind all. absurd (A.path-Part e x left right is kind);
  sliding = λ x y n up h0 h1 e is kind all. absurd (A.path-Slide e x y n up is kind);
  unary = λ op x h1 e is kind all. K.alike-Unary e op x is;
  reduce = λ op x h1 e is kind all. K.alike-Reduce e op x is;
  negate = λ x h0 e is kind all. K.alike-Negate e x is;
  binary = λ op x y h1 h2 e is kind all. K.alike-Binary e op x y is;
  shift = λ op x y h1 h2 e is kind all. K.alike-Shift e op x y is;
  power = λ x y h0 h1 e is kind all. K.alike-Power e x y is;
  order = λ op x y h1 h2 e is kind all. K.alike-Order e op x y is;
  equal = λ op negated x y h2 h3 e is kind all. K.alike-Equal e op negated x y is;
  both = λ x y h0 h1 e is kind all. K.alike-Both e x y is;
  either = λ x y h0 h1 e is kind all. K.alike-Either e x y is;
  choose = λ z x y h0 h1 h2 e is kind all. K.alike-Choose e z x y is;
  concat = λ es h0 e is kind all. absurd (subst (λ l. Each IsLowered (onto l)) (A.leaves-Concat e es is) all).0;
  repeat = λ n es h1 e is kind all. K.alike-Repeat e n es is;
  inside = λ x cs h0 h1 e is kind all. K.alike-Inside e x cs is;
  cast = λ x h0 e is kind all. K.alike-Cast e x is;
  clog2 = λ x h0 e is kind all. K.alike-Clog2 e x is;
  pattern = λ es h0 e is kind all. K.alike-Pattern e es is;
  call = λ f es h1 e is kind all. K.alike-Call e f es is;
  stream = λ reversed n es h2 e is kind all. absurd (subst (λ l. Each IsLowered (onto l)) (A.leaves-Stream e reversed n es is) all).0;
}

pub alike : (e : Expr) → AlikeExpr e
alike = by-expr AnyChoice AlikeForm AlikeExpr alike-steps
