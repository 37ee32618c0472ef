-- What an expression gives to a target, if no stream is in it.
use Rattle.std.proofs.Common.{◌≡◌, refl, subst}
use Rattle.sv_types.specs.declared.expression.Expr.{Expr}
use Rattle.sv_types.specs.declared.expression.Form.{Form}
use Rattle.sv_types.specs.declared.expression.Choice.{Choice}
use Rattle.sv_types.specs.Expressions.{meaning}
use Rattle.sv_types.proofs.Terms.{Steps, by-expr}
use Rattle.eval_parts.specs.Streams.{IsCut}
use Rattle.eval_parts.proofs.Given as G
use Rattle.expr_lower.specs.Leaves.{Leaf, Unlowered, leaves, Each}
use Rattle.expr_lower.proofs.AskedLeaves.{leaves-Stream}

abbrev AnyChoice : Choice → Type 0
AnyChoice c = Unit {0}

abbrev CutForm : (Leaf → Type 0) → Form → Type 0
CutForm P f = (e : Expr) → e.form ≡ f → Each P (leaves e) → IsCut (meaning e)

abbrev CutExpr : (Leaf → Type 0) → Expr → Type 0
CutExpr P e = Each P (leaves e) → IsCut (meaning e)

cut-steps : (P : Leaf → Type 0) → (P Unlowered → ⊥) → Steps AnyChoice (CutForm P) (CutExpr P)
cut-steps P none = record {
  value = λ e h. tt;
  range = λ low high h g. tt;
  expr = λ e h all. h e refl all;
  literal = λ v goes_on e is all. G.cut-Literal e v goes_on is;
  fill = λ b e is all. G.cut-Fill e b is;
  constant = λ v e is all. G.cut-Constant e v is;
  signal = λ n e is all. G.cut-Signal e n is;
  local = λ n e is all. G.cut-Local e n is;
  member = λ x k h0 e is all. G.cut-Member e x k is;
  index = λ x y h0 h1 e is all. G.cut-Index e x y is;
  part_select = λ x left right h0 e is all. G.cut-Part e x left right is;
  sliding = λ x y n up h0 h1 e is all. G.cut-Slide e x y n up is;
  unary = λ op x h1 e is all. G.cut-Unary e op x is;
  reduce = λ op x h1 e is all. G.cut-Reduce e op x is;
  negate = λ x h0 e is all. G.cut-Negate e x is;
  binary = λ op x y h1 h2 e is all. G.cut-Binary e op x y is;
  shift = λ op x y h1 h2 e is all. G.cut-Shift e op x y is;
  power = λ x y h0 h1 e is all. G.cut-Power e x y is;
  order = λ op x y h1 h2 e is all. G.cut-Order e op x y is;
  equal = λ op negated x y h2 h3 e is all. G.cut-Equal e op negated x y is;
  both = λ x y h0 h1 e is all. G.cut-Both e x y is;
  either = λ x y h0 h1 e is all. G.cut-Either e x y is;
  choose = λ z x y h0 h1 h2 e is all. G.cut-Choose e z x y is;
  concat = λ es h0 e is all. G.cut-Concat e es is;
  repeat = λ n es h1 e is all. G.cut-Repeat e n es is;
  inside = λ x cs h0 h1 e is all. G.cut-Inside e x cs is;
  cast = λ x h0 e is all. G.cut-Cast e x is;
  clog2 = λ x h0 e is all. G.cut-Clog2 e x is;
  pattern = λ es h0 e is all. G.cut-Pattern e es is;
  call = λ f es h1 e is all. G.cut-Call e f es is;
  stream = λ reversed n es h2 e is all. absurd (none (subst (Each P) (leaves-Stream e reversed n es is) all).0);
}

pub cut-of : (P : Leaf → Type 0) → (P Unlowered → ⊥) → (e : Expr) → Each P (leaves e) → IsCut (meaning e)
cut-of P none e = by-expr AnyChoice (CutForm P) (CutExpr P) (cut-steps P none) e
