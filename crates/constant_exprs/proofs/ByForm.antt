-- What an expression is made of, by its form.
use Rattle.std.proofs.Common.{◌≡◌, ℕ, ◌<◌, ◌≤◌, zero, suc, Bool, true, false, ℤ, List, [], ◌∷◌, ◌++◌, map, take, length, refl, arith, ap, sym, ◌∙◌, subst}
use Rattle.b4_core.specs.declared.bit.Bit4.{Bit4}
use Rattle.b4_core.specs.declared.operators.UnOp.{UnOp}
use Rattle.b4_core.specs.declared.operators.BinOp.{BinOp}
use Rattle.b4_core.specs.declared.operators.RedOp.{RedOp}
use Rattle.b4_core.specs.declared.operators.ShiftOp.{ShiftOp}
use Rattle.b4_core.specs.declared.operators.OrdOp.{OrdOp}
use Rattle.b4_core.specs.declared.operators.EqOp.{EqOp}
use Rattle.sv_types.specs.declared.types.Value.{Value}
use Rattle.sv_types.specs.declared.expression.Expr.{Expr}
use Rattle.sv_types.specs.declared.expression.Form.{Form}
use Rattle.sv_types.specs.declared.expression.Form.TheVariants as V
use Rattle.sv_types.specs.declared.expression.Choice.{Choice}
use Rattle.sv_types.specs.declared.expression.Choice.TheVariants as C
use Rattle.sv_types.specs.Layouts.{Layout, layout}
use Rattle.sv_types.specs.Meanings.{Meaning, total}
use Rattle.sv_types.specs.Operators.{parts_of}
use Rattle.sv_types.specs.Expressions.{meaning}
use Rattle.sv_types.proofs.Levels as L
use Rattle.sv_types.proofs.Levels.{form_meaning}
use Rattle.eval_parts.proofs.Nodes as N
use Rattle.eval_parts.proofs.Nodes.{nodes, choice_nodes}
use Rattle.eval_parts.proofs.Steps.{at-form}
use Rattle.constant_exprs.specs.Constants.{ConstantIf, AllConstantIf, ConstantBy, meanings, meanings_in, choice_meanings, alternatives}
use Rattle.constant_exprs.proofs.Lists.{take-map}
use Rattle.constant_exprs.proofs.Forms as F
use Rattle.constant_exprs.proofs.Forms.{all_in}

by-form : (b : Bool) (e : Expr) (f : Form) (y : Layout → ℕ → Meaning) → e.form ≡ f → form_meaning f ≡ y → ConstantIf b (y (layout e.of) e.spot.at) → ConstantIf b (meaning e)
by-form b e f y is level h = subst (ConstantIf b) (sym (at-form e f y is level)) h

pub parts-Member : (e : Expr) (x : Expr) (k : ℕ) → e.form ≡ V.Member x k → ConstantBy (meaning x ∷ []) e × (nodes x < nodes e)
parts-Member e x k is = (λ b h. by-form b e (V.Member x k) _ is (L.form-Member x k) (F.in-Member (layout e.of) e.spot.at b (meaning x) k h), omega (arith, N.nodes-Member e x k is))

pub parts-Part : (e : Expr) (x : Expr) (left right : ℤ) → e.form ≡ V.Part x left right → ConstantBy (meaning x ∷ []) e × (nodes x < nodes e)
parts-Part e x left right is = (λ b h. by-form b e (V.Part x left right) _ is (L.form-Part x left right) (F.in-Part (layout e.of) e.spot.at b (meaning x) left right h), omega (arith, N.nodes-Part e x left right is))

pub parts-Index : (e : Expr) (x y : Expr) → e.form ≡ V.Index x y → ConstantBy (meaning x ∷ meaning y ∷ []) e × (nodes x < nodes e) × (nodes y < nodes e)
parts-Index e x y is = (λ b h. by-form b e (V.Index x y) _ is (L.form-Index x y) (F.in-Index (layout e.of) e.spot.at b (meaning x) (meaning y) h), omega (arith, N.nodes-Index e x y is), omega (arith, N.nodes-Index e x y is))

pub parts-Slide : (e : Expr) (x y : Expr) (n : ℕ) (up : Bool) → e.form ≡ V.Slide x y n up → ConstantBy (meaning x ∷ meaning y ∷ []) e × (nodes x < nodes e) × (nodes y < nodes e)
parts-Slide e x y n up is = (λ b h. by-form b e (V.Slide x y n up) _ is (L.form-Slide x y n up) (F.in-Slide (layout e.of) e.spot.at b (meaning x) (meaning y) n up h), omega (arith, N.nodes-Slide e x y n up is), omega (arith, N.nodes-Slide e x y n up is))

pub parts-Unary : (e : Expr) (op : UnOp) (x : Expr) → e.form ≡ V.Unary op x → ConstantBy (meaning x ∷ []) e × (nodes x < nodes e)
parts-Unary e op x is = (λ b h. by-form b e (V.Unary op x) _ is (L.form-Unary op x) (F.in-Unary (layout e.of) e.spot.at b (meaning x) h op), omega (arith, N.nodes-Unary e x op is))

pub parts-Reduce : (e : Expr) (op : RedOp) (x : Expr) → e.form ≡ V.Reduce op x → ConstantBy (meaning x ∷ []) e × (nodes x < nodes e)
parts-Reduce e op x is = (λ b h. by-form b e (V.Reduce op x) _ is (L.form-Reduce op x) (F.in-Reduce (layout e.of) e.spot.at b (meaning x) h op), omega (arith, N.nodes-Reduce e x op is))

pub parts-Negate : (e : Expr) (x : Expr) → e.form ≡ V.Negate x → ConstantBy (meaning x ∷ []) e × (nodes x < nodes e)
parts-Negate e x is = (λ b h. by-form b e (V.Negate x) _ is (L.form-Negate x) (F.in-Negate (layout e.of) e.spot.at b (meaning x) h), omega (arith, N.nodes-Negate e x is))

pub parts-Cast : (e : Expr) (x : Expr) → e.form ≡ V.Cast x → ConstantBy (meaning x ∷ []) e × (nodes x < nodes e)
parts-Cast e x is = (λ b h. by-form b e (V.Cast x) _ is (L.form-Cast x) (F.in-Cast (layout e.of) e.spot.at b (meaning x) h), omega (arith, N.nodes-Cast e x is))

pub parts-Clog2 : (e : Expr) (x : Expr) → e.form ≡ V.Clog2 x → ConstantBy (meaning x ∷ []) e × (nodes x < nodes e)
parts-Clog2 e x is = (λ b h. by-form b e (V.Clog2 x) _ is (L.form-Clog2 x) (F.in-Clog2 (layout e.of) e.spot.at b (meaning x) h), omega (arith, N.nodes-Clog2 e x is))

pub parts-Binary : (e : Expr) (op : BinOp) (x y : Expr) → e.form ≡ V.Binary op x y → ConstantBy (meaning x ∷ meaning y ∷ []) e × (nodes x < nodes e) × (nodes y < nodes e)
parts-Binary e op x y is = (λ b h. by-form b e (V.Binary op x y) _ is (L.form-Binary op x y) (F.in-Binary (layout e.of) e.spot.at b (meaning x) (meaning y) h op), omega (arith, N.nodes-Binary e x y op is), omega (arith, N.nodes-Binary e x y op is))

pub parts-Shift : (e : Expr) (op : ShiftOp) (x y : Expr) → e.form ≡ V.Shift op x y → ConstantBy (meaning x ∷ meaning y ∷ []) e × (nodes x < nodes e) × (nodes y < nodes e)
parts-Shift e op x y is = (λ b h. by-form b e (V.Shift op x y) _ is (L.form-Shift op x y) (F.in-Shift (layout e.of) e.spot.at b (meaning x) (meaning y) h op), omega (arith, N.nodes-Shift e x y op is), omega (arith, N.nodes-Shift e x y op is))

pub parts-Power : (e : Expr) (x y : Expr) → e.form ≡ V.Power x y → ConstantBy (meaning x ∷ meaning y ∷ []) e × (nodes x < nodes e) × (nodes y < nodes e)
parts-Power e x y is = (λ b h. by-form b e (V.Power x y) _ is (L.form-Power x y) (F.in-Power (layout e.of) e.spot.at b (meaning x) (meaning y) h), omega (arith, N.nodes-Power e x y is), omega (arith, N.nodes-Power e x y is))

pub parts-Order : (e : Expr) (op : OrdOp) (x y : Expr) → e.form ≡ V.Order op x y → ConstantBy (meaning x ∷ meaning y ∷ []) e × (nodes x < nodes e) × (nodes y < nodes e)
parts-Order e op x y is = (λ b h. by-form b e (V.Order op x y) _ is (L.form-Order op x y) (F.in-Order (layout e.of) e.spot.at b (meaning x) (meaning y) h op), omega (arith, N.nodes-Order e x y op is), omega (arith, N.nodes-Order e x y op is))

pub parts-Equal : (e : Expr) (op : EqOp) (negated : Bool) (x y : Expr) → e.form ≡ V.Equal op negated x y → ConstantBy (meaning x ∷ meaning y ∷ []) e × (nodes x < nodes e) × (nodes y < nodes e)
parts-Equal e op negated x y is = (λ b h. by-form b e (V.Equal op negated x y) _ is (L.form-Equal op negated x y) (F.in-Equal (layout e.of) e.spot.at b (meaning x) (meaning y) h op negated), omega (arith, N.nodes-Equal e x y op negated is), omega (arith, N.nodes-Equal e x y op negated is))

pub parts-Both : (e : Expr) (x y : Expr) → e.form ≡ V.Both x y → ConstantBy (meaning x ∷ meaning y ∷ []) e × (nodes x < nodes e) × (nodes y < nodes e)
parts-Both e x y is = (λ b h. by-form b e (V.Both x y) _ is (L.form-Both x y) (F.in-Both (layout e.of) e.spot.at b (meaning x) (meaning y) h), omega (arith, N.nodes-Both e x y is), omega (arith, N.nodes-Both e x y is))

pub parts-Either : (e : Expr) (x y : Expr) → e.form ≡ V.Either x y → ConstantBy (meaning x ∷ meaning y ∷ []) e × (nodes x < nodes e) × (nodes y < nodes e)
parts-Either e x y is = (λ b h. by-form b e (V.Either x y) _ is (L.form-Either x y) (F.in-Either (layout e.of) e.spot.at b (meaning x) (meaning y) h), omega (arith, N.nodes-Either e x y is), omega (arith, N.nodes-Either e x y is))

pub parts-Choose : (e : Expr) (z x y : Expr) → e.form ≡ V.Choose z x y → ConstantBy (meaning z ∷ meaning x ∷ meaning y ∷ []) e × (nodes z < nodes e) × (nodes x < nodes e) × (nodes y < nodes e)
parts-Choose e z x y is = (λ b h. by-form b e (V.Choose z x y) _ is (L.form-Choose z x y) (F.in-Choose (layout e.of) e.spot.at b (meaning z) (meaning x) (meaning y) h), omega (arith, N.nodes-Choose e z x y is), omega (arith, N.nodes-Choose e z x y is), omega (arith, N.nodes-Choose e z x y is))

pub parts-Concat : (e : Expr) (es : List Expr) → e.form ≡ V.Concat es → ConstantBy (meanings es) e × (total (map nodes es) < nodes e)
parts-Concat e es is = (λ b h. by-form b e (V.Concat es) _ is (L.form-Concat es) (F.in-Concat (layout e.of) e.spot.at b (meanings es) h), omega (arith, N.nodes-Concat e es is))

pub parts-Repeat : (e : Expr) (n : ℕ) (es : List Expr) → e.form ≡ V.Repeat n es → ConstantBy (meanings es) e × (total (map nodes es) < nodes e)
parts-Repeat e n es is = (λ b h. by-form b e (V.Repeat n es) _ is (L.form-Repeat n es) (F.in-Repeat (layout e.of) e.spot.at b (meanings es) h n), omega (arith, N.nodes-Repeat e n es is))

pub parts-Call : (e : Expr) (f : ℕ) (es : List Expr) → e.form ≡ V.Call f es → ConstantBy (meanings es) e × (total (map nodes es) < nodes e)
parts-Call e f es is = (λ b h. by-form b e (V.Call f es) _ is (L.form-Call f es) (F.in-Call (layout e.of) e.spot.at b (meanings es) h f), omega (arith, N.nodes-Call e f es is))

pub parts-Stream : (e : Expr) (reversed : Bool) (n : ℕ) (es : List Expr) → e.form ≡ V.Stream reversed n es → ConstantBy (meanings es) e × (total (map nodes es) < nodes e)
parts-Stream e reversed n es is = (λ b h. by-form b e (V.Stream reversed n es) _ is (L.form-Stream reversed n es) (F.in-Stream (layout e.of) e.spot.at b (meanings es) h reversed n), omega (arith, N.nodes-Stream e reversed n es is))

-- of a pattern, the items that have a place
fewer-nodes : (n : ℕ) (es : List Expr) → total (map nodes (take n es)) ≤ total (map nodes es)
fewer-nodes zero es = omega arith
fewer-nodes (suc n) [] = omega arith
fewer-nodes (suc n) (e ∷ es) = let r = fewer-nodes n es in omega arith

pub parts-Pattern : (e : Expr) (es placed : List Expr) → e.form ≡ V.Pattern es → placed ≡ take (length (parts_of (layout e.of))) es → ConstantBy (meanings placed) e × (total (map nodes placed) < nodes e)
parts-Pattern e es placed is few =
    let n = length (parts_of (layout e.of)) in (
      λ b h. by-form b e (V.Pattern es) _ is (L.form-Pattern es)
          (F.in-Pattern (layout e.of) e.spot.at b (meanings es) (subst (AllConstantIf b) (ap meanings few ∙ take-map meaning n es) h)),
      omega (arith, N.nodes-Pattern e es is, ap (λ xs. total (map nodes xs)) few, fewer-nodes n es),
    )

alternatives-are : (cs : List Choice) → all_in (map L.alternative cs) ≡ alternatives cs
alternatives-are [] = refl
alternatives-are (c ∷ cs) = ap (λ ms. choice_meanings c ++ ms) (alternatives-are cs)

pub parts-Inside : (e : Expr) (x : Expr) (cs : List Choice) → e.form ≡ V.Inside x cs → ConstantBy (meaning x ∷ alternatives cs) e × (nodes x < nodes e) × (total (map choice_nodes cs) < nodes e)
parts-Inside e x cs is = (
  λ b h. by-form b e (V.Inside x cs) _ is (L.form-Inside x cs)
      (F.in-Inside (layout e.of) e.spot.at b (meaning x) (map L.alternative cs) (subst (λ ms. AllConstantIf b (meaning x ∷ ms)) (sym (alternatives-are cs)) h)),
  omega (arith, N.nodes-Inside e x cs is),
  omega (arith, N.nodes-Inside e x cs is),
)

-- what has no operands
pub parts-Literal : (e : Expr) (v : List Bit4) (goes_on : Bool) → e.form ≡ V.Literal v goes_on → ConstantIf true (meaning e)
parts-Literal e v goes_on is = by-form true e (V.Literal v goes_on) _ is (L.form-Literal v goes_on) (F.in-Literal (layout e.of) e.spot.at v goes_on)

pub parts-Fill : (e : Expr) (b : Bit4) → e.form ≡ V.Fill b → ConstantIf true (meaning e)
parts-Fill e b is = by-form true e (V.Fill b) _ is (L.form-Fill b) (F.in-Fill (layout e.of) e.spot.at b)

pub parts-Constant : (e : Expr) (v : Value) → e.form ≡ V.Constant v → ConstantIf true (meaning e)
parts-Constant e v is = by-form true e (V.Constant v) _ is (L.form-Constant v) (F.in-Constant (layout e.of) e.spot.at v)

pub parts-Signal : (e : Expr) (n : ℕ) → e.form ≡ V.Signal n → ConstantIf false (meaning e)
parts-Signal e n is = by-form false e (V.Signal n) _ is (L.form-Signal n) (F.in-Signal (layout e.of) e.spot.at n)

pub parts-Local : (e : Expr) (n : ℕ) → e.form ≡ V.Local n → ConstantIf false (meaning e)
parts-Local e n is = by-form false e (V.Local n) _ is (L.form-Local n) (F.in-Local (layout e.of) e.spot.at n)

-- what a choice has
pub value-is : (e : Expr) → choice_meanings (C.Value e) ≡ meaning e ∷ []
value-is e = ap meanings_in (L.only e)

pub range-is : (a b : Expr) → choice_meanings (C.Range a b) ≡ meaning a ∷ meaning b ∷ []
range-is a b = ap meanings_in (L.from-to a b)
