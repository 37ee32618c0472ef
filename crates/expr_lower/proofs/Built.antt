-- Which forms are lowered, and how many operands each has.
use Rattle.std.proofs.Common.{◌≡◌, ℕ, suc, ◌≤◌, Bool, true, false, List, [], ◌∷◌, length, map, rules, refl, arith, ap, sym, ◌∙◌, subst}
use Rattle.b4_core.specs.declared.operators.UnOp.{UnOp}
use Rattle.b4_core.specs.declared.operators.BinOp.{BinOp}
use Rattle.b4_core.specs.declared.operators.RedOp.{RedOp}
use Rattle.b4_core.specs.declared.operators.ShiftOp.{ShiftOp}
use Rattle.b4_core.specs.declared.operators.OrdOp.{OrdOp}
use Rattle.b4_core.specs.declared.operators.EqOp.{EqOp}
use Rattle.b4_core.specs.declared.operators.EqOp.TheVariants.{Wild}
use Rattle.sv_types.specs.declared.expression.Expr.{Expr}
use Rattle.sv_types.specs.declared.expression.Form.{Form, Form-F, out-Form, the_lemmas}
use Rattle.sv_types.specs.declared.expression.Form.TheVariants as V
use Rattle.sv_types.specs.declared.expression.Choice.{Choice}
use Rattle.sv_types.specs.Layouts.{layout}
use Rattle.sv_types.specs.Surroundings.{Parameter}
use Rattle.sv_types.specs.Expressions.{meaning}
use Rattle.sv_types.proofs.Terms.{Steps, by-expr}
use Rattle.sv_types.specs.Meanings.{total}
use Rattle.eval_parts.specs.Limits.{Fits, AllFitAt}
use Rattle.eval_parts.specs.Steps.{is_path}
use Rattle.eval_parts.specs.Targets.{marks_of_formals}
use Rattle.eval_parts.proofs.Assigned as N
use Rattle.eval_parts.proofs.Nodes.{nodes, nodes-Call}
use Rattle.eval_forms.specs.Asked.{assigned_asked, form_asked, AllFitAsked}
use Rattle.eval_forms.specs.Kinds.{is_call}
use Rattle.eval_forms.proofs.AskedLaws.{AllFewer, asking}
use Rattle.eval_forms.proofs.Alternatives as I
use Rattle.eval_forms.proofs.Strict as K
use Rattle.eval_forms.proofs.Uncalled as U
use Rattle.expr_lower.specs.Leaves.{leaves, Each, IsLowered}
use Rattle.expr_lower.specs.Lowering.{AreParts}
use Rattle.expr_lower.specs.Specials.{is_special}
use Rattle.expr_lower.proofs.AskedLeaves as A

pub count-Unary : (e : Expr) (op : UnOp) (x : Expr) (w : ℕ) (s : Bool) (n : ℕ) → e.form ≡ V.Unary op x → AreParts e w s n → n ≡ 1
count-Unary e op x w s n is h = h.1 ∙ ap length (sym (K.asked-by e (V.Unary op x) (Form-F.Unary op x) h.0 w s is (K.out-Unary op x)))

pub count-Reduce : (e : Expr) (op : RedOp) (x : Expr) (w : ℕ) (s : Bool) (n : ℕ) → e.form ≡ V.Reduce op x → AreParts e w s n → n ≡ 1
count-Reduce e op x w s n is h = h.1 ∙ ap length (sym (K.asked-by e (V.Reduce op x) (Form-F.Reduce op x) h.0 w s is (K.out-Reduce op x)))

pub count-Negate : (e : Expr) (x : Expr) (w : ℕ) (s : Bool) (n : ℕ) → e.form ≡ V.Negate x → AreParts e w s n → n ≡ 1
count-Negate e x w s n is h = h.1 ∙ ap length (sym (K.asked-by e (V.Negate x) (Form-F.Negate x) h.0 w s is (K.out-Negate x)))

pub count-Binary : (e : Expr) (op : BinOp) (x : Expr) (y : Expr) (w : ℕ) (s : Bool) (n : ℕ) → e.form ≡ V.Binary op x y → AreParts e w s n → n ≡ 2
count-Binary e op x y w s n is h = h.1 ∙ ap length (sym (K.asked-by e (V.Binary op x y) (Form-F.Binary op x y) h.0 w s is (K.out-Binary op x y)))

pub count-Shift : (e : Expr) (op : ShiftOp) (x : Expr) (y : Expr) (w : ℕ) (s : Bool) (n : ℕ) → e.form ≡ V.Shift op x y → AreParts e w s n → n ≡ 2
count-Shift e op x y w s n is h = h.1 ∙ ap length (sym (K.asked-by e (V.Shift op x y) (Form-F.Shift op x y) h.0 w s is (K.out-Shift op x y)))

pub count-Power : (e : Expr) (x : Expr) (y : Expr) (w : ℕ) (s : Bool) (n : ℕ) → e.form ≡ V.Power x y → AreParts e w s n → n ≡ 2
count-Power e x y w s n is h = h.1 ∙ ap length (sym (K.asked-by e (V.Power x y) (Form-F.Power x y) h.0 w s is (K.out-Power x y)))

pub count-Order : (e : Expr) (op : OrdOp) (x : Expr) (y : Expr) (w : ℕ) (s : Bool) (n : ℕ) → e.form ≡ V.Order op x y → AreParts e w s n → n ≡ 2
count-Order e op x y w s n is h = h.1 ∙ ap length (sym (K.asked-by e (V.Order op x y) (Form-F.Order op x y) h.0 w s is (K.out-Order op x y)))

pub count-Equal : (e : Expr) (op : EqOp) (negated : Bool) (x : Expr) (y : Expr) (w : ℕ) (s : Bool) (n : ℕ) → e.form ≡ V.Equal op negated x y → AreParts e w s n → n ≡ 2
count-Equal e op negated x y w s n is h = h.1 ∙ ap length (sym (K.asked-by e (V.Equal op negated x y) (Form-F.Equal op negated x y) h.0 w s is (K.out-Equal op negated x y)))

pub count-Both : (e : Expr) (x : Expr) (y : Expr) (w : ℕ) (s : Bool) (n : ℕ) → e.form ≡ V.Both x y → AreParts e w s n → n ≡ 2
count-Both e x y w s n is h = h.1 ∙ ap length (sym (K.asked-by e (V.Both x y) (Form-F.Both x y) h.0 w s is (K.out-Both x y)))

pub count-Either : (e : Expr) (x : Expr) (y : Expr) (w : ℕ) (s : Bool) (n : ℕ) → e.form ≡ V.Either x y → AreParts e w s n → n ≡ 2
count-Either e x y w s n is h = h.1 ∙ ap length (sym (K.asked-by e (V.Either x y) (Form-F.Either x y) h.0 w s is (K.out-Either x y)))

pub count-Choose : (e : Expr) (z : Expr) (x : Expr) (y : Expr) (w : ℕ) (s : Bool) (n : ℕ) → e.form ≡ V.Choose z x y → AreParts e w s n → n ≡ 3
count-Choose e z x y w s n is h = h.1 ∙ ap length (sym (K.asked-by e (V.Choose z x y) (Form-F.Choose z x y) h.0 w s is (K.out-Choose z x y)))

pub unbuilt-Stream : (e : Expr) (reversed : Bool) (n : ℕ) (es : List Expr) → e.form ≡ V.Stream reversed n es → Each IsLowered (leaves e) → ⊥
unbuilt-Stream e reversed n es is h = (subst (Each IsLowered) (A.leaves-Stream e reversed n es is) h).0

out-Call : (f : ℕ) (es : List Expr) → out-Form (V.Call f es) ≡ Form-F.Call f es
out-Call f es = search (rules, the_lemmas)

-- a form with an operator of the target isn't one without
special-clash : (e : Expr) (f : Form) (y : Form-F Choice Form Expr) → e.form ≡ f → out-Form f ≡ y → is_special y ≡ true → is_special (out-Form e.form) ≡ false → ⊥
special-clash e f y is out special kind = (let clash : true ≡ false = sym special ∙ sym (ap (λ g. is_special (out-Form g)) is ∙ ap is_special out) ∙ kind in cc)

pub special-Inside : (e : Expr) (x : Expr) (cs : List Choice) → e.form ≡ V.Inside x cs → is_special (out-Form e.form) ≡ false → ⊥
special-Inside e x cs is kind = special-clash e (V.Inside x cs) (Form-F.Inside x cs) is (I.out-Inside x cs) refl kind

pub special-Cast : (e : Expr) (x : Expr) → e.form ≡ V.Cast x → is_special (out-Form e.form) ≡ false → ⊥
special-Cast e x is kind = special-clash e (V.Cast x) (Form-F.Cast x) is (K.out-Cast x) refl kind

pub special-Clog2 : (e : Expr) (x : Expr) → e.form ≡ V.Clog2 x → is_special (out-Form e.form) ≡ false → ⊥
special-Clog2 e x is kind = special-clash e (V.Clog2 x) (Form-F.Clog2 x) is (K.out-Clog2 x) refl kind

pub special-Pattern : (e : Expr) (es : List Expr) → e.form ≡ V.Pattern es → is_special (out-Form e.form) ≡ false → ⊥
special-Pattern e es is kind = special-clash e (V.Pattern es) (Form-F.Pattern es) is (K.out-Pattern es) refl kind

pub special-Call : (e : Expr) (f : ℕ) (es : List Expr) → e.form ≡ V.Call f es → is_special (out-Form e.form) ≡ false → ⊥
special-Call e f es is kind = special-clash e (V.Call f es) (Form-F.Call f es) is (out-Call f es) refl kind

pub special-Wild : (e : Expr) (op : EqOp) (negated : Bool) (x y : Expr) → e.form ≡ V.Equal op negated x y → op ≡ Wild → is_special (out-Form e.form) ≡ false → ⊥
special-Wild e op negated x y is wild kind =
    special-clash e (V.Equal Wild negated x y) (Form-F.Equal Wild negated x y) (is ∙ ap (λ o. V.Equal o negated x y) wild) (K.out-Equal Wild negated x y) refl kind

-- what is known of the operands
pub record Operands (e : Expr) (fs : ℕ → List Parameter) (w : ℕ) (s : Bool) : Type 0 where
  pub fits : AllFitAsked fs (form_asked (layout e.of) fs w s (out-Form e.form))
  pub fewer : AllFewer (nodes e) (form_asked (layout e.of) fs w s (out-Form e.form))
  pub built : A.EachAsked IsLowered (form_asked (layout e.of) fs w s (out-Form e.form))

abbrev OperandsExpr : Expr → Type 0
OperandsExpr e = (fs : ℕ → List Parameter) (w : ℕ) (s : Bool) → is_path (out-Form e.form) ≡ false → Each IsLowered (leaves e) → Fits (meaning e) fs w → Operands e fs w s

abbrev OperandsForm : Form → Type 0
OperandsForm f = (e : Expr) → e.form ≡ f → OperandsExpr e

abbrev AnyChoice : Choice → Type 0
AnyChoice c = Unit {0}

by-operator : (e : Expr) → is_call (out-Form e.form) ≡ false → OperandsExpr e
by-operator e no_call fs w s kind built fits =
    let laws = asking e (record { no_path = kind; no_call = no_call }) in
    record { fits = laws.fits fs w s fits; fewer = laws.fewer fs w s; built = A.asked-leaves e IsLowered kind fs w s built }

each-place : (ps : List (List Bool)) (es : List Expr) (fs : ℕ → List Parameter) → AllFitAt ps es fs → AllFitAsked fs (assigned_asked ps es)
each-place [] es fs f = tt
each-place (p ∷ ps) [] fs f = tt
each-place (p ∷ ps) (e ∷ es) fs f = (f.0, each-place ps es fs f.1)

few-assigned : (ps : List (List Bool)) (es : List Expr) (n : ℕ) → total (map nodes es) ≤ n → AllFewer (suc n) (assigned_asked ps es)
few-assigned [] es n h = tt
few-assigned (p ∷ ps) [] n h = tt
few-assigned (p ∷ ps) (e ∷ es) n h = (omega arith, few-assigned ps es n (omega arith))

by-call : (f : ℕ) (es : List Expr) → OperandsForm (V.Call f es)
by-call f es e is fs w s kind built fits =
    let marks = marks_of_formals (fs f) in
    let asked = K.asked-by e (V.Call f es) (Form-F.Call f es) fs w s is (out-Call f es) in
    record {
      fits = subst (AllFitAsked fs) asked (each-place marks es fs (N.call-fits e f es fs w is fits));
      fewer = subst (AllFewer (nodes e)) asked (subst (λ k. AllFewer k (assigned_asked marks es)) (sym (nodes-Call e f es is)) (few-assigned marks es (total (map nodes es)) (omega arith)));
      built = A.asked-leaves e IsLowered kind fs w s built;
    }

operands-steps : Steps AnyChoice OperandsForm OperandsExpr
operands-steps = record {
  value = λ e h. tt;
  range = λ low high h g. tt;
  expr = λ e h fs w s kind built fits. h e refl fs w s kind built fits;
  literal = λ v goes_on e is. by-operator e (U.uncalled-Literal e v goes_on is);
  fill = λ b e is. by-operator e (U.uncalled-Fill e b is);
  constant = λ v e is. by-operator e (U.uncalled-Constant e v is);
  signal = λ n e is. by-operator e (U.uncalled-Signal e n is);
  local = λ n e is. by-operator e (U.uncalled-Local e n is);
  member = λ x k h0 e is. by-operator e (U.uncalled-Member e x k is);
  index = λ x y h0 h1 e is. by-operator e (U.uncalled-Index e x y is);
  part_select = λ x left right h0 e is. by-operator e (U.uncalled-Part e x left right is);
  sliding = λ x y n up h0 h1 e is. by-operator e (U.uncalled-Slide e x y n up is);
  unary = λ op x h1 e is. by-operator e (U.uncalled-Unary e op x is);
  reduce = λ op x h1 e is. by-operator e (U.uncalled-Reduce e op x is);
  negate = λ x h0 e is. by-operator e (U.uncalled-Negate e x is);
  binary = λ op x y h1 h2 e is. by-operator e (U.uncalled-Binary e op x y is);
  shift = λ op x y h1 h2 e is. by-operator e (U.uncalled-Shift e op x y is);
  power = λ x y h0 h1 e is. by-operator e (U.uncalled-Power e x y is);
  order = λ op x y h1 h2 e is. by-operator e (U.uncalled-Order e op x y is);
  equal = λ op negated x y h2 h3 e is. by-operator e (U.uncalled-Equal e op negated x y is);
  both = λ x y h0 h1 e is. by-operator e (U.uncalled-Both e x y is);
  either = λ x y h0 h1 e is. by-operator e (U.uncalled-Either e x y is);
  choose = λ z x y h0 h1 h2 e is. by-operator e (U.uncalled-Choose e z x y is);
  concat = λ es h0 e is. by-operator e (U.uncalled-Concat e es is);
  repeat = λ n es h1 e is. by-operator e (U.uncalled-Repeat e n es is);
  inside = λ x cs h0 h1 e is. by-operator e (U.uncalled-Inside e x cs is);
  cast = λ x h0 e is. by-operator e (U.uncalled-Cast e x is);
  clog2 = λ x h0 e is. by-operator e (U.uncalled-Clog2 e x is);
  pattern = λ es h0 e is. by-operator e (U.uncalled-Pattern e es is);
  call = λ f es h1. by-call f es;
  stream = λ reversed n es h2 e is. by-operator e (U.uncalled-Stream e reversed n es is);
}

pub operands-of : (e : Expr) (fs : ℕ → List Parameter) (w : ℕ) (s : Bool) → is_path (out-Form e.form) ≡ false → Each IsLowered (leaves e) → Fits (meaning e) fs w → Operands e fs w s
operands-of e = by-expr AnyChoice OperandsForm OperandsExpr operands-steps e
