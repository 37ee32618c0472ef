-- Laws of all expressions that are neither select paths nor calls: what their operands are asked, and what valuing them takes.
use Rattle.std.proofs.Common.{◌≡◌, ℕ, suc, ◌+◌, ◌<◌, ◌≤◌, ℤ, Bool, true, false, List, [], ◌∷◌, ◌++◌, map, flat_map, arith, refl, ap, sym, ◌∙◌, subst, rules}
use Rattle.b4_core.specs.declared.bit.Bit4.{Bit4}
use Rattle.b4_core.specs.declared.operators.UnOp.{UnOp}
use Rattle.b4_core.specs.declared.operators.BinOp.{BinOp}
use Rattle.b4_core.specs.declared.operators.RedOp.{RedOp}
use Rattle.b4_core.specs.declared.operators.ShiftOp.{ShiftOp}
use Rattle.b4_core.specs.declared.operators.OrdOp.{OrdOp}
use Rattle.b4_core.specs.declared.operators.EqOp.{EqOp}
use Rattle.sv_types.specs.declared.types.Value.{Value}
use Rattle.sv_types.specs.declared.expression.Expr.{Expr}
use Rattle.sv_types.specs.declared.expression.Choice.{Choice, Choice-F, out-Choice}
use Rattle.sv_types.specs.declared.expression.Choice.TheVariants as C
use Rattle.sv_types.specs.declared.expression.Form.{Form, Form-F, out-Form, the_lemmas}
use Rattle.sv_types.specs.declared.expression.Form.TheVariants as V
use Rattle.sv_types.specs.Layouts.{layout}
use Rattle.sv_types.specs.Surroundings.{Around, Tally, Parameter}
use Rattle.sv_types.specs.Meanings.{total}
use Rattle.sv_types.specs.Operators.{parts_of}
use Rattle.sv_types.specs.Expressions.{meaning}
use Rattle.sv_types.proofs.Terms.{Steps, by-expr}
use Rattle.eval_parts.specs.Limits.{Fits}
use Rattle.eval_parts.specs.Steps.{is_path}
use Rattle.eval_parts.specs.Targets.{marks_of_parts}
use Rattle.eval_parts.proofs.Nodes as N
use Rattle.eval_parts.proofs.Nodes.{nodes, choice_nodes}
use Rattle.eval_forms.specs.Asked.{Asked, alone_asked, choice_asked, assigned_asked, form_asked, values_asked, AllFitAsked}
use Rattle.eval_forms.specs.Kinds.{IsOperator, is_call}
use Rattle.eval_forms.specs.Repeats.{AllAgainOf, OnlyFirstAgain}
use Rattle.eval_forms.proofs.Alternatives as I
use Rattle.eval_forms.proofs.OperandLimits as P
use Rattle.eval_forms.proofs.Strict as K

-- operands of fewer than n nodes
abbrev pub AllFewer : ℕ → List Asked → Type 0
AllFewer n [] = Unit {0}
AllFewer n (q ∷ qs) = (nodes q.of < n) × AllFewer n qs

-- what is known of the operands of an expression: valuing it takes what they take, each fits and has fewer nodes, and only the
-- first one is asked again
pub record Asking (e : Expr) : Type 0 where
  pub strict : (fs : ℕ → List Parameter) (w : ℕ) (s : Bool) (a : Around) (t : Tally) → (meaning e).values a t ≡ values_asked (form_asked (layout e.of) fs w s (out-Form e.form)) a t
  pub fits : (fs : ℕ → List Parameter) (w : ℕ) (s : Bool) → Fits (meaning e) fs w → AllFitAsked fs (form_asked (layout e.of) fs w s (out-Form e.form))
  pub fewer : (fs : ℕ → List Parameter) (w : ℕ) (s : Bool) → AllFewer (nodes e) (form_asked (layout e.of) fs w s (out-Form e.form))
  pub again : (fs : ℕ → List Parameter) (w : ℕ) (s : Bool) → OnlyFirstAgain (form_asked (layout e.of) fs w s (out-Form e.form))

-- lists
few-alone : (es : List Expr) (n : ℕ) → total (map nodes es) ≤ n → AllFewer (suc n) (map alone_asked es)
few-alone [] n h = tt
few-alone (e ∷ es) n h = (omega arith, few-alone es n (omega arith))

few-assigned : (ps : List (List Bool)) (es : List Expr) (n : ℕ) → total (map nodes es) ≤ n → AllFewer (suc n) (assigned_asked ps es)
few-assigned [] es n h = tt
few-assigned (p ∷ ps) [] n h = tt
few-assigned (p ∷ ps) (e ∷ es) n h = (omega arith, few-assigned ps es n (omega arith))

again-alone : (x : Expr) (es : List Expr) → AllAgainOf x (map alone_asked es)
again-alone x [] = tt
again-alone x (e ∷ es) = (tt, again-alone x es)

first-alone : (es : List Expr) → OnlyFirstAgain (map alone_asked es)
first-alone [] = tt
first-alone (e ∷ es) = (tt, again-alone e es)

again-assigned : (x : Expr) (ps : List (List Bool)) (es : List Expr) → AllAgainOf x (assigned_asked ps es)
again-assigned x [] es = tt
again-assigned x (p ∷ ps) [] = tt
again-assigned x (p ∷ ps) (e ∷ es) = (tt, again-assigned x ps es)

first-assigned : (ps : List (List Bool)) (es : List Expr) → OnlyFirstAgain (assigned_asked ps es)
first-assigned [] es = tt
first-assigned (p ∷ ps) [] = tt
first-assigned (p ∷ ps) (e ∷ es) = (tt, again-assigned e ps es)

-- alternatives of `inside`
abbrev FewIt : Choice → Type 0
FewIt c = (x : Expr) (n : ℕ) (later : List Asked) → nodes x ≤ n → choice_nodes c ≤ n → AllFewer (suc n) later → AllFewer (suc n) (choice_asked x (out-Choice c) ++ later)

few-value : (v : Expr) → FewIt (C.Value v)
few-value v x n later h g rest =
    subst (λ o. AllFewer (suc n) (choice_asked x o ++ later)) (sym (I.out-Value v)) (omega arith, (omega (arith, N.nodes-value v), rest))

few-range : (low high : Expr) → FewIt (C.Range low high)
few-range low high x n later h g rest =
    subst (λ o. AllFewer (suc n) (choice_asked x o ++ later)) (sym (I.out-Range low high))
    (omega arith, (omega (arith, N.nodes-range low high), (omega arith, (omega (arith, N.nodes-range low high), rest))))

few-choices : (x : Expr) (cs : List Choice) (n : ℕ) → nodes x ≤ n → total (map choice_nodes cs) ≤ n → AllFewer (suc n) (flat_map (λ c. choice_asked x (out-Choice c)) cs)
few-choices x [] n h g = tt
few-choices x (c ∷ cs) n h g = I.by-choice FewIt few-value few-range c x n (flat_map (λ d. choice_asked x (out-Choice d)) cs) h (omega arith) (few-choices x cs n h (omega arith))

abbrev AgainIt : Choice → Type 0
AgainIt c = (x : Expr) (later : List Asked) → AllAgainOf x later → AllAgainOf x (choice_asked x (out-Choice c) ++ later)

again-value : (v : Expr) → AgainIt (C.Value v)
again-value v x later rest = subst (λ o. AllAgainOf x (choice_asked x o ++ later)) (sym (I.out-Value v)) (refl, (tt, rest))

again-range : (low high : Expr) → AgainIt (C.Range low high)
again-range low high x later rest = subst (λ o. AllAgainOf x (choice_asked x o ++ later)) (sym (I.out-Range low high)) (refl, (tt, (refl, (tt, rest))))

again-choices : (x : Expr) (cs : List Choice) → AllAgainOf x (flat_map (λ c. choice_asked x (out-Choice c)) cs)
again-choices x [] = tt
again-choices x (c ∷ cs) = I.by-choice AgainIt again-value again-range c x (flat_map (λ d. choice_asked x (out-Choice d)) cs) (again-choices x cs)

-- form by form
of-Literal : (v : List Bit4) (goes_on : Bool) (e : Expr) → e.form ≡ V.Literal v goes_on → IsOperator e → Asking e
of-Literal v goes_on e is operator = record {
  strict = λ fs w s a t. K.strict-Literal e v goes_on fs w s a t is;
  fits = λ fs w s f. subst (AllFitAsked fs) (K.asked-by e (V.Literal v goes_on) (Form-F.Literal v goes_on) fs w s is (K.out-Literal v goes_on)) tt;
  fewer = λ fs w s. subst (AllFewer (nodes e)) (K.asked-by e (V.Literal v goes_on) (Form-F.Literal v goes_on) fs w s is (K.out-Literal v goes_on)) (tt);
  again = λ fs w s. subst OnlyFirstAgain (K.asked-by e (V.Literal v goes_on) (Form-F.Literal v goes_on) fs w s is (K.out-Literal v goes_on)) (tt);
}

of-Fill : (b : Bit4) (e : Expr) → e.form ≡ V.Fill b → IsOperator e → Asking e
of-Fill b e is operator = record {
  strict = λ fs w s a t. K.strict-Fill e b fs w s a t is;
  fits = λ fs w s f. subst (AllFitAsked fs) (K.asked-by e (V.Fill b) (Form-F.Fill b) fs w s is (K.out-Fill b)) tt;
  fewer = λ fs w s. subst (AllFewer (nodes e)) (K.asked-by e (V.Fill b) (Form-F.Fill b) fs w s is (K.out-Fill b)) (tt);
  again = λ fs w s. subst OnlyFirstAgain (K.asked-by e (V.Fill b) (Form-F.Fill b) fs w s is (K.out-Fill b)) (tt);
}

of-Constant : (v : Value) (e : Expr) → e.form ≡ V.Constant v → IsOperator e → Asking e
of-Constant v e is operator = record {
  strict = λ fs w s a t. K.strict-Constant e v fs w s a t is;
  fits = λ fs w s f. subst (AllFitAsked fs) (K.asked-by e (V.Constant v) (Form-F.Constant v) fs w s is (K.out-Constant v)) tt;
  fewer = λ fs w s. subst (AllFewer (nodes e)) (K.asked-by e (V.Constant v) (Form-F.Constant v) fs w s is (K.out-Constant v)) (tt);
  again = λ fs w s. subst OnlyFirstAgain (K.asked-by e (V.Constant v) (Form-F.Constant v) fs w s is (K.out-Constant v)) (tt);
}

not-Signal : (n : ℕ) (e : Expr) → e.form ≡ V.Signal n → IsOperator e → Asking e
not-Signal n e is operator =
    let out : out-Form (V.Signal n) ≡ Form-F.Signal n = search (rules, the_lemmas) in
    let clash : true ≡ false = sym (ap (λ f. is_path (out-Form f)) is ∙ ap is_path out) ∙ operator.no_path in
    absurd (cc)

not-Local : (n : ℕ) (e : Expr) → e.form ≡ V.Local n → IsOperator e → Asking e
not-Local n e is operator =
    let out : out-Form (V.Local n) ≡ Form-F.Local n = search (rules, the_lemmas) in
    let clash : true ≡ false = sym (ap (λ f. is_path (out-Form f)) is ∙ ap is_path out) ∙ operator.no_path in
    absurd (cc)

not-Member : (x : Expr) (k : ℕ) (e : Expr) → e.form ≡ V.Member x k → IsOperator e → Asking e
not-Member x k e is operator =
    let out : out-Form (V.Member x k) ≡ Form-F.Member x k = search (rules, the_lemmas) in
    let clash : true ≡ false = sym (ap (λ f. is_path (out-Form f)) is ∙ ap is_path out) ∙ operator.no_path in
    absurd (cc)

not-Index : (x : Expr) (y : Expr) (e : Expr) → e.form ≡ V.Index x y → IsOperator e → Asking e
not-Index x y e is operator =
    let out : out-Form (V.Index x y) ≡ Form-F.Index x y = search (rules, the_lemmas) in
    let clash : true ≡ false = sym (ap (λ f. is_path (out-Form f)) is ∙ ap is_path out) ∙ operator.no_path in
    absurd (cc)

not-Part : (x : Expr) (left : ℤ) (right : ℤ) (e : Expr) → e.form ≡ V.Part x left right → IsOperator e → Asking e
not-Part x left right e is operator =
    let out : out-Form (V.Part x left right) ≡ Form-F.Part x left right = search (rules, the_lemmas) in
    let clash : true ≡ false = sym (ap (λ f. is_path (out-Form f)) is ∙ ap is_path out) ∙ operator.no_path in
    absurd (cc)

not-Slide : (x : Expr) (y : Expr) (n : ℕ) (up : Bool) (e : Expr) → e.form ≡ V.Slide x y n up → IsOperator e → Asking e
not-Slide x y n up e is operator =
    let out : out-Form (V.Slide x y n up) ≡ Form-F.Slide x y n up = search (rules, the_lemmas) in
    let clash : true ≡ false = sym (ap (λ f. is_path (out-Form f)) is ∙ ap is_path out) ∙ operator.no_path in
    absurd (cc)

of-Unary : (op : UnOp) (x : Expr) (e : Expr) → e.form ≡ V.Unary op x → IsOperator e → Asking e
of-Unary op x e is operator = record {
  strict = λ fs w s a t. K.strict-Unary e op x fs w s a t is;
  fits = λ fs w s f. P.fits-Unary e op x fs w s is f;
  fewer = λ fs w s. subst (AllFewer (nodes e)) (K.asked-by e (V.Unary op x) (Form-F.Unary op x) fs w s is (K.out-Unary op x)) (let h = N.nodes-Unary e x op is in (omega arith, tt));
  again = λ fs w s. subst OnlyFirstAgain (K.asked-by e (V.Unary op x) (Form-F.Unary op x) fs w s is (K.out-Unary op x)) ((tt, tt));
}

of-Reduce : (op : RedOp) (x : Expr) (e : Expr) → e.form ≡ V.Reduce op x → IsOperator e → Asking e
of-Reduce op x e is operator = record {
  strict = λ fs w s a t. K.strict-Reduce e op x fs w s a t is;
  fits = λ fs w s f. P.fits-Reduce e op x fs w s is f;
  fewer = λ fs w s. subst (AllFewer (nodes e)) (K.asked-by e (V.Reduce op x) (Form-F.Reduce op x) fs w s is (K.out-Reduce op x)) (let h = N.nodes-Reduce e x op is in (omega arith, tt));
  again = λ fs w s. subst OnlyFirstAgain (K.asked-by e (V.Reduce op x) (Form-F.Reduce op x) fs w s is (K.out-Reduce op x)) ((tt, tt));
}

of-Negate : (x : Expr) (e : Expr) → e.form ≡ V.Negate x → IsOperator e → Asking e
of-Negate x e is operator = record {
  strict = λ fs w s a t. K.strict-Negate e x fs w s a t is;
  fits = λ fs w s f. P.fits-Negate e x fs w s is f;
  fewer = λ fs w s. subst (AllFewer (nodes e)) (K.asked-by e (V.Negate x) (Form-F.Negate x) fs w s is (K.out-Negate x)) (let h = N.nodes-Negate e x is in (omega arith, tt));
  again = λ fs w s. subst OnlyFirstAgain (K.asked-by e (V.Negate x) (Form-F.Negate x) fs w s is (K.out-Negate x)) ((tt, tt));
}

of-Binary : (op : BinOp) (x : Expr) (y : Expr) (e : Expr) → e.form ≡ V.Binary op x y → IsOperator e → Asking e
of-Binary op x y e is operator = record {
  strict = λ fs w s a t. K.strict-Binary e op x y fs w s a t is;
  fits = λ fs w s f. P.fits-Binary e op x y fs w s is f;
  fewer = λ fs w s. subst (AllFewer (nodes e)) (K.asked-by e (V.Binary op x y) (Form-F.Binary op x y) fs w s is (K.out-Binary op x y)) (let h = N.nodes-Binary e x y op is in (omega arith, (omega arith, tt)));
  again = λ fs w s. subst OnlyFirstAgain (K.asked-by e (V.Binary op x y) (Form-F.Binary op x y) fs w s is (K.out-Binary op x y)) ((tt, (tt, tt)));
}

of-Shift : (op : ShiftOp) (x : Expr) (y : Expr) (e : Expr) → e.form ≡ V.Shift op x y → IsOperator e → Asking e
of-Shift op x y e is operator = record {
  strict = λ fs w s a t. K.strict-Shift e op x y fs w s a t is;
  fits = λ fs w s f. P.fits-Shift e op x y fs w s is f;
  fewer = λ fs w s. subst (AllFewer (nodes e)) (K.asked-by e (V.Shift op x y) (Form-F.Shift op x y) fs w s is (K.out-Shift op x y)) (let h = N.nodes-Shift e x y op is in (omega arith, (omega arith, tt)));
  again = λ fs w s. subst OnlyFirstAgain (K.asked-by e (V.Shift op x y) (Form-F.Shift op x y) fs w s is (K.out-Shift op x y)) ((tt, (tt, tt)));
}

of-Power : (x : Expr) (y : Expr) (e : Expr) → e.form ≡ V.Power x y → IsOperator e → Asking e
of-Power x y e is operator = record {
  strict = λ fs w s a t. K.strict-Power e x y fs w s a t is;
  fits = λ fs w s f. P.fits-Power e x y fs w s is f;
  fewer = λ fs w s. subst (AllFewer (nodes e)) (K.asked-by e (V.Power x y) (Form-F.Power x y) fs w s is (K.out-Power x y)) (let h = N.nodes-Power e x y is in (omega arith, (omega arith, tt)));
  again = λ fs w s. subst OnlyFirstAgain (K.asked-by e (V.Power x y) (Form-F.Power x y) fs w s is (K.out-Power x y)) ((tt, (tt, tt)));
}

of-Order : (op : OrdOp) (x : Expr) (y : Expr) (e : Expr) → e.form ≡ V.Order op x y → IsOperator e → Asking e
of-Order op x y e is operator = record {
  strict = λ fs w s a t. K.strict-Order e op x y fs w s a t is;
  fits = λ fs w s f. P.fits-Order e op x y fs w s is f;
  fewer = λ fs w s. subst (AllFewer (nodes e)) (K.asked-by e (V.Order op x y) (Form-F.Order op x y) fs w s is (K.out-Order op x y)) (let h = N.nodes-Order e x y op is in (omega arith, (omega arith, tt)));
  again = λ fs w s. subst OnlyFirstAgain (K.asked-by e (V.Order op x y) (Form-F.Order op x y) fs w s is (K.out-Order op x y)) ((tt, (tt, tt)));
}

of-Equal : (op : EqOp) (negated : Bool) (x : Expr) (y : Expr) (e : Expr) → e.form ≡ V.Equal op negated x y → IsOperator e → Asking e
of-Equal op negated x y e is operator = record {
  strict = λ fs w s a t. K.strict-Equal e op negated x y fs w s a t is;
  fits = λ fs w s f. P.fits-Equal e op negated x y fs w s is f;
  fewer = λ fs w s. subst (AllFewer (nodes e)) (K.asked-by e (V.Equal op negated x y) (Form-F.Equal op negated x y) fs w s is (K.out-Equal op negated x y)) (let h = N.nodes-Equal e x y op negated is in (omega arith, (omega arith, tt)));
  again = λ fs w s. subst OnlyFirstAgain (K.asked-by e (V.Equal op negated x y) (Form-F.Equal op negated x y) fs w s is (K.out-Equal op negated x y)) ((tt, (tt, tt)));
}

of-Both : (x : Expr) (y : Expr) (e : Expr) → e.form ≡ V.Both x y → IsOperator e → Asking e
of-Both x y e is operator = record {
  strict = λ fs w s a t. K.strict-Both e x y fs w s a t is;
  fits = λ fs w s f. P.fits-Both e x y fs w s is f;
  fewer = λ fs w s. subst (AllFewer (nodes e)) (K.asked-by e (V.Both x y) (Form-F.Both x y) fs w s is (K.out-Both x y)) (let h = N.nodes-Both e x y is in (omega arith, (omega arith, tt)));
  again = λ fs w s. subst OnlyFirstAgain (K.asked-by e (V.Both x y) (Form-F.Both x y) fs w s is (K.out-Both x y)) ((tt, (tt, tt)));
}

of-Either : (x : Expr) (y : Expr) (e : Expr) → e.form ≡ V.Either x y → IsOperator e → Asking e
of-Either x y e is operator = record {
  strict = λ fs w s a t. K.strict-Either e x y fs w s a t is;
  fits = λ fs w s f. P.fits-Either e x y fs w s is f;
  fewer = λ fs w s. subst (AllFewer (nodes e)) (K.asked-by e (V.Either x y) (Form-F.Either x y) fs w s is (K.out-Either x y)) (let h = N.nodes-Either e x y is in (omega arith, (omega arith, tt)));
  again = λ fs w s. subst OnlyFirstAgain (K.asked-by e (V.Either x y) (Form-F.Either x y) fs w s is (K.out-Either x y)) ((tt, (tt, tt)));
}

of-Choose : (z : Expr) (x : Expr) (y : Expr) (e : Expr) → e.form ≡ V.Choose z x y → IsOperator e → Asking e
of-Choose z x y e is operator = record {
  strict = λ fs w s a t. K.strict-Choose e z x y fs w s a t is;
  fits = λ fs w s f. P.fits-Choose e z x y fs w s is f;
  fewer = λ fs w s. subst (AllFewer (nodes e)) (K.asked-by e (V.Choose z x y) (Form-F.Choose z x y) fs w s is (K.out-Choose z x y)) (let h = N.nodes-Choose e z x y is in (omega arith, (omega arith, (omega arith, tt))));
  again = λ fs w s. subst OnlyFirstAgain (K.asked-by e (V.Choose z x y) (Form-F.Choose z x y) fs w s is (K.out-Choose z x y)) ((tt, (tt, (tt, tt))));
}

of-Concat : (es : List Expr) (e : Expr) → e.form ≡ V.Concat es → IsOperator e → Asking e
of-Concat es e is operator = record {
  strict = λ fs w s a t. K.strict-Concat e es fs w s a t is;
  fits = λ fs w s f. P.fits-Concat e es fs w s is f;
  fewer = λ fs w s. subst (AllFewer (nodes e)) (K.asked-by e (V.Concat es) (Form-F.Concat es) fs w s is (K.out-Concat es)) (subst (λ k. AllFewer k (map alone_asked es)) (sym (N.nodes-Concat e es is)) (few-alone es (total (map nodes es)) (omega arith)));
  again = λ fs w s. subst OnlyFirstAgain (K.asked-by e (V.Concat es) (Form-F.Concat es) fs w s is (K.out-Concat es)) (first-alone es);
}

of-Repeat : (n : ℕ) (es : List Expr) (e : Expr) → e.form ≡ V.Repeat n es → IsOperator e → Asking e
of-Repeat n es e is operator = record {
  strict = λ fs w s a t. K.strict-Repeat e n es fs w s a t is;
  fits = λ fs w s f. P.fits-Repeat e n es fs w s is f;
  fewer = λ fs w s. subst (AllFewer (nodes e)) (K.asked-by e (V.Repeat n es) (Form-F.Repeat n es) fs w s is (K.out-Repeat n es)) (subst (λ k. AllFewer k (map alone_asked es)) (sym (N.nodes-Repeat e n es is)) (few-alone es (total (map nodes es)) (omega arith)));
  again = λ fs w s. subst OnlyFirstAgain (K.asked-by e (V.Repeat n es) (Form-F.Repeat n es) fs w s is (K.out-Repeat n es)) (first-alone es);
}

of-Inside : (x : Expr) (cs : List Choice) (e : Expr) → e.form ≡ V.Inside x cs → IsOperator e → Asking e
of-Inside x cs e is operator = record {
  strict = λ fs w s a t. I.strict-Inside e x cs fs w s a t is;
  fits = λ fs w s f. I.fits-Inside e x cs fs w s is f;
  fewer = λ fs w s. subst (AllFewer (nodes e)) (K.asked-by e (V.Inside x cs) (Form-F.Inside x cs) fs w s is (I.out-Inside x cs)) (let n = nodes x + total (map choice_nodes cs) in
      subst (λ k. AllFewer k (alone_asked x ∷ flat_map (λ c. choice_asked x (out-Choice c)) cs)) (sym (N.nodes-Inside e x cs is)) (omega arith, few-choices x cs n (omega arith) (omega arith)));
  again = λ fs w s. subst OnlyFirstAgain (K.asked-by e (V.Inside x cs) (Form-F.Inside x cs) fs w s is (I.out-Inside x cs)) ((tt, again-choices x cs));
}

of-Cast : (x : Expr) (e : Expr) → e.form ≡ V.Cast x → IsOperator e → Asking e
of-Cast x e is operator = record {
  strict = λ fs w s a t. K.strict-Cast e x fs w s a t is;
  fits = λ fs w s f. P.fits-Cast e x fs w s is f;
  fewer = λ fs w s. subst (AllFewer (nodes e)) (K.asked-by e (V.Cast x) (Form-F.Cast x) fs w s is (K.out-Cast x)) (let h = N.nodes-Cast e x is in (omega arith, tt));
  again = λ fs w s. subst OnlyFirstAgain (K.asked-by e (V.Cast x) (Form-F.Cast x) fs w s is (K.out-Cast x)) ((tt, tt));
}

of-Clog2 : (x : Expr) (e : Expr) → e.form ≡ V.Clog2 x → IsOperator e → Asking e
of-Clog2 x e is operator = record {
  strict = λ fs w s a t. K.strict-Clog2 e x fs w s a t is;
  fits = λ fs w s f. P.fits-Clog2 e x fs w s is f;
  fewer = λ fs w s. subst (AllFewer (nodes e)) (K.asked-by e (V.Clog2 x) (Form-F.Clog2 x) fs w s is (K.out-Clog2 x)) (let h = N.nodes-Clog2 e x is in (omega arith, tt));
  again = λ fs w s. subst OnlyFirstAgain (K.asked-by e (V.Clog2 x) (Form-F.Clog2 x) fs w s is (K.out-Clog2 x)) ((tt, tt));
}

of-Pattern : (es : List Expr) (e : Expr) → e.form ≡ V.Pattern es → IsOperator e → Asking e
of-Pattern es e is operator = record {
  strict = λ fs w s a t. K.strict-Pattern e es fs w s a t is;
  fits = λ fs w s f. P.fits-Pattern e es fs w s is f;
  fewer = λ fs w s. subst (AllFewer (nodes e)) (K.asked-by e (V.Pattern es) (Form-F.Pattern es) fs w s is (K.out-Pattern es)) (subst (λ k. AllFewer k (assigned_asked (marks_of_parts (parts_of (layout e.of))) es)) (sym (N.nodes-Pattern e es is)) (few-assigned (marks_of_parts (parts_of (layout e.of))) es (total (map nodes es)) (omega arith)));
  again = λ fs w s. subst OnlyFirstAgain (K.asked-by e (V.Pattern es) (Form-F.Pattern es) fs w s is (K.out-Pattern es)) (first-assigned (marks_of_parts (parts_of (layout e.of))) es);
}

not-Call : (f : ℕ) (es : List Expr) (e : Expr) → e.form ≡ V.Call f es → IsOperator e → Asking e
not-Call f es e is operator =
    let out : out-Form (V.Call f es) ≡ Form-F.Call f es = search (rules, the_lemmas) in
    let clash : true ≡ false = sym (ap (λ f. is_call (out-Form f)) is ∙ ap is_call out) ∙ operator.no_call in
    absurd (cc)

of-Stream : (reversed : Bool) (n : ℕ) (es : List Expr) (e : Expr) → e.form ≡ V.Stream reversed n es → IsOperator e → Asking e
of-Stream reversed n es e is operator = record {
  strict = λ fs w s a t. K.strict-Stream e reversed n es fs w s a t is;
  fits = λ fs w s f. P.fits-Stream e reversed n es fs w s is f;
  fewer = λ fs w s. subst (AllFewer (nodes e)) (K.asked-by e (V.Stream reversed n es) (Form-F.Stream reversed n es) fs w s is (K.out-Stream reversed n es)) (subst (λ k. AllFewer k (map alone_asked es)) (sym (N.nodes-Stream e reversed n es is)) (few-alone es (total (map nodes es)) (omega arith)));
  again = λ fs w s. subst OnlyFirstAgain (K.asked-by e (V.Stream reversed n es) (Form-F.Stream reversed n es) fs w s is (K.out-Stream reversed n es)) (first-alone es);
}

abbrev Any : Choice → Type 0
Any c = Unit {0}

abbrev AskingForm : Form → Type 0
AskingForm f = (e : Expr) → e.form ≡ f → IsOperator e → Asking e

abbrev AskingExpr : Expr → Type 0
AskingExpr e = IsOperator e → Asking e

asking-steps : Steps Any AskingForm AskingExpr
asking-steps = record {
  value = λ e h. tt;
  range = λ a b h g. tt;
  expr = λ e h operator. h e refl operator;
  literal = λ v goes_on. of-Literal v goes_on;
  fill = λ b. of-Fill b;
  constant = λ v. of-Constant v;
  signal = λ n. not-Signal n;
  local = λ n. not-Local n;
  member = λ x k h0. not-Member x k;
  index = λ x y h0 h1. not-Index x y;
  part_select = λ x left right h0. not-Part x left right;
  sliding = λ x y n up h0 h1. not-Slide x y n up;
  unary = λ op x h1. of-Unary op x;
  reduce = λ op x h1. of-Reduce op x;
  negate = λ x h0. of-Negate x;
  binary = λ op x y h1 h2. of-Binary op x y;
  shift = λ op x y h1 h2. of-Shift op x y;
  power = λ x y h0 h1. of-Power x y;
  order = λ op x y h1 h2. of-Order op x y;
  equal = λ op negated x y h2 h3. of-Equal op negated x y;
  both = λ x y h0 h1. of-Both x y;
  either = λ x y h0 h1. of-Either x y;
  choose = λ z x y h0 h1 h2. of-Choose z x y;
  concat = λ es h0. of-Concat es;
  repeat = λ n es h1. of-Repeat n es;
  inside = λ x cs h0 h1. of-Inside x cs;
  cast = λ x h0. of-Cast x;
  clog2 = λ x h0. of-Clog2 x;
  pattern = λ es h0. of-Pattern es;
  call = λ f es h1. not-Call f es;
  stream = λ reversed n es h2. of-Stream reversed n es;
}

-- each expression that is neither a select path nor a call
pub asking : (e : Expr) → IsOperator e → Asking e
asking = by-expr Any AskingForm AskingExpr asking-steps
