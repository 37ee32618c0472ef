-- The leaves of an expression are those of what it asks.
use Rattle.std.proofs.Common.{◌≡◌, ℕ, Bool, true, false, ℤ, List, [], ◌∷◌, ◌++◌, length, map, flat_map, rules, refl, ap, sym, ◌∙◌, subst}
use Rattle.b4_core.specs.declared.bit.Bit4.{Bit4}
use Rattle.b4_core.specs.declared.operators.UnOp.{UnOp}
use Rattle.b4_core.specs.declared.operators.BinOp.{BinOp}
use Rattle.b4_core.specs.declared.operators.RedOp.{RedOp}
use Rattle.b4_core.specs.declared.operators.ShiftOp.{ShiftOp}
use Rattle.b4_core.specs.declared.operators.OrdOp.{OrdOp}
use Rattle.b4_core.specs.declared.operators.EqOp.{EqOp}
use Rattle.sv_types.specs.declared.types.Value.{Value}
use Rattle.sv_types.specs.declared.expression.Expr.{Expr}
use Rattle.sv_types.specs.declared.expression.Form.{Form, Form-F, fold-Form, out-Form, the_lemmas}
use Rattle.sv_types.specs.declared.expression.Form.TheVariants as V
use Rattle.sv_types.specs.declared.expression.Choice.{Choice, fold-Choice, out-Choice}
use Rattle.sv_types.specs.declared.expression.Choice.TheVariants as C
use Rattle.sv_types.specs.Layouts.{Layout, layout}
use Rattle.sv_types.specs.Surroundings.{Parameter}
use Rattle.sv_types.specs.Operators.{parts_of}
use Rattle.sv_types.proofs.Terms.{Steps, by-expr}
use Rattle.eval_parts.specs.Steps.{is_path}
use Rattle.eval_parts.specs.Targets.{marks_of_parts, marks_of_formals}
use Rattle.eval_forms.specs.Asked.{Asked, alone_asked, assigned_asked, choice_asked, form_asked}
use Rattle.eval_forms.proofs.Alternatives as I
use Rattle.eval_forms.proofs.Strict as K
use Rattle.expr_lower.specs.Leaves.{Leaf, Signals, Elements, Inside, Locals, Calls, Valued, Joined, Unlowered, together, onto, indexed, leaves, Each, IsLowered, choice_step, form_step, expr_step}

abbrev pub form_leaves : Form → Layout → List Leaf
form_leaves = fold-Form (List Leaf) (Layout → List Leaf) (List Leaf) choice_step form_step expr_step

abbrev pub choice_leaves : Choice → List Leaf
choice_leaves = fold-Choice (List Leaf) (Layout → List Leaf) (List Leaf) choice_step form_step expr_step

leaves-form : (e : Expr) → leaves e ≡ form_leaves e.form (layout e.of)
leaves-form e = search (rules, the_lemmas)

leaves-at : (e : Expr) (f : Form) (y : Layout → List Leaf) → e.form ≡ f → form_leaves f ≡ y → leaves e ≡ y (layout e.of)
leaves-at e f y is level = leaves-form e ∙ ap (λ g. form_leaves g (layout e.of)) is ∙ ap (λ (g : Layout → List Leaf). g (layout e.of)) level

pub leaves-value : (e : Expr) → choice_leaves (C.Value e) ≡ leaves e
leaves-value e = search (rules, the_lemmas)

pub leaves-range : (a b : Expr) → choice_leaves (C.Range a b) ≡ leaves a ++ leaves b
leaves-range a b = search (rules, the_lemmas)

-- what is asked has leaves with a property
abbrev pub EachAsked : (Leaf → Type 0) → List Asked → Type 0
EachAsked P [] = Unit {0}
EachAsked P (q ∷ qs) = Each P (leaves q.of) × EachAsked P qs

pub each-left : (P : Leaf → Type 0) (xs ys : List Leaf) → Each P (xs ++ ys) → Each P xs
each-left P [] ys h = tt
each-left P (x ∷ xs) ys h = (h.0, each-left P xs ys h.1)

pub each-right : (P : Leaf → Type 0) (xs ys : List Leaf) → Each P (xs ++ ys) → Each P ys
each-right P [] ys h = h
each-right P (x ∷ xs) ys h = each-right P xs ys h.1

alone-each : (P : Leaf → Type 0) (es : List Expr) → Each P (together (map leaves es)) → EachAsked P (map alone_asked es)
alone-each P [] h = tt
alone-each P (e ∷ es) h = (each-left P (leaves e) (together (map leaves es)) h, alone-each P es (each-right P (leaves e) (together (map leaves es)) h))

assigned-each : (P : Leaf → Type 0) (places : List (List Bool)) (es : List Expr) → Each P (together (map leaves es)) → EachAsked P (assigned_asked places es)
assigned-each P [] es h = tt
assigned-each P (p ∷ ps) [] h = tt
assigned-each P (p ∷ ps) (e ∷ es) h = (each-left P (leaves e) (together (map leaves es)) h, assigned-each P ps es (each-right P (leaves e) (together (map leaves es)) h))

-- what a select stands on has the leaves that it has alone, if a signal is shown whole where members and parts of it are read
pub off : (P : Leaf → Type 0) → ((n : ℕ) (of : Layout) → P (Inside n of) → P (Signals n of)) → (ls : List Leaf) → Each P (onto ls) → Each P ls
off P inside [] h = tt
off P inside (Signals n of ∷ ls) h = (inside n of h.0, h.1)
off P inside (Elements n of ∷ ls) h = h
off P inside (Inside n of ∷ ls) h = h
off P inside (Locals n of ∷ ls) h = h
off P inside (Calls f of n ∷ ls) h = h
off P inside (Valued ∷ ls) h = h
off P inside (Joined ∷ ls) h = h.1
off P inside (Unlowered ∷ ls) h = h

pub off-left : (P : Leaf → Type 0) → ((n : ℕ) (of : Layout) → P (Inside n of) → P (Signals n of)) → (x y : Expr) → Each P (onto (leaves x) ++ leaves y) → Each P (leaves x)
off-left P inside x y h = off P inside (leaves x) (each-left P (onto (leaves x)) (leaves y) h)

-- so has what an index selects from, if a whole signal is shown whole where its elements are read
pub off-index : (P : Leaf → Type 0) → ((n : ℕ) (of : Layout) → P (Inside n of) → P (Signals n of)) → (ls : List Leaf) → ((n : ℕ) (of : Layout) → ls ≡ Signals n of ∷ [] → P (Elements n of) → P (Signals n of))
    → Each P (indexed ls) → Each P ls
off-index P inside [] elements h = tt
off-index P inside (Signals n of ∷ []) elements h = (elements n of refl h.0, tt)
off-index P inside (Signals n of ∷ l ∷ ls) elements h = (inside n of h.0, h.1)
off-index P inside (Elements n of ∷ ls) elements h = h
off-index P inside (Inside n of ∷ ls) elements h = h
off-index P inside (Locals n of ∷ ls) elements h = h
off-index P inside (Calls f of n ∷ ls) elements h = h
off-index P inside (Valued ∷ ls) elements h = h
off-index P inside (Joined ∷ ls) elements h = h.1
off-index P inside (Unlowered ∷ ls) elements h = h

-- all forms that an index selects from are lowered just where those are that another select stands on
pub index-lowered : (ls : List Leaf) → Each IsLowered (indexed ls) → Each IsLowered (onto ls)
index-lowered [] h = h
index-lowered (Signals n of ∷ []) h = h
index-lowered (Signals n of ∷ l ∷ ls) h = h
index-lowered (Elements n of ∷ ls) h = h
index-lowered (Inside n of ∷ ls) h = h
index-lowered (Locals n of ∷ ls) h = h
index-lowered (Calls f of n ∷ ls) h = h
index-lowered (Valued ∷ ls) h = h
index-lowered (Joined ∷ ls) h = h
index-lowered (Unlowered ∷ ls) h = h

pub lowered-index : (ls : List Leaf) → Each IsLowered (onto ls) → Each IsLowered (indexed ls)
lowered-index [] h = h
lowered-index (Signals n of ∷ []) h = h
lowered-index (Signals n of ∷ l ∷ ls) h = h
lowered-index (Elements n of ∷ ls) h = h
lowered-index (Inside n of ∷ ls) h = h
lowered-index (Locals n of ∷ ls) h = h
lowered-index (Calls f of n ∷ ls) h = h
lowered-index (Valued ∷ ls) h = h
lowered-index (Joined ∷ ls) h = h
lowered-index (Unlowered ∷ ls) h = h

pub off-right : (P : Leaf → Type 0) (x y : Expr) → Each P (onto (leaves x) ++ leaves y) → Each P (leaves y)
off-right P x y h = each-right P (onto (leaves x)) (leaves y) h

two-each : (P : Leaf → Type 0) (x y : Expr) → Each P (leaves x ++ leaves y) → Each P (leaves x) × (Each P (leaves y) × Unit {0})
two-each P x y h = (each-left P (leaves x) (leaves y) h, (each-right P (leaves x) (leaves y) h, tt))

three-each : (P : Leaf → Type 0) (z x y : Expr) → Each P (leaves z ++ (leaves x ++ leaves y)) → Each P (leaves z) × (Each P (leaves x) × (Each P (leaves y) × Unit {0}))
three-each P z x y h = (each-left P (leaves z) (leaves x ++ leaves y) h, two-each P x y (each-right P (leaves z) (leaves x ++ leaves y) h))

-- alternatives of `inside`
abbrev ChoiceIt : (Leaf → Type 0) → Choice → Type 0
ChoiceIt P c = (x : Expr) (later : List Asked) → Each P (leaves x) → Each P (choice_leaves c) → EachAsked P later → EachAsked P (choice_asked x (out-Choice c) ++ later)

choice-value : (P : Leaf → Type 0) (v : Expr) → ChoiceIt P (C.Value v)
choice-value P v x later h g rest =
    subst (λ o. EachAsked P (choice_asked x o ++ later)) (sym (I.out-Value v)) (h, (subst (Each P) (leaves-value v) g, rest))

choice-range : (P : Leaf → Type 0) (low high : Expr) → ChoiceIt P (C.Range low high)
choice-range P low high x later h g rest =
    let both = two-each P low high (subst (Each P) (leaves-range low high) g) in
    subst (λ o. EachAsked P (choice_asked x o ++ later)) (sym (I.out-Range low high)) (h, (both.0, (h, ((both.1).0, rest))))

choices-each : (P : Leaf → Type 0) (x : Expr) (cs : List Choice) → Each P (leaves x) → Each P (together (map choice_leaves cs)) → EachAsked P (flat_map (λ c. choice_asked x (out-Choice c)) cs)
choices-each P x [] h g = tt
choices-each P x (c ∷ cs) h g =
    I.by-choice (ChoiceIt P) (choice-value P) (choice-range P) c x (flat_map (λ d. choice_asked x (out-Choice d)) cs) h (each-left P (choice_leaves c) (together (map choice_leaves cs)) g)
    (choices-each P x cs h (each-right P (choice_leaves c) (together (map choice_leaves cs)) g))

-- one layer of each form
out-Literal : (v : List Bit4) (goes_on : Bool) → out-Form (V.Literal v goes_on) ≡ Form-F.Literal v goes_on
out-Literal v goes_on = search (rules, the_lemmas)

out-Fill : (b : Bit4) → out-Form (V.Fill b) ≡ Form-F.Fill b
out-Fill b = search (rules, the_lemmas)

out-Constant : (v : Value) → out-Form (V.Constant v) ≡ Form-F.Constant v
out-Constant v = search (rules, the_lemmas)

out-Signal : (n : ℕ) → out-Form (V.Signal n) ≡ Form-F.Signal n
out-Signal n = search (rules, the_lemmas)

out-Local : (n : ℕ) → out-Form (V.Local n) ≡ Form-F.Local n
out-Local n = search (rules, the_lemmas)

pub out-Member : (x : Expr) (k : ℕ) → out-Form (V.Member x k) ≡ Form-F.Member x k
out-Member x k = search (rules, the_lemmas)

pub out-Index : (x : Expr) (y : Expr) → out-Form (V.Index x y) ≡ Form-F.Index x y
out-Index x y = search (rules, the_lemmas)

pub out-Part : (x : Expr) (left : ℤ) (right : ℤ) → out-Form (V.Part x left right) ≡ Form-F.Part x left right
out-Part x left right = search (rules, the_lemmas)

pub out-Slide : (x : Expr) (y : Expr) (n : ℕ) (up : Bool) → out-Form (V.Slide x y n up) ≡ Form-F.Slide x y n up
out-Slide x y n up = search (rules, the_lemmas)

out-Unary : (op : UnOp) (x : Expr) → out-Form (V.Unary op x) ≡ Form-F.Unary op x
out-Unary op x = search (rules, the_lemmas)

out-Reduce : (op : RedOp) (x : Expr) → out-Form (V.Reduce op x) ≡ Form-F.Reduce op x
out-Reduce op x = search (rules, the_lemmas)

out-Negate : (x : Expr) → out-Form (V.Negate x) ≡ Form-F.Negate x
out-Negate x = search (rules, the_lemmas)

out-Binary : (op : BinOp) (x : Expr) (y : Expr) → out-Form (V.Binary op x y) ≡ Form-F.Binary op x y
out-Binary op x y = search (rules, the_lemmas)

out-Shift : (op : ShiftOp) (x : Expr) (y : Expr) → out-Form (V.Shift op x y) ≡ Form-F.Shift op x y
out-Shift op x y = search (rules, the_lemmas)

out-Power : (x : Expr) (y : Expr) → out-Form (V.Power x y) ≡ Form-F.Power x y
out-Power x y = search (rules, the_lemmas)

out-Order : (op : OrdOp) (x : Expr) (y : Expr) → out-Form (V.Order op x y) ≡ Form-F.Order op x y
out-Order op x y = search (rules, the_lemmas)

out-Equal : (op : EqOp) (negated : Bool) (x : Expr) (y : Expr) → out-Form (V.Equal op negated x y) ≡ Form-F.Equal op negated x y
out-Equal op negated x y = search (rules, the_lemmas)

out-Both : (x : Expr) (y : Expr) → out-Form (V.Both x y) ≡ Form-F.Both x y
out-Both x y = search (rules, the_lemmas)

out-Either : (x : Expr) (y : Expr) → out-Form (V.Either x y) ≡ Form-F.Either x y
out-Either x y = search (rules, the_lemmas)

out-Choose : (z : Expr) (x : Expr) (y : Expr) → out-Form (V.Choose z x y) ≡ Form-F.Choose z x y
out-Choose z x y = search (rules, the_lemmas)

out-Concat : (es : List Expr) → out-Form (V.Concat es) ≡ Form-F.Concat es
out-Concat es = search (rules, the_lemmas)

out-Repeat : (n : ℕ) (es : List Expr) → out-Form (V.Repeat n es) ≡ Form-F.Repeat n es
out-Repeat n es = search (rules, the_lemmas)

out-Inside : (x : Expr) (cs : List Choice) → out-Form (V.Inside x cs) ≡ Form-F.Inside x cs
out-Inside x cs = search (rules, the_lemmas)

out-Cast : (x : Expr) → out-Form (V.Cast x) ≡ Form-F.Cast x
out-Cast x = search (rules, the_lemmas)

out-Clog2 : (x : Expr) → out-Form (V.Clog2 x) ≡ Form-F.Clog2 x
out-Clog2 x = search (rules, the_lemmas)

out-Pattern : (es : List Expr) → out-Form (V.Pattern es) ≡ Form-F.Pattern es
out-Pattern es = search (rules, the_lemmas)

out-Call : (f : ℕ) (es : List Expr) → out-Form (V.Call f es) ≡ Form-F.Call f es
out-Call f es = search (rules, the_lemmas)

out-Stream : (reversed : Bool) (n : ℕ) (es : List Expr) → out-Form (V.Stream reversed n es) ≡ Form-F.Stream reversed n es
out-Stream reversed n es = search (rules, the_lemmas)

-- a select path isn't another form
path-clash : (e : Expr) (f : Form) (y : Form-F Choice Form Expr) → e.form ≡ f → out-Form f ≡ y → is_path y ≡ true → is_path (out-Form e.form) ≡ false → ⊥
path-clash e f y is out path kind = (let clash : true ≡ false = sym path ∙ sym (ap (λ g. is_path (out-Form g)) is ∙ ap is_path out) ∙ kind in cc)

pub path-Signal : (e : Expr) (n : ℕ) → e.form ≡ V.Signal n → is_path (out-Form e.form) ≡ false → ⊥
path-Signal e n is kind = path-clash e (V.Signal n) (Form-F.Signal n) is (out-Signal n) refl kind

pub path-Local : (e : Expr) (n : ℕ) → e.form ≡ V.Local n → is_path (out-Form e.form) ≡ false → ⊥
path-Local e n is kind = path-clash e (V.Local n) (Form-F.Local n) is (out-Local n) refl kind

pub path-Member : (e x : Expr) (k : ℕ) → e.form ≡ V.Member x k → is_path (out-Form e.form) ≡ false → ⊥
path-Member e x k is kind = path-clash e (V.Member x k) (Form-F.Member x k) is (out-Member x k) refl kind

pub path-Index : (e x y : Expr) → e.form ≡ V.Index x y → is_path (out-Form e.form) ≡ false → ⊥
path-Index e x y is kind = path-clash e (V.Index x y) (Form-F.Index x y) is (out-Index x y) refl kind

pub path-Part : (e x : Expr) (left right : ℤ) → e.form ≡ V.Part x left right → is_path (out-Form e.form) ≡ false → ⊥
path-Part e x left right is kind = path-clash e (V.Part x left right) (Form-F.Part x left right) is (out-Part x left right) refl kind

pub path-Slide : (e x y : Expr) (n : ℕ) (up : Bool) → e.form ≡ V.Slide x y n up → is_path (out-Form e.form) ≡ false → ⊥
path-Slide e x y n up is kind = path-clash e (V.Slide x y n up) (Form-F.Slide x y n up) is (out-Slide x y n up) refl kind

-- form by form
abbrev AskedForm : (Leaf → Type 0) → Form → Type 0
AskedForm P f = (e : Expr) → e.form ≡ f → (fs : ℕ → List Parameter) (w : ℕ) (s : Bool) → Each P (leaves e) → EachAsked P (form_asked (layout e.of) fs w s (out-Form e.form))

abbrev AskedExpr : (Leaf → Type 0) → Expr → Type 0
AskedExpr P e = is_path (out-Form e.form) ≡ false → (fs : ℕ → List Parameter) (w : ℕ) (s : Bool) → Each P (leaves e) → EachAsked P (form_asked (layout e.of) fs w s (out-Form e.form))

abbrev AnyChoice : Choice → Type 0
AnyChoice c = Unit {0}

form-Literal : (v : List Bit4) (goes_on : Bool) → form_leaves (V.Literal v goes_on) ≡ (λ (of : Layout). Valued ∷ [])
form-Literal v goes_on = search (rules, the_lemmas)

pub leaves-Literal : (e : Expr) (v : List Bit4) (goes_on : Bool) → e.form ≡ V.Literal v goes_on → leaves e ≡ Valued ∷ []
leaves-Literal e v goes_on is = leaves-at e (V.Literal v goes_on) _ is (form-Literal v goes_on)

of-Literal : (P : Leaf → Type 0) (v : List Bit4) (goes_on : Bool) → AskedForm P (V.Literal v goes_on)
of-Literal P v goes_on e is fs w s all =
    subst (EachAsked P) (K.asked-by e (V.Literal v goes_on) (Form-F.Literal v goes_on) fs w s is (out-Literal v goes_on)) tt

form-Fill : (b : Bit4) → form_leaves (V.Fill b) ≡ (λ (of : Layout). Valued ∷ [])
form-Fill b = search (rules, the_lemmas)

pub leaves-Fill : (e : Expr) (b : Bit4) → e.form ≡ V.Fill b → leaves e ≡ Valued ∷ []
leaves-Fill e b is = leaves-at e (V.Fill b) _ is (form-Fill b)

of-Fill : (P : Leaf → Type 0) (b : Bit4) → AskedForm P (V.Fill b)
of-Fill P b e is fs w s all =
    subst (EachAsked P) (K.asked-by e (V.Fill b) (Form-F.Fill b) fs w s is (out-Fill b)) tt

form-Constant : (v : Value) → form_leaves (V.Constant v) ≡ (λ (of : Layout). Valued ∷ [])
form-Constant v = search (rules, the_lemmas)

pub leaves-Constant : (e : Expr) (v : Value) → e.form ≡ V.Constant v → leaves e ≡ Valued ∷ []
leaves-Constant e v is = leaves-at e (V.Constant v) _ is (form-Constant v)

of-Constant : (P : Leaf → Type 0) (v : Value) → AskedForm P (V.Constant v)
of-Constant P v e is fs w s all =
    subst (EachAsked P) (K.asked-by e (V.Constant v) (Form-F.Constant v) fs w s is (out-Constant v)) tt

form-Signal : (n : ℕ) → form_leaves (V.Signal n) ≡ (λ (of : Layout). Signals n of ∷ [])
form-Signal n = search (rules, the_lemmas)

pub leaves-Signal : (e : Expr) (n : ℕ) → e.form ≡ V.Signal n → leaves e ≡ Signals n (layout e.of) ∷ []
leaves-Signal e n is = leaves-at e (V.Signal n) _ is (form-Signal n)

of-Signal : (P : Leaf → Type 0) (n : ℕ) → AskedForm P (V.Signal n)
of-Signal P n e is fs w s all =
    subst (EachAsked P) (K.asked-by e (V.Signal n) (Form-F.Signal n) fs w s is (out-Signal n)) tt

form-Local : (n : ℕ) → form_leaves (V.Local n) ≡ (λ (of : Layout). Locals n of ∷ [])
form-Local n = search (rules, the_lemmas)

pub leaves-Local : (e : Expr) (n : ℕ) → e.form ≡ V.Local n → leaves e ≡ Locals n (layout e.of) ∷ []
leaves-Local e n is = leaves-at e (V.Local n) _ is (form-Local n)

of-Local : (P : Leaf → Type 0) (n : ℕ) → AskedForm P (V.Local n)
of-Local P n e is fs w s all =
    subst (EachAsked P) (K.asked-by e (V.Local n) (Form-F.Local n) fs w s is (out-Local n)) tt

form-Member : (x : Expr) (k : ℕ) → form_leaves (V.Member x k) ≡ (λ (of : Layout). onto (leaves x))
form-Member x k = search (rules, the_lemmas)

pub leaves-Member : (e : Expr) (x : Expr) (k : ℕ) → e.form ≡ V.Member x k → leaves e ≡ onto (leaves x)
leaves-Member e x k is = leaves-at e (V.Member x k) _ is (form-Member x k)

form-Index : (x : Expr) (y : Expr) → form_leaves (V.Index x y) ≡ (λ (of : Layout). indexed (leaves x) ++ leaves y)
form-Index x y = search (rules, the_lemmas)

pub leaves-Index : (e : Expr) (x : Expr) (y : Expr) → e.form ≡ V.Index x y → leaves e ≡ indexed (leaves x) ++ leaves y
leaves-Index e x y is = leaves-at e (V.Index x y) _ is (form-Index x y)

form-Part : (x : Expr) (left : ℤ) (right : ℤ) → form_leaves (V.Part x left right) ≡ (λ (of : Layout). onto (leaves x))
form-Part x left right = search (rules, the_lemmas)

pub leaves-Part : (e : Expr) (x : Expr) (left : ℤ) (right : ℤ) → e.form ≡ V.Part x left right → leaves e ≡ onto (leaves x)
leaves-Part e x left right is = leaves-at e (V.Part x left right) _ is (form-Part x left right)

form-Slide : (x : Expr) (y : Expr) (n : ℕ) (up : Bool) → form_leaves (V.Slide x y n up) ≡ (λ (of : Layout). onto (leaves x) ++ leaves y)
form-Slide x y n up = search (rules, the_lemmas)

pub leaves-Slide : (e : Expr) (x : Expr) (y : Expr) (n : ℕ) (up : Bool) → e.form ≡ V.Slide x y n up → leaves e ≡ onto (leaves x) ++ leaves y
leaves-Slide e x y n up is = leaves-at e (V.Slide x y n up) _ is (form-Slide x y n up)

form-Unary : (op : UnOp) (x : Expr) → form_leaves (V.Unary op x) ≡ (λ (of : Layout). Valued ∷ leaves x)
form-Unary op x = search (rules, the_lemmas)

pub leaves-Unary : (e : Expr) (op : UnOp) (x : Expr) → e.form ≡ V.Unary op x → leaves e ≡ Valued ∷ leaves x
leaves-Unary e op x is = leaves-at e (V.Unary op x) _ is (form-Unary op x)

of-Unary : (P : Leaf → Type 0) (op : UnOp) (x : Expr) → AskedForm P (V.Unary op x)
of-Unary P op x e is fs w s all =
    subst (EachAsked P) (K.asked-by e (V.Unary op x) (Form-F.Unary op x) fs w s is (out-Unary op x)) (let h = (subst (Each P) (leaves-Unary e op x is) all).1 in (h, tt))

form-Reduce : (op : RedOp) (x : Expr) → form_leaves (V.Reduce op x) ≡ (λ (of : Layout). Valued ∷ leaves x)
form-Reduce op x = search (rules, the_lemmas)

pub leaves-Reduce : (e : Expr) (op : RedOp) (x : Expr) → e.form ≡ V.Reduce op x → leaves e ≡ Valued ∷ leaves x
leaves-Reduce e op x is = leaves-at e (V.Reduce op x) _ is (form-Reduce op x)

of-Reduce : (P : Leaf → Type 0) (op : RedOp) (x : Expr) → AskedForm P (V.Reduce op x)
of-Reduce P op x e is fs w s all =
    subst (EachAsked P) (K.asked-by e (V.Reduce op x) (Form-F.Reduce op x) fs w s is (out-Reduce op x)) (let h = (subst (Each P) (leaves-Reduce e op x is) all).1 in (h, tt))

form-Negate : (x : Expr) → form_leaves (V.Negate x) ≡ (λ (of : Layout). Valued ∷ leaves x)
form-Negate x = search (rules, the_lemmas)

pub leaves-Negate : (e : Expr) (x : Expr) → e.form ≡ V.Negate x → leaves e ≡ Valued ∷ leaves x
leaves-Negate e x is = leaves-at e (V.Negate x) _ is (form-Negate x)

of-Negate : (P : Leaf → Type 0) (x : Expr) → AskedForm P (V.Negate x)
of-Negate P x e is fs w s all =
    subst (EachAsked P) (K.asked-by e (V.Negate x) (Form-F.Negate x) fs w s is (out-Negate x)) (let h = (subst (Each P) (leaves-Negate e x is) all).1 in (h, tt))

form-Binary : (op : BinOp) (x : Expr) (y : Expr) → form_leaves (V.Binary op x y) ≡ (λ (of : Layout). Valued ∷ (leaves x ++ leaves y))
form-Binary op x y = search (rules, the_lemmas)

pub leaves-Binary : (e : Expr) (op : BinOp) (x : Expr) (y : Expr) → e.form ≡ V.Binary op x y → leaves e ≡ Valued ∷ (leaves x ++ leaves y)
leaves-Binary e op x y is = leaves-at e (V.Binary op x y) _ is (form-Binary op x y)

of-Binary : (P : Leaf → Type 0) (op : BinOp) (x : Expr) (y : Expr) → AskedForm P (V.Binary op x y)
of-Binary P op x y e is fs w s all =
    subst (EachAsked P) (K.asked-by e (V.Binary op x y) (Form-F.Binary op x y) fs w s is (out-Binary op x y)) (let h = (subst (Each P) (leaves-Binary e op x y is) all).1 in two-each P x y h)

form-Shift : (op : ShiftOp) (x : Expr) (y : Expr) → form_leaves (V.Shift op x y) ≡ (λ (of : Layout). Valued ∷ (leaves x ++ leaves y))
form-Shift op x y = search (rules, the_lemmas)

pub leaves-Shift : (e : Expr) (op : ShiftOp) (x : Expr) (y : Expr) → e.form ≡ V.Shift op x y → leaves e ≡ Valued ∷ (leaves x ++ leaves y)
leaves-Shift e op x y is = leaves-at e (V.Shift op x y) _ is (form-Shift op x y)

of-Shift : (P : Leaf → Type 0) (op : ShiftOp) (x : Expr) (y : Expr) → AskedForm P (V.Shift op x y)
of-Shift P op x y e is fs w s all =
    subst (EachAsked P) (K.asked-by e (V.Shift op x y) (Form-F.Shift op x y) fs w s is (out-Shift op x y)) (let h = (subst (Each P) (leaves-Shift e op x y is) all).1 in two-each P x y h)

form-Power : (x : Expr) (y : Expr) → form_leaves (V.Power x y) ≡ (λ (of : Layout). Valued ∷ (leaves x ++ leaves y))
form-Power x y = search (rules, the_lemmas)

pub leaves-Power : (e : Expr) (x : Expr) (y : Expr) → e.form ≡ V.Power x y → leaves e ≡ Valued ∷ (leaves x ++ leaves y)
leaves-Power e x y is = leaves-at e (V.Power x y) _ is (form-Power x y)

of-Power : (P : Leaf → Type 0) (x : Expr) (y : Expr) → AskedForm P (V.Power x y)
of-Power P x y e is fs w s all =
    subst (EachAsked P) (K.asked-by e (V.Power x y) (Form-F.Power x y) fs w s is (out-Power x y)) (let h = (subst (Each P) (leaves-Power e x y is) all).1 in two-each P x y h)

form-Order : (op : OrdOp) (x : Expr) (y : Expr) → form_leaves (V.Order op x y) ≡ (λ (of : Layout). Valued ∷ (leaves x ++ leaves y))
form-Order op x y = search (rules, the_lemmas)

pub leaves-Order : (e : Expr) (op : OrdOp) (x : Expr) (y : Expr) → e.form ≡ V.Order op x y → leaves e ≡ Valued ∷ (leaves x ++ leaves y)
leaves-Order e op x y is = leaves-at e (V.Order op x y) _ is (form-Order op x y)

of-Order : (P : Leaf → Type 0) (op : OrdOp) (x : Expr) (y : Expr) → AskedForm P (V.Order op x y)
of-Order P op x y e is fs w s all =
    subst (EachAsked P) (K.asked-by e (V.Order op x y) (Form-F.Order op x y) fs w s is (out-Order op x y)) (let h = (subst (Each P) (leaves-Order e op x y is) all).1 in two-each P x y h)

form-Equal : (op : EqOp) (negated : Bool) (x : Expr) (y : Expr) → form_leaves (V.Equal op negated x y) ≡ (λ (of : Layout). Valued ∷ (leaves x ++ leaves y))
form-Equal op negated x y = search (rules, the_lemmas)

pub leaves-Equal : (e : Expr) (op : EqOp) (negated : Bool) (x : Expr) (y : Expr) → e.form ≡ V.Equal op negated x y → leaves e ≡ Valued ∷ (leaves x ++ leaves y)
leaves-Equal e op negated x y is = leaves-at e (V.Equal op negated x y) _ is (form-Equal op negated x y)

of-Equal : (P : Leaf → Type 0) (op : EqOp) (negated : Bool) (x : Expr) (y : Expr) → AskedForm P (V.Equal op negated x y)
of-Equal P op negated x y e is fs w s all =
    subst (EachAsked P) (K.asked-by e (V.Equal op negated x y) (Form-F.Equal op negated x y) fs w s is (out-Equal op negated x y)) (let h = (subst (Each P) (leaves-Equal e op negated x y is) all).1 in two-each P x y h)

form-Both : (x : Expr) (y : Expr) → form_leaves (V.Both x y) ≡ (λ (of : Layout). Valued ∷ (leaves x ++ leaves y))
form-Both x y = search (rules, the_lemmas)

pub leaves-Both : (e : Expr) (x : Expr) (y : Expr) → e.form ≡ V.Both x y → leaves e ≡ Valued ∷ (leaves x ++ leaves y)
leaves-Both e x y is = leaves-at e (V.Both x y) _ is (form-Both x y)

of-Both : (P : Leaf → Type 0) (x : Expr) (y : Expr) → AskedForm P (V.Both x y)
of-Both P x y e is fs w s all =
    subst (EachAsked P) (K.asked-by e (V.Both x y) (Form-F.Both x y) fs w s is (out-Both x y)) (let h = (subst (Each P) (leaves-Both e x y is) all).1 in two-each P x y h)

form-Either : (x : Expr) (y : Expr) → form_leaves (V.Either x y) ≡ (λ (of : Layout). Valued ∷ (leaves x ++ leaves y))
form-Either x y = search (rules, the_lemmas)

pub leaves-Either : (e : Expr) (x : Expr) (y : Expr) → e.form ≡ V.Either x y → leaves e ≡ Valued ∷ (leaves x ++ leaves y)
leaves-Either e x y is = leaves-at e (V.Either x y) _ is (form-Either x y)

of-Either : (P : Leaf → Type 0) (x : Expr) (y : Expr) → AskedForm P (V.Either x y)
of-Either P x y e is fs w s all =
    subst (EachAsked P) (K.asked-by e (V.Either x y) (Form-F.Either x y) fs w s is (out-Either x y)) (let h = (subst (Each P) (leaves-Either e x y is) all).1 in two-each P x y h)

form-Choose : (z : Expr) (x : Expr) (y : Expr) → form_leaves (V.Choose z x y) ≡ (λ (of : Layout). Valued ∷ (leaves z ++ (leaves x ++ leaves y)))
form-Choose z x y = search (rules, the_lemmas)

pub leaves-Choose : (e : Expr) (z : Expr) (x : Expr) (y : Expr) → e.form ≡ V.Choose z x y → leaves e ≡ Valued ∷ (leaves z ++ (leaves x ++ leaves y))
leaves-Choose e z x y is = leaves-at e (V.Choose z x y) _ is (form-Choose z x y)

of-Choose : (P : Leaf → Type 0) (z : Expr) (x : Expr) (y : Expr) → AskedForm P (V.Choose z x y)
of-Choose P z x y e is fs w s all =
    subst (EachAsked P) (K.asked-by e (V.Choose z x y) (Form-F.Choose z x y) fs w s is (out-Choose z x y)) (let h = (subst (Each P) (leaves-Choose e z x y is) all).1 in three-each P z x y h)

form-Concat : (es : List Expr) → form_leaves (V.Concat es) ≡ (λ (of : Layout). Joined ∷ together (map leaves es))
form-Concat es = search (rules, the_lemmas)

pub leaves-Concat : (e : Expr) (es : List Expr) → e.form ≡ V.Concat es → leaves e ≡ Joined ∷ together (map leaves es)
leaves-Concat e es is = leaves-at e (V.Concat es) _ is (form-Concat es)

of-Concat : (P : Leaf → Type 0) (es : List Expr) → AskedForm P (V.Concat es)
of-Concat P es e is fs w s all =
    subst (EachAsked P) (K.asked-by e (V.Concat es) (Form-F.Concat es) fs w s is (out-Concat es)) (let h = (subst (Each P) (leaves-Concat e es is) all).1 in alone-each P es h)

form-Repeat : (n : ℕ) (es : List Expr) → form_leaves (V.Repeat n es) ≡ (λ (of : Layout). Valued ∷ together (map leaves es))
form-Repeat n es = search (rules, the_lemmas)

pub leaves-Repeat : (e : Expr) (n : ℕ) (es : List Expr) → e.form ≡ V.Repeat n es → leaves e ≡ Valued ∷ together (map leaves es)
leaves-Repeat e n es is = leaves-at e (V.Repeat n es) _ is (form-Repeat n es)

of-Repeat : (P : Leaf → Type 0) (n : ℕ) (es : List Expr) → AskedForm P (V.Repeat n es)
of-Repeat P n es e is fs w s all =
    subst (EachAsked P) (K.asked-by e (V.Repeat n es) (Form-F.Repeat n es) fs w s is (out-Repeat n es)) (let h = (subst (Each P) (leaves-Repeat e n es is) all).1 in alone-each P es h)

form-Inside : (x : Expr) (cs : List Choice) → form_leaves (V.Inside x cs) ≡ (λ (of : Layout). Valued ∷ (leaves x ++ together (map choice_leaves cs)))
form-Inside x cs = search (rules, the_lemmas)

pub leaves-Inside : (e : Expr) (x : Expr) (cs : List Choice) → e.form ≡ V.Inside x cs → leaves e ≡ Valued ∷ (leaves x ++ together (map choice_leaves cs))
leaves-Inside e x cs is = leaves-at e (V.Inside x cs) _ is (form-Inside x cs)

of-Inside : (P : Leaf → Type 0) (x : Expr) (cs : List Choice) → AskedForm P (V.Inside x cs)
of-Inside P x cs e is fs w s all =
    subst (EachAsked P) (K.asked-by e (V.Inside x cs) (Form-F.Inside x cs) fs w s is (out-Inside x cs)) (let h = (subst (Each P) (leaves-Inside e x cs is) all).1 in (each-left P (leaves x) (together (map choice_leaves cs)) h, choices-each P x cs (each-left P (leaves x) (together (map choice_leaves cs)) h) (each-right P (leaves x) (together (map choice_leaves cs)) h)))

form-Cast : (x : Expr) → form_leaves (V.Cast x) ≡ (λ (of : Layout). Valued ∷ leaves x)
form-Cast x = search (rules, the_lemmas)

pub leaves-Cast : (e : Expr) (x : Expr) → e.form ≡ V.Cast x → leaves e ≡ Valued ∷ leaves x
leaves-Cast e x is = leaves-at e (V.Cast x) _ is (form-Cast x)

of-Cast : (P : Leaf → Type 0) (x : Expr) → AskedForm P (V.Cast x)
of-Cast P x e is fs w s all =
    subst (EachAsked P) (K.asked-by e (V.Cast x) (Form-F.Cast x) fs w s is (out-Cast x)) (let h = (subst (Each P) (leaves-Cast e x is) all).1 in (h, tt))

form-Clog2 : (x : Expr) → form_leaves (V.Clog2 x) ≡ (λ (of : Layout). Valued ∷ leaves x)
form-Clog2 x = search (rules, the_lemmas)

pub leaves-Clog2 : (e : Expr) (x : Expr) → e.form ≡ V.Clog2 x → leaves e ≡ Valued ∷ leaves x
leaves-Clog2 e x is = leaves-at e (V.Clog2 x) _ is (form-Clog2 x)

of-Clog2 : (P : Leaf → Type 0) (x : Expr) → AskedForm P (V.Clog2 x)
of-Clog2 P x e is fs w s all =
    subst (EachAsked P) (K.asked-by e (V.Clog2 x) (Form-F.Clog2 x) fs w s is (out-Clog2 x)) (let h = (subst (Each P) (leaves-Clog2 e x is) all).1 in (h, tt))

form-Pattern : (es : List Expr) → form_leaves (V.Pattern es) ≡ (λ (of : Layout). Valued ∷ together (map leaves es))
form-Pattern es = search (rules, the_lemmas)

pub leaves-Pattern : (e : Expr) (es : List Expr) → e.form ≡ V.Pattern es → leaves e ≡ Valued ∷ together (map leaves es)
leaves-Pattern e es is = leaves-at e (V.Pattern es) _ is (form-Pattern es)

of-Pattern : (P : Leaf → Type 0) (es : List Expr) → AskedForm P (V.Pattern es)
of-Pattern P es e is fs w s all =
    subst (EachAsked P) (K.asked-by e (V.Pattern es) (Form-F.Pattern es) fs w s is (out-Pattern es)) (let h = (subst (Each P) (leaves-Pattern e es is) all).1 in assigned-each P (marks_of_parts (parts_of (layout e.of))) es h)

form-Call : (f : ℕ) (es : List Expr) → form_leaves (V.Call f es) ≡ (λ (of : Layout). Calls f of (length (map leaves es)) ∷ together (map leaves es))
form-Call f es = search (rules, the_lemmas)

pub leaves-Call : (e : Expr) (f : ℕ) (es : List Expr) → e.form ≡ V.Call f es → leaves e ≡ Calls f (layout e.of) (length (map leaves es)) ∷ together (map leaves es)
leaves-Call e f es is = leaves-at e (V.Call f es) _ is (form-Call f es)

of-Call : (P : Leaf → Type 0) (f : ℕ) (es : List Expr) → AskedForm P (V.Call f es)
of-Call P f es e is fs w s all =
    subst (EachAsked P) (K.asked-by e (V.Call f es) (Form-F.Call f es) fs w s is (out-Call f es)) (let h = subst (Each P) (leaves-Call e f es is) all in assigned-each P (marks_of_formals (fs f)) es h.1)

form-Stream : (reversed : Bool) (n : ℕ) (es : List Expr) → form_leaves (V.Stream reversed n es) ≡ (λ (of : Layout). Unlowered ∷ together (map leaves es))
form-Stream reversed n es = search (rules, the_lemmas)

pub leaves-Stream : (e : Expr) (reversed : Bool) (n : ℕ) (es : List Expr) → e.form ≡ V.Stream reversed n es → leaves e ≡ Unlowered ∷ together (map leaves es)
leaves-Stream e reversed n es is = leaves-at e (V.Stream reversed n es) _ is (form-Stream reversed n es)

of-Stream : (P : Leaf → Type 0) (reversed : Bool) (n : ℕ) (es : List Expr) → AskedForm P (V.Stream reversed n es)
of-Stream P reversed n es e is fs w s all =
    subst (EachAsked P) (K.asked-by e (V.Stream reversed n es) (Form-F.Stream reversed n es) fs w s is (out-Stream reversed n es)) (let h = subst (Each P) (leaves-Stream e reversed n es is) all in alone-each P es h.1)

abbrev AskedPlain : (Leaf → Type 0) → Form → Type 0
AskedPlain P f = (e : Expr) → e.form ≡ f → AskedExpr P e

asked-steps : (P : Leaf → Type 0) → Steps AnyChoice (AskedPlain P) (AskedExpr P)
asked-steps P = record {
  value = λ e h. tt;
  range = λ low high h g. tt;
  expr = λ e h plain fs w s all. h e refl plain fs w s all;
  literal = λ v goes_on e is plain. of-Literal P v goes_on e is;
  fill = λ b e is plain. of-Fill P b e is;
  constant = λ v e is plain. of-Constant P v e is;
  signal = λ n e is plain. of-Signal P n e is;
  local = λ n e is plain. of-Local P n e is;
  member = λ x k h0 e is plain fs w s all. absurd (path-Member e x k is plain);
  index = λ x y h0 h1 e is plain fs w s all. absurd (path-Index e x y is plain);
  part_select = λ x left right h0 e is plain fs w s all. absurd (path-Part e x left right is plain);
  sliding = λ x y n up h0 h1 e is plain fs w s all. absurd (path-Slide e x y n up is plain);
  unary = λ op x h1 e is plain. of-Unary P op x e is;
  reduce = λ op x h1 e is plain. of-Reduce P op x e is;
  negate = λ x h0 e is plain. of-Negate P x e is;
  binary = λ op x y h1 h2 e is plain. of-Binary P op x y e is;
  shift = λ op x y h1 h2 e is plain. of-Shift P op x y e is;
  power = λ x y h0 h1 e is plain. of-Power P x y e is;
  order = λ op x y h1 h2 e is plain. of-Order P op x y e is;
  equal = λ op negated x y h2 h3 e is plain. of-Equal P op negated x y e is;
  both = λ x y h0 h1 e is plain. of-Both P x y e is;
  either = λ x y h0 h1 e is plain. of-Either P x y e is;
  choose = λ z x y h0 h1 h2 e is plain. of-Choose P z x y e is;
  concat = λ es h0 e is plain. of-Concat P es e is;
  repeat = λ n es h1 e is plain. of-Repeat P n es e is;
  inside = λ x cs h0 h1 e is plain. of-Inside P x cs e is;
  cast = λ x h0 e is plain. of-Cast P x e is;
  clog2 = λ x h0 e is plain. of-Clog2 P x e is;
  pattern = λ es h0 e is plain. of-Pattern P es e is;
  call = λ f es h1 e is plain. of-Call P f es e is;
  stream = λ reversed n es h2 e is plain. of-Stream P reversed n es e is;
}

-- what an expression that is no select path asks has no other leaves than it has
pub asked-leaves : (e : Expr) (P : Leaf → Type 0) → AskedExpr P e
asked-leaves e P = by-expr AnyChoice (AskedPlain P) (AskedExpr P) (asked-steps P) e
