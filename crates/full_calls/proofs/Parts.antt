-- An expression is full if its parts are.
use Rattle.std.proofs.Common.{◌≡◌, ℕ, suc, Bool, true, false, ◌&&◌, ℤ, List, [], ◌∷◌, map, length, refl, ap, ◌∙◌, rules}
use Rattle.std.specs.Prelude.{nat_le}
use Rattle.std.specs.List.{list_all}
use Rattle.b4_core.specs.declared.bit.Bit4.{Bit4}
use Rattle.b4_core.specs.declared.operators.UnOp.{UnOp}
use Rattle.b4_core.specs.declared.operators.BinOp.{BinOp}
use Rattle.b4_core.specs.declared.operators.RedOp.{RedOp}
use Rattle.b4_core.specs.declared.operators.ShiftOp.{ShiftOp}
use Rattle.b4_core.specs.declared.operators.OrdOp.{OrdOp}
use Rattle.b4_core.specs.declared.operators.EqOp.{EqOp}
use Rattle.sv_types.specs.declared.types.Value.{Value}
use Rattle.sv_types.specs.declared.expression.Expr.{Expr}
use Rattle.sv_types.specs.declared.expression.Choice.{Choice}
use Rattle.sv_types.specs.declared.expression.Choice.TheVariants as C
use Rattle.sv_types.specs.declared.expression.Form.{Form, the_lemmas}
use Rattle.sv_types.specs.declared.expression.Form.TheVariants as V
use Rattle.sv_types.specs.Surroundings.{Parameter}
use Rattle.expr_flows.specs.Full.{is_full, all_full, every}
use Rattle.expr_flows.proofs.FullLevels as L
use Rattle.expr_flows.proofs.FullLevels.{form_full}
use Rattle.full_calls.specs.Full.{FullIf, choice_full, choices_full}

pub of-one : (b p q : Bool) → q ≡ p → FullIf b p → FullIf b q
of-one true p q is f = is ∙ f
of-one false p q is f = tt

pub of-two : (b x y q : Bool) → q ≡ (x && y) → x ≡ true → FullIf b y → FullIf b q
of-two b x y q is h f = of-one b y q (is ∙ ap (λ k. k && y) h) f

pub every-map : {A : Type 0} (f : A → Bool) (xs : List A) → every (map f xs) ≡ list_all f xs
every-map f [] = refl
every-map f (x ∷ xs) = ap (λ k. f x && k) (every-map f xs)

pub length-map : {A B : Type 0} (f : A → B) (xs : List A) → length (map f xs) ≡ length xs
length-map f [] = refl
length-map f (x ∷ xs) = ap (λ k. suc k) (length-map f xs)

full-form : (fs : ℕ → List Parameter) (e : Expr) → is_full fs e ≡ form_full fs e.form
full-form fs e = search (rules, the_lemmas)

full-at : (fs : ℕ → List Parameter) (e : Expr) (f : Form) (b : Bool) → e.form ≡ f → form_full fs f ≡ b → is_full fs e ≡ b
full-at fs e f b is level = full-form fs e ∙ ap (form_full fs) is ∙ level

form-Literal : (fs : ℕ → List Parameter) (v : List Bit4) (goes_on : Bool) → form_full fs (V.Literal v goes_on) ≡ true
form-Literal fs v goes_on = search (rules, the_lemmas)

pub full-Literal : (fs : ℕ → List Parameter) (e : Expr) (v : List Bit4) (goes_on : Bool) → e.form ≡ V.Literal v goes_on → is_full fs e ≡ true
full-Literal fs e v goes_on is = full-at fs e (V.Literal v goes_on) true is (form-Literal fs v goes_on)

form-Fill : (fs : ℕ → List Parameter) (b : Bit4) → form_full fs (V.Fill b) ≡ true
form-Fill fs b = search (rules, the_lemmas)

pub full-Fill : (fs : ℕ → List Parameter) (e : Expr) (b : Bit4) → e.form ≡ V.Fill b → is_full fs e ≡ true
full-Fill fs e b is = full-at fs e (V.Fill b) true is (form-Fill fs b)

form-Constant : (fs : ℕ → List Parameter) (v : Value) → form_full fs (V.Constant v) ≡ true
form-Constant fs v = search (rules, the_lemmas)

pub full-Constant : (fs : ℕ → List Parameter) (e : Expr) (v : Value) → e.form ≡ V.Constant v → is_full fs e ≡ true
full-Constant fs e v is = full-at fs e (V.Constant v) true is (form-Constant fs v)

form-Signal : (fs : ℕ → List Parameter) (n : ℕ) → form_full fs (V.Signal n) ≡ true
form-Signal fs n = search (rules, the_lemmas)

pub full-Signal : (fs : ℕ → List Parameter) (e : Expr) (n : ℕ) → e.form ≡ V.Signal n → is_full fs e ≡ true
full-Signal fs e n is = full-at fs e (V.Signal n) true is (form-Signal fs n)

form-Local : (fs : ℕ → List Parameter) (n : ℕ) → form_full fs (V.Local n) ≡ true
form-Local fs n = search (rules, the_lemmas)

pub full-Local : (fs : ℕ → List Parameter) (e : Expr) (n : ℕ) → e.form ≡ V.Local n → is_full fs e ≡ true
full-Local fs e n is = full-at fs e (V.Local n) true is (form-Local fs n)

pub by-Member : (b : Bool) (fs : ℕ → List Parameter) (e : Expr) (x : Expr) (k : ℕ) → e.form ≡ V.Member x k → FullIf b (is_full fs x) → FullIf b (is_full fs e)
by-Member b fs e x k is = of-one b (is_full fs x) (is_full fs e) (L.full-Member fs e x k is)

pub by-Part : (b : Bool) (fs : ℕ → List Parameter) (e : Expr) (x : Expr) (left right : ℤ) → e.form ≡ V.Part x left right → FullIf b (is_full fs x) → FullIf b (is_full fs e)
by-Part b fs e x left right is = of-one b (is_full fs x) (is_full fs e) (L.full-Part fs e x left right is)

pub by-Unary : (b : Bool) (fs : ℕ → List Parameter) (e : Expr) (op : UnOp) (x : Expr) → e.form ≡ V.Unary op x → FullIf b (is_full fs x) → FullIf b (is_full fs e)
by-Unary b fs e op x is = of-one b (is_full fs x) (is_full fs e) (L.full-Unary fs e op x is)

pub by-Reduce : (b : Bool) (fs : ℕ → List Parameter) (e : Expr) (op : RedOp) (x : Expr) → e.form ≡ V.Reduce op x → FullIf b (is_full fs x) → FullIf b (is_full fs e)
by-Reduce b fs e op x is = of-one b (is_full fs x) (is_full fs e) (L.full-Reduce fs e op x is)

pub by-Negate : (b : Bool) (fs : ℕ → List Parameter) (e : Expr) (x : Expr) → e.form ≡ V.Negate x → FullIf b (is_full fs x) → FullIf b (is_full fs e)
by-Negate b fs e x is = of-one b (is_full fs x) (is_full fs e) (L.full-Negate fs e x is)

pub by-Cast : (b : Bool) (fs : ℕ → List Parameter) (e : Expr) (x : Expr) → e.form ≡ V.Cast x → FullIf b (is_full fs x) → FullIf b (is_full fs e)
by-Cast b fs e x is = of-one b (is_full fs x) (is_full fs e) (L.full-Cast fs e x is)

pub by-Clog2 : (b : Bool) (fs : ℕ → List Parameter) (e : Expr) (x : Expr) → e.form ≡ V.Clog2 x → FullIf b (is_full fs x) → FullIf b (is_full fs e)
by-Clog2 b fs e x is = of-one b (is_full fs x) (is_full fs e) (L.full-Clog2 fs e x is)

pub by-Index : (b : Bool) (fs : ℕ → List Parameter) (e : Expr) (x y : Expr) → e.form ≡ V.Index x y → is_full fs x ≡ true → FullIf b (is_full fs y) → FullIf b (is_full fs e)
by-Index b fs e x y is = of-two b (is_full fs x) (is_full fs y) (is_full fs e) (L.full-Index fs e x y is)

pub by-Slide : (b : Bool) (fs : ℕ → List Parameter) (e : Expr) (x y : Expr) (n : ℕ) (up : Bool) → e.form ≡ V.Slide x y n up → is_full fs x ≡ true → FullIf b (is_full fs y) → FullIf b (is_full fs e)
by-Slide b fs e x y n up is = of-two b (is_full fs x) (is_full fs y) (is_full fs e) (L.full-Slide fs e x y n up is)

pub by-Binary : (b : Bool) (fs : ℕ → List Parameter) (e : Expr) (op : BinOp) (x y : Expr) → e.form ≡ V.Binary op x y → is_full fs x ≡ true → FullIf b (is_full fs y) → FullIf b (is_full fs e)
by-Binary b fs e op x y is = of-two b (is_full fs x) (is_full fs y) (is_full fs e) (L.full-Binary fs e op x y is)

pub by-Shift : (b : Bool) (fs : ℕ → List Parameter) (e : Expr) (op : ShiftOp) (x y : Expr) → e.form ≡ V.Shift op x y → is_full fs x ≡ true → FullIf b (is_full fs y) → FullIf b (is_full fs e)
by-Shift b fs e op x y is = of-two b (is_full fs x) (is_full fs y) (is_full fs e) (L.full-Shift fs e op x y is)

pub by-Power : (b : Bool) (fs : ℕ → List Parameter) (e : Expr) (x y : Expr) → e.form ≡ V.Power x y → is_full fs x ≡ true → FullIf b (is_full fs y) → FullIf b (is_full fs e)
by-Power b fs e x y is = of-two b (is_full fs x) (is_full fs y) (is_full fs e) (L.full-Power fs e x y is)

pub by-Order : (b : Bool) (fs : ℕ → List Parameter) (e : Expr) (op : OrdOp) (x y : Expr) → e.form ≡ V.Order op x y → is_full fs x ≡ true → FullIf b (is_full fs y) → FullIf b (is_full fs e)
by-Order b fs e op x y is = of-two b (is_full fs x) (is_full fs y) (is_full fs e) (L.full-Order fs e op x y is)

pub by-Equal : (b : Bool) (fs : ℕ → List Parameter) (e : Expr) (op : EqOp) (negated : Bool) (x y : Expr) → e.form ≡ V.Equal op negated x y → is_full fs x ≡ true → FullIf b (is_full fs y) → FullIf b (is_full fs e)
by-Equal b fs e op negated x y is = of-two b (is_full fs x) (is_full fs y) (is_full fs e) (L.full-Equal fs e op negated x y is)

pub by-Both : (b : Bool) (fs : ℕ → List Parameter) (e : Expr) (x y : Expr) → e.form ≡ V.Both x y → is_full fs x ≡ true → FullIf b (is_full fs y) → FullIf b (is_full fs e)
by-Both b fs e x y is = of-two b (is_full fs x) (is_full fs y) (is_full fs e) (L.full-Both fs e x y is)

pub by-Either : (b : Bool) (fs : ℕ → List Parameter) (e : Expr) (x y : Expr) → e.form ≡ V.Either x y → is_full fs x ≡ true → FullIf b (is_full fs y) → FullIf b (is_full fs e)
by-Either b fs e x y is = of-two b (is_full fs x) (is_full fs y) (is_full fs e) (L.full-Either fs e x y is)

pub by-Choose : (b : Bool) (fs : ℕ → List Parameter) (e : Expr) (z x y : Expr) → e.form ≡ V.Choose z x y → is_full fs z ≡ true → is_full fs x ≡ true → FullIf b (is_full fs y) → FullIf b (is_full fs e)
by-Choose b fs e z x y is h k f = of-two b (is_full fs x) (is_full fs y) (is_full fs e) (L.full-Choose fs e z x y is ∙ ap (λ p. p && (is_full fs x && is_full fs y)) h) k f

pub by-Concat : (b : Bool) (fs : ℕ → List Parameter) (e : Expr) (es : List Expr) → e.form ≡ V.Concat es → FullIf b (all_full fs es) → FullIf b (is_full fs e)
by-Concat b fs e es is = of-one b (all_full fs es) (is_full fs e) (L.full-Concat fs e es is ∙ every-map (is_full fs) es)

pub by-Repeat : (b : Bool) (fs : ℕ → List Parameter) (e : Expr) (n : ℕ) (es : List Expr) → e.form ≡ V.Repeat n es → FullIf b (all_full fs es) → FullIf b (is_full fs e)
by-Repeat b fs e n es is = of-one b (all_full fs es) (is_full fs e) (L.full-Repeat fs e n es is ∙ every-map (is_full fs) es)

pub by-Pattern : (b : Bool) (fs : ℕ → List Parameter) (e : Expr) (es : List Expr) → e.form ≡ V.Pattern es → FullIf b (all_full fs es) → FullIf b (is_full fs e)
by-Pattern b fs e es is = of-one b (all_full fs es) (is_full fs e) (L.full-Pattern fs e es is ∙ every-map (is_full fs) es)

pub by-Stream : (b : Bool) (fs : ℕ → List Parameter) (e : Expr) (reversed : Bool) (n : ℕ) (es : List Expr) → e.form ≡ V.Stream reversed n es → FullIf b (all_full fs es) → FullIf b (is_full fs e)
by-Stream b fs e reversed n es is = of-one b (all_full fs es) (is_full fs e) (L.full-Stream fs e reversed n es is ∙ every-map (is_full fs) es)

pub by-Inside : (b : Bool) (fs : ℕ → List Parameter) (e : Expr) (x : Expr) (cs : List Choice) → e.form ≡ V.Inside x cs → is_full fs x ≡ true → FullIf b (choices_full fs cs) → FullIf b (is_full fs e)
by-Inside b fs e x cs is = of-two b (is_full fs x) (choices_full fs cs) (is_full fs e) (L.full-Inside fs e x cs is ∙ ap (λ k. is_full fs x && k) (every-map (choice_full fs) cs))

pub by-Call : (b : Bool) (fs : ℕ → List Parameter) (e : Expr) (f : ℕ) (es : List Expr) → e.form ≡ V.Call f es → nat_le (length es) (length (fs f)) ≡ true → FullIf b (all_full fs es) → FullIf b (is_full fs e)
by-Call b fs e f es is h =
    of-two b (nat_le (length (map (is_full fs) es)) (length (fs f))) (all_full fs es) (is_full fs e)
    (L.full-Call fs e f es is ∙ ap (λ k. nat_le (length (map (is_full fs) es)) (length (fs f)) && k) (every-map (is_full fs) es))
    (ap (λ k. nat_le k (length (fs f))) (length-map (is_full fs) es) ∙ h)

pub by-Value : (b : Bool) (fs : ℕ → List Parameter) (c : Choice) (v : Expr) → c ≡ C.Value v → FullIf b (is_full fs v) → FullIf b (choice_full fs c)
by-Value b fs c v is = of-one b (is_full fs v) (choice_full fs c) (ap (choice_full fs) is ∙ L.full-value fs v)

pub by-Range : (b : Bool) (fs : ℕ → List Parameter) (c : Choice) (low high : Expr) → c ≡ C.Range low high → is_full fs low ≡ true → FullIf b (is_full fs high) → FullIf b (choice_full fs c)
by-Range b fs c low high is = of-two b (is_full fs low) (is_full fs high) (choice_full fs c) (ap (choice_full fs) is ∙ L.full-range fs low high)

pub ruleset forms = (full-Literal, full-Fill, full-Constant, full-Signal, full-Local, by-Member, by-Part, by-Unary, by-Reduce, by-Negate, by-Cast, by-Clog2, by-Index, by-Slide, by-Binary, by-Shift, by-Power, by-Order, by-Equal, by-Both, by-Either, by-Concat, by-Repeat, by-Pattern, by-Stream, by-Choose, by-Inside, by-Call)

pub ruleset alternatives = (by-Value, by-Range)

pub ruleset counts = (length-map)
