-- Which select is the last one of an expression.
use Rattle.std.proofs.Common.{◌≡◌, ℕ, Bool, false, ℤ, List, [], ◌∷◌, refl, rules, ap, sym, ◌∙◌, subst, true≢false}
use Rattle.sv_types.specs.declared.expression.Choice.{Choice}
use Rattle.sv_types.specs.declared.expression.Expr.{Expr}
use Rattle.sv_types.specs.declared.expression.Form.{Form, Form-F, out-Form, the_lemmas}
use Rattle.sv_types.specs.declared.expression.Form.TheVariants as V
use Rattle.eval_parts.specs.Steps.{is_path}
use Rattle.path_walk.specs.Selects.{Select, Member, Index, Part, Slide, Signal, Local, Other, Selected, path_form_in, path_form, IsRoot, IsPathOn}

abbrev Opened : Type 0
Opened = Form-F Choice Form Expr

out-Signal : (n : ℕ) → out-Form (V.Signal n) ≡ Form-F.Signal n
out-Signal n = search (rules, the_lemmas)

out-Local : (n : ℕ) → out-Form (V.Local n) ≡ Form-F.Local n
out-Local n = search (rules, the_lemmas)

out-Member : (x : Expr) (k : ℕ) → out-Form (V.Member x k) ≡ Form-F.Member x k
out-Member x k = search (rules, the_lemmas)

out-Index : (x i : Expr) → out-Form (V.Index x i) ≡ Form-F.Index x i
out-Index x i = search (rules, the_lemmas)

out-Part : (x : Expr) (left right : ℤ) → out-Form (V.Part x left right) ≡ Form-F.Part x left right
out-Part x left right = search (rules, the_lemmas)

out-Slide : (x i : Expr) (n : ℕ) (up : Bool) → out-Form (V.Slide x i n up) ≡ Form-F.Slide x i n up
out-Slide x i n up = search (rules, the_lemmas)

form-by : (e : Expr) (f : Form) (x : Opened) → e.form ≡ f → out-Form f ≡ x → path_form e ≡ path_form_in x
form-by e f x is out = ap (λ g. path_form_in (out-Form g)) is ∙ ap path_form_in out

pub form-Signal : (e : Expr) (n : ℕ) → e.form ≡ V.Signal n → path_form e ≡ Signal n
form-Signal e n is = form-by e (V.Signal n) (Form-F.Signal n) is (out-Signal n)

pub form-Local : (e : Expr) (n : ℕ) → e.form ≡ V.Local n → path_form e ≡ Local n
form-Local e n is = form-by e (V.Local n) (Form-F.Local n) is (out-Local n)

pub form-Member : (e x : Expr) (k : ℕ) → e.form ≡ V.Member x k → path_form e ≡ Selected (Member k) x
form-Member e x k is = form-by e (V.Member x k) (Form-F.Member x k) is (out-Member x k)

pub form-Index : (e x i : Expr) → e.form ≡ V.Index x i → path_form e ≡ Selected (Index i) x
form-Index e x i is = form-by e (V.Index x i) (Form-F.Index x i) is (out-Index x i)

pub form-Part : (e x : Expr) (left right : ℤ) → e.form ≡ V.Part x left right → path_form e ≡ Selected (Part left right) x
form-Part e x left right is = form-by e (V.Part x left right) (Form-F.Part x left right) is (out-Part x left right)

pub form-Slide : (e x i : Expr) (n : ℕ) (up : Bool) → e.form ≡ V.Slide x i n up → path_form e ≡ Selected (Slide i n up) x
form-Slide e x i n up is = form-by e (V.Slide x i n up) (Form-F.Slide x i n up) is (out-Slide x i n up)

plain-in : (f : Opened) → is_path f ≡ false → path_form_in f ≡ Other
plain-in (Form-F.Literal v goes_on) h = refl
plain-in (Form-F.Fill b) h = refl
plain-in (Form-F.Constant v) h = refl
plain-in (Form-F.Signal n) h = absurd (true≢false h)
plain-in (Form-F.Local n) h = absurd (true≢false h)
plain-in (Form-F.Member x k) h = absurd (true≢false h)
plain-in (Form-F.Index x i) h = absurd (true≢false h)
plain-in (Form-F.Part x left right) h = absurd (true≢false h)
plain-in (Form-F.Slide x i n up) h = absurd (true≢false h)
plain-in (Form-F.Unary op x) h = refl
plain-in (Form-F.Reduce op x) h = refl
plain-in (Form-F.Negate x) h = refl
plain-in (Form-F.Binary op x y) h = refl
plain-in (Form-F.Shift op x y) h = refl
plain-in (Form-F.Power x y) h = refl
plain-in (Form-F.Order op x y) h = refl
plain-in (Form-F.Equal op negated x y) h = refl
plain-in (Form-F.Both x y) h = refl
plain-in (Form-F.Either x y) h = refl
plain-in (Form-F.Choose z x y) h = refl
plain-in (Form-F.Concat es) h = refl
plain-in (Form-F.Repeat n es) h = refl
plain-in (Form-F.Inside x cs) h = refl
plain-in (Form-F.Cast x) h = refl
plain-in (Form-F.Clog2 x) h = refl
plain-in (Form-F.Pattern es) h = refl
plain-in (Form-F.Call f es) h = refl
plain-in (Form-F.Stream reversed n es) h = refl

pub form-plain : (e : Expr) → is_path (out-Form e.form) ≡ false → path_form e ≡ Other
form-plain e plain = plain-in (out-Form e.form) plain

record SameSelect (s t : Select) (x y : Expr) : Type 0 where
  pub select : s ≡ t
  pub from : x ≡ y

one-select : (s t : Select) (x y : Expr) → Selected s x ≡ Selected t y → SameSelect s t x y
one-select s t x y h = record { select = cc; from = cc }

-- What holds of an expression without selects holds of what it is a path on.
pub at-root : (e : Expr) → IsRoot (path_form e) → (P : Expr → List Select → Type 0) → P e [] → (base : Expr) (ss : List Select) → IsPathOn base ss e → P base ss
at-root e root P p base [] (same, is) = subst (λ b. P b []) same p
at-root e root P p base (s ∷ ss) (x, also, rest) = absurd (subst IsRoot also root)

-- So it is of a select, if it holds wherever what the select is of stands.
pub at-select : (e from : Expr) (s : Select) → path_form e ≡ Selected s from → (P : Expr → List Select → Type 0) → ((base : Expr) (ss : List Select) → IsPathOn base ss from → P base (s ∷ ss))
    → (base : Expr) (ss : List Select) → IsPathOn base ss e → P base ss
at-select e from s is P h base [] (same, root) = absurd (subst IsRoot is root)
at-select e from s is P h base (t ∷ ss) (x, also, rest) =
    let one = one-select s t from x (sym is ∙ also) in
    subst (λ k. P base (k ∷ ss)) one.select (h base ss (subst (IsPathOn base ss) (sym one.from) rest))
