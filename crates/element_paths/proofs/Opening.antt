-- What is known of a path on an element by its last step.
use Rattle.std.proofs.Common.{◌≡◌, ◌⊎◌, inl, inr, ℕ, Bool, true, false, ℤ, rules, ap, sym, ◌∙◌, subst, true≢false}
use Rattle.sv_types.specs.declared.expression.Choice.{Choice}
use Rattle.sv_types.specs.declared.expression.Expr.{Expr}
use Rattle.sv_types.specs.declared.expression.Form.{Form, Form-F, out-Form, the_lemmas}
use Rattle.sv_types.specs.declared.expression.Form.TheVariants as V
use Rattle.sv_types.specs.declared.types.SvType.{SvType}
use Rattle.eval_parts.specs.Steps.{is_path}
use Rattle.element_paths.specs.Elements.{GoesOn, at_element, by_member, by_index, by_part, by_slide}

-- forms by their constructors
pub out-Signal : (n : ℕ) → out-Form (V.Signal n) ≡ Form-F.Signal n
out-Signal n = search (rules, the_lemmas)

pub out-Local : (n : ℕ) → out-Form (V.Local n) ≡ Form-F.Local n
out-Local n = search (rules, the_lemmas)

out-Member : (x : Expr) (k : ℕ) → out-Form (V.Member x k) ≡ Form-F.Member x k
out-Member x k = search (rules, the_lemmas)

out-Index : (x i : Expr) → out-Form (V.Index x i) ≡ Form-F.Index x i
out-Index x i = search (rules, the_lemmas)

out-Part : (x : Expr) (left right : ℤ) → out-Form (V.Part x left right) ≡ Form-F.Part x left right
out-Part x left right = search (rules, the_lemmas)

out-Slide : (x i : Expr) (n : ℕ) (up : Bool) → out-Form (V.Slide x i n up) ≡ Form-F.Slide x i n up
out-Slide x i n up = search (rules, the_lemmas)

-- the number of the signal that a form is
pub record IsElement (n : ℕ) (t : SvType) (i from j : Expr) : Type 0 where
  pub index : j ≡ i
  pub signal : from.form ≡ V.Signal n
  pub of : from.of ≡ t

abbrev OnFrom : ℕ → SvType → Expr → Form-F Choice Form Expr → Type 0
OnFrom n t i (Form-F.Literal v goes_on) = ⊥
OnFrom n t i (Form-F.Fill b) = ⊥
OnFrom n t i (Form-F.Constant v) = ⊥
OnFrom n t i (Form-F.Signal m) = ⊥
OnFrom n t i (Form-F.Local m) = ⊥
OnFrom n t i (Form-F.Member from k) = GoesOn n t i from
OnFrom n t i (Form-F.Index from j) = IsElement n t i from j ⊎ GoesOn n t i from
OnFrom n t i (Form-F.Part from left right) = GoesOn n t i from
OnFrom n t i (Form-F.Slide from j m up) = GoesOn n t i from
OnFrom n t i (Form-F.Unary op x) = ⊥
OnFrom n t i (Form-F.Reduce op x) = ⊥
OnFrom n t i (Form-F.Negate x) = ⊥
OnFrom n t i (Form-F.Binary op x y) = ⊥
OnFrom n t i (Form-F.Shift op x y) = ⊥
OnFrom n t i (Form-F.Power x y) = ⊥
OnFrom n t i (Form-F.Order op x y) = ⊥
OnFrom n t i (Form-F.Equal op negated x y) = ⊥
OnFrom n t i (Form-F.Both x y) = ⊥
OnFrom n t i (Form-F.Either x y) = ⊥
OnFrom n t i (Form-F.Choose z x y) = ⊥
OnFrom n t i (Form-F.Concat es) = ⊥
OnFrom n t i (Form-F.Repeat m es) = ⊥
OnFrom n t i (Form-F.Inside x cs) = ⊥
OnFrom n t i (Form-F.Cast x) = ⊥
OnFrom n t i (Form-F.Clog2 x) = ⊥
OnFrom n t i (Form-F.Pattern es) = ⊥
OnFrom n t i (Form-F.Call f es) = ⊥
OnFrom n t i (Form-F.Stream reversed m es) = ⊥

module _ (n : ℕ) (t : SvType) (i : Expr) where
  at-form : (e : Expr) (f : Form) (x : Form-F Choice Form Expr) → e.form ≡ f → out-Form f ≡ x → OnFrom n t i x → OnFrom n t i (out-Form e.form)
  at-form e f x is out h = subst (OnFrom n t i) (sym (ap out-Form is ∙ out)) h

  opened : (e : Expr) → GoesOn n t i e → OnFrom n t i (out-Form e.form)
  opened e (at_element x from is on of) = at-form x (V.Index from i) (Form-F.Index from i) is (out-Index from i) (inl (record { index = λ d. i; signal = on; of = of }))
  opened e (by_member x from k is rest) = at-form x (V.Member from k) (Form-F.Member from k) is (out-Member from k) rest
  opened e (by_index x from j is rest) = at-form x (V.Index from j) (Form-F.Index from j) is (out-Index from j) (inr rest)
  opened e (by_part x from left right is rest) = at-form x (V.Part from left right) (Form-F.Part from left right) is (out-Part from left right) rest
  opened e (by_slide x from j m up is rest) = at-form x (V.Slide from j m up) (Form-F.Slide from j m up) is (out-Slide from j m up) rest

  by-form : (e : Expr) (f : Form) (x : Form-F Choice Form Expr) → e.form ≡ f → out-Form f ≡ x → GoesOn n t i e → OnFrom n t i x
  by-form e f x is out h = subst (OnFrom n t i) (ap out-Form is ∙ out) (opened e h)

  pub on-signal : (e : Expr) (m : ℕ) → e.form ≡ V.Signal m → GoesOn n t i e → ⊥
  on-signal e m is h = by-form e (V.Signal m) (Form-F.Signal m) is (out-Signal m) h

  pub on-local : (e : Expr) (m : ℕ) → e.form ≡ V.Local m → GoesOn n t i e → ⊥
  on-local e m is h = by-form e (V.Local m) (Form-F.Local m) is (out-Local m) h

  pub on-member : (e from : Expr) (k : ℕ) → e.form ≡ V.Member from k → GoesOn n t i e → GoesOn n t i from
  on-member e from k is h = by-form e (V.Member from k) (Form-F.Member from k) is (out-Member from k) h

  pub on-index : (e from j : Expr) → e.form ≡ V.Index from j → GoesOn n t i e → IsElement n t i from j ⊎ GoesOn n t i from
  on-index e from j is h = by-form e (V.Index from j) (Form-F.Index from j) is (out-Index from j) h

  pub on-part : (e from : Expr) (left right : ℤ) → e.form ≡ V.Part from left right → GoesOn n t i e → GoesOn n t i from
  on-part e from left right is h = by-form e (V.Part from left right) (Form-F.Part from left right) is (out-Part from left right) h

  pub on-slide : (e from j : Expr) (m : ℕ) (up : Bool) → e.form ≡ V.Slide from j m up → GoesOn n t i e → GoesOn n t i from
  on-slide e from j m up is h = by-form e (V.Slide from j m up) (Form-F.Slide from j m up) is (out-Slide from j m up) h

  -- what is no path
  no-form : (e : Expr) (f : Form) → is_path (out-Form e.form) ≡ false → e.form ≡ f → is_path (out-Form f) ≡ true → ⊥
  no-form e f plain is path = true≢false (sym path ∙ sym (ap (λ g. is_path (out-Form g)) is) ∙ plain)

  pub on-none : (e : Expr) → is_path (out-Form e.form) ≡ false → GoesOn n t i e → ⊥
  on-none e plain (at_element x from is on of) = no-form x (V.Index from i) plain is (ap is_path (out-Index from i))
  on-none e plain (by_member x from k is rest) = no-form x (V.Member from k) plain is (ap is_path (out-Member from k))
  on-none e plain (by_index x from j is rest) = no-form x (V.Index from j) plain is (ap is_path (out-Index from j))
  on-none e plain (by_part x from left right is rest) = no-form x (V.Part from left right) plain is (ap is_path (out-Part from left right))
  on-none e plain (by_slide x from j m up is rest) = no-form x (V.Slide from j m up) plain is (ap is_path (out-Slide from j m up))

-- what is no whole signal
pub plain-signal : (e : Expr) → is_path (out-Form e.form) ≡ false → (m : ℕ) → e.form ≡ V.Signal m → ⊥
plain-signal e plain m is = true≢false (sym (ap is_path (ap out-Form is ∙ out-Signal m)) ∙ plain)

abbrev IsSignalForm : Form-F Choice Form Expr → Bool
IsSignalForm (Form-F.Signal m) = true
IsSignalForm other = false

other-signal : (e : Expr) (f : Form) (x : Form-F Choice Form Expr) → e.form ≡ f → out-Form f ≡ x → IsSignalForm x ≡ false → (m : ℕ) → e.form ≡ V.Signal m → ⊥
other-signal e f x is out differs m signal = true≢false (sym (ap IsSignalForm (out-Signal m)) ∙ ap (λ g. IsSignalForm (out-Form g)) (sym signal ∙ is) ∙ ap IsSignalForm out ∙ differs)

pub local-signal : (e : Expr) (k : ℕ) → e.form ≡ V.Local k → (m : ℕ) → e.form ≡ V.Signal m → ⊥
local-signal e k is = other-signal e (V.Local k) (Form-F.Local k) is (out-Local k) (λ d. false)

pub member-signal : (e from : Expr) (k : ℕ) → e.form ≡ V.Member from k → (m : ℕ) → e.form ≡ V.Signal m → ⊥
member-signal e from k is = other-signal e (V.Member from k) (Form-F.Member from k) is (out-Member from k) (λ d. false)

pub index-signal : (e from j : Expr) → e.form ≡ V.Index from j → (m : ℕ) → e.form ≡ V.Signal m → ⊥
index-signal e from j is = other-signal e (V.Index from j) (Form-F.Index from j) is (out-Index from j) (λ d. false)

pub part-signal : (e from : Expr) (left right : ℤ) → e.form ≡ V.Part from left right → (m : ℕ) → e.form ≡ V.Signal m → ⊥
part-signal e from left right is = other-signal e (V.Part from left right) (Form-F.Part from left right) is (out-Part from left right) (λ d. false)

pub slide-signal : (e from j : Expr) (k : ℕ) (up : Bool) → e.form ≡ V.Slide from j k up → (m : ℕ) → e.form ≡ V.Signal m → ⊥
slide-signal e from j k up is = other-signal e (V.Slide from j k up) (Form-F.Slide from j k up) is (out-Slide from j k up) (λ d. false)
