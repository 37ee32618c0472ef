-- Select paths of the source by their selects (IEEE 1800-2017 clauses 7.2.1, 7.4.5 and 11.5.1).
use Rattle.std.specs.Prelude.{◌≡◌, ⊤, ℕ, ℤ, Bool, List, [], ◌∷◌, ◌++◌}
use Rattle.sv_types.specs.declared.expression.Choice.{Choice}
use Rattle.sv_types.specs.declared.expression.Expr.{Expr}
use Rattle.sv_types.specs.declared.expression.Form.{Form, Form-F, out-Form}

-- A select: of a member, of an element by an index, a part-select of the elements from one bound to the other, or an indexed
-- part-select of n elements from an index on, `+:` or `-:`.
pub data Select : Type 0 where
  Member : ℕ → Select
  Index : Expr → Select
  Part : ℤ → ℤ → Select
  Slide : Expr → ℕ → Bool → Select

-- What an expression is as a path: all of a signal or local, what has another form, or a select of another expression.
pub data PathForm : Type 0 where
  Signal : ℕ → PathForm
  Local : ℕ → PathForm
  Other : PathForm
  Selected : Select → Expr → PathForm

abbrev pub path_form_in : Form-F Choice Form Expr → PathForm
path_form_in (Form-F.Literal v goes_on) = Other
path_form_in (Form-F.Fill b) = Other
path_form_in (Form-F.Constant v) = Other
path_form_in (Form-F.Signal n) = Signal n
path_form_in (Form-F.Local n) = Local n
path_form_in (Form-F.Member x k) = Selected (Member k) x
path_form_in (Form-F.Index x i) = Selected (Index i) x
path_form_in (Form-F.Part x left right) = Selected (Part left right) x
path_form_in (Form-F.Slide x i n up) = Selected (Slide i n up) x
path_form_in (Form-F.Unary op x) = Other
path_form_in (Form-F.Reduce op x) = Other
path_form_in (Form-F.Negate x) = Other
path_form_in (Form-F.Binary op x y) = Other
path_form_in (Form-F.Shift op x y) = Other
path_form_in (Form-F.Power x y) = Other
path_form_in (Form-F.Order op x y) = Other
path_form_in (Form-F.Equal op negated x y) = Other
path_form_in (Form-F.Both x y) = Other
path_form_in (Form-F.Either x y) = Other
path_form_in (Form-F.Choose z x y) = Other
path_form_in (Form-F.Concat es) = Other
path_form_in (Form-F.Repeat n es) = Other
path_form_in (Form-F.Inside x cs) = Other
path_form_in (Form-F.Cast x) = Other
path_form_in (Form-F.Clog2 x) = Other
path_form_in (Form-F.Pattern es) = Other
path_form_in (Form-F.Call f es) = Other
path_form_in (Form-F.Stream reversed n es) = Other

abbrev pub path_form : Expr → PathForm
path_form e = path_form_in (out-Form e.form)

-- what selects begin at
abbrev pub IsRoot : PathForm → Type 0
IsRoot (Signal n) = ⊤
IsRoot (Local n) = ⊤
IsRoot Other = ⊤
IsRoot (Selected s x) = ⊥

-- an expression is a base with these selects on it, the last one first
abbrev pub IsPathOn : Expr → List Select → Expr → Type 0
IsPathOn base [] e = (e ≡ base) × IsRoot (path_form e)
IsPathOn base (s ∷ ss) e = (x : Expr) × (path_form e ≡ Selected s x) × IsPathOn base ss x

-- the indices of selects, from what these stand on up
abbrev pub indices_of : List Select → List Expr
indices_of [] = []
indices_of (Member k ∷ ss) = indices_of ss
indices_of (Index i ∷ ss) = indices_of ss ++ i ∷ []
indices_of (Part left right ∷ ss) = indices_of ss
indices_of (Slide i n up ∷ ss) = indices_of ss ++ i ∷ []

-- the first select of all is that of an element
abbrev pub BeginsAtElement : List Select → Type 0
BeginsAtElement [] = ⊥
BeginsAtElement (Member k ∷ []) = ⊥
BeginsAtElement (Index i ∷ []) = ⊤
BeginsAtElement (Part left right ∷ []) = ⊥
BeginsAtElement (Slide i n up ∷ []) = ⊥
BeginsAtElement (s ∷ t ∷ ss) = BeginsAtElement (t ∷ ss)
