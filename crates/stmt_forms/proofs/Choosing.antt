-- A value as the arm of a `?:` that is always taken.
use Rattle.std.proofs.Common.{◌≡◌, ℕ, Bool, false, sym, ap, ◌∙◌, subst}
use Rattle.std.specs.Prelude.{pos, IfOk, Result, Ok, Err}
use Rattle.b4_core.specs.Vectors.{vec}
use Rattle.sv_types.specs.declared.expression.Expr.{Expr}
use Rattle.sv_types.specs.declared.expression.Form.{Form}
use Rattle.sv_types.specs.declared.expression.Form.TheVariants as F
use Rattle.sv_types.specs.declared.types.SvType.{SvType}
use Rattle.expr_type.specs.Names.{Context, Source}
use Rattle.expr_type.specs.Operators.{expr_at}
use Rattle.expr_type.specs.Shapes.{sign_of, vector}
use Rattle.expr_type.specs.Statements.{always}
use Rattle.stmt_forms.specs.Loops.{chosen_of}

-- what is said of a thing that is there
pub ok-then : {A E : Type 0} (r : Result A E) (a : A) (P : A → Type 0) → r ≡ Ok a → IfOk r P → P a
ok-then {A = A} {E = E} r a P e h = let Q : Result A E → Type 0 = λ x. IfOk x P in subst Q e h

abbrev as_ok : {A E : Type 0} → A → Result A E
as_ok a = Ok a

pub ok-same : {A E : Type 0} (a b : A) → as_ok {A = A} {E = E} a ≡ Ok b → a ≡ b
ok-same a b e = cc

ok-on : {E : Type 0} (r : Result Expr E) (d c : Expr) → d ≡ c → IfOk r (λ x. x ≡ d) → IfOk r (λ x. x ≡ c)
ok-on (Ok x) d c e h = h ∙ e
ok-on (Err x) d c e h = tt

abbrev literal : Source → ℕ → ℕ → Bool → Expr
literal src at w b = expr_at src at (vector w b) (F.Literal (vec w (pos 0)) false)

pub chosen-fine : {E : Type 0} (k : Context) (src : Source) (at w : ℕ) (signed : Bool) (e other test arm : Expr) (t : SvType) (form : Form) (r : Result Expr E) → src ≡ k.source → signed ≡ sign_of e.of → e ≡ arm → test ≡ always k at
    → other ≡ expr_at src at (vector w signed) (F.Literal (vec w (pos 0)) false) → t ≡ vector w signed → form ≡ F.Choose test arm other → IfOk r (λ c. c ≡ expr_at src at t form) → IfOk r (λ c. c ≡ chosen_of k at w e)
chosen-fine k src at w signed e other test arm t form r s sg same is zero of made h =
    let wide = vector w (sign_of e.of) in
    let none : other ≡ literal k.source at w (sign_of e.of) = zero ∙ ap (λ (x : Source). literal x at w signed) s ∙ ap (literal k.source at w) sg in
    let choice : form ≡ F.Choose (always k at) e (literal k.source at w (sign_of e.of)) =
    made ∙ ap (λ (x : Expr). F.Choose x arm other) is ∙ ap (λ (x : Expr). F.Choose (always k at) x other) (sym same) ∙ ap (λ (x : Expr). F.Choose (always k at) e x) none in
    ok-on r (expr_at src at t form) (chosen_of k at w e)
    (ap (λ (x : Source). expr_at x at t form) s ∙ ap (λ (u : SvType). expr_at k.source at u form) (of ∙ ap (vector w) sg) ∙ ap (expr_at k.source at wide) choice) h
