-- What a step of a select path finds, from what its last part answered.
use Rattle.std.proofs.Common.{◌≡◌, ℕ, Bool, ℤ, List, Option, Some, None, cond, Result, Ok, Err, IfOk, refl, ap, sym, ◌∙◌, subst}
use Rattle.std.specs.Prelude.{slice_get}
use Rattle.b4_core.specs.declared.bit.Bit4.{Bit4}
use Rattle.b4_core.specs.Vectors.{known, number}
use Rattle.sv_types.specs.declared.expression.Expr.{Expr}
use Rattle.sv_types.specs.declared.expression.Form.TheVariants as V
use Rattle.sv_types.specs.Layouts.{Layout, layout}
use Rattle.sv_types.specs.Windows as W
use Rattle.sv_types.specs.Windows.{member_of, element_of, between, slide, whole}
use Rattle.sv_types.specs.Surroundings.{Around}
use Rattle.sv_types.specs.Meanings.{Meaning, wide, signed}
use Rattle.sv_types.specs.Expressions.{meaning}
use Rattle.sv_types.proofs.Heads.{heads}
use Rattle.eval_parts.specs.declared.halt.Halt.{Halt}
use Rattle.eval_parts.specs.declared.paths.Found.{Found}
use Rattle.eval_parts.specs.Answers.{Gives}
use Rattle.eval_parts.specs.Places.{FindGives, IsNear, window_of}
use Rattle.eval_parts.specs.PathForms.{StepsOn, StepsBy, StandsOn}
use Rattle.eval_parts.specs.Steps.{IsValued}
use Rattle.eval_parts.proofs.PathLimits.{index-is}
use Rattle.eval_parts.proofs.Selecting as S

abbrev Finding : Type 0
Finding = Result Found Halt

as-stopped : (r : Finding) (h : Halt) (m : Meaning) (a : Around) (old new : Option ℕ) → r ≡ Err h → FindGives (Err h) m a old new → FindGives r m a old new
as-stopped r h m a old new is g = subst (λ q. FindGives q m a old new) (sym is) g

-- what is found lies near
pub near-found : (r : Finding) (m : Meaning) (a : Around) (old new : Option ℕ) → FindGives r m a old new → IfOk r (λ f. IsNear f.window.shift)
near-found (Ok f) m a old new g = g.0.near
near-found (Err h) m a old new g = tt

of-type : (x : Expr) (step : Layout → W.Window) → step (layout x.of) ≡ step (meaning x).of
of-type x step = ap step (sym (heads x).kind)

pub member-law : (r q : Finding) (e x : Expr) (k : ℕ) (a : Around) (old new : Option ℕ) → e.form ≡ V.Member x k → FindGives r (meaning x) a old new → StepsOn r (member_of (slice_get (layout x.of).members k)) q → FindGives q (meaning e) a old new
member-law (Ok f) (Ok to) e x k a old new is g s =
    S.find-member e x k f to a old new is g s.root (s.window ∙ of-type x (λ l. member_of (slice_get l.members k) (window_of f.window))) s.near
member-law (Ok f) (Err h) e x k a old new is g s = absurd s
member-law (Err h) q e x k a old new is g s = as-stopped q h (meaning e) a old new s (S.member-halts h e x k a old new is g)

pub part-law : (r q : Finding) (e x : Expr) (left right : ℤ) (a : Around) (old new : Option ℕ) → e.form ≡ V.Part x left right → FindGives r (meaning x) a old new → StepsOn r (between (layout x.of) left right) q → FindGives q (meaning e) a old new
part-law (Ok f) (Ok to) e x left right a old new is g s =
    S.find-part e x left right f to a old new is g s.root (s.window ∙ of-type x (λ l. between l left right (window_of f.window))) s.near
part-law (Ok f) (Err h) e x left right a old new is g s = absurd s
part-law (Err h) q e x left right a old new is g s = as-stopped q h (meaning e) a old new s (S.part-halts h e x left right a old new is g)

pub index-law : (f : Found) (r : Result (List Bit4) Halt) (q : Finding) (e x y : Expr) (b : Bool) (a : Around) (old one new : Option ℕ) → e.form ≡ V.Index x y → FindGives (Ok f) (meaning x) a old one
    → Gives r (meaning y) (wide (meaning y)) (signed (meaning y)) a one new → b ≡ signed (meaning y) → StepsBy f r (λ v. element_of (layout x.of) (cond (known v) (Some (number b v)) None)) q → FindGives q (meaning e) a old new
index-law f (Ok v) (Ok to) e x y b a old one new is g k sign s =
    S.find-index e x y f to a old one new is g k.1 s.root
    (
    s.window ∙ of-type x (λ l. element_of l (cond (known v) (Some (number b v)) None) (window_of f.window))
    ∙ ap (λ i. element_of (meaning x).of i (window_of f.window)) (index-is (meaning y) a v b _ k.0 sign refl)
    )
    s.near
index-law f (Ok v) (Err h) e x y b a old one new is g k sign s = absurd s
index-law f (Err h) q e x y b a old one new is g k sign s = as-stopped q h (meaning e) a old new s (S.index-halts-y h e x y f a old one new is g k)

pub slide-law : (f : Found) (r : Result (List Bit4) Halt) (q : Finding) (e x y : Expr) (n : ℕ) (up b : Bool) (a : Around) (old one new : Option ℕ) → e.form ≡ V.Slide x y n up → FindGives (Ok f) (meaning x) a old one
    → Gives r (meaning y) (wide (meaning y)) (signed (meaning y)) a one new → b ≡ signed (meaning y) → StepsBy f r (λ v. slide (layout x.of) up n (cond (known v) (Some (number b v)) None)) q → FindGives q (meaning e) a old new
slide-law f (Ok v) (Ok to) e x y n up b a old one new is g k sign s =
    S.find-slide e x y n up f to a old one new is g k.1 s.root
    (
    s.window ∙ of-type x (λ l. slide l up n (cond (known v) (Some (number b v)) None) (window_of f.window))
    ∙ ap (λ i. slide (meaning x).of up n i (window_of f.window)) (index-is (meaning y) a v b _ k.0 sign refl)
    )
    s.near
slide-law f (Ok v) (Err h) e x y n up b a old one new is g k sign s = absurd s
slide-law f (Err h) q e x y n up b a old one new is g k sign s = as-stopped q h (meaning e) a old new s (S.slide-halts-y h e x y n up f a old one new is g k)

pub value-law : (r : Result (List Bit4) Halt) (q : Finding) (e : Expr) (n : ℕ) (a : Around) (old new : Option ℕ) → IsValued (meaning e) → n ≡ wide (meaning e) → Gives r (meaning e) (wide (meaning e)) (signed (meaning e)) a old new → StandsOn r n q
    → FindGives q (meaning e) a old new
value-law (Ok v) (Ok to) e n a old new valued width g s = S.find-valued (meaning e) v to a old new valued g s.root (s.window ∙ ap whole width) s.near
value-law (Ok v) (Err h) e n a old new valued width g s = absurd s
value-law (Err h) q e n a old new valued width g s = as-stopped q h (meaning e) a old new s (S.valued-halts h (meaning e) (wide (meaning e)) (signed (meaning e)) a old new valued g)
