-- Whether the last step of a path is a part-select.
use Rattle.std.proofs.Common.{◌≡◌, ℕ, Bool, true, false, ℤ, List, Option, Some, None, ap, sym, ◌∙◌, true≢false}
use Rattle.row_machine.specs.Valuation.{Valuation}
use Rattle.sv_types.specs.declared.expression.Expr.{Expr}
use Rattle.sv_types.specs.declared.expression.Form.{Form, out-Form}
use Rattle.sv_types.specs.declared.expression.Form.TheVariants as V
use Rattle.sv_types.specs.Layouts.{Layout}
use Rattle.sv_types.specs.Surroundings.{Around}
use Rattle.v_meaning.specs.Scopes.{Scope}
use Rattle.eval_parts.specs.Steps.{is_path}
use Rattle.target_flatten.specs.declared.spots.Spot.{Spot}
use Rattle.target_walk.specs.declared.given.Given.{Given}
use Rattle.target_walk.specs.Giving.{FitsAt}
use Rattle.target_walk.specs.Walking.{Walked, of_signal, of_local, of_member, of_index, of_part, of_slide, StandsAt, TellsPart}
use Rattle.target_walk.proofs.Inverting.{of-Signal, of-Local, of-Member, of-Index, of-Part, of-Slide, out-Signal, out-Local, out-Member, out-Index, out-Part, out-Slide}

plain-not : (e : Expr) (f : Form) → is_path (out-Form e.form) ≡ false → e.form ≡ f → is_path (out-Form f) ≡ true → ⊥
plain-not e f plain is path = true≢false (sym path ∙ sym (ap (λ g. is_path (out-Form g)) is) ∙ plain)

-- what is no path has no indices
pub no-path : (F : Bool → Given → Layout → Type 0) (bits : ℕ) (a : Around) (sc : Scope) (v : Valuation) (e : Expr) (gs : List Given) (part : Bool) → is_path (out-Form e.form) ≡ false → Walked F bits a sc v e gs part → ⊥
no-path F bits a sc v e gs part plain (of_signal x n is wide) = plain-not x (V.Signal n) plain is (ap is_path (out-Signal n))
no-path F bits a sc v e gs part plain (of_local x n is wide) = plain-not x (V.Local n) plain is (ap is_path (out-Local n))
no-path F bits a sc v e gs part plain (of_member x from k hs is rest) = plain-not x (V.Member from k) plain is (ap is_path (out-Member from k))
no-path F bits a sc v e gs part plain (of_index x from i g hs b is number fits rest) = plain-not x (V.Index from i) plain is (ap is_path (out-Index from i))
no-path F bits a sc v e gs part plain (of_part x from l r hs b is typed rest) = plain-not x (V.Part from l r) plain is (ap is_path (out-Part from l r))
no-path F bits a sc v e gs part plain (of_slide x from i n up g hs b is number typed fits rest) = plain-not x (V.Slide from i n up) plain is (ap is_path (out-Slide from i n up))

pub plain-stands : (e : Expr) (gs : List Given) (g : Option Given) (w : ℕ) (s : Spot) → is_path (out-Form e.form) ≡ false → StandsAt e gs g w s
plain-stands e gs None w s plain = λ a sc v bits small room typed path. absurd (no-path (FitsAt w) bits a sc v e gs false plain path)
plain-stands e gs (Some g) w s plain = λ d a sc v bits part z small room typed path fits given of. absurd (no-path (FitsAt w) bits a sc v e gs part plain path)

-- by the form
pub tells-plain : (e : Expr) → is_path (out-Form e.form) ≡ false → TellsPart false e
tells-plain e plain w bits a sc v gs part path = absurd (no-path (FitsAt w) bits a sc v e gs part plain path)

pub tells-Signal : (e : Expr) (n : ℕ) → e.form ≡ V.Signal n → TellsPart false e
tells-Signal e n is w bits a sc v gs part path = (of-Signal (FitsAt w) bits a sc v e n gs part is path).whole

pub tells-Local : (e : Expr) (n : ℕ) → e.form ≡ V.Local n → TellsPart false e
tells-Local e n is w bits a sc v gs part path = (of-Local (FitsAt w) bits a sc v e n gs part is path).whole

pub tells-Member : (e from : Expr) (k : ℕ) → e.form ≡ V.Member from k → TellsPart false e
tells-Member e from k is w bits a sc v gs part path = (of-Member (FitsAt w) bits a sc v e from k gs part is path).whole

pub tells-Index : (e from i : Expr) → e.form ≡ V.Index from i → TellsPart false e
tells-Index e from i is w bits a sc v gs part path = (of-Index (FitsAt w) bits a sc v e from i gs part is path).whole

pub tells-Part : (e from : Expr) (left right : ℤ) → e.form ≡ V.Part from left right → TellsPart true e
tells-Part e from left right is w bits a sc v gs part path = (of-Part (FitsAt w) bits a sc v e from left right gs part is path).is_part

pub tells-Slide : (e from i : Expr) (n : ℕ) (up : Bool) → e.form ≡ V.Slide from i n up → TellsPart true e
tells-Slide e from i n up is w bits a sc v gs part path = (of-Slide (FitsAt w) bits a sc v e from i n up gs part is path).is_part
