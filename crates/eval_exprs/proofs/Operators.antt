-- Expressions that are no select paths, from what their operands answered.
use Rattle.std.proofs.Common.{◌≡◌, ℕ, false, suc, ◌≤◌, Bool, List, [], ◌∷◌, map, length, Option, Some, None, Ok, Err, refl, arith, ap, sym, ◌∙◌, subst, rules}
use Rattle.b4_core.specs.declared.bit.Bit4.{Bit4}
use Rattle.b4_core.specs.Vectors.{ext}
use Rattle.sv_types.specs.declared.expression.Expr.{Expr}
use Rattle.sv_types.specs.declared.expression.Form.{Form-F, out-Form, the_lemmas}
use Rattle.sv_types.specs.declared.expression.Form.TheVariants as V
use Rattle.sv_types.specs.Layouts.{layout, width_of}
use Rattle.sv_types.specs.Surroundings.{Around, Tally, Stop, Parameter}
use Rattle.sv_types.specs.Meanings.{total}
use Rattle.sv_types.specs.Expressions.{meaning}
use Rattle.sv_types.proofs.ValueLengths.{length-value}
use Rattle.sv_types.proofs.Widths.{has-bits}
use Rattle.eval_parts.specs.declared.halt.Halt.{Halt}
use Rattle.eval_parts.specs.Surroundings.{running}
use Rattle.eval_parts.specs.Answers.{Gives, Halts, assigned, values_assigned}
use Rattle.eval_parts.specs.Limits.{Fits, AllFitAt}
use Rattle.eval_parts.specs.Steps.{is_path}
use Rattle.eval_parts.specs.Targets.{marks_of_formals}
use Rattle.eval_parts.proofs.Nodes as N
use Rattle.eval_parts.proofs.Nodes.{nodes}
use Rattle.eval_parts.proofs.TypeKinds.{wide-is}
use Rattle.eval_parts.proofs.Assigned as A
use Rattle.eval_forms.specs.Asked.{Asked, width_asked, form_asked, assigned_asked, all_bits, widths_asked, values_asked, AllFitAsked, Operands, Combines}
use Rattle.eval_forms.specs.Kinds.{IsOperator, IsCallOf}
use Rattle.eval_forms.specs.Repeats.{AllAgainOf, OnlyFirstAgain}
use Rattle.eval_forms.proofs.Strict.{asked-by}
use Rattle.eval_forms.proofs.Formals.{formals-within}
use Rattle.eval_forms.proofs.AskedLaws.{Asking, asking, AllFewer}
use Rattle.eval_exprs.specs.declared.held.Held.{Held}
use Rattle.eval_exprs.specs.Held.{around, formals}
use Rattle.eval_exprs.specs.Calls.{CallOperands, ResultGives}

abbrev pub asks : Expr → (ℕ → List Parameter) → ℕ → Bool → List Asked
asks e fs w s = form_asked (layout e.of) fs w s (out-Form e.form)

all-long : (qs : List Asked) (a : Around) → map length (all_bits qs a) ≡ widths_asked qs
all-long [] a = refl
all-long (q ∷ qs) a = ap (λ n. n ∷ map length (all_bits qs a)) (length-value q.of _ _ a) ∙ ap (λ ns. width_asked q.ask (meaning q.of) ∷ ns) (all-long qs a)

pub ready : (e : Expr) (fs : ℕ → List Parameter) (w : ℕ) (s : Bool) (vs : List (List Bit4)) (a : Around) → Fits (meaning e) fs w → vs ≡ all_bits (asks e fs w s) a → Operands e w s vs
ready e fs w s vs a f is = record { formals = fs; fits = f; lengths = ap (map length) is ∙ all-long (asks e fs w s) a }

pub done : (e : Expr) (fs : ℕ → List Parameter) (w : ℕ) (s : Bool) (vs : List (List Bit4)) (r : List Bit4) (a : Around) (old new : Option ℕ) → IsOperator e → vs ≡ all_bits (asks e fs w s) a
    → values_asked (asks e fs w s) a (running old) ≡ running new → Combines e w s vs r → Gives (Ok r) (meaning e) w s a old new
done e fs w s vs r a old new operator values runs combined = (combined.value fs a values, (asking e operator).strict fs w s a (running old) ∙ runs)

pub some-bits : (e : Expr) (fs : ℕ → List Parameter) (w : ℕ) → Fits (meaning e) fs w → 1 ≤ width_of e.of
some-bits e fs w f = let h = has-bits e f.typed in omega (arith, h, wide-is e)

-- what a call asks: each operand fits and has fewer nodes, and none is asked again
out-Call : (f : ℕ) (es : List Expr) → out-Form (V.Call f es) ≡ Form-F.Call f es
out-Call f es = search (rules, the_lemmas)

few-assigned : (ps : List (List Bool)) (es : List Expr) (n : ℕ) → total (map nodes es) ≤ n → AllFewer (suc n) (assigned_asked ps es)
few-assigned [] es n h = tt
few-assigned (p ∷ ps) [] n h = tt
few-assigned (p ∷ ps) (e ∷ es) n h = (omega arith, few-assigned ps es n (omega arith))

again-assigned : (x : Expr) (ps : List (List Bool)) (es : List Expr) → AllAgainOf x (assigned_asked ps es)
again-assigned x [] es = tt
again-assigned x (p ∷ ps) [] = tt
again-assigned x (p ∷ ps) (e ∷ es) = (tt, again-assigned x ps es)

first-assigned : (ps : List (List Bool)) (es : List Expr) → OnlyFirstAgain (assigned_asked ps es)
first-assigned [] es = tt
first-assigned (p ∷ ps) [] = tt
first-assigned (p ∷ ps) (e ∷ es) = (tt, again-assigned e ps es)

each-place : (ps : List (List Bool)) (es : List Expr) (fs : ℕ → List Parameter) → AllFitAt ps es fs → AllFitAsked fs (assigned_asked ps es)
each-place [] es fs f = tt
each-place (p ∷ ps) [] fs f = tt
each-place (p ∷ ps) (e ∷ es) fs f = (f.0, each-place ps es fs f.1)

-- what is known of the operands of an expression
pub record Parts (e : Expr) : Type 0 where
  pub fits : (fs : ℕ → List Parameter) (w : ℕ) (s : Bool) → Fits (meaning e) fs w → AllFitAsked fs (asks e fs w s)
  pub fewer : (fs : ℕ → List Parameter) (w : ℕ) (s : Bool) → AllFewer (nodes e) (asks e fs w s)
  pub again : (fs : ℕ → List Parameter) (w : ℕ) (s : Bool) → OnlyFirstAgain (asks e fs w s)

call-asked : (e : Expr) (f : ℕ) (es : List Expr) (fs : ℕ → List Parameter) (w : ℕ) (s : Bool) → e.form ≡ V.Call f es → assigned_asked (marks_of_formals (fs f)) es ≡ asks e fs w s
call-asked e f es fs w s is = asked-by e (V.Call f es) (Form-F.Call f es) fs w s is (out-Call f es)

call-parts : (e : Expr) (f : ℕ) (es : List Expr) → e.form ≡ V.Call f es → Parts e
call-parts e f es is = record {
  fits = λ fs w s h. subst (AllFitAsked fs) (call-asked e f es fs w s is) (each-place (marks_of_formals (fs f)) es fs (A.call-fits e f es fs w is h));
  fewer = λ fs w s. subst (AllFewer (nodes e)) (call-asked e f es fs w s is)
      (subst (λ k. AllFewer k (assigned_asked (marks_of_formals (fs f)) es)) (sym (N.nodes-Call e f es is)) (few-assigned (marks_of_formals (fs f)) es (total (map nodes es)) (omega arith)));
  again = λ fs w s. subst OnlyFirstAgain (call-asked e f es fs w s is) (first-assigned (marks_of_formals (fs f)) es);
}

operator-parts : (e : Expr) → Asking e → Parts e
operator-parts e k = record { fits = k.fits; fewer = k.fewer; again = k.again }

pub parts : (called : Option ℕ) (e : Expr) → is_path (out-Form e.form) ≡ false → IsCallOf called e → Parts e
parts None e path call = operator-parts e (asking e (record { no_path = path; no_call = call }))
parts (Some f) e path call = call-parts e f call.0 call.1

-- the formals of what is called
formals-are : (h : Held) (f : ℕ) → ((around h).callee f).formals ≡ formals h.scope f
formals-are h f = formals-within h.scope.depth h.scope.functions.now f

asked-as : (e : Expr) (f : ℕ) (es : List Expr) (h : Held) (w : ℕ) (s : Bool) → e.form ≡ V.Call f es → asks e (formals h.scope) w s ≡ assigned_asked (marks_of_formals ((around h).callee f).formals) es
asked-as e f es h w s is = sym (call-asked e f es (formals h.scope) w s is) ∙ ap (λ ps. assigned_asked (marks_of_formals ps) es) (sym (formals-are h f))

abbrev onward-by : Option Stop → (Tally → Tally) → Tally → Tally
onward-by o f t = elim o [ None ↦ f t | Some s ↦ t ]

same-by : (o : Option Stop) (t : Tally) (f g : Tally → Tally) → ((u : Tally) → f u ≡ g u) → onward-by o f t ≡ onward-by o g t
same-by None t f g same = same t
same-by (Some x) t f g same = refl

values-of : (places : List (List Bool)) (es : List Expr) (a : Around) (t : Tally) → values_asked (assigned_asked places es) a t ≡ values_assigned places (map meaning es) a t
values-of [] es a t = refl
values-of (p ∷ ps) [] a t = refl
values-of (p ∷ ps) (e ∷ es) a t =
    let u = (meaning e).values a t in same-by u.stop u (values_asked (assigned_asked ps es) a) (values_assigned ps (map meaning es) a) (λ v. values-of ps es a v)

-- operands that stop the run
pub halts : (called : Option ℕ) (h : Halt) (e : Expr) (held : Held) (w : ℕ) (s : Bool) (old new : Option ℕ) → is_path (out-Form e.form) ≡ false → IsCallOf called e
    → Halts h (values_asked (asks e (formals held.scope) w s) (around held) (running old)) → Gives (Err h) (meaning e) w s (around held) old new
halts None h e held w s old new path call stops =
    subst (Halts h) (sym ((asking e (record { no_path = path; no_call = call })).strict (formals held.scope) w s (around held) (running old))) stops
halts (Some f) h e held w s old new path call stops =
    let a = around held in
    A.call-halts h e f call.0 w s a old new call.1
    (subst (Halts h) (values-of (marks_of_formals (a.callee f).formals) call.0 a (running old)) (subst (λ qs. Halts h (values_asked qs a (running old))) (asked-as e f call.0 held w s call.1) stops))

-- calls
pub call-operands : (e : Expr) (f : ℕ) (held : Held) (w : ℕ) (s : Bool) (vs : List (List Bit4)) (a : Around) → Fits (meaning e) (formals held.scope) w → vs ≡ all_bits (asks e (formals held.scope) w s) a → CallOperands e f (formals held.scope) vs
call-operands e f held w s vs a fits is = record {
  fit = λ es at. A.call-fits e f es (formals held.scope) w at fits;
  lengths = λ es at. ap (map length) is ∙ all-long (asks e (formals held.scope) w s) a ∙ ap widths_asked (sym (call-asked e f es (formals held.scope) w s at));
}

call-runs : (e : Expr) (f : ℕ) (es : List Expr) (held : Held) (w : ℕ) (s : Bool) (old one : Option ℕ) → e.form ≡ V.Call f es → values_asked (asks e (formals held.scope) w s) (around held) (running old) ≡ running one
    → values_assigned (marks_of_formals ((around held).callee f).formals) (map meaning es) (around held) (running old) ≡ running one
call-runs e f es held w s old one at runs =
    let a = around held in
    sym (values-of (marks_of_formals (a.callee f).formals) es a (running old)) ∙ ap (λ qs. values_asked qs a (running old)) (sym (asked-as e f es held w s at)) ∙ runs

call-values : (e : Expr) (f : ℕ) (es : List Expr) (held : Held) (w : ℕ) (s : Bool) (vs : List (List Bit4)) → e.form ≡ V.Call f es → vs ≡ all_bits (asks e (formals held.scope) w s) (around held)
    → vs ≡ all_bits (assigned_asked (marks_of_formals ((around held).callee f).formals) es) (around held)
call-values e f es held w s vs at is = is ∙ ap (λ qs. all_bits qs (around held)) (asked-as e f es held w s at)

pub call-stops : (h : Halt) (e : Expr) (f : ℕ) (held : Held) (vs : List (List Bit4)) (w : ℕ) (s : Bool) (old one new : Option ℕ) → IsCallOf (Some f) e → vs ≡ all_bits (asks e (formals held.scope) w s) (around held)
    → values_asked (asks e (formals held.scope) w s) (around held) (running old) ≡ running one → ResultGives (Err h) e f held vs one new → Gives (Err h) (meaning e) w s (around held) old new
call-stops h e f held vs w s old one new call values runs gives =
    let a = around held in
    A.call-stops h e f call.0 (assigned (marks_of_formals (a.callee f).formals) (map meaning call.0) a) w s a old one new call.1 refl (call-runs e f call.0 held w s old one call.1 runs)
    (gives call.0 call.1 (call-values e f call.0 held w s vs call.1 values))

pub call-done : (e : Expr) (f : ℕ) (held : Held) (vs : List (List Bit4)) (v r : List Bit4) (w : ℕ) (s : Bool) (old one new : Option ℕ) → IsCallOf (Some f) e → vs ≡ all_bits (asks e (formals held.scope) w s) (around held)
    → values_asked (asks e (formals held.scope) w s) (around held) (running old) ≡ running one → ResultGives (Ok v) e f held vs one new → r ≡ ext w s v → Gives (Ok r) (meaning e) w s (around held) old new
call-done e f held vs v r w s old one new call values runs gives is =
    let a = around held in
    A.call-done e f call.0 (assigned (marks_of_formals (a.callee f).formals) (map meaning call.0) a) v r w s a old one new call.1 refl (call-runs e f call.0 held w s old one call.1 runs)
    (gives call.0 call.1 (call-values e f call.0 held w s vs call.1 values)) is
