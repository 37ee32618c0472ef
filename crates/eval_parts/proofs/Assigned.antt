-- Several expressions, each assigned to a place.
use Rattle.std.proofs.Common.{◌≡◌, ℕ, ◌≤◌, Bool, List, [], ◌∷◌, map, zip, Option, Some, None, Ok, Err, refl, arith, ap, sym, ◌∙◌, subst}
use Rattle.b4_core.specs.declared.bit.Bit4.{Bit4}
use Rattle.b4_core.specs.Vectors.{ext}
use Rattle.sv_types.specs.declared.expression.Expr.{Expr}
use Rattle.sv_types.specs.declared.expression.Form.TheVariants as V
use Rattle.sv_types.specs.Layouts.{Layout, Part, layout, stacked}
use Rattle.sv_types.specs.Surroundings.{Around, Tally, Stop, Parameter, onward}
use Rattle.sv_types.specs.Meanings.{Meaning, Operand, by_itself, at_width, values_all, most, total}
use Rattle.sv_types.specs.Operators as O
use Rattle.sv_types.specs.Operators.{assigned_to, assigned_width, passed, parts_of}
use Rattle.sv_types.specs.Expressions.{meaning}
use Rattle.sv_types.proofs.Levels as L
use Rattle.sv_types.proofs.Widths.{has-bits}
use Rattle.eval_parts.specs.declared.halt.Halt.{Halt}
use Rattle.eval_parts.specs.Surroundings.{running}
use Rattle.eval_parts.specs.Answers.{Gives, Halts, AllAssigned, CallGives, assigned, values_assigned}
use Rattle.eval_parts.specs.Limits.{Fits, AllFitAt}
use Rattle.eval_parts.specs.Targets.{marks_of_parts, marks_of_formals}
use Rattle.eval_parts.proofs.Efforts.{first-on, first-halts, halts-onward}
use Rattle.eval_parts.proofs.Steps.{at-form}

abbrev onward-by : Option Stop → (Tally → Tally) → Tally → Tally
onward-by o f t = elim o [ None ↦ f t | Some s ↦ t ]

same-by : (o : Option Stop) (t : Tally) (f g : Tally → Tally) → ((u : Tally) → f u ≡ g u) → onward-by o f t ≡ onward-by o g t
same-by None t f g same = same t
same-by (Some x) t f g same = refl

same-onward : (f g : Tally → Tally) (t : Tally) → ((u : Tally) → f u ≡ g u) → onward f t ≡ onward g t
same-onward f g t same = same-by t.stop t f g same

-- the first place and the first value
pub assigned-cons : (p : List Bool) (ps : List (List Bool)) (e : Expr) (es : List Expr) (a : Around)
    → assigned (p ∷ ps) (map meaning (e ∷ es)) a ≡ assigned_to p (meaning e) a ∷ assigned ps (map meaning es) a
assigned-cons p ps e es a = refl

pub values-on : (p : List Bool) (ps : List (List Bool)) (e : Expr) (es : List Expr) (a : Around) (old new : Option ℕ) → (meaning e).values a (running old) ≡ running new
    → values_assigned (p ∷ ps) (map meaning (e ∷ es)) a (running old) ≡ values_assigned ps (map meaning es) a (running new)
values-on p ps e es a old new is = first-on (by_itself (meaning e)) (map (λ q. by_itself q.1) (zip ps (map meaning es))) a (running old) new is

pub values-halt : (h : Halt) (p : List Bool) (ps : List (List Bool)) (e : Expr) (es : List Expr) (a : Around) (old : Option ℕ) → Halts h ((meaning e).values a (running old))
    → Halts h (values_assigned (p ∷ ps) (map meaning (e ∷ es)) a (running old))
values-halt h p ps e es a old halts = first-halts h (by_itself (meaning e)) (map (λ q. by_itself q.1) (zip ps (map meaning es))) a (running old) halts

pub parts-assigned : (ps : List Part) (ms : List Meaning) (a : Around) → map (λ p. assigned_to p.0.two_state p.1 a) (zip ps ms) ≡ assigned (marks_of_parts ps) ms a
parts-assigned [] ms a = refl
parts-assigned (p ∷ ps) [] a = refl
parts-assigned (p ∷ ps) (m ∷ ms) a = ap (λ vs. assigned_to p.two_state m a ∷ vs) (parts-assigned ps ms a)

pub formals-assigned : (ps : List Parameter) (ms : List Meaning) (a : Around) → passed ps ms a ≡ assigned (marks_of_formals ps) ms a
formals-assigned [] ms a = refl
formals-assigned (p ∷ ps) [] a = refl
formals-assigned (p ∷ ps) (m ∷ ms) a = ap (λ vs. assigned_to p.two_state m a ∷ vs) (formals-assigned ps ms a)

-- values of operands hang only on what they are
pub parts-values : (ps : List Part) (ms : List Meaning) (a : Around) (t : Tally)
    → values_all (map (λ p. at_width (assigned_width p.0.two_state p.1) p.1) (zip ps ms)) a t ≡ values_assigned (marks_of_parts ps) ms a t
parts-values [] ms a t = refl
parts-values (p ∷ ps) [] a t = refl
parts-values (p ∷ ps) (m ∷ ms) a t = same-onward (values_all (map (λ p. at_width (assigned_width p.0.two_state p.1) p.1) (zip ps ms)) a) (values_assigned (marks_of_parts ps) ms a) (m.values a t) (λ u. parts-values ps ms a u)

pub formals-values : (ps : List Parameter) (ms : List Meaning) (a : Around) (t : Tally)
    → values_all (map (λ p. by_itself p.1) (zip ps ms)) a t ≡ values_assigned (marks_of_formals ps) ms a t
formals-values [] ms a t = refl
formals-values (p ∷ ps) [] a t = refl
formals-values (p ∷ ps) (m ∷ ms) a t = same-onward (values_all (map (λ p. by_itself p.1) (zip ps ms)) a) (values_assigned (marks_of_formals ps) ms a) (m.values a t) (λ u. formals-values ps ms a u)

-- limits of what is assigned
items-fit : (ps : List Part) (es : List Expr) (fs : ℕ → List Parameter) (w : ℕ)
    → total (map (λ (p : Operand). p.of.misfits) (map (λ p. at_width (assigned_width p.0.two_state p.1) p.1) (zip ps (map meaning es)))) ≡ 0
    → most (map (λ (p : Operand). p.of.widest) (map (λ p. at_width (assigned_width p.0.two_state p.1) p.1) (zip ps (map meaning es)))) ≤ 4194304
    → most (map (λ (p : Operand). p.of.arithmetic fs (p.at w)) (map (λ p. at_width (assigned_width p.0.two_state p.1) p.1) (zip ps (map meaning es)))) ≤ 128
    → most (map (λ (p : Operand). p.of.indexing) (map (λ p. at_width (assigned_width p.0.two_state p.1) p.1) (zip ps (map meaning es)))) ≤ 64
    → AllFitAt (marks_of_parts ps) es fs
items-fit [] es fs w typed narrow arithmetic indexing = tt
items-fit (p ∷ ps) [] fs w typed narrow arithmetic indexing = tt
items-fit (p ∷ ps) (e ∷ es) fs w typed narrow arithmetic indexing =
    let one : (meaning e).misfits ≡ 0 = omega arith in
    let some = has-bits e one in (
      record { some = omega arith; typed = one; narrow = omega arith; arithmetic = omega arith; indexing = omega arith },
      items-fit ps es fs w (omega arith) (omega arith) (omega arith) (omega arith),
    )

actuals-fit : (ps : List Parameter) (es : List Expr) (fs : ℕ → List Parameter)
    → total (map (λ (p : Operand). p.of.misfits) (map by_itself (map meaning es))) ≡ 0
    → most (map (λ (p : Operand). p.of.widest) (map by_itself (map meaning es))) ≤ 4194304
    → most (map (λ p. p.1.arithmetic fs (assigned_width p.0.two_state p.1)) (zip ps (map meaning es))) ≤ 128
    → most (map (λ (p : Operand). p.of.indexing) (map by_itself (map meaning es))) ≤ 64
    → AllFitAt (marks_of_formals ps) es fs
actuals-fit [] es fs typed narrow arithmetic indexing = tt
actuals-fit (p ∷ ps) [] fs typed narrow arithmetic indexing = tt
actuals-fit (p ∷ ps) (e ∷ es) fs typed narrow arithmetic indexing =
    let one : (meaning e).misfits ≡ 0 = omega arith in
    let some = has-bits e one in (
      record { some = omega arith; typed = one; narrow = omega arith; arithmetic = omega arith; indexing = omega arith },
      actuals-fit ps es fs (omega arith) (omega arith) (omega arith) (omega arith),
    )

-- patterns
pub same-Pattern : (e : Expr) (es : List Expr) → e.form ≡ V.Pattern es → meaning e ≡ O.pattern (layout e.of) e.spot.at (map meaning es)
same-Pattern e es is = at-form e (V.Pattern es) _ is (L.form-Pattern es)

pattern-fits-in : (of : Layout) (at : ℕ) (es : List Expr) (fs : ℕ → List Parameter) (w : ℕ) → Fits (O.pattern of at (map meaning es)) fs w → AllFitAt (marks_of_parts (parts_of of)) es fs
unfolding O.pattern
pattern-fits-in of at es fs w f = items-fit (parts_of of) es fs w (omega arith) (omega arith) (omega arith) (omega arith)

pub pattern-fits : (e : Expr) (es : List Expr) (fs : ℕ → List Parameter) (w : ℕ) → e.form ≡ V.Pattern es → Fits (meaning e) fs w → AllFitAt (marks_of_parts (parts_of (layout e.of))) es fs
pattern-fits e es fs w is f = pattern-fits-in (layout e.of) e.spot.at es fs w (subst (λ m. Fits m fs w) (same-Pattern e es is) f)

pattern-halts-in : (h : Halt) (of : Layout) (at : ℕ) (ms : List Meaning) (w : ℕ) (s : Bool) (a : Around) (old new : Option ℕ) → AllAssigned (Err h) (marks_of_parts (parts_of of)) ms a old new
    → Gives (Err h) (O.pattern of at ms) w s a old new
unfolding O.pattern
pattern-halts-in h of at ms w s a old new halts = subst (Halts h) (sym (parts-values (parts_of of) ms a (running old))) halts

pub pattern-halts : (h : Halt) (e : Expr) (es : List Expr) (w : ℕ) (s : Bool) (a : Around) (old new : Option ℕ) → e.form ≡ V.Pattern es
    → AllAssigned (Err h) (marks_of_parts (parts_of (layout e.of))) (map meaning es) a old new → Gives (Err h) (meaning e) w s a old new
pattern-halts h e es w s a old new is halts = subst (λ m. Gives (Err h) m w s a old new) (sym (same-Pattern e es is)) (pattern-halts-in h (layout e.of) e.spot.at (map meaning es) w s a old new halts)

pattern-done-in : (of : Layout) (at : ℕ) (ms : List Meaning) (vs : List (List Bit4)) (r : List Bit4) (w : ℕ) (s : Bool) (a : Around) (old new : Option ℕ)
    → vs ≡ assigned (marks_of_parts (parts_of of)) ms a → values_assigned (marks_of_parts (parts_of of)) ms a (running old) ≡ running new → r ≡ ext w s (stacked vs) → Gives (Ok r) (O.pattern of at ms) w s a old new
unfolding O.pattern
pattern-done-in of at ms vs r w s a old new values runs is =
    (is ∙ ap (λ q. ext w s (stacked q)) (values ∙ sym (parts-assigned (parts_of of) ms a)), parts-values (parts_of of) ms a (running old) ∙ runs)

pub pattern-done : (e : Expr) (es : List Expr) (vs : List (List Bit4)) (r : List Bit4) (w : ℕ) (s : Bool) (a : Around) (old new : Option ℕ) → e.form ≡ V.Pattern es
    → vs ≡ assigned (marks_of_parts (parts_of (layout e.of))) (map meaning es) a → values_assigned (marks_of_parts (parts_of (layout e.of))) (map meaning es) a (running old) ≡ running new
    → r ≡ ext w s (stacked vs) → Gives (Ok r) (meaning e) w s a old new
pattern-done e es vs r w s a old new at values runs is =
    subst (λ m. Gives (Ok r) m w s a old new) (sym (same-Pattern e es at)) (pattern-done-in (layout e.of) e.spot.at (map meaning es) vs r w s a old new values runs is)

-- calls
pub same-Call : (e : Expr) (n : ℕ) (es : List Expr) → e.form ≡ V.Call n es → meaning e ≡ O.call (layout e.of) e.spot.at n (map meaning es)
same-Call e n es is = at-form e (V.Call n es) _ is (L.form-Call n es)

call-fits-in : (of : Layout) (at n : ℕ) (es : List Expr) (fs : ℕ → List Parameter) (w : ℕ) → Fits (O.call of at n (map meaning es)) fs w → AllFitAt (marks_of_formals (fs n)) es fs
unfolding O.call
call-fits-in of at n es fs w f = actuals-fit (fs n) es fs (omega arith) (omega arith) (omega arith) (omega arith)

pub call-fits : (e : Expr) (n : ℕ) (es : List Expr) (fs : ℕ → List Parameter) (w : ℕ) → e.form ≡ V.Call n es → Fits (meaning e) fs w → AllFitAt (marks_of_formals (fs n)) es fs
call-fits e n es fs w is f = call-fits-in (layout e.of) e.spot.at n es fs w (subst (λ m. Fits m fs w) (same-Call e n es is) f)

call-values : (n : ℕ) (ms : List Meaning) (a : Around) (t u : Tally) → values_assigned (marks_of_formals (a.callee n).formals) ms a t ≡ u → O.calls n ms a t ≡ onward ((a.callee n).effort (assigned (marks_of_formals (a.callee n).formals) ms a)) u
call-values n ms a t u is =
    ap (onward ((a.callee n).effort (passed (a.callee n).formals ms a))) (formals-values (a.callee n).formals ms a t ∙ is)
    ∙ ap (λ vs. onward ((a.callee n).effort vs) u) (formals-assigned (a.callee n).formals ms a)

call-halts-in : (h : Halt) (of : Layout) (at n : ℕ) (ms : List Meaning) (w : ℕ) (s : Bool) (a : Around) (old new : Option ℕ) → AllAssigned (Err h) (marks_of_formals (a.callee n).formals) ms a old new
    → Gives (Err h) (O.call of at n ms) w s a old new
unfolding O.call
call-halts-in h of at n ms w s a old new halts =
    subst (Halts h) (sym (call-values n ms a (running old) _ refl)) (halts-onward h ((a.callee n).effort (assigned (marks_of_formals (a.callee n).formals) ms a)) _ halts)

pub call-halts : (h : Halt) (e : Expr) (n : ℕ) (es : List Expr) (w : ℕ) (s : Bool) (a : Around) (old new : Option ℕ) → e.form ≡ V.Call n es
    → AllAssigned (Err h) (marks_of_formals (a.callee n).formals) (map meaning es) a old new → Gives (Err h) (meaning e) w s a old new
call-halts h e n es w s a old new is halts = subst (λ m. Gives (Err h) m w s a old new) (sym (same-Call e n es is)) (call-halts-in h (layout e.of) e.spot.at n (map meaning es) w s a old new halts)

call-stops-in : (h : Halt) (of : Layout) (at n : ℕ) (ms : List Meaning) (vs : List (List Bit4)) (w : ℕ) (s : Bool) (a : Around) (old one new : Option ℕ)
    → vs ≡ assigned (marks_of_formals (a.callee n).formals) ms a → values_assigned (marks_of_formals (a.callee n).formals) ms a (running old) ≡ running one → CallGives (Err h) (a.callee n) vs one new
    → Gives (Err h) (O.call of at n ms) w s a old new
unfolding O.call
call-stops-in h of at n ms vs w s a old one new values runs halts =
    subst (Halts h) (sym (call-values n ms a (running old) (running one) runs)) (subst (λ q. Halts h ((a.callee n).effort q (running one))) values halts)

pub call-stops : (h : Halt) (e : Expr) (n : ℕ) (es : List Expr) (vs : List (List Bit4)) (w : ℕ) (s : Bool) (a : Around) (old one new : Option ℕ) → e.form ≡ V.Call n es
    → vs ≡ assigned (marks_of_formals (a.callee n).formals) (map meaning es) a → values_assigned (marks_of_formals (a.callee n).formals) (map meaning es) a (running old) ≡ running one
    → CallGives (Err h) (a.callee n) vs one new → Gives (Err h) (meaning e) w s a old new
call-stops h e n es vs w s a old one new at values runs halts =
    subst (λ m. Gives (Err h) m w s a old new) (sym (same-Call e n es at)) (call-stops-in h (layout e.of) e.spot.at n (map meaning es) vs w s a old one new values runs halts)

call-done-in : (of : Layout) (at n : ℕ) (ms : List Meaning) (vs : List (List Bit4)) (v r : List Bit4) (w : ℕ) (s : Bool) (a : Around) (old one new : Option ℕ)
    → vs ≡ assigned (marks_of_formals (a.callee n).formals) ms a → values_assigned (marks_of_formals (a.callee n).formals) ms a (running old) ≡ running one → CallGives (Ok v) (a.callee n) vs one new
    → r ≡ ext w s v → Gives (Ok r) (O.call of at n ms) w s a old new
unfolding O.call
call-done-in of at n ms vs v r w s a old one new values runs g is = (
  is ∙ ap (ext w s) (g.0 ∙ ap (λ q. ((a.callee n).run q).result) (values ∙ sym (formals-assigned (a.callee n).formals ms a))),
  call-values n ms a (running old) (running one) runs ∙ ap (λ q. (a.callee n).effort q (running one)) (sym values) ∙ g.1,
)

pub call-done : (e : Expr) (n : ℕ) (es : List Expr) (vs : List (List Bit4)) (v r : List Bit4) (w : ℕ) (s : Bool) (a : Around) (old one new : Option ℕ) → e.form ≡ V.Call n es
    → vs ≡ assigned (marks_of_formals (a.callee n).formals) (map meaning es) a → values_assigned (marks_of_formals (a.callee n).formals) (map meaning es) a (running old) ≡ running one
    → CallGives (Ok v) (a.callee n) vs one new → r ≡ ext w s v → Gives (Ok r) (meaning e) w s a old new
call-done e n es vs v r w s a old one new at values runs g is =
    subst (λ m. Gives (Ok r) m w s a old new) (sym (same-Call e n es at)) (call-done-in (layout e.of) e.spot.at n (map meaning es) vs v r w s a old one new values runs g is)
