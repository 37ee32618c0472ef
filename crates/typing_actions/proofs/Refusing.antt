-- What is in no form of a target, and what is in one, as actuals.
use Rattle.std.proofs.Common.{◌≡◌, true, false, List, Option, Some, None, ap, refl, sym, subst}
use Rattle.std.specs.Prelude.{Result, Ok, Err}
use Rattle.sv_tree.specs.declared.expressions.Expr.{Expr}
use Rattle.sv_types.specs.declared.statement.Function.{Function}
use Rattle.expr_type.specs.declared.halt.Halt.{Halt}
use Rattle.expr_type.specs.declared.halt.Halt.TheVariants as H
use Rattle.expr_type.specs.declared.operand.Valued.{Valued}
use Rattle.expr_type.specs.Breaks.{At}
use Rattle.expr_type.specs.Expressions.{meaning}
use Rattle.expr_type.specs.Names.{Context, position}
use Rattle.expr_type.specs.Operands.{Operand, first_of}
use Rattle.expr_type.specs.Statements.{Actual, as_target}
use Rattle.expr_type.specs.Typings.{Checked, Typed, Typing, applied, broken, checked, whole}
use Rattle.typing_calls.specs.Lists.{as_meant}
use Rattle.typing_steps.specs.Steps.{StopsBy, TypesTo}
use Rattle.typing_steps.proofs.Combining.{checked-fine, checked-stops}
use Rattle.typing_actions.specs.Actuals.{actual_of, is_target, is_there, or_quiet, refused_of, target_of}

abbrev refusal : Context → Operand → Typing Valued
refusal k o = broken (At (position k.source (first_of o)) 501)

pub refuses : (k : Context) (e : Expr) (fs gs : List Function) (o : Operand) (h : Halt) → h ≡ H.Breaks (first_of o) 501 → TypesTo (Ok o) ((meaning e).typed k fs) gs → TypesTo {A = Valued} (Err h) (refused_of k e fs) gs
refuses k e fs gs o h is p =
    subst (λ (g : Halt). TypesTo {A = Valued} (Err g) (refused_of k e fs) gs) (sym is)
    (checked-fine ((meaning e).typed k) (refusal k) fs gs gs o (Err (H.Breaks (first_of o) 501)) p refl)

pub refuses-stops : (k : Context) (e : Expr) (fs gs : List Function) (h : Halt) → TypesTo {A = Operand} (Err h) ((meaning e).typed k fs) gs → TypesTo {A = Valued} (Err h) (refused_of k e fs) gs
refuses-stops k e fs gs h p = checked-stops ((meaning e).typed k) (refusal k) fs gs h p

pub ruleset refusals = (refuses, refuses-stops)

-- as actuals
abbrev by_form : Context → Typing Operand → Option (Typing Valued) → Typing Actual
by_form k y o = elim o [
  | None ↦ checked y (λ o. broken (At (position k.source (first_of o)) 501))
  | Some x ↦ checked x (λ v. whole (record { value = None; target = Some v }))
]

whole-actual : (x : Typing Valued) (fs gs : List Function) (r : Result Valued Halt) → TypesTo r (x fs) gs → TypesTo (as_meant actual_of r) (checked x (λ v. whole (actual_of v)) fs) gs
whole-actual x fs gs (Ok v) h = checked-fine x (λ v. whole (actual_of v)) fs gs gs v (Ok (actual_of v)) h refl
whole-actual x fs gs (Err h) p = checked-stops x (λ v. whole (actual_of v)) fs gs h p

with-form : (k : Context) (y : Typing Operand) (o : Option (Typing Valued)) (fs gs : List Function) (r : Result Valued Halt) → is_there o ≡ true → TypesTo r (or_quiet o fs) gs → TypesTo (as_meant actual_of r) (by_form k y o fs) gs
with-form k y None fs gs r t h = absurd (cc)
with-form k y (Some x) fs gs r t h = whole-actual x fs gs r h

pub as-target : (k : Context) (e : Expr) (fs gs : List Function) (r : Result Valued Halt) → is_target k e ≡ true → TypesTo r (target_of k e fs) gs → TypesTo (as_meant actual_of r) (as_target k (meaning e) fs) gs
as-target k e fs gs r t h = with-form k ((meaning e).typed k) ((meaning e).as_target k) fs gs r t h

-- what is in no form of one is broken either way
abbrev refusal_of : {A : Type 0} → Context → Operand → Typing A
refusal_of k o = broken (At (position k.source (first_of o)) 501)

stops-by : (k : Context) (h : Halt) (c : Checked Operand) (fs gs : List Function) → StopsBy {A = Valued} h (applied c (refusal_of k) fs) gs → StopsBy {A = Actual} h (applied c (refusal_of k) fs) gs
stops-by k H.Memory c fs gs s = tt
stops-by k (H.Breaks at n) (Ok o) fs gs s = s
stops-by k (H.Breaks at n) (Err b) fs gs s = s
stops-by k H.Quiet (Ok o) fs gs s = record { quiet = s.quiet; functions = s.functions }
stops-by k H.Quiet (Err b) fs gs s = record { quiet = s.quiet; functions = s.functions }

abbrev of-value : Checked Valued → Checked Valued
of-value c = c

not-whole : (k : Context) (v : Valued) (c : Checked Operand) (fs gs : List Function) → TypesTo (Ok v) (applied c (refusal_of k) fs) gs → ⊥
not-whole k v (Ok o) fs gs e = let r : of-value (Err (At (position k.source (first_of o)) 501)) ≡ of-value (Ok v) = ap (λ (t : Typed Valued). t.result) e in absurd (cc)
not-whole k v (Err b) fs gs e = let r : of-value (Err b) ≡ of-value (Ok v) = ap (λ (t : Typed Valued). t.result) e in absurd (cc)

refused-too : (k : Context) (y : Typing Operand) (fs gs : List Function) (r : Result Valued Halt) → TypesTo r (checked y (refusal_of k) fs) gs → TypesTo (as_meant actual_of r) (checked y (refusal_of k) fs) gs
refused-too k y fs gs (Ok v) h = absurd (not-whole k v (y fs).result (y fs).functions gs h)
refused-too k y fs gs (Err h) s = stops-by k h (y fs).result (y fs).functions gs s

without-form : (k : Context) (y : Typing Operand) (o : Option (Typing Valued)) (fs gs : List Function) (r : Result Valued Halt) → is_there o ≡ false → TypesTo r (checked y (refusal k) fs) gs → TypesTo (as_meant actual_of r) (by_form k y o fs) gs
without-form k y None fs gs r t h = refused-too k y fs gs r h
without-form k y (Some x) fs gs r t h = absurd (cc)

pub as-refused : (k : Context) (e : Expr) (fs gs : List Function) (r : Result Valued Halt) → is_target k e ≡ false → TypesTo r (refused_of k e fs) gs → TypesTo (as_meant actual_of r) (as_target k (meaning e) fs) gs
as-refused k e fs gs r t h = without-form k ((meaning e).typed k) ((meaning e).as_target k) fs gs r t h
