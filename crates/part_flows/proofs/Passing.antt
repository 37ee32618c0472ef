-- What calls pass, formal by formal.
use Rattle.std.proofs.Common.{◌≡◌, ℕ, zero, suc, ◌+◌, ◌<◌, min, true, List, [], ◌∷◌, ◌++◌, map, drop, length, get_or, refl, arith, ap, sym, ◌∙◌, subst}
use Rattle.std.proofs.lemmas.Bool.{and_parts}
use Rattle.sv_types.specs.declared.expression.Expr.{Expr}
use Rattle.sv_types.specs.declared.statement.Formal.{Formal}
use Rattle.sv_types.specs.Surroundings.{Parameter, Sight}
use Rattle.sv_types.specs.Meanings.{Meaning}
use Rattle.sv_types.specs.Operators.{assigned_width}
use Rattle.sv_types.specs.Functions.{parameter}
use Rattle.sv_types.specs.Flows as F
use Rattle.sv_types.specs.Flows.{Flow, nothing, all_read_in, all_written_out}
use Rattle.sv_types.specs.Expressions.{meaning}
use Rattle.eval_parts.specs.Limits.{FitsAlone}
use Rattle.eval_forms.specs.Callees.{formals_in}
use Rattle.eval_forms.proofs.Formals.{formals-within}
use Rattle.eval_stmts.specs.Targets.{ActualsFit}
use Rattle.eval_stmts.proofs.Given.{fits-alone}
use Rattle.eval_exprs.proofs.Turns.{at-front}
use Rattle.flow_sets.specs.declared.found.Found.{Found}
use Rattle.flow_sets.specs.Flows.{IsFlow}
use Rattle.expr_flows.specs.declared.known.Known.{Known}
use Rattle.expr_flows.specs.Full.{is_full, all_full}
use Rattle.expr_flows.specs.Known.{sight}
use Rattle.part_flows.proofs.Sequence as Q

-- what is behind the shorter one of two lists
pub none-read : (fs : List Formal) (es : List Expr) (n : ℕ) (k : Sight) → n ≡ min (length fs) (length es) → all_read_in (map parameter (drop n fs)) (map meaning (drop n es)) k ≡ []
none-read [] es zero k h = refl
none-read [] es (suc n) k h = refl
none-read (f ∷ fs) [] zero k h = refl
none-read (f ∷ fs) [] (suc n) k h = absurd (omega arith)
none-read (f ∷ fs) (e ∷ es) zero k h = absurd (omega arith)
none-read (f ∷ fs) (e ∷ es) (suc n) k h = none-read fs es n k (omega arith)

pub none-written : (fs : List Formal) (es : List Expr) (n : ℕ) (k : Sight) → n ≡ min (length fs) (length es) → all_written_out (map parameter (drop n fs)) (map meaning (drop n es)) k ≡ nothing
none-written [] es zero k h = refl
none-written [] es (suc n) k h = refl
none-written (f ∷ fs) [] zero k h = refl
none-written (f ∷ fs) [] (suc n) k h = absurd (omega arith)
none-written (f ∷ fs) (e ∷ es) zero k h = absurd (omega arith)
none-written (f ∷ fs) (e ∷ es) (suc n) k h = none-written fs es n k (omega arith)

-- what is still to be passed
pub record Left (fs : List Formal) (es : List Expr) (gs : ℕ → List Parameter) : Type 0 where
  pub fits : ActualsFit (map parameter fs) es gs
  pub full : all_full gs es ≡ true

pub first-fits : (f : Formal) (fs : List Formal) (e : Expr) (es : List Expr) (gs : ℕ → List Parameter) → Left (f ∷ fs) (e ∷ es) gs → FitsAlone (meaning e) gs
first-fits f fs e es gs l = fits-alone e gs (assigned_width (parameter f).two_state (meaning e)) (omega arith) l.fits.0

pub first-full : (f : Formal) (fs : List Formal) (e : Expr) (es : List Expr) (gs : ℕ → List Parameter) → Left (f ∷ fs) (e ∷ es) gs → is_full gs e ≡ true
first-full f fs e es gs l = (and_parts (is_full gs e) (all_full gs es) l.full).0

pub others-left : (f : Formal) (fs : List Formal) (e : Expr) (es : List Expr) (gs : ℕ → List Parameter) → Left (f ∷ fs) (e ∷ es) gs → Left fs es gs
others-left f fs e es gs l = record { fits = l.fits.1; full = (and_parts (is_full gs e) (all_full gs es) l.full).1 }

-- at a place
pub left-at : (fs : List Formal) (es : List Expr) (i : ℕ) (f : Formal) (e : Expr) (gs : ℕ → List Parameter) → i < length fs → i < length es → f ≡ get_or fs i f → e ≡ get_or es i e → Left (drop i fs) (drop i es) gs → Left (f ∷ drop (i + 1) fs) (e ∷ drop (i + 1) es) gs
left-at fs es i f e gs below within is at l =
    subst (λ xs. Left xs (e ∷ drop (i + 1) es) gs) (at-front fs i f below is) (subst (λ ys. Left (drop i fs) ys gs) (at-front es i e within at) l)

pub reads-at : (fs : List Formal) (es : List Expr) (i : ℕ) (f : Formal) (e : Expr) (k : Sight) → i < length fs → i < length es → f ≡ get_or fs i f → e ≡ get_or es i e
    → F.reads_in f.way (meaning e) k ++ all_read_in (map parameter (drop (i + 1) fs)) (map meaning (drop (i + 1) es)) k ≡ all_read_in (map parameter (drop i fs)) (map meaning (drop i es)) k
reads-at fs es i f e k below within is at =
    sym (ap (λ xs. all_read_in (map parameter xs) (map meaning (drop i es)) k) (at-front fs i f below is) ∙ ap (λ ys. all_read_in (map parameter (f ∷ drop (i + 1) fs)) (map meaning ys) k) (at-front es i e within at))

pub writes-at : (fs : List Formal) (es : List Expr) (i : ℕ) (f : Formal) (e : Expr) (k : Sight) → i < length fs → i < length es → f ≡ get_or fs i f → e ≡ get_or es i e
    → F.and_then (F.writes_out f.way (meaning e) k) (all_written_out (map parameter (drop (i + 1) fs)) (map meaning (drop (i + 1) es)) k) ≡ all_written_out (map parameter (drop i fs)) (map meaning (drop i es)) k
writes-at fs es i f e k below within is at =
    sym (ap (λ xs. all_written_out (map parameter xs) (map meaning (drop i es)) k) (at-front fs i f below is) ∙ ap (λ ys. all_written_out (map parameter (f ∷ drop (i + 1) fs)) (map meaning ys) k) (at-front es i e within at))

-- what is known of a front part, and what comes behind it
pub record Leads (r : Found) (rest all : Flow) : Type 0 where
  pub flow : Flow
  pub is : IsFlow r flow
  pub leads : F.and_then flow rest ≡ all

pub leads-on : (r s : Found) (one rest behind all : Flow) → Leads r rest all → ((f : Flow) → IsFlow r f → IsFlow s (F.and_then f one)) → F.and_then one behind ≡ rest → Leads s behind all
leads-on r s one rest behind all l goes is = record {
  flow = F.and_then l.flow one;
  is = goes l.flow l.is;
  leads = Q.in-a-row l.flow one behind ∙ ap (F.and_then l.flow) is ∙ l.leads;
}

pub leads-from : (r : Found) (all : Flow) → IsFlow r nothing → Leads r all all
leads-from r all is = record { flow = nothing; is = is; leads = Q.nothing-then all }

pub leads-to : (r : Found) (rest all : Flow) → rest ≡ nothing → Leads r rest all → IsFlow r all
leads-to r rest all none l = subst (IsFlow r) (sym (Q.then-nothing l.flow) ∙ ap (F.and_then l.flow) (sym none) ∙ l.leads) l.is

-- the formals of a call, as the function has them
pub formals-are : (k : Known) (f : ℕ) (ps : List Parameter) → ps ≡ formals_in k.functions.now f → ps ≡ ((sight k).around.callee f).formals
formals-are k f ps is = is ∙ sym (formals-within (length k.functions.now) k.functions.now f)

pub call-is : (k : Known) (f : ℕ) (ps : List Parameter) (ms : List Meaning) (r : Found) → ps ≡ formals_in k.functions.now f → IsFlow r (F.and_then (F.reading (all_read_in ps ms (sight k))) (all_written_out ps ms (sight k))) → IsFlow r (F.calling f ms (sight k))
call-is k f ps ms r is h = subst (λ qs. IsFlow r (F.and_then (F.reading (all_read_in qs ms (sight k))) (all_written_out qs ms (sight k)))) (formals-are k f ps is) h
