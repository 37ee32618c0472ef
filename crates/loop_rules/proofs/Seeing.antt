-- Expressions that are valued, one after the other.
use Rattle.std.proofs.Common.{◌≡◌, ℕ, zero, suc, true, ◌&&◌, List, [], ◌∷◌, ◌++◌, length, take, min, Option, Some, None, refl, arith, ap, sym, ◌∙◌, subst}
use Rattle.std.proofs.lemmas.Bool.{and_parts}
use Rattle.sv_types.specs.declared.expression.Expr.{Expr}
use Rattle.sv_types.specs.declared.statement.Local.{Local}
use Rattle.sv_types.specs.Operators.{assigned_width}
use Rattle.sv_types.specs.Surroundings.{Parameter, Sight}
use Rattle.sv_types.specs.Expressions.{meaning}
use Rattle.eval_parts.specs.Limits.{AllFit}
use Rattle.eval_stmts.specs.Targets.{ActualsFit}
use Rattle.eval_stmts.proofs.Given.{fits-alone}
use Rattle.expr_flows.specs.Full.{is_full, all_full}
use Rattle.design_breaks.specs.declared.Unrolled.{Unrolled}
use Rattle.design_breaks.specs.Unrolling.{start_of}
use Rattle.design_breaks.specs.Actions.{passed_to}
use Rattle.loop_laws.specs.Walks.{Formals, see}
use Rattle.loop_laws.proofs.Rows.{see-append, see-none}

-- one more, and none
pub see-more : (e : Expr) (es : List Expr) (k : Sight) (u v all : Unrolled) → v ≡ see (e ∷ []) k u → see (e ∷ es) k u ≡ all → see es k v ≡ all
see-more e es k u v all is h = ap (see es k) is ∙ sym (see-append (e ∷ []) es k u) ∙ h

pub see-some : (xs ys : List Expr) (k : Sight) (u v all : Unrolled) → v ≡ see xs k u → see (xs ++ ys) k u ≡ all → see ys k v ≡ all
see-some xs ys k u v all is h = ap (see ys k) is ∙ sym (see-append xs ys k u) ∙ h

pub see-nothing : (es : List Expr) (k : Sight) (u all : Unrolled) → es ≡ [] → see es k u ≡ all → u ≡ all
see-nothing es k u all none h = sym (see-none k u) ∙ sym (ap (λ xs. see xs k u) none) ∙ h

pub full-split : (fs : Formals) (xs ys : List Expr) → all_full fs (xs ++ ys) ≡ true → (all_full fs xs ≡ true) × (all_full fs ys ≡ true)
full-split fs [] ys h = (refl, h)
full-split fs (x ∷ xs) ys h =
    let p = and_parts (is_full fs x) (all_full fs (xs ++ ys)) h in
    let q = full-split fs xs ys p.1 in
    (ap (λ b. b && all_full fs xs) p.0 ∙ q.0, q.1)

-- what locals start with
abbrev written_in : Option Expr → List Expr
written_in o = elim o [ None ↦ [] | Some e ↦ e ∷ [] ]

pub starts-none : (l : Local) (k : Sight) (u : Unrolled) → l.initial ≡ None → u ≡ see (start_of l) k u
starts-none l k u is = sym (ap (λ o. see (written_in o) k u) is ∙ see-none k u)

pub starts-some : (l : Local) (e : Expr) (k : Sight) (u : Unrolled) → l.initial ≡ Some e → see (e ∷ []) k u ≡ see (start_of l) k u
starts-some l e k u is = sym (ap (λ o. see (written_in o) k u) is)

-- what is passed to formals
pub passed-fit : (ps : List Parameter) (es : List Expr) (fs : Formals) → ActualsFit ps es fs → AllFit (take (min (length ps) (length es)) es) fs
passed-fit [] es fs h = subst (λ n. AllFit (take n es) fs) (sym (none (length es))) tt
  where
    none : (n : ℕ) → min 0 n ≡ 0
    none n = omega arith
passed-fit (p ∷ ps) [] fs h = subst (λ n. AllFit (take n []) fs) (sym (none (length ps))) tt
  where
    none : (n : ℕ) → min (suc n) 0 ≡ 0
    none n = omega arith
passed-fit (p ∷ ps) (e ∷ es) fs h =
    subst (λ n. AllFit (take n (e ∷ es)) fs) (sym (more (length ps) (length es))) (fits-alone e fs (assigned_width p.two_state (meaning e)) (omega arith) h.0, passed-fit ps es fs h.1)
  where
    more : (a b : ℕ) → min (suc a) (suc b) ≡ suc (min a b)
    more a b = omega arith

pub passed-are : (ps : List Parameter) (es : List Expr) → take (min (length ps) (length es)) es ≡ passed_to ps es
passed-are [] es = ap (λ n. take n es) (none (length es))
  where
    none : (n : ℕ) → min 0 n ≡ 0
    none n = omega arith
passed-are (p ∷ ps) [] = ap (λ n. take n []) (none (length ps))
  where
    none : (n : ℕ) → min (suc n) 0 ≡ 0
    none n = omega arith
passed-are (p ∷ ps) (e ∷ es) = ap (λ n. take n (e ∷ es)) (more (length ps) (length es)) ∙ ap (λ xs. e ∷ xs) (passed-are ps es)
  where
    more : (a b : ℕ) → min (suc a) (suc b) ≡ suc (min a b)
    more a b = omega arith

pub front-full : (fs : Formals) (n : ℕ) (es : List Expr) → all_full fs es ≡ true → all_full fs (take n es) ≡ true
front-full fs zero es h = refl
front-full fs (suc n) [] h = refl
front-full fs (suc n) (e ∷ es) h =
    let p = and_parts (is_full fs e) (all_full fs es) h in
    ap (λ b. b && all_full fs (take n es)) p.0 ∙ front-full fs n es p.1
