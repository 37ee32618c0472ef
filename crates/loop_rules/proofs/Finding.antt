-- A body that breaks no rule on loops can be unrolled, and what is known of it is found.
use Rattle.std.proofs.Common.{◌≡◌, ℕ, ◌<◌, ◌≤◌, Bool, true, false, ◌&&◌, ◌||◌, not, List, [], ◌∷◌, ◌++◌, Option, Some, None, Result, Ok, Err, inl, refl, arith, ap, sym, ◌∙◌, subst}
use Rattle.std.specs.Prelude.{is_some}
use Rattle.std.proofs.lemmas.Bool.{false≢true}
use Rattle.sv_types.specs.declared.design.Design.{Design}
use Rattle.sv_types.specs.declared.design.Process.{Process}
use Rattle.sv_types.specs.declared.statement.Function.{Function}
use Rattle.sv_types.specs.declared.statement.Stmt.{Stmt}
use Rattle.sv_types.specs.Statements.{doing}
use Rattle.eval_forms.specs.Callees.{formals_in}
use Rattle.flow_sets.specs.declared.found.Found.{Found}
use Rattle.design_breaks.specs.declared.Unrolled.{Unrolled}
use Rattle.design_breaks.specs.Breaks as B
use Rattle.least_breaks.specs.Least.{IsLeastToken}
use Rattle.flow_breaks.specs.Pieces.{IsFoundOf}
use Rattle.stmt_flows.specs.declared.fails.StmtFail.{StmtFail}
use Rattle.stmt_flows.specs.declared.fails.StmtFail.TheVariants as X
use Rattle.stmt_flows.specs.Gives.{FoundGives, most_statements}
use Rattle.stmt_flows.specs.Long.{LongIn}
use Rattle.stmt_flows.specs.Statements.{unseen_by}
use Rattle.proc_rules.specs.declared.bodies.Loops.{Loops}
use Rattle.proc_rules.specs.Processes.{IsLoops}
use Rattle.proc_rules.specs.Functions.{IsBodyOf}
use Rattle.unroll_laws.specs.Passing.{passes_few}
use Rattle.unroll_laws.proofs.Never.{no-long, few-statements}
use Rattle.loop_rules.specs.Bodies.{IsFoundIn}

-- no rule on loops is broken
none-listed : (ts : List ℕ) (o : Option ℕ) → IsLeastToken ts o → is_some o ≡ false → B.is_none ts ≡ true
none-listed [] o h none = refl
none-listed (t ∷ ts) None h none = absurd (h t (inl refl))
none-listed (t ∷ ts) (Some x) h none = absurd (false≢true (sym none))

some-listed : (ts : List ℕ) (o : Option ℕ) → IsLeastToken ts o → is_some o ≡ true → B.is_none ts ≡ false
some-listed ts None h some = absurd (false≢true some)
some-listed [] (Some x) h some = elim h.there [ ]
some-listed (t ∷ ts) (Some x) h some = refl

none-both : (xs ys : List ℕ) → B.is_none (xs ++ ys) ≡ (B.is_none xs && B.is_none ys)
none-both [] ys = refl
none-both (x ∷ xs) ys = refl

listed-if : (b : Bool) (at : ℕ) → B.is_none (B.only_if b (at ∷ [])) ≡ not b
listed-if true at = refl
listed-if false at = refl

none-endless : (u : Unrolled) → B.is_none (B.endless_at u) ≡ not (is_some u.endless)
none-endless u = by u.endless
  where
    by : (o : Option ℕ) → B.is_none (elim o [ None ↦ [] | Some at ↦ at ∷ [] ]) ≡ not (is_some o)
    by None = refl
    by (Some at) = refl

-- by what is listed
unrolls-by : (a e l : Bool) → (a && (l && e)) ≡ ((a && e) && not (a && not l))
unrolls-by true true true = refl
unrolls-by true true false = refl
unrolls-by true false true = refl
unrolls-by true false false = refl
unrolls-by false e l = refl

pub unrolls-is : (d : Design) (s : Stmt) (l : Loops) → IsLoops d s l → B.unrolls d s ≡ not (is_some l.endless || l.too_long)
unrolls-is d s l h =
    let u = B.unrolled d s in
    let a = B.is_none (B.unbounded_of d s) in
    unrolls-by a (not (is_some u.endless)) (is_some u.left)
    ∙ (λ i. (a && sym (none-endless u) i) && long i)
    ∙ ap (λ b. b && not l.too_long) (sym (none-both (B.unbounded_of d s) (B.endless_at u)) ∙ ends (is_some l.endless) refl)
    ∙ both (is_some l.endless) l.too_long
  where
    ends : (b : Bool) → is_some l.endless ≡ b → B.is_none (B.endless_of d s) ≡ not b
    ends true is = some-listed (B.endless_of d s) l.endless h.endless is
    ends false is = none-listed (B.endless_of d s) l.endless h.endless is

    long : not (B.is_none (B.unbounded_of d s) && not (is_some (B.unrolled d s).left)) ≡ not l.too_long
    long = sym (listed-if (B.is_none (B.unbounded_of d s) && not (is_some (B.unrolled d s).left)) 0) ∙ ap B.is_none (h.too_long 0) ∙ listed-if l.too_long 0

    both : (x y : Bool) → (not x && not y) ≡ not (x || y)
    both true y = refl
    both false y = refl

pub broken-none : (d : Design) (s : Stmt) (l : Loops) → IsLoops d s l → (is_some l.endless || l.too_long) ≡ true → IsFoundIn d s None
broken-none d s l h is = unrolls-is d s l h ∙ ap not is

pub sound : (d : Design) (s : Stmt) (l : Loops) → IsLoops d s l → (is_some l.endless || l.too_long) ≡ false → B.unrolls d s ≡ true
sound d s l h is = unrolls-is d s l h ∙ ap not is

-- what is known of a body that can be unrolled
abbrev pub FoundIs : Result Found StmtFail → Design → Stmt → Type 0
FoundIs (Ok f) d s = IsFoundIn d s (Some f)
FoundIs (Err X.Memory) d s = Unit {0}
FoundIs (Err (X.TooLong at)) d s = IsFoundIn d s None
FoundIs (Err X.TooMany) d s = IsFoundIn d s None

same-found : (d : Design) (s : Stmt) (r : Result Found StmtFail) → B.unrolls d s ≡ true → passes_few (formals_in d.functions) s ≡ true
    → FoundGives r true (LongIn (unseen_by d.functions) s) ((doing s).flow (unseen_by d.functions)) → FoundIs r d s
same-found d s (Ok f) is few g = (is, g.1)
same-found d s (Err X.Memory) is few g = tt
same-found d s (Err (X.TooLong at)) is few g = absurd (no-long d s at is few g)
same-found d s (Err X.TooMany) is few g = absurd (too-many most_statements ((doing s).flow (unseen_by d.functions)).statements (few-statements d s is) g.1)
  where
    too-many : (most n : ℕ) → n ≤ most → most < n → ⊥
    too-many most n few many = omega (arith, few, many)

pub found-is : (d : Design) (fs : List Function) (s : Stmt) (r : Result Found StmtFail) → fs ≡ d.functions → B.unrolls d s ≡ true → passes_few (formals_in d.functions) s ≡ true
    → FoundGives r true (LongIn (unseen_by fs) s) ((doing s).flow (unseen_by fs)) → FoundIs r d s
found-is d fs s r same is few g = same-found d s r is few (subst (λ xs. FoundGives r true (LongIn (unseen_by xs) s) ((doing s).flow (unseen_by xs))) same g)

-- of a process, and of a function
pub process-found : (d : Design) (p : Process) (f : Option Found) → IsFoundIn d p.body f → IsFoundOf d p f
process-found d p None h = h
process-found d p (Some f) h = h

pub function-found : (d : Design) (g : Function) (f : Option Found) → IsFoundIn d g.body f → IsBodyOf d g f
function-found d g None h = h
function-found d g (Some f) h = h
