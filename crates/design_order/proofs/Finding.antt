-- What is found of processes whose loops can be unrolled.
use Rattle.std.proofs.Common.{◌≡◌, ℕ, zero, suc, ◌+◌, ◌<◌, ◌≤◌, true, List, [], ◌∷◌, ◌++◌, length, length-append, get_or, Some, None, Result, Err, refl, arith, ap, sym, ◌∙◌, subst}
use Rattle.std.specs.Prelude.{slice_get}
use Rattle.std.proofs.lemmas.Option.{slice_get_read}
use Rattle.sv_types.specs.declared.design.Design.{Design}
use Rattle.sv_types.specs.declared.design.Process.{Process}
use Rattle.sv_types.specs.declared.statement.Function.{Function}
use Rattle.sv_types.specs.declared.statement.Stmt.{Stmt}
use Rattle.sv_types.specs.Statements.{doing}
use Rattle.eval_forms.specs.Callees.{formals_in}
use Rattle.flow_sets.specs.declared.found.Found.{Found}
use Rattle.flow_sets.specs.Flows.{IsFlow}
use Rattle.design_breaks.specs.Memories.{flow}
use Rattle.design_breaks.specs.Breaks.{breaks, least_of, unrolls}
use Rattle.break_laws.proofs.Standing.{some-least, keeps}
use Rattle.stmt_flows.specs.declared.fails.StmtFail.{StmtFail}
use Rattle.stmt_flows.specs.declared.fails.StmtFail.TheVariants as X
use Rattle.stmt_flows.specs.Gives.{FoundGives, most_statements}
use Rattle.stmt_flows.specs.Long.{LongIn}
use Rattle.stmt_flows.specs.Statements.{unseen_by}
use Rattle.unroll_laws.specs.Passing.{passes_few}
use Rattle.unroll_laws.proofs.Never.{no-long, few-statements}

-- no process of an unbroken design breaks a rule on loops
pub all-unroll : (d : Design) → least_of (breaks d) ≡ None → (n : ℕ) (p : Process) → slice_get d.processes n ≡ Some p → unrolls d p.body ≡ true
all-unroll d none n p is = let own = keeps d (some-least (breaks d) none) n p is in own.can

-- nothing takes too long in what can be unrolled, and no more statements stand than may
pub never-long : (d : Design) (fs : List Function) (s : Stmt) (r : Result Found StmtFail) (e : StmtFail) (at : ℕ) → fs ≡ d.functions → unrolls d s ≡ true → passes_few (formals_in d.functions) s ≡ true
    → FoundGives r true (LongIn (unseen_by fs) s) ((doing s).flow (unseen_by fs)) → r ≡ Err e → e ≡ X.TooLong at → ⊥
never-long d fs s r e at same is few gives failed long =
    no-long d s at is few
    (subst (λ xs. LongIn (unseen_by xs) s at) same
    (subst (λ x. FoundGives x true (LongIn (unseen_by fs) s) ((doing s).flow (unseen_by fs))) (failed ∙ ap Err long) gives))

too-many : (most n : ℕ) → n ≤ most → most < n → ⊥
too-many most n few many = omega (arith, few, many)

pub never-many : (d : Design) (fs : List Function) (s : Stmt) (r : Result Found StmtFail) (e : StmtFail) → fs ≡ d.functions → unrolls d s ≡ true
    → FoundGives r true (LongIn (unseen_by fs) s) ((doing s).flow (unseen_by fs)) → r ≡ Err e → e ≡ X.TooMany → ⊥
never-many d fs s r e same is gives failed many =
    let over = subst (λ x. FoundGives x true (LongIn (unseen_by fs) s) ((doing s).flow (unseen_by fs))) (failed ∙ ap Err many) gives in
    too-many most_statements ((doing s).flow (unseen_by d.functions)).statements (few-statements d s is)
    (subst (λ xs. most_statements < ((doing s).flow (unseen_by xs)).statements) same over.1)

-- what is found of the first k processes
pub record AreFlowsUpTo (d : Design) (k : ℕ) (fs : List Found) : Type 0 where
  pub count : length fs ≡ k
  pub each : (n : ℕ) (p : Process) (f : Found) → slice_get d.processes n ≡ Some p → slice_get fs n ≡ Some f → IsFlow f (flow d p)

some-same : {A : Type 0} (a b : A) → Some a ≡ Some b → a ≡ b
some-same a b is = cc

none-some : {A : Type 0} (a : A) → None ≡ Some a → ⊥
none-some a is = cc

each-more : (P : Process → Found → Type 0) (ps : List Process) (fs : List Found) (q : Process) (g : Found) → slice_get ps (length fs) ≡ Some q → P q g
    → ((n : ℕ) (p : Process) (f : Found) → slice_get ps n ≡ Some p → slice_get fs n ≡ Some f → P p f)
    → (n : ℕ) (p : Process) (f : Found) → slice_get ps n ≡ Some p → slice_get (fs ++ g ∷ []) n ≡ Some f → P p f
each-more P [] fs q g at r each n p f is has = absurd (none-some p is)
each-more P (x ∷ ps) [] q g at r each zero p f is has = subst (λ a. P a f) (some-same q p (sym at ∙ is)) (subst (P q) (some-same g f has) r)
each-more P (x ∷ ps) [] q g at r each (suc n) p f is has = absurd (none-some f has)
each-more P (x ∷ ps) (y ∷ fs) q g at r each zero p f is has = each zero p f is has
each-more P (x ∷ ps) (y ∷ fs) q g at r each (suc n) p f is has = each-more P ps fs q g at r (λ m a b. each (suc m) a b) n p f is has

pub flows-more : (d : Design) (k : ℕ) (fs new : List Found) (p : Process) (f : Found) → slice_get d.processes k ≡ Some p → IsFlow f (flow d p) → AreFlowsUpTo d k fs → new ≡ fs ++ f ∷ [] → AreFlowsUpTo d (k + 1) new
flows-more d k fs new p f there is a grown =
    subst (AreFlowsUpTo d (k + 1)) (sym grown)
    (record {
      count = length-append fs (f ∷ []) ∙ ap (λ n. n + 1) a.count;
      each = each-more (λ q g. IsFlow g (flow d q)) d.processes fs p f (ap (slice_get d.processes) a.count ∙ there) is a.each;
    })

pub item-there : (ps qs : List Process) (k : ℕ) (p : Process) → qs ≡ ps → k < length qs → p ≡ get_or qs k p → slice_get ps k ≡ Some p
item-there ps qs k p same low is = subst (λ (xs : List Process). slice_get xs k ≡ Some p) same (slice_get_read qs (length qs) k p refl low is)
