-- Statements in a row, and branches side by side.
use Rattle.std.proofs.Common.{◌≡◌, ◌<◌, ◌≤◌, ◌+◌, ℕ, Bool, true, false, ◌&&◌, ◌||◌, List, [], ◌∷◌, ◌++◌, Result, Ok, Err, refl, arith, ap, sym, ◌∙◌, subst, append_assoc}
use Rattle.sv_types.specs.declared.statement.CaseItem.{CaseItem}
use Rattle.sv_types.specs.declared.statement.Stmt.{Stmt}
use Rattle.sv_types.specs.Surroundings.{Parameter, Sight}
use Rattle.sv_types.specs.Flows as F
use Rattle.sv_types.specs.Flows.{Flow, Flows}
use Rattle.sv_types.specs.Statements.{doing}
use Rattle.flow_sets.specs.declared.found.Found.{Found}
use Rattle.flow_sets.specs.Flows.{IsFlow}
use Rattle.eval_stmts.specs.Limits.{AllItemsFit, AllStmtsFit}
use Rattle.part_flows.proofs.Sequence as Q
use Rattle.stmt_flows.specs.declared.fails.StmtFail.{StmtFail}
use Rattle.stmt_flows.specs.declared.fails.StmtFail.TheVariants as S
use Rattle.stmt_flows.specs.Gives.{FoundGives, AnyGives, IsAnyOf, flows_of, item_flows, most_statements, no_token}
use Rattle.stmt_flows.specs.Long.{LongInOne, item_bodies}
use Rattle.stmt_flows.proofs.Passing as P

pub row-append : (xs ys : List Stmt) (h : Sight) → F.and_then (F.in_turn (flows_of xs) h) (F.in_turn (flows_of ys) h) ≡ F.in_turn (flows_of (xs ++ ys)) h
row-append [] ys h = Q.nothing-then (F.in_turn (flows_of ys) h)
row-append (x ∷ xs) ys h =
    Q.in-a-row ((doing x).flow h) (F.in_turn (flows_of xs) h) (F.in_turn (flows_of ys) h) ∙ ap (F.and_then ((doing x).flow h)) (row-append xs ys h)

pub row-one : (s : Stmt) (h : Sight) → (doing s).flow h ≡ F.in_turn (flows_of (s ∷ [])) h
row-one s h = sym (Q.then-nothing ((doing s).flow h))

-- three side by side
or-three : (a b c : Bool) → ((a || b) || c) ≡ (a || (b || c))
or-three true b c = refl
or-three false b c = refl

and-three : (a b c : Bool) → ((a && b) && c) ≡ (a && (b && c))
and-three true b c = refl
and-three false b c = refl

pub side-by-side : (f g k : Flow) → F.or_else (F.or_else f g) k ≡ F.or_else f (F.or_else g k)
side-by-side f g k = Q.same (F.or_else (F.or_else f g) k) (F.or_else f (F.or_else g k)) (record {
  reads = append_assoc f.reads g.reads k.reads;
  writes = append_assoc f.writes g.writes k.writes;
  later = append_assoc f.later g.later k.later;
  ends = λ o. or-three (f.ends o) (g.ends o) (k.ends o);
  slips = λ o q. or-three (f.slips o q) (g.slips o q) (k.slips o q);
  early = λ q. append_assoc (f.early q) (g.early q) (k.early q);
  unset = append_assoc f.unset g.unset k.unset;
  unrolls = and-three f.unrolls g.unrolls k.unrolls;
  statements = let e : (f.statements + g.statements) + k.statements ≡ f.statements + (g.statements + k.statements) = omega arith in e;
})

any-append : (xs ys : List CaseItem) (g : Flow) (h : Sight) → F.any_of (item_flows xs) (F.any_of (item_flows ys) g h) h ≡ F.any_of (item_flows (xs ++ ys)) g h
any-append [] ys g h = refl
any-append (x ∷ xs) ys g h = ap (F.or_else ((doing x.body).flow h)) (any-append xs ys g h)

any-more : (is : List CaseItem) (g : Flow) (h : Sight) → g.statements ≤ (F.any_of (item_flows is) g h).statements
any-more [] g h = omega arith
any-more (i ∷ is) g h = omega (arith, any-more is g h)

-- what is known of the items of a `case`
pub any-one : (r : Result Found StmtFail) (counting : Bool) (inner long : ℕ → Type 0) (i : CaseItem) (is : List CaseItem) (h : Sight) → i ∷ [] ≡ is → ((at : ℕ) → inner at → long at) → FoundGives r counting inner ((doing i.body).flow h)
    → AnyGives r counting long (item_flows is) h
any-one r counting inner long i is h at wide g = subst (λ xs. AnyGives r counting long (item_flows xs) h) at (by r g)
  where
    by : (r : Result Found StmtFail) → FoundGives r counting inner ((doing i.body).flow h) → AnyGives r counting long (item_flows (i ∷ [])) h
    by (Ok r) g = (g.0, record { flow = (doing i.body).flow h; is = g.1; any = λ k. refl })
    by (Err S.Memory) g = tt
    by (Err (S.TooLong t)) g = wide t g
    by (Err S.TooMany) g = (g.0, λ k. omega (arith, g.1))

pub any-first-fails : (r : Result Found StmtFail) (x : StmtFail) (counting : Bool) (inner long : ℕ → Type 0) (xs ys is : List CaseItem) (h : Sight) → r ≡ Err x → xs ++ ys ≡ is → ((at : ℕ) → inner at → long at)
    → AnyGives (Err x) counting inner (item_flows xs) h → AnyGives r counting long (item_flows is) h
any-first-fails r S.Memory counting inner long xs ys is h at parts wide g = subst (λ q. AnyGives q counting long (item_flows is) h) (sym at) tt
any-first-fails r (S.TooLong t) counting inner long xs ys is h at parts wide g = subst (λ q. AnyGives q counting long (item_flows is) h) (sym at) (wide t g)
any-first-fails r S.TooMany counting inner long xs ys is h at parts wide g =
    subst (λ q. AnyGives q counting long (item_flows is) h) (sym at) (subst (λ zs. AnyGives (Err S.TooMany) counting long (item_flows zs) h) parts
    (g.0, λ k. subst (λ (f : Flow). most_statements < f.statements) (any-append xs ys k h) (g.1 (F.any_of (item_flows ys) k h))))

pub any-other-fails : (r : Result Found StmtFail) (x : StmtFail) (counting : Bool) (inner long : ℕ → Type 0) (xs ys is : List CaseItem) (h : Sight) → r ≡ Err x → xs ++ ys ≡ is → ((at : ℕ) → inner at → long at)
    → AnyGives (Err x) counting inner (item_flows ys) h → AnyGives r counting long (item_flows is) h
any-other-fails r S.Memory counting inner long xs ys is h at parts wide g = subst (λ q. AnyGives q counting long (item_flows is) h) (sym at) tt
any-other-fails r (S.TooLong t) counting inner long xs ys is h at parts wide g = subst (λ q. AnyGives q counting long (item_flows is) h) (sym at) (wide t g)
any-other-fails r S.TooMany counting inner long xs ys is h at parts wide g =
    subst (λ q. AnyGives q counting long (item_flows is) h) (sym at) (subst (λ zs. AnyGives (Err S.TooMany) counting long (item_flows zs) h) parts
    (g.0, λ k. subst (λ (f : Flow). most_statements < f.statements) (any-append xs ys k h) (omega (arith, g.1 k, any-more xs (F.any_of (item_flows ys) k h) h))))

pub any-both : (r : Result Found StmtFail) (a b : Found) (counting : Bool) (long : ℕ → Type 0) (xs ys is : List CaseItem) (h : Sight) → xs ++ ys ≡ is → IsAnyOf a (item_flows xs) h → IsAnyOf b (item_flows ys) h
    → ((f g : Flow) → IsFlow a f → IsFlow b g → FoundGives r counting no_token (F.or_else f g)) → AnyGives r counting long (item_flows is) h
any-both r a b counting long xs ys is h parts x y gives = subst (λ zs. AnyGives r counting long (item_flows zs) h) parts (by r (gives x.flow y.flow x.is y.is))
  where
    all : (k : Flow) → F.or_else (F.or_else x.flow y.flow) k ≡ F.any_of (item_flows (xs ++ ys)) k h
    all k = side-by-side x.flow y.flow k ∙ x.any (F.or_else y.flow k) ∙ ap (λ g. F.any_of (item_flows xs) g h) (y.any k) ∙ any-append xs ys k h

    by : (r : Result Found StmtFail) → FoundGives r counting no_token (F.or_else x.flow y.flow) → AnyGives r counting long (item_flows (xs ++ ys)) h
    by (Ok r) g = (g.0, record { flow = F.or_else x.flow y.flow; is = g.1; any = all })
    by (Err S.Memory) g = tt
    by (Err (S.TooLong t)) g = absurd g
    by (Err S.TooMany) g = (g.0, λ k. subst (λ (f : Flow). most_statements < f.statements) (all k) (omega (arith, g.1)))

-- the branches of a `case`
pub branch-fails : (r : Result Found StmtFail) (x : StmtFail) (counting : Bool) (inner long : ℕ → Type 0) (is : List CaseItem) (g : Flow) (h : Sight) → r ≡ Err x → ((at : ℕ) → inner at → long at)
    → AnyGives (Err x) counting inner (item_flows is) h → FoundGives r counting long (F.any_of (item_flows is) g h)
branch-fails r S.Memory counting inner long is g h at wide gives = subst (λ q. FoundGives q counting long (F.any_of (item_flows is) g h)) (sym at) tt
branch-fails r (S.TooLong t) counting inner long is g h at wide gives = subst (λ q. FoundGives q counting long (F.any_of (item_flows is) g h)) (sym at) (wide t gives)
branch-fails r S.TooMany counting inner long is g h at wide gives = subst (λ q. FoundGives q counting long (F.any_of (item_flows is) g h)) (sym at) (gives.0, gives.1 g)

pub other-less : (is : List CaseItem) (g : Flow) (h : Sight) → g.statements ≤ (F.any_of (item_flows is) g h).statements
other-less is g h = any-more is g h

-- halves of the items
pub front-items : (xs ys : List CaseItem) (fs : ℕ → List Parameter) (holds : ℕ → Bool) → AllItemsFit (xs ++ ys) fs holds → AllItemsFit xs fs holds
front-items [] ys fs holds f = tt
front-items (x ∷ xs) ys fs holds f = (f.0, front-items xs ys fs holds f.1)

pub back-items : (xs ys : List CaseItem) (fs : ℕ → List Parameter) (holds : ℕ → Bool) → AllItemsFit (xs ++ ys) fs holds → AllItemsFit ys fs holds
back-items [] ys fs holds f = f
back-items (x ∷ xs) ys fs holds f = back-items xs ys fs holds f.1

bodies-append : (xs ys : List CaseItem) → item_bodies xs ++ item_bodies ys ≡ item_bodies (xs ++ ys)
bodies-append [] ys = refl
bodies-append (x ∷ xs) ys = ap (λ ss. x.body ∷ ss) (bodies-append xs ys)

pub front-bodies : (h : Sight) (xs ys : List CaseItem) (at : ℕ) → LongInOne h (item_bodies xs) at → LongInOne h (item_bodies (xs ++ ys)) at
front-bodies h xs ys at l = subst (λ ss. LongInOne h ss at) (bodies-append xs ys) (P.front-one h (item_bodies xs) (item_bodies ys) at l)

pub back-bodies : (h : Sight) (xs ys : List CaseItem) (at : ℕ) → LongInOne h (item_bodies ys) at → LongInOne h (item_bodies (xs ++ ys)) at
back-bodies h xs ys at l = subst (λ ss. LongInOne h ss at) (bodies-append xs ys) (P.back-one h (item_bodies xs) (item_bodies ys) at l)

pub front-stmts : (xs ys : List Stmt) (fs : ℕ → List Parameter) (holds : ℕ → Bool) → AllStmtsFit (xs ++ ys) fs holds → AllStmtsFit xs fs holds
front-stmts [] ys fs holds f = tt
front-stmts (x ∷ xs) ys fs holds f = (f.0, front-stmts xs ys fs holds f.1)

pub back-stmts : (xs ys : List Stmt) (fs : ℕ → List Parameter) (holds : ℕ → Bool) → AllStmtsFit (xs ++ ys) fs holds → AllStmtsFit ys fs holds
back-stmts [] ys fs holds f = f
back-stmts (x ∷ xs) ys fs holds f = back-stmts xs ys fs holds f.1
