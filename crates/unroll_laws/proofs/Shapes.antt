-- Statements that count once, value expressions and then have parts.
use Rattle.std.proofs.Common.{◌≡◌, ℕ, suc, ◌+◌, Bool, true, false, ◌&&◌, List, [], ◌∷◌, ◌++◌, map, length, Option, Some, None, refl, arith, ap, sym, ◌∙◌, rules}
use Rattle.std.specs.Prelude.{nat_le}
use Rattle.std.specs.List.{list_all}
use Rattle.std.proofs.lemmas.Bool.{and_parts}
use Rattle.sv_source.specs.declared.token.Spot.{Spot}
use Rattle.sv_types.specs.declared.expression.Expr.{Expr}
use Rattle.sv_types.specs.declared.statement.CaseKind.{CaseKind}
use Rattle.sv_types.specs.declared.statement.CaseItem.{CaseItem}
use Rattle.sv_types.specs.declared.statement.Local.{Local}
use Rattle.sv_types.specs.declared.statement.Stmt.{Stmt, the_lemmas}
use Rattle.sv_types.specs.declared.statement.Stmt.TheVariants as V
use Rattle.sv_types.specs.declared.statement.Way.{Way}
use Rattle.sv_types.specs.declared.statement.Way.TheVariants as Y
use Rattle.sv_types.specs.Surroundings.{Parameter, Sight}
use Rattle.sv_types.specs.Meanings.{Meaning}
use Rattle.sv_types.specs.Expressions.{meaning}
use Rattle.sv_types.specs.Flows as F
use Rattle.sv_types.specs.Flows.{Flow, Flows}
use Rattle.sv_types.specs.Statements.{Doing, Item, doing, scope_flow, marks_of, initial_of, none_or}
use Rattle.sv_types.proofs.DoingLevels as D
use Rattle.sv_types.proofs.DoingLevels.{item_of, item-of, perhaps}
use Rattle.flow_laws.proofs.Terms.{Each}
use Rattle.break_laws.specs.Laws.{formals_of}
use Rattle.expr_flows.specs.Full.{every}
use Rattle.stmt_flows.specs.Gives.{flows_of, perhaps_flow, item_flows}
use Rattle.stmt_flows.specs.Long.{those, item_values, item_bodies}
use Rattle.stmt_flows.proofs.Levels as L
use Rattle.design_breaks.specs.declared.Unrolled.{Unrolled}
use Rattle.design_breaks.specs.Unrolling.{starts_of}
use Rattle.design_breaks.specs.Actions.{passed_to}
use Rattle.loop_laws.specs.Walks as K
use Rattle.loop_laws.specs.Walks.{Formals, one_more, see, walk, walk_all, bodies}
use Rattle.loop_laws.proofs.Rows.{see-append, see-none}
use Rattle.loop_laws.proofs.Statements as W
use Rattle.unroll_laws.proofs.Lists.{zero-more}
use Rattle.unroll_laws.specs.Passing.{passes_few, item_passes_few, all_pass_few, perhaps_passes_few}

abbrev pub IsBounded : Sight → Stmt → Type 0
IsBounded h s = (doing s).bounded h ≡ true

abbrev pub PassesFew : Formals → Stmt → Type 0
PassesFew fs s = passes_few fs s ≡ true

-- so many statements in all
abbrev pub sum_of : List Stmt → Sight → ℕ
sum_of ss h = (F.in_turn (flows_of ss) h).statements

pub record Shape (s : Stmt) (h : Sight) (es : List Expr) (ss : List Stmt) : Type 0 where
  pub walks : (u : Unrolled) → walk (formals_of h) s h u ≡ walk_all (formals_of h) ss h (see es h (one_more u))
  pub counts : ((doing s).flow h).statements ≡ suc (sum_of ss h)
  pub bounded : IsBounded h s → Each (IsBounded h) ss
  pub few : PassesFew (formals_of h) s → Each (PassesFew (formals_of h)) ss

-- a level of what it does
pub bounded-level : (s t : Stmt) (d : Doing) (h : Sight) → s ≡ t → doing t ≡ d → IsBounded h s → d.bounded h ≡ true
bounded-level s t d h is level b = sym (ap (λ (x : Stmt). (doing x).bounded h) is ∙ ap (λ (x : Doing). x.bounded h) level) ∙ b

pub few-level : (fs : Formals) (s t : Stmt) (b : Bool) → s ≡ t → passes_few fs t ≡ b → PassesFew fs s → b ≡ true
few-level fs s t b is level few = sym (ap (passes_few fs) is ∙ level) ∙ few

abbrev all_bounded : Sight → List Doing → Bool
all_bounded h ds = list_all (λ (d : Doing). d.bounded h) ds

pub bounded-stmts : (h : Sight) (ss : List Stmt) → all_bounded h (map doing ss) ≡ true → Each (IsBounded h) ss
bounded-stmts h [] b = tt
bounded-stmts h (s ∷ ss) b = let p = and_parts ((doing s).bounded h) (all_bounded h (map doing ss)) b in (p.0, bounded-stmts h ss p.1)

bounded-other : (h : Sight) (other : Option Stmt) → all_bounded h (none_or (perhaps other)) ≡ true → Each (IsBounded h) (those other)
bounded-other h None b = tt
bounded-other h (Some s) b = ((and_parts ((doing s).bounded h) true b).0, tt)

bounded-items : (h : Sight) (is : List CaseItem) (other : Option Stmt) → all_bounded h (map (λ (i : Item). i.does) (map item_of is) ++ none_or (perhaps other)) ≡ true → Each (IsBounded h) (item_bodies is ++ those other)
bounded-items h [] other b = bounded-other h other b
bounded-items h (i ∷ is) other b =
    let p = and_parts ((item_of i).does.bounded h) (all_bounded h (map (λ (j : Item). j.does) (map item_of is) ++ none_or (perhaps other))) b in
    (sym (ap (λ (x : Item). x.does.bounded h) (item-of i)) ∙ p.0, bounded-items h is other p.1)

pub bounded-more : (h : Sight) (ss : List Stmt) (t : Stmt) → all_bounded h (map doing ss ++ doing t ∷ []) ≡ true → Each (IsBounded h) (ss ++ t ∷ [])
bounded-more h [] t b = ((and_parts ((doing t).bounded h) true b).0, tt)
bounded-more h (s ∷ ss) t b = let p = and_parts ((doing s).bounded h) (all_bounded h (map doing ss ++ doing t ∷ [])) b in (p.0, bounded-more h ss t p.1)

-- what passes few
pub few-stmts : (fs : Formals) (ss : List Stmt) → all_pass_few fs ss ≡ true → Each (PassesFew fs) ss
few-stmts fs [] b = tt
few-stmts fs (s ∷ ss) b = let p = and_parts (passes_few fs s) (all_pass_few fs ss) b in (p.0, few-stmts fs ss p.1)

few-other : (fs : Formals) (other : Option Stmt) → perhaps_passes_few fs other ≡ true → Each (PassesFew fs) (those other)
few-other fs None b = tt
few-other fs (Some s) b = (b, tt)

pub each-append : (P : Stmt → Type 0) (ss ts : List Stmt) → Each P ss → Each P ts → Each P (ss ++ ts)
each-append P [] ts a b = b
each-append P (s ∷ ss) ts a b = (a.0, each-append P ss ts a.1 b)

level-item : (fs : Formals) (i : CaseItem) → item_passes_few fs i ≡ passes_few fs i.body
level-item fs i = search (rules, the_lemmas)

few-items : (fs : Formals) (is : List CaseItem) → every (map (item_passes_few fs) is) ≡ true → Each (PassesFew fs) (item_bodies is)
few-items fs [] b = tt
few-items fs (i ∷ is) b = let p = and_parts (item_passes_few fs i) (every (map (item_passes_few fs) is)) b in (sym (level-item fs i) ∙ p.0, few-items fs is p.1)

level-Block : (fs : Formals) (ls : List Local) (ss : List Stmt) → passes_few fs (V.Block ls ss) ≡ all_pass_few fs ss
level-Block fs ls ss = search (rules, the_lemmas)

level-If : (fs : Formals) (on : Expr) (body : Stmt) (other : Option Stmt) → passes_few fs (V.If on body other) ≡ (passes_few fs body && perhaps_passes_few fs other)
level-If fs on body None = search (rules, the_lemmas)
level-If fs on body (Some s) = search (rules, the_lemmas)

level-Case : (fs : Formals) (kind : CaseKind) (on : Expr) (is : List CaseItem) (other : Option Stmt) → passes_few fs (V.Case kind on is other) ≡ (every (map (item_passes_few fs) is) && perhaps_passes_few fs other)
level-Case fs kind on is None = search (rules, the_lemmas)
level-Case fs kind on is (Some s) = search (rules, the_lemmas)

pub level-Loop : (fs : Formals) (n : ℕ) (first test step : Expr) (body : Stmt) (spot : Spot) → passes_few fs (V.Loop n first test step body spot) ≡ passes_few fs body
level-Loop fs n first test step body spot = search (rules, the_lemmas)

pub level-Call : (fs : Formals) (f : ℕ) (es : List Expr) (spot : Spot) → passes_few fs (V.Call f es spot) ≡ nat_le (length es) (length (fs f))
level-Call fs f es spot = search (rules, the_lemmas)

level-Made : (fs : Formals) (ls : List Local) (before : List Stmt) (body : Option Stmt) → passes_few fs (V.Made ls before body) ≡ (all_pass_few fs before && perhaps_passes_few fs body)
level-Made fs ls before None = search (rules, the_lemmas)
level-Made fs ls before (Some s) = search (rules, the_lemmas)

pub few-made : (fs : Formals) (s : Stmt) (ls : List Local) (before : List Stmt) (body : Option Stmt) → s ≡ V.Made ls before body → PassesFew fs s → Each (PassesFew fs) (before ++ those body)
few-made fs s ls before body is few =
    let p = and_parts (all_pass_few fs before) (perhaps_passes_few fs body) (few-level fs s (V.Made ls before body) _ is (level-Made fs ls before body) few) in
    each-append (PassesFew fs) before (those body) (few-stmts fs before p.0) (few-other fs body p.1)

-- statements in a row
pub those-same : (o : Option Stmt) → K.those o ≡ those o
those-same None = refl
those-same (Some s) = refl

pub walk-append : (fs : Formals) (ss ts : List Stmt) (h : Sight) (u : Unrolled) → walk_all fs ts h (walk_all fs ss h u) ≡ walk_all fs (ss ++ ts) h u
walk-append fs [] ts h u = refl
walk-append fs (s ∷ ss) ts h u = walk-append fs ss ts h (walk fs s h u)

-- how many statements there are
pub scope-counts : (ls : List Local) (f : Flows) (h : Sight) → (scope_flow ls f h).statements ≡ (f h).statements
scope-counts [] f h = refl
scope-counts (l ∷ ls) f h = by (initial_of l) ∙ scope-counts ls f h
  where
    by : (o : Option Meaning) → (F.and_then (F.starting l.number (marks_of l) o h) (F.unset_in l.number (marks_of l) o (scope_flow ls f h))).statements ≡ (scope_flow ls f h).statements
    by None = zero-more (scope_flow ls f h).statements
    by (Some m) = zero-more (scope_flow ls f h).statements

none-more : (n : ℕ) → n ≡ n + 0
none-more n = omega arith

other-counts : (other : Option Stmt) (h : Sight) → (perhaps_flow other h).statements ≡ sum_of (those other) h
other-counts None h = refl
other-counts (Some s) h = none-more ((doing s).flow h).statements

any-counts : (is : List CaseItem) (other : Option Stmt) (h : Sight) → (F.any_of (item_flows is) (perhaps_flow other h) h).statements ≡ sum_of (item_bodies is ++ those other) h
any-counts [] other h = other-counts other h
any-counts (i ∷ is) other h = ap (λ n. ((doing i.body).flow h).statements + n) (any-counts is other h)

assigning-counts : (later : Bool) (to : List Meaning) (value : Meaning) (h : Sight) → (F.assigning later to value h).statements ≡ 0
assigning-counts false to value h = refl
assigning-counts true to value h = refl

out-counts : (w : Way) (m : Meaning) (h : Sight) → (F.writes_out w m h).statements ≡ 0
out-counts Y.Input m h = refl
out-counts Y.Output m h = refl
out-counts Y.Inout m h = refl

outs-count : (ps : List Parameter) (ms : List Meaning) (h : Sight) → (F.all_written_out ps ms h).statements ≡ 0
outs-count [] ms h = refl
outs-count (p ∷ ps) [] h = refl
outs-count (p ∷ ps) (m ∷ ms) h = (λ i. out-counts p.way m h i + outs-count ps ms h i)

counted-by : (s : Stmt) (f : Flow) (h : Sight) (n : ℕ) → f ≡ (doing s).flow h → f.statements ≡ n → ((doing s).flow h).statements ≡ n
counted-by s f h n level is = sym (ap (λ (g : Flow). g.statements) level) ∙ is

-- each form
pub shape-Block : (s : Stmt) (ls : List Local) (ss : List Stmt) (h : Sight) → s ≡ V.Block ls ss → Shape s h (starts_of ls) ss
shape-Block s ls ss h is = record {
  walks = λ u. W.walk-Block (formals_of h) s ls ss h u is;
  counts = counted-by s _ h _ (L.flow-Block s ls ss h is) (ap suc (scope-counts ls (F.in_turn (flows_of ss)) h));
  bounded = λ b. bounded-stmts h ss (bounded-level s (V.Block ls ss) _ h is (D.doing-Block ls ss) b);
  few = λ b. few-stmts (formals_of h) ss (few-level (formals_of h) s (V.Block ls ss) _ is (level-Block (formals_of h) ls ss) b);
}

pub shape-If : (s : Stmt) (on : Expr) (body : Stmt) (other : Option Stmt) (h : Sight) → s ≡ V.If on body other → Shape s h (on ∷ []) (body ∷ those other)
shape-If s on body other h is = record {
  walks = λ u. W.walk-If (formals_of h) s on body other h u is ∙ ap (λ ss. walk_all (formals_of h) ss h (walk (formals_of h) body h (see (on ∷ []) h (one_more u)))) (those-same other);
  counts = counted-by s _ h _ (L.flow-If s on body other h is) (ap suc (zero-more (((doing body).flow h).statements + (perhaps_flow other h).statements)) ∙ ap (λ n. suc (((doing body).flow h).statements + n)) (other-counts other h));
  bounded = λ b.
      let p = and_parts ((doing body).bounded h) (all_bounded h (none_or (perhaps other))) (bounded-level s (V.If on body other) _ h is (D.doing-If on body other) b) in
      (p.0, bounded-other h other p.1);
  few = λ b.
      let p = and_parts (passes_few (formals_of h) body) (perhaps_passes_few (formals_of h) other) (few-level (formals_of h) s (V.If on body other) _ is (level-If (formals_of h) on body other) b) in
      (p.0, few-other (formals_of h) other p.1);
}

pub shape-Case : (s : Stmt) (kind : CaseKind) (on : Expr) (is : List CaseItem) (other : Option Stmt) (h : Sight) → s ≡ V.Case kind on is other → Shape s h (on ∷ item_values is) (item_bodies is ++ those other)
shape-Case s kind on is other h at = record {
  walks = λ u.
      let fs = formals_of h in
      let seen = see (item_values is) h (see (on ∷ []) h (one_more u)) in
      W.walk-Case fs s kind on is other h u at ∙ ap (λ ss. walk_all fs ss h (walk_all fs (bodies is) h seen)) (those-same other) ∙ walk-append fs (item_bodies is) (those other) h seen
      ∙ ap (walk_all fs (item_bodies is ++ those other) h) (sym (see-append (on ∷ []) (item_values is) h (one_more u)));
  counts = counted-by s _ h _ (L.flow-Case s kind on is other h at) (ap suc (zero-more (F.any_of (item_flows is) (perhaps_flow other h) h).statements ∙ any-counts is other h));
  bounded = λ b. bounded-items h is other (bounded-level s (V.Case kind on is other) _ h at (D.doing-Case kind on is other) b);
  few = λ b.
      let fs = formals_of h in
      let p = and_parts (every (map (item_passes_few fs) is)) (perhaps_passes_few fs other) (few-level fs s (V.Case kind on is other) _ at (level-Case fs kind on is other) b) in
      each-append (PassesFew fs) (item_bodies is) (those other) (few-items fs is p.0) (few-other fs other p.1);
}

pub shape-Assign : (s : Stmt) (to : List Expr) (value : Expr) (later : Bool) (spot : Spot) (h : Sight) → s ≡ V.Assign to value later spot → Shape s h (to ++ value ∷ []) []
shape-Assign s to value later spot h is = record {
  walks = λ u. W.walk-Assign (formals_of h) s to value later spot h u is ∙ sym (see-append to (value ∷ []) h (one_more u));
  counts = counted-by s _ h _ (L.flow-Assign s to value later spot h is) (ap suc (assigning-counts later (map meaning to) (meaning value) h));
  bounded = λ b. tt;
  few = λ b. tt;
}

pub shape-Call : (s : Stmt) (f : ℕ) (es : List Expr) (spot : Spot) (h : Sight) → s ≡ V.Call f es spot → Shape s h (passed_to (formals_of h f) es) []
shape-Call s f es spot h is = record {
  walks = λ u. W.walk-Call (formals_of h) s f es spot h u is;
  counts = counted-by s _ h _ (L.flow-Call s f es spot h is) (ap suc (zero-more (F.all_written_out (h.around.callee f).formals (map meaning es) h).statements ∙ outs-count (h.around.callee f).formals (map meaning es) h));
  bounded = λ b. tt;
  few = λ b. tt;
}

jump-walks : (h : Sight) (u v : Unrolled) → v ≡ one_more u → v ≡ walk_all (formals_of h) [] h (see [] h (one_more u))
jump-walks h u v is = is ∙ sym (see-none h (one_more u))

pub shape-Break : (s : Stmt) (h : Sight) → s ≡ V.Break → Shape s h [] []
shape-Break s h is = record { walks = λ u. jump-walks h u _ (W.walk-Break (formals_of h) s h u is); counts = counted-by s _ h _ (L.flow-Break s h is) refl; bounded = λ b. tt; few = λ b. tt }

pub shape-Continue : (s : Stmt) (h : Sight) → s ≡ V.Continue → Shape s h [] []
shape-Continue s h is = record { walks = λ u. jump-walks h u _ (W.walk-Continue (formals_of h) s h u is); counts = counted-by s _ h _ (L.flow-Continue s h is) refl; bounded = λ b. tt; few = λ b. tt }

pub shape-Return : (s : Stmt) (h : Sight) → s ≡ V.Return → Shape s h [] []
shape-Return s h is = record { walks = λ u. jump-walks h u _ (W.walk-Return (formals_of h) s h u is); counts = counted-by s _ h _ (L.flow-Return s h is) refl; bounded = λ b. tt; few = λ b. tt }
