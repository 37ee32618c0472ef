-- A list that is whole had room for the statements that were added.
use Rattle.std.proofs.Common.{◌≡◌, ℕ, suc, ◌+◌, true, List, [], ◌∷◌, ◌++◌, map, Option, Some, None, refl, arith, ap, sym, ◌∙◌, subst}
use Rattle.sv_source.specs.declared.token.Spot.{Spot}
use Rattle.sv_types.specs.declared.expression.Expr.{Expr}
use Rattle.sv_types.specs.declared.statement.Local.{Local}
use Rattle.sv_types.specs.declared.statement.Stmt.{Stmt}
use Rattle.sv_types.specs.declared.statement.Stmt.TheVariants as V
use Rattle.sv_types.specs.declared.statement.CaseItem.{CaseItem}
use Rattle.sv_types.specs.declared.statement.Outcome.TheVariants as X
use Rattle.sv_types.specs.Surroundings.{Sight}
use Rattle.sv_types.specs.Expressions.{meaning}
use Rattle.sv_types.specs.Flows as F
use Rattle.sv_types.specs.Flows.{Flow}
use Rattle.sv_types.specs.Statements.{doing}
use Rattle.sv_types.proofs.DoingLevels as D
use Rattle.sv_types.specs.Runs.{most_turns}
use Rattle.flow_laws.proofs.Terms.{Each, OrNone, Steps, by-stmt}
use Rattle.break_laws.specs.Laws.{formals_of}
use Rattle.stmt_flows.specs.Gives.{flows_of}
use Rattle.stmt_flows.specs.Long.{Loop, those, item_bodies, entered}
use Rattle.stmt_flows.specs.Turns.{turns_of}
use Rattle.stmt_flows.specs.Statements.{loop_flow}
use Rattle.stmt_flows.proofs.Levels as L
use Rattle.design_breaks.specs.declared.Unrolled.{Unrolled}
use Rattle.design_breaks.specs.Unrolling.{starts_of, uncounted, in_turn, valuing, most_statements, looping}
use Rattle.design_breaks.specs.Actions.{actions, is_counted}
use Rattle.loop_laws.specs.Walks.{one_more, see, unrolls_of, walk, walk_all, walk_before}
use Rattle.loop_laws.proofs.Statements as W
use Rattle.unroll_laws.specs.Whole.{Whole}
use Rattle.unroll_laws.proofs.Lists.{zero-more, one-more-is, suc-more, went, whole-see, whole-more, whole-uncounted, as-many}
use Rattle.unroll_laws.proofs.Shapes as S
use Rattle.unroll_laws.proofs.Shapes.{IsBounded, Shape, sum_of}
use Rattle.unroll_laws.proofs.Loops as O
use Rattle.unroll_laws.proofs.Loops.{control, WholeLoop, turns-count}

abbrev pub Claim : Stmt → Type 0
Claim s = (h : Sight) (u : Unrolled) (n : ℕ) → IsBounded h s → Whole (walk (formals_of h) s h u) n → Whole u (((doing s).flow h).statements + n)

add-assoc : (a b n : ℕ) → a + (b + n) ≡ (a + b) + n
add-assoc a b n = omega arith

pub all-count : (ss : List Stmt) → Each Claim ss → (h : Sight) (u : Unrolled) (n : ℕ) → Each (IsBounded h) ss → Whole (walk_all (formals_of h) ss h u) n → Whole u (sum_of ss h + n)
all-count [] c h u n b w = as-many u n (0 + n) (sym (zero-more n)) w
all-count (s ∷ ss) c h u n b w =
    as-many u (((doing s).flow h).statements + (sum_of ss h + n)) (sum_of (s ∷ ss) h + n) (add-assoc ((doing s).flow h).statements (sum_of ss h) n)
    (c.0 h u (sum_of ss h + n) b.0 (all-count ss c.1 h (walk (formals_of h) s h u) n b.1 w))

-- statements that count once and then have parts
pub shape-counts : (s : Stmt) (es : List Expr) (ss : List Stmt) → ((h : Sight) → Shape s h es ss) → Each Claim ss → Claim s
shape-counts s es ss shape c h u n b w =
    let sh = shape h in
    let v = subst (λ (x : Unrolled). Whole x n) (sh.walks u) w in
    let p = all-count ss c h (see es h (one_more u)) n (sh.bounded b) v in
    let q = whole-see es h (one_more u) (sum_of ss h + n) p in
    as-many u (suc (sum_of ss h + n)) (((doing s).flow h).statements + n) (suc-more (sum_of ss h) n ∙ ap (λ k. k + n) (sym sh.counts)) (whole-more u (sum_of ss h + n) q.1)

-- calls whose operands depend on what is seen
pub call-counts : (s : Stmt) (f : ℕ) (es : List Expr) (spot : Spot) → s ≡ V.Call f es spot → Claim s
call-counts s f es spot is h u n b w =
    let sh = S.shape-Call s f es spot h is in
    let v = subst (λ (x : Unrolled). Whole x n) (sh.walks u) w in
    let q = whole-see _ h (one_more u) n v in
    as-many u (suc n) (((doing s).flow h).statements + n) (one-more-is n ∙ ap (λ k. k + n) (sym sh.counts)) (whole-more u n q.1)

-- what stands before the body of a replaced call
pub record WholeBefore (ls : List Local) (ss : List Stmt) (h : Sight) (u : Unrolled) (n : ℕ) : Type 0 where
  pub left : ℕ
  pub list : Unrolled
  pub whole : Whole (walk_all (formals_of h) ss h (see (starts_of ls) h list)) left
  pub room : Whole u n

pub before : (ls : List Local) (ss : List Stmt) → Each Claim ss → (h : Sight) (u : Unrolled) (n : ℕ) → Each (IsBounded h) ss → Whole (walk_before (formals_of h) ls ss h u) n → WholeBefore ls ss h u n
before ls ss c h u n b w =
    went (uncounted (in_turn (valuing (starts_of ls) ∷ map (unrolls_of (formals_of h)) ss))) h u n w (λ l is v.
    let p = whole-uncounted (in_turn (valuing (starts_of ls) ∷ map (unrolls_of (formals_of h)) ss)) h u n v in
    let q = all-count ss c h (see (starts_of ls) h (record u { left = Some most_statements })) p.0.0 b p.0.1 in
    let r = whole-see (starts_of ls) h (record u { left = Some most_statements }) (sum_of ss h + p.0.0) q in
    record { left = p.0.0; list = record u { left = Some most_statements }; whole = p.0.1; room = record { left = p.1; none = r.1.none } })

bare-counts : (ls : List Local) (ss : List Stmt) → Each Claim ss → Claim (V.Made ls ss None)
bare-counts ls ss c h u n b w =
    let s = V.Made ls ss None in
    let all = S.bounded-stmts h ss (S.bounded-level s s _ h refl (D.doing-Made ls ss None) b) in
    let p = before ls ss c h (one_more u) n all (subst (λ (x : Unrolled). Whole x n) (W.walk-bare (formals_of h) s ls ss h u refl) w) in
    as-many u (suc n) (((doing s).flow h).statements + n) (one-more-is n ∙ ap (λ (f : Flow). f.statements + n) (L.flow-Made s ls ss None h refl)) (whole-more u n p.room)

pub front : (P : Stmt → Type 0) (ss : List Stmt) (t : Stmt) → Each P (ss ++ t ∷ []) → Each P ss × P t
front P [] t e = (tt, e.0)
front P (s ∷ ss) t e = let r = front P ss t e.1 in ((e.0, r.0), r.1)

made-counts : (ls : List Local) (ss : List Stmt) (t : Stmt) → Each Claim ss → Claim t → Claim (V.Made ls ss (Some t))
made-counts ls ss t c d h u n b w =
    let s = V.Made ls ss (Some t) in
    let all = front (IsBounded h) ss t (S.bounded-more h ss t (S.bounded-level s s _ h refl (D.doing-Made ls ss (Some t)) b)) in
    let body = ((doing t).flow h).statements in
    let v = d h (walk_before (formals_of h) ls ss h u) n all.1 (subst (λ (x : Unrolled). Whole x n) (W.walk-Made (formals_of h) s ls ss t h u refl) w) in
    let p = before ls ss c h u (body + n) all.0 v in
    as-many u (body + n) (((doing s).flow h).statements + n)
    (ap (λ k. k + n) (sym (zero-more body) ∙ sym (S.scope-counts ls (λ k. F.and_then (record (F.in_turn (flows_of ss) k) { statements = 0 }) ((doing t).flow k)) h) ∙ ap (λ (f : Flow). f.statements) (L.flow-Made s ls ss (Some t) h refl))) p.room

-- loops
loop-counts : (l : Loop) (h : Sight) → (meaning l.first).constant h ≡ true → (loop_flow l h).statements ≡ (turns_of l most_turns (entered l h)).statements
loop-counts l h constant = zero-more (F.only_if ((meaning l.first).constant h) all F.endless h).statements ∙ ap (λ b. (F.only_if b all F.endless h).statements) constant
  where
    all : F.Flows
    all j = F.catching X.Break (turns_of l most_turns (entered l j))

pub loop-turns : (s : Stmt) (l : Loop) (spot : Spot) (h : Sight) (u : Unrolled) (n : ℕ) → s ≡ V.Loop l.variable l.first l.test l.step l.body spot → IsBounded h s → Whole (walk (formals_of h) s h u) n → WholeLoop l spot h u n
loop-turns s l spot h u n is b w =
    went (λ j v. looping (is_counted (control l spot) (actions l.body) (formals_of h) j) (control l spot) (O.adds l h) j v) h u n
    (subst (λ (x : Unrolled). Whole x n) (W.walk-Loop (formals_of h) s l.variable l.first l.test l.step l.body spot h u is) w)
    (λ m some v. O.unrolled l spot h u n (S.bounded-level s (V.Loop l.variable l.first l.test l.step l.body spot) _ h is (D.doing-Loop l.variable l.first l.test l.step l.body spot) b) v)

pub loop-count : (l : Loop) (spot : Spot) → Claim l.body → Claim (V.Loop l.variable l.first l.test l.step l.body spot)
loop-count l spot c h u n b w =
    let s = V.Loop l.variable l.first l.test l.step l.body spot in
    let t = loop-turns s l spot h u n refl b w in
    as-many u ((turns_of l most_turns (entered l h)).statements + n) (((doing s).flow h).statements + n)
    (ap (λ k. k + n) (sym (loop-counts l h t.constant) ∙ ap (λ (f : Flow). f.statements) (L.flow-Loop s l.variable l.first l.test l.step l.body spot h refl)))
    (turns-count l spot c most_turns (entered l h) u n t.lasts t.whole)

-- all statements
bodies-count : (is : List CaseItem) → Each (λ (i : CaseItem). Claim i.body) is → Each Claim (item_bodies is)
bodies-count [] c = tt
bodies-count (i ∷ is) c = (c.0, bodies-count is c.1)

other-counts : (other : Option Stmt) → OrNone Claim other → Each Claim (those other)
other-counts None c = tt
other-counts (Some s) c = (c, tt)

made-or-bare : (ls : List Local) (ss : List Stmt) (body : Option Stmt) → Each Claim ss → OrNone Claim body → Claim (V.Made ls ss body)
made-or-bare ls ss None c d = bare-counts ls ss c
made-or-bare ls ss (Some t) c d = made-counts ls ss t c d

steps : Steps Claim (λ (i : CaseItem). Claim i.body)
steps = record {
  item = λ i c. c;
  block = λ ls ss c. shape-counts (V.Block ls ss) _ ss (λ h. S.shape-Block _ ls ss h refl) c;
  branch = λ on body other c d. shape-counts (V.If on body other) _ (body ∷ those other) (λ h. S.shape-If _ on body other h refl) (c, other-counts other d);
  select = λ kind on is other c d. shape-counts (V.Case kind on is other) _ (item_bodies is ++ those other) (λ h. S.shape-Case _ kind on is other h refl)
      (S.each-append Claim (item_bodies is) (those other) (bodies-count is c) (other-counts other d));
  loop = λ n first test step body spot c. loop-count (record { variable = n; first = first; test = test; step = step; body = body }) spot c;
  assign = λ to value later spot. shape-counts (V.Assign to value later spot) _ [] (λ h. S.shape-Assign _ to value later spot h refl) tt;
  call = λ f es spot. call-counts (V.Call f es spot) f es spot refl;
  made = λ ls ss body c d. made-or-bare ls ss body c d;
  breaks = shape-counts V.Break [] [] (λ h. S.shape-Break _ h refl) tt;
  continues = shape-counts V.Continue [] [] (λ h. S.shape-Continue _ h refl) tt;
  returns = shape-counts V.Return [] [] (λ h. S.shape-Return _ h refl) tt;
}

pub counts : (s : Stmt) → Claim s
counts = by-stmt Claim (λ (i : CaseItem). Claim i.body) steps

pub each-counts : (ss : List Stmt) → Each Claim ss
each-counts [] = tt
each-counts (s ∷ ss) = (counts s, each-counts ss)
