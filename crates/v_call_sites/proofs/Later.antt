-- No call stands before the part of a text that it is in.
use Rattle.std.proofs.Common.{◌≡◌, ℕ, suc, ◌+◌, ◌≤◌, min, Bool, true, false, List, [], ◌∷◌, ◌++◌, map, Option, Some, None, refl, sym, ap, ◌∙◌, subst, arith}
use Rattle.v_tree.specs.Names.{Name}
use Rattle.v_tree.specs.Scopes.{Scope, inside}
use Rattle.v_tree.specs.ExprRules.{only_if, called, rules_of, listed_size}
use Rattle.v_tree.specs.StmtRules.{target_of, locals_from, locals_size, blocks_in}
use Rattle.v_tree.specs.declared.expressions.VExpr.{VExpr, VExpr-F}
use Rattle.v_tree.specs.declared.expressions.VPrim.{VPrim, VPrim-F}
use Rattle.v_tree.specs.declared.expressions.VSel.{VSel}
use Rattle.v_tree.specs.declared.statements.VBranch.{VBranch}
use Rattle.v_tree.specs.declared.statements.VCaseItem.{VCaseItem}
use Rattle.v_tree.specs.declared.statements.VLabel.{VLabel}
use Rattle.v_tree.specs.declared.statements.VLval.{VLval}
use Rattle.v_tree.specs.declared.statements.VStmt.{VStmt, VStmt-F}
use Rattle.v_tree.specs.declared.statements.VStmt.TheVariants as T
use Rattle.v_tree.proofs.Induction as I
use Rattle.v_expr_rules.specs.Seen.{earlier, mark}
use Rattle.v_expr_rules.specs.Least.{cap, first}
use Rattle.v_expr_rules.proofs.Saturation.{earlier-none, earlier-assoc, first-append, first-if}
use Rattle.v_expr_rules.proofs.Levels as L
use Rattle.v_call_sites.specs.Sites.{Site, Sites, back, named_at, calls_from, calls_along, sel_sites, prim_sites, expr_sites, sites_of, prim_sites_of, sel_sites_of}
use Rattle.v_call_sites.specs.StmtSites.{lval_sites, target_sites, StmtSites, ItemSites, stmts_of, stmts_calls, values_calls, bodies_calls, branch_sites, item_sites, stmt_sites, else_calls, block_calls, stmt_sites_of, branch_sites_of, case_sites_of}
use Rattle.v_call_sites.proofs.Expressions.{back-append}
use Rattle.v_call_sites.proofs.Levels.{at-name, at-concat, at-statement, at-empty, at-item, at-default, at-block, at-if, at-else, at-case, at-assign}

-- a token stays the first one where these are added
abbrev Behind : ℕ → (Name → Bool) → List Site → Type 0
Behind k b ss = earlier (Some (cap k)) (first (back b ss)) ≡ Some (cap k)

abbrev pub Later : (Scope → ℕ → List Site) → Type 0
Later sites = (k : ℕ) (b : Name → Bool) (a : Scope) (at : ℕ) → k ≤ at → Behind k b (sites a at)

nothing-behind : (k : ℕ) (b : Name → Bool) → Behind k b []
nothing-behind k b = earlier-none (Some (cap k))

both-behind : (k : ℕ) (b : Name → Bool) (ss ts : List Site) → Behind k b ss → Behind k b ts → Behind k b (ss ++ ts)
both-behind k b ss ts e f =
    ap (earlier (Some (cap k))) (back-append b ss ts)
    ∙ sym (earlier-assoc (Some (cap k)) (first (back b ss)) (first (back b ts)))
    ∙ ap (λ o. earlier o (first (back b ts))) e
    ∙ f

no-later : (k at : ℕ) → k ≤ at → min (cap k) (cap at) ≡ cap k
no-later k at le = omega (arith, le)

mark-behind : (k at : ℕ) (c : Bool) → k ≤ at → earlier (Some (cap k)) (mark c (cap at)) ≡ Some (cap k)
unfolding earlier
mark-behind k at true le = ap Some (no-later k at le)
mark-behind k at false le = refl

named-behind : (k : ℕ) (b : Name → Bool) (at : ℕ) (ns : List Name) → k ≤ at → Behind k b (named_at at ns)
named-behind k b at [] le = nothing-behind k b
named-behind k b at (n ∷ ns) le =
    let rest = first (back b (named_at at ns)) in
    ap (earlier (Some (cap k))) (first-append (only_if (b n) at) (back b (named_at at ns)) ∙ ap (λ o. earlier o rest) (first-if (b n) at))
    ∙ sym (earlier-assoc (Some (cap k)) (mark (b n) (cap at)) rest)
    ∙ ap (λ o. earlier o rest) (mark-behind k at (b n) le)
    ∙ named-behind k b at ns le

-- expressions
abbrev ExprLater : Sites → Type 0
ExprLater s = Later s.calls

from-later : (ss : List Sites) → I.Each ExprLater ss → Later (calls_from ss)
from-later [] hs k b a at le = nothing-behind k b
from-later (s ∷ ss) hs k b a at le =
    both-behind k b (s.calls a at) (calls_from ss a (at + suc s.size)) (hs.0 k b a at le) (from-later ss hs.1 k b a (at + suc s.size) (omega (arith, le)))

along-later : (ss : List Sites) → I.Each ExprLater ss → Later (calls_along ss)
along-later [] hs k b a at le = nothing-behind k b
along-later (s ∷ ss) hs k b a at le =
    both-behind k b (s.calls a at) (calls_along ss a (at + s.size)) (hs.0 k b a at le) (along-later ss hs.1 k b a (at + s.size) (omega (arith, le)))

moved : (f : Scope → ℕ → List Site) (n : ℕ) → Later f → Later (λ scope at. f scope (at + n))
moved f n h k b a at le = h k b a (at + n) (omega (arith, le))

next : (f : Scope → ℕ → List Site) → Later f → Later (λ scope at. f scope (suc at))
next f h k b a at le = h k b a (suc at) (omega (arith, le))

two-later : (f g : Scope → ℕ → List Site) → Later f → Later g → Later (λ scope at. f scope at ++ g scope at)
two-later f g h l k b a at le = both-behind k b (f a at) (g a at) (h k b a at le) (l k b a at le)

none-later : Later (λ scope at. [])
none-later k b a at le = nothing-behind k b

abbrev P : VExpr → Type 0
P x = ExprLater (sites_of x)

abbrev Q : VPrim → Type 0
Q x = ExprLater (prim_sites_of x)

abbrev R : VSel → Type 0
R x = ExprLater (sel_sites_of x)

sites-as : {s t : Sites} → s ≡ t → ExprLater t → ExprLater s
sites-as {s} {t} e h = subst (λ (x : Sites). ExprLater x) (sym e) h

each-expr : (xs : List VExpr) → I.Each P xs → I.Each ExprLater (map sites_of xs)
each-expr [] hs = tt
each-expr (x ∷ xs) hs = (hs.0, each-expr xs hs.1)

each-sel : (xs : List VSel) → I.Each R xs → I.Each ExprLater (map sel_sites_of xs)
each-sel [] hs = tt
each-sel (x ∷ xs) hs = (hs.0, each-sel xs hs.1)

binary-later : (s t : Sites) → ExprLater s → ExprLater t → Later (λ scope at. s.calls scope at ++ t.calls scope (at + suc s.size))
binary-later s t h l = two-later s.calls (λ scope at. t.calls scope (at + suc s.size)) h (moved t.calls (suc s.size) l)

choose-later : (s t u : Sites) → ExprLater s → ExprLater t → ExprLater u → ExprLater (expr_sites (VExpr-F.Choose s t u))
choose-later s t u h l m =
    let second : Scope → ℕ → List Site = λ scope at. t.calls scope (at + suc s.size) in
    let third : Scope → ℕ → List Site = λ scope at. u.calls scope (at + (suc s.size + suc t.size)) in
    two-later s.calls (λ scope at. second scope at ++ third scope at) h (two-later second third (moved t.calls (suc s.size) l) (moved u.calls (suc s.size + suc t.size) m))

call-later : (name : Name) (ss : List Sites) → I.Each ExprLater ss → ExprLater (prim_sites (VPrim-F.Call name ss))
call-later name ss hs k b a at le =
    both-behind k b (named_at at (called (a name) name)) (calls_from ss a (at + 2)) (named-behind k b at (called (a name) name) le) (from-later ss hs k b a (at + 2) (omega (arith, le)))

steps : I.ExprSteps P Q R
steps = record {
  expr-prim = λ x h. sites-as (L.at-prim expr_sites prim_sites sel_sites x) h;
  expr-unary = λ op x h. sites-as (L.at-unary expr_sites prim_sites sel_sites op x) (next (prim_sites_of x).calls h);
  expr-binary = λ op x y h l. sites-as (L.at-binary expr_sites prim_sites sel_sites op x y) (binary-later (prim_sites_of x) (prim_sites_of y) h l);
  expr-choose = λ on x y g h l. sites-as (L.at-choose expr_sites prim_sites sel_sites on x y) (choose-later (prim_sites_of on) (prim_sites_of x) (prim_sites_of y) g h l);
  prim-number = λ bits. sites-as (L.at-number expr_sites prim_sites sel_sites bits) none-later;
  prim-paren = λ x h. sites-as (L.at-paren expr_sites prim_sites sel_sites x) (next (sites_of x).calls h);
  prim-name = λ n ss hs. sites-as (L.at-name expr_sites prim_sites sel_sites n ss) (next (calls_along (map sel_sites_of ss)) (along-later (map sel_sites_of ss) (each-sel ss hs)));
  prim-call = λ n xs hs. sites-as (L.at-call expr_sites prim_sites sel_sites n xs) (call-later n (map sites_of xs) (each-expr xs hs));
  prim-repeat = λ count xs hs.
      sites-as (L.at-repeat expr_sites prim_sites sel_sites count xs) (moved (calls_from (map sites_of xs)) 3 (from-later (map sites_of xs) (each-expr xs hs)));
  prim-concat = λ xs hs. sites-as (L.at-concat expr_sites prim_sites sel_sites xs) (next (calls_from (map sites_of xs)) (from-later (map sites_of xs) (each-expr xs hs)));
  prim-sign = λ signed x h. sites-as (L.at-sign expr_sites prim_sites sel_sites signed x) (moved (sites_of x).calls 2 h);
  sel-decimal = λ base extent. sites-as (L.at-decimal expr_sites prim_sites sel_sites base extent) none-later;
  sel-expr = λ x extent h. sites-as (L.at-moving expr_sites prim_sites sel_sites x extent) (next (sites_of x).calls h);
}

expr-later : (x : VExpr) → ExprLater (sites_of x)
expr-later = I.ind-expr P Q R steps

sel-later : (x : VSel) → ExprLater (sel_sites_of x)
sel-later = I.ind-sel P Q R steps

exprs-later : (xs : List VExpr) → I.Each ExprLater (map sites_of xs)
exprs-later [] = tt
exprs-later (x ∷ xs) = (expr-later x, exprs-later xs)

sels-later : (xs : List VSel) → I.Each ExprLater (map sel_sites_of xs)
sels-later [] = tt
sels-later (x ∷ xs) = (sel-later x, sels-later xs)

-- targets
abbrev V : VLval → Type 0
V x = ExprLater (target_sites x)

each-lval : (xs : List VLval) → I.Each V xs → I.Each ExprLater (map target_sites xs)
each-lval [] hs = tt
each-lval (x ∷ xs) hs = (hs.0, each-lval xs hs.1)

target-later : (x : VLval) → ExprLater (target_sites x)
target-later = I.ind-lval V (record {
  lval-name = λ n ss. sites-as (at-name lval_sites n ss) (next (calls_along (map sel_sites_of ss)) (along-later (map sel_sites_of ss) (sels-later ss)));
  lval-concat = λ ls hs. sites-as (at-concat lval_sites ls) (next (calls_from (map target_sites ls)) (from-later (map target_sites ls) (each-lval ls hs)));
})

-- statements
abbrev StmtLater : StmtSites → Type 0
StmtLater s = Later s.calls

abbrev ItemLater : ItemSites → Type 0
ItemLater i = Later i.values × Later i.calls

stmts-later : (ss : List StmtSites) → I.Each StmtLater ss → Later (stmts_calls ss)
stmts-later [] hs k b a at le = nothing-behind k b
stmts-later (s ∷ ss) hs k b a at le =
    both-behind k b (s.calls a at) (stmts_calls ss a (at + s.rules.size)) (hs.0 k b a at le) (stmts-later ss hs.1 k b a (at + s.rules.size) (omega (arith, le)))

values-later : (is : List ItemSites) → I.Each ItemLater is → Later (values_calls is)
values-later [] hs k b a at le = nothing-behind k b
values-later (i ∷ is) hs k b a at le =
    both-behind k b (i.values a at) (values_calls is a (at + i.rules.stmt.size)) (hs.0.0 k b a at le) (values-later is hs.1 k b a (at + i.rules.stmt.size) (omega (arith, le)))

bodies-later : (is : List ItemSites) → I.Each ItemLater is → Later (bodies_calls is)
bodies-later [] hs k b a at le = nothing-behind k b
bodies-later (i ∷ is) hs k b a at le =
    both-behind k b (i.calls a at) (bodies_calls is a (at + i.rules.stmt.size)) (hs.0.1 k b a at le) (bodies-later is hs.1 k b a (at + i.rules.stmt.size) (omega (arith, le)))

block-later : (label : Option VLabel) (ss : List StmtSites) → I.Each StmtLater ss → Later (block_calls label ss)
block-later None ss hs k b a at le = stmts-later ss hs k b a (suc at) (omega (arith, le))
block-later (Some l) ss hs k b a at le =
    let begin = at + (3 + locals_size l.locals) in
    stmts-later ss hs k b (inside (locals_from l.locals (at + 3) ++ blocks_in (stmts_of ss) begin) a) begin (omega (arith, le))

abbrev ElseLater : Option StmtSites → Type 0
ElseLater None = Unit {0}
ElseLater (Some s) = StmtLater s

else-later : (o : Option StmtSites) → ElseLater o → Later (else_calls o)
else-later None h = none-later
else-later (Some s) h = next s.calls h

if-later : (on : VExpr) (s : StmtSites) (o : Option StmtSites) → StmtLater s → ElseLater o → StmtLater (stmt_sites (VStmt-F.If on s o))
if-later on s o h l =
    let size = (rules_of on).size in
    let first : Scope → ℕ → List Site = λ scope at. (sites_of on).calls scope (at + 2) in
    let second : Scope → ℕ → List Site = λ scope at. s.calls scope (at + (3 + size)) in
    let third : Scope → ℕ → List Site = λ scope at. else_calls o scope (at + (3 + (size + s.rules.size))) in
    two-later first (λ scope at. second scope at ++ third scope at) (moved (sites_of on).calls 2 (expr-later on))
    (two-later second third (moved s.calls (3 + size) h) (moved (else_calls o) (3 + (size + s.rules.size)) (else-later o l)))

case-later : (on : VExpr) (is : List ItemSites) → I.Each ItemLater is
    → Later (λ scope at. (sites_of on).calls scope (at + 2) ++ (values_calls is scope (at + (3 + (rules_of on).size)) ++ bodies_calls is scope (at + (3 + (rules_of on).size))))
case-later on is hs =
    let size = (rules_of on).size in
    let first : Scope → ℕ → List Site = λ scope at. (sites_of on).calls scope (at + 2) in
    let second : Scope → ℕ → List Site = λ scope at. values_calls is scope (at + (3 + size)) in
    let third : Scope → ℕ → List Site = λ scope at. bodies_calls is scope (at + (3 + size)) in
    two-later first (λ scope at. second scope at ++ third scope at) (moved (sites_of on).calls 2 (expr-later on))
    (two-later second third (moved (values_calls is) (3 + size) (values-later is hs)) (moved (bodies_calls is) (3 + size) (bodies-later is hs)))

stmt-as : {s t : StmtSites} → s ≡ t → StmtLater t → StmtLater s
stmt-as {s} {t} e h = subst (λ (x : StmtSites). StmtLater x) (sym e) h

item-as : {s t : ItemSites} → s ≡ t → ItemLater t → ItemLater s
item-as {s} {t} e h = subst (λ (x : ItemSites). ItemLater x) (sym e) h

abbrev B : VBranch → Type 0
B x = StmtLater (branch_sites_of x)

abbrev C : VCaseItem → Type 0
C x = ItemLater (case_sites_of x)

abbrev S : VStmt → Type 0
S x = StmtLater (stmt_sites_of x)

each-stmt : (xs : List VStmt) → I.Each S xs → I.Each StmtLater (map stmt_sites_of xs)
each-stmt [] hs = tt
each-stmt (x ∷ xs) hs = (hs.0, each-stmt xs hs.1)

each-item : (xs : List VCaseItem) → I.Each C xs → I.Each ItemLater (map case_sites_of xs)
each-item [] hs = tt
each-item (x ∷ xs) hs = (hs.0, each-item xs hs.1)

if-step : (on : VExpr) (x : VBranch) (other : Option VBranch) → B x → I.Perhaps B other → S (T.If on x other)
if-step on x None h l = stmt-as (at-if branch_sites item_sites stmt_sites on x) (if-later on (branch_sites_of x) None h tt)
if-step on x (Some y) h l = stmt-as (at-else branch_sites item_sites stmt_sites on x y) (if-later on (branch_sites_of x) (Some (branch_sites_of y)) h l)

stmt-steps : I.StmtSteps B C S
stmt-steps = record {
  branch-statement = λ x h. stmt-as (at-statement branch_sites item_sites stmt_sites x) h;
  branch-empty = stmt-as (at-empty branch_sites item_sites stmt_sites) none-later;
  case-item = λ xs x h.
      item-as (at-item branch_sites item_sites stmt_sites xs x)
      (from-later (map sites_of xs) (exprs-later xs), moved (branch_sites_of x).calls (suc (listed_size (map rules_of xs))) h);
  case-default = λ x h. item-as (at-default branch_sites item_sites stmt_sites x) (none-later, moved (branch_sites_of x).calls 2 h);
  stmt-block = λ l xs hs. stmt-as (at-block branch_sites item_sites stmt_sites l xs) (block-later l (map stmt_sites_of xs) (each-stmt xs hs));
  stmt-if = if-step;
  stmt-case = λ kind on xs hs. stmt-as (at-case branch_sites item_sites stmt_sites kind on xs) (case-later on (map case_sites_of xs) (each-item xs hs));
  stmt-assign = λ t x later.
      stmt-as (at-assign branch_sites item_sites stmt_sites t x later)
      (two-later (target_sites t).calls (λ scope at. (sites_of x).calls scope (at + suc (target_of t).size)) (target-later t) (moved (sites_of x).calls (suc (target_of t).size) (expr-later x)));
}

-- no call in a statement stands before it
pub stmt-later : (x : VStmt) → StmtLater (stmt_sites_of x)
stmt-later = I.ind-stmt B C S stmt-steps
