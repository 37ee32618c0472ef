-- Calls of tasks and void functions, by what is needed and what is passed.
use Rattle.std.proofs.Common.{◌≡◌, ℕ, Bool, true, false, cond, List, [], length, map, Option, Some, None, refl, sym, ap, ◌∙◌, subst}
use Rattle.std.specs.Prelude.{Result, Ok, Err, Vec, slice_get}
use Rattle.std.specs.declared.alloc.Global.{Global}
use Rattle.std.proofs.lemmas.List.{length-map}
use Rattle.sv_tree.specs.declared.expressions.Expr.{Expr}
use Rattle.sv_tree.specs.declared.names.QualifiedName.{QualifiedName}
use Rattle.sv_types.specs.declared.statement.Function.{Function}
use Rattle.sv_types.specs.declared.statement.Stmt.{Stmt}
use Rattle.sv_types.specs.declared.statement.Way.{Way}
use Rattle.expr_type.specs.declared.halt.Halt.{Halt}
use Rattle.expr_type.specs.declared.halt.Halt.TheVariants as H
use Rattle.expr_type.specs.Answers.{Gives}
use Rattle.expr_type.specs.Expressions.{meaning}
use Rattle.expr_type.specs.Names as N
use Rattle.expr_type.specs.Names.{Context, position}
use Rattle.expr_type.specs.Statements as D
use Rattle.expr_type.specs.Typings.{Typed, Typing, all, both_by, rule}
use Rattle.typing_fits.specs.Sound.{Extends}
use Rattle.typing_parts.specs.Typists.{CalledTo}
use Rattle.typing_steps.specs.Steps.{TypesTo}
use Rattle.typing_steps.proofs.Combining.{rule-types}
use Rattle.typing_calls.specs.Calls.{has_count_of, needed_of}
use Rattle.typing_calls.proofs.Counting.{count-alone}
use Rattle.typing_calls.specs.Lists.{all_meant}
use Rattle.typing_sides.specs.Sides.{first_stop, stop}
use Rattle.typing_sides.proofs.Together.{by-both-fine, by-both-stops}
use Rattle.typing_actions.specs.declared.passing.Actual.{Actual}
use Rattle.typing_actions.specs.TaskActuals.{AreWays, actuals_of, ways_if}
use Rattle.typing_actions.specs.Calls.{Called, CallsTask, Stopped, actual_of, other_call_of}

abbrev with_actuals : Context → QualifiedName → N.Called → List D.Actual → Typing Stmt
with_actuals k of c as' = rule (D.call_stmt_of k of.name c as')

abbrev passed : Context → List Expr → Option N.Called → Typing (List D.Actual)
passed k es o = all (D.actuals k (D.ways o) (map meaning es))

abbrev called_by : Context → QualifiedName → List Expr → Typing Stmt
called_by k of es = both_by (needed_of k of) (passed k es) (with_actuals k of)

by-count : (k : Context) (of : QualifiedName) (es : List Expr) (fs hs : List Function) (r : Result Stmt Halt) → TypesTo r (called_by k of es fs) hs → TypesTo r (D.counted_call k of (map meaning es) fs) hs
by-count k of es fs hs r p = p

calls-then : (k : Context) (at place : ℕ) (f : Function) (o : Option Function) (as' : List D.Actual) (r : Result Stmt Halt) → o ≡ Some f → CallsTask k at place o as' r
    → Gives r (D.call_stmt_of k at (record { place = place; of = f }) as')
calls-then k at place f o as' r e c = subst (λ (p : Option Function). CallsTask k at place p as' r) e c

ways-there : (f : Function) (o : Option Function) (ws : List Way) → ws ≡ ways_if o → o ≡ Some f → ws ≡ ways_if (Some f)
ways-there f o ws e is = e ∙ ap ways_if is

stopped-is : (h : Halt) (r : Result Stmt Halt) (t : Typed Stmt) (hs : List Function) → r ≡ Err h → TypesTo {A = Stmt} (Err h) t hs → TypesTo r t hs
stopped-is h r t hs e p = subst (λ (q : Result Stmt Halt). TypesTo q t hs) (sym e) p

stopped-by : (k : Context) (of : QualifiedName) (es : List Expr) (fs gs hs : List Function) (h : Halt) (b : Result (List D.Actual) Halt) (r : Result Stmt Halt) (o : Option Halt) → first_stop (Some h) (stop b) ≡ o → Stopped o r
    → TypesTo {A = N.Called} (Err h) (needed_of k of fs) gs → TypesTo b (passed k es None gs) hs → TypesTo r (D.counted_call k of (map meaning es) fs) hs
stopped-by k of es fs gs hs h b r (Some g) s d c p =
    stopped-is g r (D.counted_call k of (map meaning es) fs) hs d (by-count k of es fs hs (Err g) (by-both-stops (needed_of k of) (passed k es) (with_actuals k of) fs gs hs (Err h) b g s c p))
stopped-by k of es fs gs hs h b r None s d c p = absurd (always-stops h (stop b) s)
  where
    always-stops : (h : Halt) (o : Option Halt) → first_stop (Some h) o ≡ None → ⊥
    always-stops H.Quiet None e = cc
    always-stops H.Quiet (Some g) e = cc
    always-stops H.Memory o e = cc
    always-stops (H.Breaks at n) o e = cc

pub call-types : (k : Context) (of : QualifiedName) (es : List Expr) (fs gs hs : List Function) (place : Result ℕ Halt) (ws : List Way) (as' : Result (Vec Actual Global) Halt) (r : Result Stmt Halt)
    → CalledTo place (needed_of k of fs) gs → AreWays place gs ws → TypesTo (all_meant (actual_of k.source) as') (actuals_of k ws es gs) hs → Extends gs hs → Called k of.name place as' hs r
    → TypesTo r (D.counted_call k of (map meaning es) fs) hs
call-types k of es fs gs hs (Ok n) ws (Ok v) r c w p e d =
    let called : N.Called = record { place = n; of = c.of } in
    let ways = ways-there c.of (slice_get gs n) ws w c.known in
    let row : TypesTo (Ok (map (actual_of k.source) v.items)) (passed k es (Some called) gs) hs = subst (λ (us : List Way). TypesTo (Ok (map (actual_of k.source) v.items)) (actuals_of k us es gs) hs) ways p in
    by-count k of es fs hs r
    (by-both-fine (needed_of k of) (passed k es) (with_actuals k of) fs gs hs called (map (actual_of k.source) v.items) r c.gives row
    (rule-types r (D.call_stmt_of k of.name called (map (actual_of k.source) v.items)) hs (calls-then k of.name n c.of (slice_get hs n) (map (actual_of k.source) v.items) r (e.keeps n c.of c.known) d)))
call-types k of es fs gs hs (Ok n) ws (Err h) r c w p e d =
    let called : N.Called = record { place = n; of = c.of } in
    let ways = ways-there c.of (slice_get gs n) ws w c.known in
    let row : TypesTo {A = List D.Actual} (Err h) (passed k es (Some called) gs) hs = subst (λ (us : List Way). TypesTo {A = List D.Actual} (Err h) (actuals_of k us es gs) hs) ways p in
    stopped-is h r (D.counted_call k of (map meaning es) fs) hs d
    (by-count k of es fs hs (Err h) (by-both-stops (needed_of k of) (passed k es) (with_actuals k of) fs gs hs (Ok called) (Err h) h refl c.gives row))
call-types k of es fs gs hs (Err h) ws as' r c w p e d =
    let row : TypesTo (all_meant (actual_of k.source) as') (passed k es None gs) hs = subst (λ (us : List Way). TypesTo (all_meant (actual_of k.source) as') (actuals_of k us es gs) hs) w p in
    stopped-by k of es fs gs hs h (all_meant (actual_of k.source) as') r (first_stop (Some h) (stop as')) (ap (first_stop (Some h)) (meant-stop as')) d c row
  where
    meant-stop : (b : Result (Vec Actual Global) Halt) → stop (all_meant (actual_of k.source) b) ≡ stop b
    meant-stop (Ok u) = refl
    meant-stop (Err g) = refl

-- a call of what has been looked at
same : (g h : Halt) → Some g ≡ Some h → h ≡ g
same g h e = cc

abbrev as_err : Halt → Result Stmt Halt
as_err h = Err h

pub called-stops : (k : Context) (at : ℕ) (place : Result ℕ Halt) (as' : Result (Vec Actual Global) Halt) (fs : List Function) (h : Halt) → first_stop (stop place) (stop as') ≡ Some h → Called k at place as' fs (Err h)
called-stops k at (Ok n) (Ok v) fs h e = absurd (cc)
called-stops k at (Ok n) (Err g) fs h e = ap as_err (same g h e)
called-stops k at (Err g) as' fs h e = subst (λ (o : Option Halt). Stopped o (as_err h)) (sym e) refl

pub called-fine : (k : Context) (at n : ℕ) (place : Result ℕ Halt) (as' : Result (Vec Actual Global) Halt) (v : Vec Actual Global) (fs : List Function) (r : Result Stmt Halt) → place ≡ Ok n → as' ≡ Ok v
    → CallsTask k at n (slice_get fs n) (map (actual_of k.source) v.items) r → Called k at place as' fs r
called-fine k at n place as' v fs r e f c =
    subst (λ (p : Result ℕ Halt). Called k at p as' fs r) (sym e) (subst (λ (q : Result (Vec Actual Global) Halt). Called k at (Ok n) q fs r) (sym f) c)

-- by the number of actuals
by-number : (k : Context) (of : QualifiedName) (es : List Expr) (b : Bool) (fs hs : List Function) (r : Result Stmt Halt) → has_count_of k of (length es) ≡ b
    → TypesTo r (cond b (D.counted_call k of (map meaning es)) (other_call_of k of es) fs) hs → TypesTo r (D.call_stmt k of (map meaning es) fs) hs
by-number k of es b fs hs r is p =
    subst (λ (c : Bool). TypesTo r (cond c (D.counted_call k of (map meaning es)) (other_call_of k of es) fs) hs) (sym (ap (has_count_of k of) (length-map es meaning) ∙ is)) p

pub counted-call : (k : Context) (of : QualifiedName) (es : List Expr) (fs hs : List Function) (r : Result Stmt Halt) → has_count_of k of (length es) ≡ true
    → TypesTo r (D.counted_call k of (map meaning es) fs) hs → TypesTo r (D.call_stmt k of (map meaning es) fs) hs
counted-call k of es fs hs r is p = by-number k of es true fs hs r is p

pub other-call : (k : Context) (of : QualifiedName) (es : List Expr) (fs hs : List Function) (r : Result Stmt Halt) → has_count_of k of (length es) ≡ false
    → TypesTo r (other_call_of k of es fs) hs → TypesTo r (D.call_stmt k of (map meaning es) fs) hs
other-call k of es fs hs r is p = by-number k of es false fs hs r is p

-- another number of whole actuals
pub count-breaks : (k : Context) (of : QualifiedName) (es : List Expr) (fs gs : List Function) (as' : List D.Actual) → TypesTo (Ok as') (actuals_of k [] es fs) gs
    → TypesTo {A = Stmt} (Err (H.Breaks of.name 405)) (other_call_of k of es fs) gs
count-breaks k of es fs gs as' p = count-alone Stmt (position k.source of.name) (needed_of k of fs).result (actuals_of k [] es fs).result as' (ap (λ (t : Typed (List D.Actual)). t.result) p)

pub ruleset either = (counted-call, other-call)

pub ruleset counts = (count-breaks)

pub ruleset called = (called-stops, called-fine)
