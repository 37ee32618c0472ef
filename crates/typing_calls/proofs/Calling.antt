-- Calls, by what is needed and what is passed.
use Rattle.std.proofs.Common.{◌≡◌, ℕ, Bool, true, false, cond, List, [], ◌∷◌, Option, Some, length, map, refl, sym, ap, ◌∙◌, subst}
use Rattle.std.specs.Prelude.{Result, Ok, Err, Vec, slice_get}
use Rattle.std.specs.declared.alloc.Global.{Global}
use Rattle.std.proofs.lemmas.List.{length-map}
use Rattle.sv_tree.specs.Extents.{qualified_first}
use Rattle.sv_tree.specs.declared.expressions.Expr as E
use Rattle.sv_tree.specs.declared.names.QualifiedName.{QualifiedName}
use Rattle.sv_types.specs.declared.statement.Function.{Function}
use Rattle.expr_type.specs.declared.halt.Halt.{Halt}
use Rattle.expr_type.specs.declared.halt.Halt.TheVariants as H
use Rattle.expr_type.specs.declared.operand.Valued.{Valued}
use Rattle.expr_type.specs.Answers.{Gives}
use Rattle.expr_type.specs.Expressions.{actuals, meaning}
use Rattle.expr_type.specs.Forms.{call, call_of, counted_call}
use Rattle.expr_type.specs.Names.{Called, Context, position}
use Rattle.expr_type.specs.Operands.{Operand}
use Rattle.expr_type.specs.Typings.{Typed, Typing, all, beside, both, rule}
use Rattle.typing_fits.specs.Sound.{Extends}
use Rattle.typing_steps.specs.Steps.{TypesTo}
use Rattle.typing_steps.proofs.Combining.{beside-behind-quiet, beside-breaks, beside-fine, beside-quiet, beside-second, checked-fine, checked-stops, rule-types}
use Rattle.typing_values.specs.Values.{behind, unstreamed_of}
use Rattle.typing_parts.specs.Typists.{CalledTo}
use Rattle.typing_calls.specs.Lists.{all_meant}
use Rattle.typing_calls.specs.Calls.{CallsAt, actuals_of, call_of_name, counted_call_of, has_count_of, needed_of, other_call_of, other_count_of}
use Rattle.typing_calls.proofs.Counting.{count-alone}

abbrev with_actuals : Context → QualifiedName → Called → List Operand → Typing Valued
with_actuals k of c os = rule (call_of k.source (qualified_first of) of.name c os)

abbrev parts : Context → QualifiedName → List E.Expr → Typing (Called × List Operand)
parts k of es = beside (needed_of k of) (actuals_of k es)

-- the actuals that are written, of which there are as many as are typed
same-actuals : (k : Context) (es : List E.Expr) → actuals k (map meaning es) ≡ map (unstreamed_of k) es
same-actuals k [] = refl
same-actuals k (e ∷ es) = ap (λ (xs : List (Typing Operand)). unstreamed_of k e ∷ xs) (same-actuals k es)

by-count : (k : Context) (of : QualifiedName) (es : List E.Expr) (fs hs : List Function) (r : Result Valued Halt)
    → TypesTo r (both (needed_of k of) (actuals_of k es) (with_actuals k of) fs) hs → TypesTo r (counted_call_of k of es fs) hs
by-count k of es fs hs r p = subst (λ (xs : List (Typing Operand)). TypesTo r (counted_call k of xs fs) hs) (sym (same-actuals k es)) p

calls-then : (k : Context) (of : QualifiedName) (place : ℕ) (f : Function) (o : Option Function) (os : List Operand) (r : Result Valued Halt) → o ≡ Some f → CallsAt k.source of place o os r
    → Gives r (call_of k.source (qualified_first of) of.name (record { place = place; of = f }) os)
calls-then k of place f o os r e c = subst (λ (p : Option Function). CallsAt k.source of place p os r) e c

-- a function that is known, with actuals that are whole
pub call-types : (k : Context) (of : QualifiedName) (es : List E.Expr) (fs gs hs : List Function) (place : ℕ) (os : List Operand) (r : Result Valued Halt)
    → CalledTo (Ok place) (needed_of k of fs) gs → TypesTo (Ok os) (actuals_of k es gs) hs → Extends gs hs → CallsAt k.source of place (slice_get hs place) os r
    → TypesTo r (counted_call_of k of es fs) hs
call-types k of es fs gs hs place os r c p e d =
    let called : Called = record { place = place; of = c.of } in
    by-count k of es fs hs r
    (checked-fine (parts k of es) (λ q. with_actuals k of q.0 q.1) fs hs hs (called, os) r (beside-fine (needed_of k of) (actuals_of k es) fs gs hs called os c.gives p)
    (rule-types r (call_of k.source (qualified_first of) of.name called os) hs (calls-then k of place c.of (slice_get hs place) os r (e.keeps place c.of c.known) d)))

-- parts that aren't whole
stopped : (k : Context) (of : QualifiedName) (es : List E.Expr) (fs hs : List Function) (h : Halt) → TypesTo {A = Called × List Operand} (Err h) (parts k of es fs) hs
    → TypesTo {A = Valued} (Err h) (counted_call_of k of es fs) hs
stopped k of es fs hs h p = by-count k of es fs hs (Err h) (checked-stops (parts k of es) (λ q. with_actuals k of q.0 q.1) fs hs h p)

pub call-breaks : (k : Context) (of : QualifiedName) (es : List E.Expr) (fs gs : List Function) (at n : ℕ) → CalledTo (Err (H.Breaks at n)) (needed_of k of fs) gs
    → TypesTo {A = Valued} (Err (H.Breaks at n)) (counted_call_of k of es fs) gs
call-breaks k of es fs gs at n c = stopped k of es fs gs (H.Breaks at n) (beside-breaks (needed_of k of) (actuals_of k es) fs gs gs at n c)

pub actuals-stop : (k : Context) (of : QualifiedName) (es : List E.Expr) (fs gs hs : List Function) (place : ℕ) (h : Halt) → CalledTo (Ok place) (needed_of k of fs) gs
    → TypesTo {A = List Operand} (Err h) (actuals_of k es gs) hs → TypesTo {A = Valued} (Err h) (counted_call_of k of es fs) hs
actuals-stop k of es fs gs hs place h c p =
    stopped k of es fs hs h (beside-second (needed_of k of) (actuals_of k es) fs gs hs (record { place = place; of = c.of }) h c.gives p)

pub call-quiet : (k : Context) (of : QualifiedName) (es : List E.Expr) (fs gs hs : List Function) (r : Result (List Operand) Halt) → CalledTo (Err H.Quiet) (needed_of k of fs) gs
    → TypesTo r (actuals_of k es gs) hs → TypesTo {A = Valued} (Err (behind r)) (counted_call_of k of es fs) hs
call-quiet k of es fs gs hs (Ok os) c p = stopped k of es fs hs H.Quiet (beside-quiet (needed_of k of) (actuals_of k es) fs gs hs os c p)
call-quiet k of es fs gs hs (Err h) c p = stopped k of es fs hs h (beside-behind-quiet (needed_of k of) (actuals_of k es) fs gs hs h c p)

-- what stops behind actuals is what stops behind what they mean
pub same-behind : {A B : Type 0} (f : A → B) (r : Result (Vec A Global) Halt) → behind (all_meant f r) ≡ behind r
same-behind f (Ok v) = refl
same-behind f (Err h) = refl

-- by the number of actuals
by-number : (k : Context) (of : QualifiedName) (xs : List (Typing Operand)) (b : Bool) (fs hs : List Function) (r : Result Valued Halt) → has_count_of k of (length xs) ≡ b
    → TypesTo r (cond b (counted_call k of xs) (other_count_of k of (all xs)) fs) hs → TypesTo r (call k of xs fs) hs
by-number k of xs b fs hs r is p = subst (λ (c : Bool). TypesTo r (cond c (counted_call k of xs) (other_count_of k of (all xs)) fs) hs) (sym is) p

same-number : (k : Context) (of : QualifiedName) (es : List E.Expr) (b : Bool) → has_count_of k of (length es) ≡ b → has_count_of k of (length (map (unstreamed_of k) es)) ≡ b
same-number k of es b is = ap (has_count_of k of) (length-map es (unstreamed_of k)) ∙ is

written : (k : Context) (of : QualifiedName) (es : List E.Expr) (fs hs : List Function) (r : Result Valued Halt) → TypesTo r (call k of (map (unstreamed_of k) es) fs) hs → TypesTo r (call_of_name k of es fs) hs
written k of es fs hs r p = subst (λ (xs : List (Typing Operand)). TypesTo r (call k of xs fs) hs) (sym (same-actuals k es)) p

pub counted-call : (k : Context) (of : QualifiedName) (es : List E.Expr) (fs hs : List Function) (r : Result Valued Halt) → has_count_of k of (length es) ≡ true → TypesTo r (counted_call_of k of es fs) hs
    → TypesTo r (call_of_name k of es fs) hs
counted-call k of es fs hs r is p =
    let xs = map (unstreamed_of k) es in
    let call = subst (λ (ys : List (Typing Operand)). TypesTo r (counted_call k of ys fs) hs) (same-actuals k es) p in
    written k of es fs hs r (by-number k of xs true fs hs r (same-number k of es true is) call)

pub other-call : (k : Context) (of : QualifiedName) (es : List E.Expr) (fs hs : List Function) (r : Result Valued Halt) → has_count_of k of (length es) ≡ false → TypesTo r (other_call_of k of es fs) hs
    → TypesTo r (call_of_name k of es fs) hs
other-call k of es fs hs r is p = written k of es fs hs r (by-number k of (map (unstreamed_of k) es) false fs hs r (same-number k of es false is) p)

-- another number of whole actuals
pub count-breaks : (k : Context) (of : QualifiedName) (es : List E.Expr) (fs gs : List Function) (os : List Operand) → TypesTo (Ok os) (actuals_of k es fs) gs
    → TypesTo {A = Valued} (Err (H.Breaks of.name 405)) (other_call_of k of es fs) gs
count-breaks k of es fs gs os p = count-alone Valued (position k.source of.name) (needed_of k of fs).result (actuals_of k es fs).result os (ap (λ (t : Typed (List Operand)). t.result) p)

pub ruleset either = (counted-call, other-call)

pub ruleset counts = (count-breaks)

pub ruleset callings = (call-types, call-breaks, actuals-stop, call-quiet)
