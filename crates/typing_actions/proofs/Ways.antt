-- Actuals by the ways of their formals.
use Rattle.std.proofs.Common.{◌≡◌, ◌<◌, ◌≤◌, ◌+◌, ℕ, zero, suc, Bool, true, false, List, [], ◌∷◌, ◌++◌, length, get_or, map, take, Option, Some, None, refl, arith, sym, ap, ◌∙◌, subst}
use Rattle.std.specs.Prelude.{Result, Ok, Err, Vec, slice_get}
use Rattle.std.specs.declared.alloc.Global.{Global}
use Rattle.std.proofs.lemmas.List.{length-take-le, map-append, take_all, take_more}
use Rattle.sv_tree.specs.declared.expressions.Expr.{Expr}
use Rattle.sv_types.specs.declared.statement.Formal.{Formal}
use Rattle.sv_types.specs.declared.statement.Function.{Function}
use Rattle.sv_types.specs.declared.statement.Way.{Way}
use Rattle.sv_types.specs.declared.statement.Way.TheVariants as W
use Rattle.expr_type.specs.declared.halt.Halt.{Halt}
use Rattle.expr_type.specs.Expressions.{Meaning, meaning}
use Rattle.expr_type.specs.Names.{Context}
use Rattle.expr_type.specs.Operands.{Operand}
use Rattle.expr_type.specs.Statements as D
use Rattle.expr_type.specs.Typings.{Typing, all, whole}
use Rattle.pattern_types.specs.declared.operand.Operand as O
use Rattle.pattern_types.specs.Meaning.{operand_of}
use Rattle.typing_steps.specs.Steps.{TypesTo}
use Rattle.typing_steps.proofs.Combining.{checked-fine, checked-stops}
use Rattle.typing_calls.specs.Lists.{Follows, all_meant, as_meant}
use Rattle.typing_calls.proofs.InTurn.{follow-types}
use Rattle.typing_values.specs.Values.{unstreamed_of}
use Rattle.stmt_laws.specs.Written.{exprs_written}
use Rattle.typing_fits.proofs.Full.{and-left, and-right}
use Rattle.typing_walks.specs.Written.{is_written}
use Rattle.typing_actions.specs.declared.passing.Actual.{Actual}
use Rattle.typing_actions.specs.declared.passing.Actual.TheVariants as A
use Rattle.typing_actions.specs.TaskActuals.{actuals_of, outputs, ways_of}
use Rattle.typing_actions.specs.Calls.{actual_of}

-- each of them is written
pub written-at : (es : List Expr) (i : ℕ) (e : Expr) → exprs_written es ≡ true → i < length es → e ≡ get_or es i e → is_written e ≡ true
written-at [] i e w within is = absurd (omega arith)
written-at (x ∷ es) zero e w within is = subst (λ (y : Expr). is_written y ≡ true) (sym is) (and-left (is_written x) (exprs_written es) w)
written-at (x ∷ es) (suc i) e w within is = written-at es i e (and-right (is_written x) (exprs_written es) w) (omega arith) is

-- the way of one formal more
pub one-way : (fs : List Formal) (i : ℕ) (f : Formal) (ws us : List Way) → i < length fs → f ≡ get_or fs i f → us ≡ ws ++ f.way ∷ [] → ws ≡ ways_of (take i fs) → us ≡ ways_of (take (i + 1) fs)
one-way fs i f ws us within is pushed so =
    pushed ∙ ap (λ (xs : List Way). xs ++ f.way ∷ []) so ∙ sym (map-append (λ (g : Formal). g.way) (take i fs) (f ∷ []))
    ∙ ap ways_of (sym (take_more fs i f within ∙ ap (λ (g : Formal). take i fs ++ g ∷ []) (sym is)))

-- one actual
value-way : (k : Context) (w : Option Way) (m : Meaning) → outputs w ≡ false → D.actual_by k w m ≡ D.as_value k m
value-way k None m e = refl
value-way k (Some W.Input) m e = refl
value-way k (Some W.Output) m e = absurd (cc)
value-way k (Some W.Inout) m e = absurd (cc)

target-way : (k : Context) (w : Option Way) (m : Meaning) → outputs w ≡ true → D.actual_by k w m ≡ D.as_target k m
target-way k None m e = absurd (cc)
target-way k (Some W.Input) m e = absurd (cc)
target-way k (Some W.Output) m e = refl
target-way k (Some W.Inout) m e = refl

abbrev valued : Operand → Typing D.Actual
valued o = whole (record { value = Some o; target = None })

pub value-fine : (k : Context) (w : Option Way) (e : Expr) (fs gs : List Function) (b : Bool) (o : O.Operand) → b ≡ outputs w → b ≡ false → TypesTo (Ok (operand_of k.source o)) (unstreamed_of k e fs) gs
    → TypesTo (Ok (actual_of k.source (A.Value o))) (D.actual_by k w (meaning e) fs) gs
value-fine k w e fs gs b o is f p =
    subst (λ (t : Typing D.Actual). TypesTo (Ok (actual_of k.source (A.Value o))) (t fs) gs) (sym (value-way k w (meaning e) (sym is ∙ f)))
    (checked-fine (unstreamed_of k e) valued fs gs gs (operand_of k.source o) (Ok (actual_of k.source (A.Value o))) p refl)

pub value-stops : (k : Context) (w : Option Way) (e : Expr) (fs gs : List Function) (b : Bool) (h : Halt) → b ≡ outputs w → b ≡ false → TypesTo {A = Operand} (Err h) (unstreamed_of k e fs) gs
    → TypesTo {A = D.Actual} (Err h) (D.actual_by k w (meaning e) fs) gs
value-stops k w e fs gs b h is f p =
    subst (λ (t : Typing D.Actual). TypesTo {A = D.Actual} (Err h) (t fs) gs) (sym (value-way k w (meaning e) (sym is ∙ f))) (checked-stops (unstreamed_of k e) valued fs gs h p)

pub target-types : (k : Context) (w : Option Way) (e : Expr) (fs gs : List Function) (b : Bool) (r : Result D.Actual Halt) → b ≡ outputs w → b ≡ true → TypesTo r (D.as_target k (meaning e) fs) gs
    → TypesTo r (D.actual_by k w (meaning e) fs) gs
target-types k w e fs gs b r is f p = subst (λ (t : Typing D.Actual). TypesTo r (t fs) gs) (sym (target-way k w (meaning e) (sym is ∙ f))) p

pub ruleset ways = (value-fine, value-stops, target-types)

-- one more of them
behind-way : (k : Context) (ws : List Way) (xs : List Expr) (e : Expr) → D.actuals k ws (map meaning (xs ++ e ∷ [])) ≡ D.actuals k ws (map meaning xs) ++ D.actual_by k (slice_get ws (length xs)) (meaning e) ∷ []
behind-way k [] [] e = refl
behind-way k (w ∷ ws) [] e = refl
behind-way k [] (x ∷ xs) e = ap (λ (ts : List (Typing D.Actual)). D.actual_by k None (meaning x) ∷ ts) (behind-way k [] xs e)
behind-way k (w ∷ ws) (x ∷ xs) e = ap (λ (ts : List (Typing D.Actual)). D.actual_by k (Some w) (meaning x) ∷ ts) (behind-way k ws xs e)

more : (k : Context) (ws : List Way) (es : List Expr) (i : ℕ) (e : Expr) → i < length es → e ≡ get_or es i e
    → D.actuals k ws (map meaning (take (i + 1) es)) ≡ D.actuals k ws (map meaning (take i es)) ++ D.actual_by k (slice_get ws i) (meaning e) ∷ []
more k ws es i e within is =
    let long : length (take i es) ≡ i = length-take-le i es (omega arith) in
    ap (λ (xs : List Expr). D.actuals k ws (map meaning xs)) (take_more es i e within ∙ ap (λ (x : Expr). take i es ++ x ∷ []) (sym is)) ∙ behind-way k ws (take i es) e
    ∙ ap (λ (n : ℕ). D.actuals k ws (map meaning (take i es)) ++ D.actual_by k (slice_get ws n) (meaning e) ∷ []) long

pub turn-types : (k : Context) (ws : List Way) (es : List Expr) (i : ℕ) (e : Expr) (fs gs hs : List Function) (w : Option Way) (made : Result (Vec Actual Global) Halt) (next : Result Actual Halt) (r : Result (Vec Actual Global) Halt)
    → i < length es → e ≡ get_or es i e → w ≡ slice_get ws i → Follows made next r → TypesTo (all_meant (actual_of k.source) made) (actuals_of k ws (take i es) fs) gs
    → TypesTo (as_meant (actual_of k.source) next) (D.actual_by k w (meaning e) gs) hs → TypesTo (all_meant (actual_of k.source) r) (actuals_of k ws (take (i + 1) es) fs) hs
turn-types k ws es i e fs gs hs w made next r within is way s p q =
    let one = D.actual_by k (slice_get ws i) (meaning e) in
    let here : TypesTo (as_meant (actual_of k.source) next) (one gs) hs = subst (λ (o : Option Way). TypesTo (as_meant (actual_of k.source) next) (D.actual_by k o (meaning e) gs) hs) way q in
    subst (λ (ts : List (Typing D.Actual)). TypesTo (all_meant (actual_of k.source) r) (all ts fs) hs) (sym (more k ws es i e within is))
    (follow-types (actual_of k.source) (D.actuals k ws (map meaning (take i es))) one fs gs hs made next r s p here)

pub all-types : (k : Context) (ws : List Way) (es : List Expr) (n : ℕ) (fs gs : List Function) (r : Result (List D.Actual) Halt) → length es ≤ n → TypesTo r (actuals_of k ws (take n es) fs) gs → TypesTo r (actuals_of k ws es fs) gs
all-types k ws es n fs gs r over p = subst (λ (xs : List Expr). TypesTo r (actuals_of k ws xs fs) gs) (take_all n es over) p
