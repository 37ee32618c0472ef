-- Loops whose bounds are known, and the least of those that aren't.
use Rattle.std.proofs.Common.{◌≡◌, ℕ, Bool, true, false, ◌&&◌, ◌||◌, ◌==◌, not, cond, List, [], ◌∷◌, ◌++◌, map, flat_map, Option, Some, None, Result, Ok, Err, refl, ap, sym, ◌∙◌}
use Rattle.std.specs.Prelude.{nat_le, nat_lt, slice_get, IfOk}
use Rattle.std.proofs.Math.Path.{fun_ext}
use Rattle.row_machine.specs.Valuation.{Place}
use Rattle.sv_source.specs.declared.token.Spot.{Spot}
use Rattle.sv_types.specs.declared.expression.Expr.{Expr}
use Rattle.sv_types.specs.declared.statement.CaseKind.{CaseKind}
use Rattle.sv_types.specs.declared.statement.CaseItem.{CaseItem}
use Rattle.sv_types.specs.declared.statement.Function.{Function}
use Rattle.sv_types.specs.declared.statement.Local.{Local}
use Rattle.sv_types.specs.declared.statement.Stmt.{Stmt}
use Rattle.sv_types.specs.declared.statement.Stmt.TheVariants as V
use Rattle.sv_types.specs.declared.design.Design.{Design}
use Rattle.sv_types.specs.Functions.{parameters}
use Rattle.sv_types.specs.Machine.{parts, unseen}
use Rattle.sv_types.specs.Surroundings.{Sight, local_number}
use Rattle.eval_forms.specs.Callees.{formals_in, formals_or_none}
use Rattle.sv_types.specs.Flows.{covers, whole_local}
use Rattle.eval_stmts.specs.declared.controls.Control.{Control}
use Rattle.expr_flows.specs.declared.known.Variable.{Variable}
use Rattle.expr_flows.specs.declared.known.Known.{Known}
use Rattle.expr_flows.specs.Known.{sure_of, bits_of_variable}
use Rattle.stmt_flows.specs.Turns.{variable_of, marks_of_control}
use Rattle.stmt_flows.proofs.Turning.{control-long}
use Rattle.least_breaks.specs.Least.{least_from, with_token, IsLeastToken}
use Rattle.least_breaks.proofs.Tokens.{is-least}
use Rattle.design_breaks.specs.Breaks.{formals, unbounded_of}
use Rattle.design_breaks.specs.Actions as A
use Rattle.design_breaks.specs.Actions.{Actions, actions}
use Rattle.break_laws.proofs.ActionLevels as L
use Rattle.break_laws.proofs.ActionLevels.{item_actions, perhaps, control_of}
use Rattle.loop_laws.specs.Walks.{Formals, those, bodies}
use Rattle.bound_values.specs.declared.looks.Look.{Look}
use Rattle.bound_values.specs.Looks.{SureAs, LooksAt}
use Rattle.loop_rules.specs.Targets.{names, targets_of}
use Rattle.loop_rules.specs.Counted.{control_at, unbounded_in, unless_counted, LeastGives}

-- what is sure in a loop
or-swap : (a b : Bool) → (a || b) ≡ (b || a)
or-swap true true = refl
or-swap true false = refl
or-swap false true = refl
or-swap false false = refl

same-bits : (c : Control) (q : Place) → covers (whole_local c.local (marks_of_control c)) q ≡ covers (bits_of_variable (variable_of c)) q
same-bits c q = ap (λ w. (local_number c.local == q.signal) && (nat_le 0 q.bit && nat_lt q.bit w)) (control-long c)

pub sure-inside : (at : ℕ) (c : Control) (v : Variable) (vs ws : List Variable) (h : Sight) → v ≡ variable_of c → vs ≡ v ∷ ws → SureAs ws h → SureAs vs (A.entered (control_at at c) h)
sure-inside at c v vs ws h is list sure q =
    (λ i. sure q i || same-bits c q i) ∙ or-swap (sure_of ws q) (covers (bits_of_variable (variable_of c)) q)
    ∙ sym (ap (λ us. sure_of us q) list ∙ ap (λ (x : Variable). covers (bits_of_variable x) q || sure_of ws q) is)

pub counted-is : (at : ℕ) (c : Control) (body : Stmt) (fs : Formals) (k inside : Known) (v : Variable) (first test step : Look) (written r : Bool) (h : Sight)
    → LooksAt first k c.first.now → LooksAt test inside c.test.now → LooksAt step inside c.step.now → v ≡ variable_of c → inside.variables.now ≡ v ∷ k.variables.now
    → written ≡ names (local_number c.local) (targets_of fs body) → r ≡ ((first.constant && (test.constant && step.constant)) && not written) → SureAs k.variables.now h
    → r ≡ A.is_counted (control_at at c) (actions body) fs h
counted-is at c body fs k inside v first test step written r h one two three is list writes all sure =
    let within = sure-inside at c v inside.variables.now k.variables.now h is list sure in
    all ∙ (λ i. (one.known h sure i && (two.known (A.entered (control_at at c) h) within i && three.known (A.entered (control_at at c) h) within i)) && not (writes i))

-- the least of tokens
pub least-append : (least : Option ℕ) (xs ys : List ℕ) → least_from least (xs ++ ys) ≡ least_from (least_from least xs) ys
unfolding least_from
least-append least [] ys = refl
least-append least (x ∷ xs) ys = least-append (with_token least x) xs ys

pub least-nothing : (least : Option ℕ) → least_from least [] ≡ least
unfolding least_from
least-nothing least = refl

least-unless : (least : Option ℕ) (b : Bool) (at : ℕ) → least_from least (cond b [] (at ∷ [])) ≡ unless_counted b least at
unfolding least_from
least-unless least true at = refl
least-unless least false at = refl

pub loop-least : (at : ℕ) (c : Control) (body : Stmt) (fs : Formals) (b : Bool) (least so_far r : Option ℕ) (h : Sight) → b ≡ A.is_counted (control_at at c) (actions body) fs h → so_far ≡ unless_counted b least at
    → r ≡ least_from so_far (unbounded_in fs (A.entered (control_at at c) h) body) → r ≡ least_from least (A.unbounded_in (control_at at c) (actions body) fs h)
loop-least at c body fs b least so_far r h counted is all =
    let rest = unbounded_in fs (A.entered (control_at at c) h) body in
    all ∙ ap (λ o. least_from o rest) (is ∙ sym (least-unless least b at) ∙ ap (λ x. least_from least (cond x [] (at ∷ []))) counted)
    ∙ sym (least-append least (cond (A.is_counted (control_at at c) (actions body) fs h) [] (at ∷ [])) rest)

-- form by form
abbrev all_in : Formals → Sight → List Stmt → List ℕ
all_in fs h ss = flat_map (unbounded_in fs h) ss

abbrev parts_in : Formals → Sight → List Actions → List ℕ
parts_in fs h as' = flat_map (λ (a : Actions). a.unbounded fs h) as'

flat-append : {A : Type 0} (f : A → List ℕ) (xs ys : List A) → flat_map f (xs ++ ys) ≡ flat_map f xs ++ flat_map f ys
flat-append f [] ys = refl
flat-append f (x ∷ xs) ys = ap (λ ns. f x ++ ns) (flat-append f xs ys) ∙ again (f x) (flat_map f xs) (flat_map f ys)
  where
    again : (a b c : List ℕ) → a ++ (b ++ c) ≡ (a ++ b) ++ c
    again [] b c = refl
    again (x ∷ a) b c = ap (λ ns. x ∷ ns) (again a b c)

stmts-in : (fs : Formals) (h : Sight) (ss : List Stmt) → parts_in fs h (map actions ss) ≡ all_in fs h ss
stmts-in fs h [] = refl
stmts-in fs h (s ∷ ss) = ap (λ ns. unbounded_in fs h s ++ ns) (stmts-in fs h ss)

other-in : (fs : Formals) (h : Sight) (o : Option Stmt) → parts_in fs h (A.none_or (perhaps o)) ≡ all_in fs h (those o)
other-in fs h None = refl
other-in fs h (Some s) = refl

items-in : (fs : Formals) (h : Sight) (is : List CaseItem) → parts_in fs h (A.item_bodies (map item_actions is)) ≡ all_in fs h (bodies is)
items-in fs h [] = refl
items-in fs h (i ∷ is) = λ j. (L.actions-of-item i j).body.unbounded fs h ++ items-in fs h is j

at-level : (fs : Formals) (h : Sight) (s t : Stmt) (a : Actions) → s ≡ t → actions t ≡ a → unbounded_in fs h s ≡ a.unbounded fs h
at-level fs h s t a is level = ap (unbounded_in fs h) is ∙ ap (λ (x : Actions). x.unbounded fs h) level

pub in-Block : (fs : Formals) (h : Sight) (s : Stmt) (ls : List Local) (ss : List Stmt) → s ≡ V.Block ls ss → all_in fs h ss ≡ unbounded_in fs h s
in-Block fs h s ls ss is = sym (at-level fs h s (V.Block ls ss) _ is (L.actions-Block ls ss) ∙ stmts-in fs h ss)

pub in-If : (fs : Formals) (h : Sight) (s : Stmt) (on : Expr) (body : Stmt) (other : Option Stmt) → s ≡ V.If on body other → unbounded_in fs h body ++ all_in fs h (those other) ≡ unbounded_in fs h s
in-If fs h s on body other is = sym (at-level fs h s (V.If on body other) _ is (L.actions-If on body other) ∙ ap (λ ns. unbounded_in fs h body ++ ns) (other-in fs h other))

pub in-Case : (fs : Formals) (h : Sight) (s : Stmt) (kind : CaseKind) (on : Expr) (is : List CaseItem) (other : Option Stmt) → s ≡ V.Case kind on is other → all_in fs h (bodies is) ++ all_in fs h (those other) ≡ unbounded_in fs h s
in-Case fs h s kind on is other same =
    sym
    (
    at-level fs h s (V.Case kind on is other) _ same (L.actions-Case kind on is other) ∙ flat-append (λ (a : Actions). a.unbounded fs h) (A.item_bodies (map item_actions is)) (A.none_or (perhaps other))
    ∙ (λ j. items-in fs h is j ++ other-in fs h other j)
    )

pub in-Loop : (fs : Formals) (h : Sight) (s : Stmt) (n : ℕ) (first test step : Expr) (body : Stmt) (spot : Spot) → s ≡ V.Loop n first test step body spot
    → A.unbounded_in (control_of n first test step spot) (actions body) fs h ≡ unbounded_in fs h s
in-Loop fs h s n first test step body spot is = sym (at-level fs h s (V.Loop n first test step body spot) _ is (L.actions-Loop n first test step body spot))

pub end-append : (xs : List ℕ) → xs ++ [] ≡ xs
end-append [] = refl
end-append (x ∷ xs) = ap (λ ns. x ∷ ns) (end-append xs)

pub in-Made : (fs : Formals) (h : Sight) (s : Stmt) (ls : List Local) (before : List Stmt) (body : Option Stmt) → s ≡ V.Made ls before body → all_in fs h before ++ all_in fs h (those body) ≡ unbounded_in fs h s
in-Made fs h s ls before None is = end-append (all_in fs h before) ∙ sym (at-level fs h s (V.Made ls before None) _ is (L.actions-Made ls before None) ∙ stmts-in fs h before)
in-Made fs h s ls before (Some b) is =
    sym (at-level fs h s (V.Made ls before (Some b)) _ is (L.actions-Made ls before (Some b)) ∙ flat-append (λ (a : Actions). a.unbounded fs h) (map actions before) (actions b ∷ []) ∙ (λ j. stmts-in fs h before j ++ (unbounded_in fs h b ++ [])))

pub in-nothing : (fs : Formals) (h : Sight) (s t : Stmt) (a : Actions) → s ≡ t → actions t ≡ a → a.unbounded fs h ≡ [] → [] ≡ unbounded_in fs h s
in-nothing fs h s t a is level none = sym (at-level fs h s t a is level ∙ none)

pub in-Assign : (fs : Formals) (h : Sight) (s : Stmt) (to : List Expr) (value : Expr) (later : Bool) (spot : Spot) → s ≡ V.Assign to value later spot → [] ≡ unbounded_in fs h s
in-Assign fs h s to value later spot is = sym (at-level fs h s (V.Assign to value later spot) _ is (L.actions-Assign to value later spot))

pub in-Call : (fs : Formals) (h : Sight) (s : Stmt) (f : ℕ) (es : List Expr) (spot : Spot) → s ≡ V.Call f es spot → [] ≡ unbounded_in fs h s
in-Call fs h s f es spot is = sym (at-level fs h s (V.Call f es spot) _ is (L.actions-Call f es spot))

pub in-Break : (fs : Formals) (h : Sight) (s : Stmt) → s ≡ V.Break → [] ≡ unbounded_in fs h s
in-Break fs h s is = sym (at-level fs h s V.Break _ is L.actions-Break)

pub in-Continue : (fs : Formals) (h : Sight) (s : Stmt) → s ≡ V.Continue → [] ≡ unbounded_in fs h s
in-Continue fs h s is = sym (at-level fs h s V.Continue _ is L.actions-Continue)

pub in-Return : (fs : Formals) (h : Sight) (s : Stmt) → s ≡ V.Return → [] ≡ unbounded_in fs h s
in-Return fs h s is = sym (at-level fs h s V.Return _ is L.actions-Return)

-- results
pub least-as : (least r : Option ℕ) (xs ys : List ℕ) → xs ≡ ys → r ≡ least_from least xs → r ≡ least_from least ys
least-as least r xs ys same is = is ∙ ap (least_from least) same

pub least-two : (least mid r : Option ℕ) (xs ys zs : List ℕ) → xs ++ ys ≡ zs → mid ≡ least_from least xs → r ≡ least_from mid ys → r ≡ least_from least zs
least-two least mid r xs ys zs same one two = two ∙ ap (λ o. least_from o ys) one ∙ sym (least-append least xs ys) ∙ ap (least_from least) same

pub least-same : (least : Option ℕ) (xs : List ℕ) → [] ≡ xs → least ≡ least_from least xs
least-same least xs none = sym (least-nothing least) ∙ ap (least_from least) none

pub give-as : {E : Type 0} (r : Result (Option ℕ) E) (k : Known) (least : Option ℕ) (xs ys : Sight → List ℕ) → ((h : Sight) → xs h ≡ ys h) → LeastGives r k least xs → LeastGives r k least ys
give-as (Ok o) k least xs ys same g = λ h sure. least-as least o (xs h) (ys h) (same h) (g h sure)
give-as (Err x) k least xs ys same g = tt

pub give-two : {E : Type 0} (r : Result (Option ℕ) E) (k : Known) (least mid : Option ℕ) (xs ys zs : Sight → List ℕ) → ((h : Sight) → xs h ++ ys h ≡ zs h) → ((h : Sight) → SureAs k.variables.now h → mid ≡ least_from least (xs h)) → LeastGives r k mid ys
    → LeastGives r k least zs
give-two (Ok o) k least mid xs ys zs same one g = λ h sure. least-two least mid o (xs h) (ys h) (zs h) (same h) (one h sure) (g h sure)
give-two (Err x) k least mid xs ys zs same one g = tt

pub give-loop : {E : Type 0} (r : Result (Option ℕ) E) (at : ℕ) (c : Control) (body : Stmt) (fs : Formals) (k inside : Known) (v : Variable) (b : Bool) (least so_far : Option ℕ) → v ≡ variable_of c → inside.variables.now ≡ v ∷ k.variables.now
    → ((h : Sight) → SureAs k.variables.now h → b ≡ A.is_counted (control_at at c) (actions body) fs h) → so_far ≡ unless_counted b least at → LeastGives r inside so_far (λ h. unbounded_in fs h body)
    → LeastGives r k least (A.unbounded_in (control_at at c) (actions body) fs)
give-loop (Ok o) at c body fs k inside v b least so_far is list counted unless g =
    λ h sure. loop-least at c body fs b least so_far o h (counted h sure) unless (g (A.entered (control_at at c) h) (sure-inside at c v inside.variables.now k.variables.now h is list sure))
give-loop (Err x) at c body fs k inside v b least so_far is list counted unless g = tt

-- one more of a list
pub more-least : {A : Type 0} (f : A → List ℕ) (so_far next least : Option ℕ) (x : A) (xs : List A) (all : List ℕ) → next ≡ least_from so_far (f x) → least_from so_far (flat_map f (x ∷ xs)) ≡ least_from least all → least_from next (flat_map f xs) ≡ least_from least all
more-least f so_far next least x xs all is h = ap (λ o. least_from o (flat_map f xs)) is ∙ sym (least-append so_far (f x) (flat_map f xs)) ∙ h

pub none-least : (so_far least : Option ℕ) (xs all : List ℕ) → xs ≡ [] → least_from so_far xs ≡ least_from least all → so_far ≡ least_from least all
none-least so_far least xs all none h = sym (least-nothing so_far) ∙ sym (ap (least_from so_far) none) ∙ h

-- in a design
formals-same : (o : Option Function) → formals_or_none o ≡ elim o [ None ↦ [] | Some f ↦ parameters f ]
formals-same None = refl
formals-same (Some f) = refl

pub formals-of : (d : Design) (fs : List Function) → d.functions ≡ fs → formals_in fs ≡ formals d
formals-of d fs is = fun_ext (λ n. formals-same (slice_get fs n) ∙ sym (ap (λ (xs : List Function). elim (slice_get xs n) [ None ↦ [] | Some f ↦ parameters f ]) is))

pub top-least : {E : Type 0} (r : Result (Option ℕ) E) (fs : List Function) (k : Known) (s : Stmt) → k.variables.now ≡ [] → LeastGives r k None (λ h. unbounded_in (formals_in fs) h s) → IfOk r (λ o. (d : Design) → d.functions ≡ fs → IsLeastToken (unbounded_of d s) o)
top-least (Ok o) fs k s none g = λ d is.
    let h = unseen (parts d) in
    is-least (unbounded_of d s) o (sym (g h (λ q. sym (ap (λ vs. sure_of vs q) none)) ∙ ap (λ (f : Formals). least_from None (unbounded_in f h s)) (formals-of d fs is)))
top-least (Err x) fs k s none g = tt
