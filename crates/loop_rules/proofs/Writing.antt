-- What each form of statement writes.
use Rattle.std.proofs.Common.{◌≡◌, ℕ, zero, suc, ◌+◌, ◌<◌, min, length, get_or, drop, Bool, true, false, ◌||◌, ◌==◌, cond, List, [], ◌∷◌, ◌++◌, map, flat_map, Option, Some, None, refl, ap, sym, ◌∙◌, arith}
use Rattle.sv_source.specs.declared.token.Spot.{Spot}
use Rattle.sv_types.specs.declared.expression.Expr.{Expr}
use Rattle.sv_types.specs.declared.statement.CaseKind.{CaseKind}
use Rattle.sv_types.specs.declared.statement.CaseItem.{CaseItem}
use Rattle.sv_types.specs.declared.statement.Formal.{Formal}
use Rattle.sv_types.specs.declared.statement.Local.{Local}
use Rattle.sv_types.specs.declared.statement.Stmt.{Stmt}
use Rattle.sv_types.specs.declared.statement.Stmt.TheVariants as V
use Rattle.sv_types.specs.declared.statement.Way.{Way}
use Rattle.sv_types.specs.declared.statement.Way.TheVariants as W
use Rattle.sv_types.specs.Surroundings.{Parameter, local_number}
use Rattle.sv_types.specs.Functions.{parameter}
use Rattle.sv_types.specs.Expressions.{meaning}
use Rattle.eval_exprs.proofs.Turns.{at-front}
use Rattle.design_breaks.specs.Actions as A
use Rattle.design_breaks.specs.Actions.{Actions, Passed, actions, is_out, passed_out}
use Rattle.break_laws.proofs.ActionLevels as L
use Rattle.break_laws.proofs.ActionLevels.{item_actions, perhaps}
use Rattle.loop_laws.specs.Walks.{Formals, those, bodies}
use Rattle.loop_rules.specs.Targets.{names, roots_in, targets_of, targets_out, named_by_way}

or-again : (a b c : Bool) → ((a || b) || c) ≡ (a || (b || c))
or-again true b c = refl
or-again false b c = refl

or-none : (b : Bool) → b ≡ (b || false)
or-none true = refl
or-none false = refl

pub names-append : (number : ℕ) (xs ys : List ℕ) → names number (xs ++ ys) ≡ (names number xs || names number ys)
names-append number [] ys = refl
names-append number (x ∷ xs) ys = ap (λ b. (x == number) || b) (names-append number xs ys) ∙ sym (or-again (x == number) (names number xs) (names number ys))

abbrev all_in : Formals → List Stmt → List ℕ
all_in fs ss = flat_map (targets_of fs) ss

abbrev parts_in : Formals → List Actions → List ℕ
parts_in fs as' = flat_map (λ (a : Actions). a.targets fs) as'

flat-append : {A : Type 0} (f : A → List ℕ) (xs ys : List A) → flat_map f (xs ++ ys) ≡ flat_map f xs ++ flat_map f ys
flat-append f [] ys = refl
flat-append f (x ∷ xs) ys = ap (λ ns. f x ++ ns) (flat-append f xs ys) ∙ again (f x) (flat_map f xs) (flat_map f ys)
  where
    again : (a b c : List ℕ) → a ++ (b ++ c) ≡ (a ++ b) ++ c
    again [] b c = refl
    again (x ∷ a) b c = ap (λ ns. x ∷ ns) (again a b c)

stmts-in : (fs : Formals) (ss : List Stmt) → parts_in fs (map actions ss) ≡ all_in fs ss
stmts-in fs [] = refl
stmts-in fs (s ∷ ss) = ap (λ ns. targets_of fs s ++ ns) (stmts-in fs ss)

other-in : (fs : Formals) (o : Option Stmt) → parts_in fs (A.none_or (perhaps o)) ≡ all_in fs (those o)
other-in fs None = refl
other-in fs (Some s) = refl

items-in : (fs : Formals) (is : List CaseItem) → parts_in fs (A.item_bodies (map item_actions is)) ≡ all_in fs (bodies is)
items-in fs [] = refl
items-in fs (i ∷ is) = λ j. (L.actions-of-item i j).body.targets fs ++ items-in fs is j

at : (fs : Formals) (s t : Stmt) (a : Actions) → s ≡ t → actions t ≡ a → targets_of fs s ≡ a.targets fs
at fs s t a is level = ap (targets_of fs) is ∙ ap (λ (x : Actions). x.targets fs) level

pub in-Block : (fs : Formals) (s : Stmt) (ls : List Local) (ss : List Stmt) (number : ℕ) → s ≡ V.Block ls ss → names number (all_in fs ss) ≡ names number (targets_of fs s)
in-Block fs s ls ss number is = sym (ap (names number) (at fs s (V.Block ls ss) _ is (L.actions-Block ls ss) ∙ stmts-in fs ss))

pub in-If : (fs : Formals) (s : Stmt) (on : Expr) (body : Stmt) (other : Option Stmt) (number : ℕ) → s ≡ V.If on body other → (names number (targets_of fs body) || names number (all_in fs (those other))) ≡ names number (targets_of fs s)
in-If fs s on body other number is =
    sym (ap (names number) (at fs s (V.If on body other) _ is (L.actions-If on body other) ∙ ap (λ ns. targets_of fs body ++ ns) (other-in fs other)) ∙ names-append number (targets_of fs body) (all_in fs (those other)))

pub in-Case : (fs : Formals) (s : Stmt) (kind : CaseKind) (on : Expr) (is : List CaseItem) (other : Option Stmt) (number : ℕ) → s ≡ V.Case kind on is other → (names number (all_in fs (bodies is)) || names number (all_in fs (those other))) ≡ names number (targets_of fs s)
in-Case fs s kind on is other number same =
    sym
    (
    ap (names number)
    (
    at fs s (V.Case kind on is other) _ same (L.actions-Case kind on is other) ∙ flat-append (λ (a : Actions). a.targets fs) (A.item_bodies (map item_actions is)) (A.none_or (perhaps other))
    ∙ (λ j. items-in fs is j ++ other-in fs other j)
    )
    ∙ names-append number (all_in fs (bodies is)) (all_in fs (those other))
    )

pub in-Loop : (fs : Formals) (s : Stmt) (n : ℕ) (first test step : Expr) (body : Stmt) (spot : Spot) (number : ℕ) → s ≡ V.Loop n first test step body spot → ((local_number n == number) || names number (targets_of fs body)) ≡ names number (targets_of fs s)
in-Loop fs s n first test step body spot number is = sym (ap (names number) (at fs s (V.Loop n first test step body spot) _ is (L.actions-Loop n first test step body spot)))

roots-same : (es : List Expr) → A.roots_of es ≡ roots_in es
roots-same es = refl

pub in-Assign : (fs : Formals) (s : Stmt) (to : List Expr) (value : Expr) (later : Bool) (spot : Spot) (number : ℕ) → s ≡ V.Assign to value later spot → names number (roots_in to) ≡ names number (targets_of fs s)
in-Assign fs s to value later spot number is = sym (ap (names number) (at fs s (V.Assign to value later spot) _ is (L.actions-Assign to value later spot)))

pub in-Call : (fs : Formals) (s : Stmt) (f : ℕ) (es : List Expr) (spot : Spot) (number : ℕ) → s ≡ V.Call f es spot → names number (targets_out (fs f) es) ≡ names number (targets_of fs s)
in-Call fs s f es spot number is = sym (ap (names number) (at fs s (V.Call f es spot) _ is (L.actions-Call f es spot)))

pub in-Made : (fs : Formals) (s : Stmt) (ls : List Local) (before : List Stmt) (body : Option Stmt) (number : ℕ) → s ≡ V.Made ls before body → (names number (all_in fs before) || names number (all_in fs (those body))) ≡ names number (targets_of fs s)
in-Made fs s ls before None number is =
    sym (or-none (names number (all_in fs before))) ∙ sym (ap (names number) (at fs s (V.Made ls before None) _ is (L.actions-Made ls before None) ∙ stmts-in fs before))
in-Made fs s ls before (Some b) number is =
    sym
    (
    ap (names number) (at fs s (V.Made ls before (Some b)) _ is (L.actions-Made ls before (Some b)) ∙ flat-append (λ (a : Actions). a.targets fs) (map actions before) (actions b ∷ []) ∙ (λ j. stmts-in fs before j ++ (targets_of fs b ++ [])))
    ∙ names-append number (all_in fs before) (all_in fs (those (Some b)))
    )

pub in-jump : (fs : Formals) (s t : Stmt) (number : ℕ) → s ≡ t → actions t ≡ A.counted (A.saying []) → false ≡ names number (targets_of fs s)
in-jump fs s t number is level = sym (ap (names number) (at fs s t _ is level))

-- actuals
pub passed-one : (number : ℕ) (p : Parameter) (ps : List Parameter) (e : Expr) (es : List Expr) → names number (targets_out (p ∷ ps) (e ∷ es)) ≡ (named_by_way number p.way e || names number (targets_out ps es))
passed-one number p ps e es = by p.way
  where
    one : Passed
    one = record { at = e.spot.at; to = (meaning e).roots }

    by : (w : Way) → names number (flat_map (λ (q : Passed). q.to) (cond (is_out w) (one ∷ []) [] ++ passed_out ps es)) ≡ (named_by_way number w e || names number (targets_out ps es))
    by W.Input = refl
    by W.Output = names-append number (meaning e).roots (targets_out ps es)
    by W.Inout = names-append number (meaning e).roots (targets_out ps es)

pub hit : (number : ℕ) (xs ys : List ℕ) → names number xs ≡ true → names number (xs ++ ys) ≡ true
hit number xs ys is = names-append number xs ys ∙ ap (λ b. b || names number ys) is

pub skip : (number : ℕ) (xs ys : List ℕ) → names number xs ≡ false → names number (xs ++ ys) ≡ names number ys
skip number xs ys is = names-append number xs ys ∙ ap (λ b. b || names number ys) is

abbrev left_out : ℕ → List Formal → List Expr → Bool
left_out number fs es = names number (targets_out (map parameter fs) es)

passed-here : (number : ℕ) (fs : List Formal) (es : List Expr) (i : ℕ) (f : Formal) (e : Expr) → i < length fs → i < length es → f ≡ get_or fs i f → e ≡ get_or es i e
    → left_out number (drop i fs) (drop i es) ≡ (named_by_way number f.way e || left_out number (drop (i + 1) fs) (drop (i + 1) es))
passed-here number fs es i f e lf le is at =
    (λ j. left_out number (at-front fs i f lf is j) (at-front es i e le at j)) ∙ passed-one number (parameter f) (map parameter (drop (i + 1) fs)) e (drop (i + 1) es)

pub passed-hit : (number : ℕ) (fs : List Formal) (es : List Expr) (i : ℕ) (f : Formal) (e : Expr) → i < length fs → i < length es → f ≡ get_or fs i f → e ≡ get_or es i e → named_by_way number f.way e ≡ true
    → left_out number (drop i fs) (drop i es) ≡ true
passed-hit number fs es i f e lf le is at h = passed-here number fs es i f e lf le is at ∙ ap (λ b. b || left_out number (drop (i + 1) fs) (drop (i + 1) es)) h

pub passed-skip : (number : ℕ) (fs : List Formal) (es : List Expr) (i : ℕ) (f : Formal) (e : Expr) → i < length fs → i < length es → f ≡ get_or fs i f → e ≡ get_or es i e → named_by_way number f.way e ≡ false
    → left_out number (drop i fs) (drop i es) ≡ left_out number (drop (i + 1) fs) (drop (i + 1) es)
passed-skip number fs es i f e lf le is at h = passed-here number fs es i f e lf le is at ∙ ap (λ b. b || left_out number (drop (i + 1) fs) (drop (i + 1) es)) h

pub none-passed : (number : ℕ) (fs : List Formal) (es : List Expr) (n : ℕ) → n ≡ min (length fs) (length es) → left_out number (drop n fs) (drop n es) ≡ false
none-passed number [] es zero h = refl
none-passed number [] es (suc n) h = refl
none-passed number (f ∷ fs) [] zero h = refl
none-passed number (f ∷ fs) [] (suc n) h = absurd (omega arith)
none-passed number (f ∷ fs) (e ∷ es) zero h = absurd (omega arith)
none-passed number (f ∷ fs) (e ∷ es) (suc n) h = none-passed number fs es n (omega arith)
