-- What each form of statement adds to an unrolled list.
use Rattle.std.proofs.Common.{◌≡◌, ℕ, Bool, List, [], ◌∷◌, ◌++◌, map, Option, Some, None, refl, ap, ◌∙◌}
use Rattle.sv_source.specs.declared.token.Spot.{Spot}
use Rattle.sv_types.specs.declared.expression.Expr.{Expr}
use Rattle.sv_types.specs.declared.statement.CaseKind.{CaseKind}
use Rattle.sv_types.specs.declared.statement.CaseItem.{CaseItem}
use Rattle.sv_types.specs.declared.statement.Local.{Local}
use Rattle.sv_types.specs.declared.statement.Stmt.{Stmt}
use Rattle.sv_types.specs.declared.statement.Stmt.TheVariants as V
use Rattle.sv_types.specs.Surroundings.{Sight}
use Rattle.design_breaks.specs.declared.Unrolled.{Unrolled}
use Rattle.design_breaks.specs.Unrolling.{Unrolls, onward, in_turn, valuing, uncounted, starts_of, counted, looping}
use Rattle.design_breaks.specs.Actions as A
use Rattle.design_breaks.specs.Actions.{Actions, actions, unrolling, is_counted, passed_to}
use Rattle.break_laws.proofs.ActionLevels as L
use Rattle.break_laws.proofs.ActionLevels.{item_actions, control_of, perhaps}
use Rattle.loop_laws.specs.Walks.{Formals, one_more, see, unrolls_of, walk, walk_all, those, bodies, values, walk_before}
use Rattle.loop_laws.proofs.Rows.{onward-row, onward-counted, counted-row, in_turn-append, see-append, see-none}

by : (fs : Formals) (s t : Stmt) (a : Actions) (k : Sight) (u : Unrolled) → s ≡ t → actions t ≡ a → walk fs s k u ≡ onward (a.unrolls fs) k u
by fs s t a k u is level = ap (λ (x : Stmt). walk fs x k u) is ∙ ap (λ (x : Actions). onward (x.unrolls fs) k u) level

all-unroll : (fs : Formals) (ss : List Stmt) → unrolling fs (map actions ss) ≡ map (unrolls_of fs) ss
all-unroll fs [] = refl
all-unroll fs (s ∷ ss) = ap (λ rs. unrolls_of fs s ∷ rs) (all-unroll fs ss)

perhaps-unrolls : (fs : Formals) (o : Option Stmt) → unrolling fs (A.none_or (perhaps o)) ≡ map (unrolls_of fs) (those o)
perhaps-unrolls fs None = refl
perhaps-unrolls fs (Some s) = refl

unrolling-append : (fs : Formals) (as' bs : List Actions) → unrolling fs (as' ++ bs) ≡ unrolling fs as' ++ unrolling fs bs
unrolling-append fs [] bs = refl
unrolling-append fs (a ∷ as') bs = ap (λ rs. a.unrolls fs ∷ rs) (unrolling-append fs as' bs)

items-unroll : (fs : Formals) (is : List CaseItem) → unrolling fs (A.item_bodies (map item_actions is)) ≡ map (unrolls_of fs) (bodies is)
items-unroll fs [] = refl
items-unroll fs (i ∷ is) = λ j. (L.actions-of-item i j).body.unrolls fs ∷ items-unroll fs is j

item-values : (is : List CaseItem) → A.item_values (map item_actions is) ≡ values is
item-values [] = refl
item-values (i ∷ is) = λ j. (L.actions-of-item i j).values ++ item-values is j

pub walk-Block : (fs : Formals) (s : Stmt) (ls : List Local) (ss : List Stmt) (k : Sight) (u : Unrolled) → s ≡ V.Block ls ss → walk fs s k u ≡ walk_all fs ss k (see (starts_of ls) k (one_more u))
walk-Block fs s ls ss k u is =
    by fs s (V.Block ls ss) _ k u is (L.actions-Block ls ss) ∙ counted-row (valuing (starts_of ls) ∷ unrolling fs (map actions ss)) k u
    ∙ ap (λ rs. in_turn rs k (see (starts_of ls) k (one_more u))) (all-unroll fs ss)

pub walk-If : (fs : Formals) (s : Stmt) (on : Expr) (body : Stmt) (other : Option Stmt) (k : Sight) (u : Unrolled) → s ≡ V.If on body other
    → walk fs s k u ≡ walk_all fs (those other) k (walk fs body k (see (on ∷ []) k (one_more u)))
walk-If fs s on body other k u is =
    by fs s (V.If on body other) _ k u is (L.actions-If on body other) ∙ counted-row (valuing (on ∷ []) ∷ unrolls_of fs body ∷ unrolling fs (A.none_or (perhaps other))) k u
    ∙ ap (λ rs. in_turn rs k (walk fs body k (see (on ∷ []) k (one_more u)))) (perhaps-unrolls fs other)

pub walk-Case : (fs : Formals) (s : Stmt) (kind : CaseKind) (on : Expr) (is : List CaseItem) (other : Option Stmt) (k : Sight) (u : Unrolled) → s ≡ V.Case kind on is other
    → walk fs s k u ≡ walk_all fs (those other) k (walk_all fs (bodies is) k (see (values is) k (see (on ∷ []) k (one_more u))))
walk-Case fs s kind on is other k u at =
    let items = map item_actions is in
    let rows = λ (vs : List Expr) (rs : List Unrolls). in_turn rs k (see (on ∷ vs) k (one_more u)) in
    let more = see (on ∷ values is) k (one_more u) in
    by fs s (V.Case kind on is other) _ k u at (L.actions-Case kind on is other)
    ∙ counted-row (valuing (on ∷ A.item_values items) ∷ unrolling fs (A.item_bodies items ++ A.none_or (perhaps other))) k u
    ∙ ap (λ vs. rows vs (unrolling fs (A.item_bodies items ++ A.none_or (perhaps other)))) (item-values is)
    ∙ ap (rows (values is)) (unrolling-append fs (A.item_bodies items) (A.none_or (perhaps other)) ∙ (λ j. items-unroll fs is j ++ perhaps-unrolls fs other j))
    ∙ in_turn-append (map (unrolls_of fs) (bodies is)) (map (unrolls_of fs) (those other)) k more
    ∙ ap (λ v. walk_all fs (those other) k (walk_all fs (bodies is) k v)) (see-append (on ∷ []) (values is) k (one_more u))

pub walk-Loop : (fs : Formals) (s : Stmt) (n : ℕ) (first test step : Expr) (body : Stmt) (spot : Spot) (k : Sight) (u : Unrolled) → s ≡ V.Loop n first test step body spot
    → walk fs s k u ≡ onward (λ j v. looping (is_counted (control_of n first test step spot) (actions body) fs j) (control_of n first test step spot) (unrolls_of fs body) j v) k u
walk-Loop fs s n first test step body spot k u is = by fs s (V.Loop n first test step body spot) _ k u is (L.actions-Loop n first test step body spot)

pub walk-Assign : (fs : Formals) (s : Stmt) (to : List Expr) (value : Expr) (later : Bool) (spot : Spot) (k : Sight) (u : Unrolled) → s ≡ V.Assign to value later spot
    → walk fs s k u ≡ see (value ∷ []) k (see to k (one_more u))
walk-Assign fs s to value later spot k u is =
    by fs s (V.Assign to value later spot) _ k u is (L.actions-Assign to value later spot) ∙ onward-counted (valuing (to ++ value ∷ [])) k u ∙ see-append to (value ∷ []) k (one_more u)

pub walk-Call : (fs : Formals) (s : Stmt) (f : ℕ) (es : List Expr) (spot : Spot) (k : Sight) (u : Unrolled) → s ≡ V.Call f es spot → walk fs s k u ≡ see (passed_to (fs f) es) k (one_more u)
walk-Call fs s f es spot k u is = by fs s (V.Call f es spot) _ k u is (L.actions-Call f es spot) ∙ onward-counted (valuing (passed_to (fs f) es)) k u

before-is : (fs : Formals) (ls : List Local) (ss : List Stmt) (k : Sight) (u : Unrolled) → onward (uncounted (in_turn (valuing (starts_of ls) ∷ unrolling fs (map actions ss)))) k u ≡ walk_before fs ls ss k u
before-is fs ls ss k u = ap (λ rs. onward (uncounted (in_turn (valuing (starts_of ls) ∷ rs))) k u) (all-unroll fs ss)

pub walk-bare : (fs : Formals) (s : Stmt) (ls : List Local) (before : List Stmt) (k : Sight) (u : Unrolled) → s ≡ V.Made ls before None → walk fs s k u ≡ walk_before fs ls before k (one_more u)
walk-bare fs s ls before k u is =
    by fs s (V.Made ls before None) _ k u is (L.actions-Made ls before None) ∙ onward-counted (uncounted (in_turn (valuing (starts_of ls) ∷ unrolling fs (map actions before)))) k u ∙ before-is fs ls before k (one_more u)

pub walk-Made : (fs : Formals) (s : Stmt) (ls : List Local) (before : List Stmt) (body : Stmt) (k : Sight) (u : Unrolled) → s ≡ V.Made ls before (Some body) → walk fs s k u ≡ walk fs body k (walk_before fs ls before k u)
walk-Made fs s ls before body k u is =
    let F = uncounted (in_turn (valuing (starts_of ls) ∷ unrolling fs (map actions before))) in
    by fs s (V.Made ls before (Some body)) _ k u is (L.actions-Made ls before (Some body)) ∙ onward-row (F ∷ unrolls_of fs body ∷ []) k u ∙ ap (walk fs body k) (before-is fs ls before k u)

jump : (fs : Formals) (k : Sight) (u : Unrolled) → onward (counted (valuing [])) k u ≡ one_more u
jump fs k u = onward-counted (valuing []) k u ∙ see-none k (one_more u)

pub walk-Break : (fs : Formals) (s : Stmt) (k : Sight) (u : Unrolled) → s ≡ V.Break → walk fs s k u ≡ one_more u
walk-Break fs s k u is = by fs s V.Break _ k u is L.actions-Break ∙ jump fs k u

pub walk-Continue : (fs : Formals) (s : Stmt) (k : Sight) (u : Unrolled) → s ≡ V.Continue → walk fs s k u ≡ one_more u
walk-Continue fs s k u is = by fs s V.Continue _ k u is L.actions-Continue ∙ jump fs k u

pub walk-Return : (fs : Formals) (s : Stmt) (k : Sight) (u : Unrolled) → s ≡ V.Return → walk fs s k u ≡ one_more u
walk-Return fs s k u is = by fs s V.Return _ k u is L.actions-Return ∙ jump fs k u
