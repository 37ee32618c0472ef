-- The walk over statements adds what the definition lists.
use Rattle.std.proofs.Common.{◌≡◌, ℕ, Bool, List, [], ◌∷◌, ◌++◌, map, flat_map, Option, Some, None, refl, ap, sym, ◌∙◌, rules}
use Rattle.sv_source.specs.declared.token.Spot.{Spot}
use Rattle.sv_types.specs.declared.expression.Expr.{Expr}
use Rattle.sv_types.specs.declared.statement.CaseKind.{CaseKind}
use Rattle.sv_types.specs.declared.statement.CaseItem.{CaseItem}
use Rattle.sv_types.specs.declared.statement.Local.{Local}
use Rattle.sv_types.specs.declared.statement.Stmt.{Stmt, Stmt-F, the_lemmas}
use Rattle.sv_types.specs.declared.statement.Stmt.TheVariants as V
use Rattle.flow_laws.proofs.Terms.{Each, OrNone, by-stmt}
use Rattle.design_breaks.specs.Unrolling.{start_of, starts_of}
use Rattle.design_breaks.specs.Mentions as M
use Rattle.design_breaks.specs.Mentions.{Mentions, mentions, all_mentions}
use Rattle.design_breaks.specs.Actions.{Actions, Item, actions, together, none_or, item_values, item_bodies}
use Rattle.break_laws.proofs.ActionLevels as A
use Rattle.break_laws.proofs.ActionLevels.{perhaps, item_actions}
use Rattle.body_mentions.specs.declared.Mentioned.{Mentioned}
use Rattle.body_mentions.specs.Walk as W
use Rattle.body_mentions.specs.Walk.{Part, walk, in_turn, one_by_one, all_values, all_bodies, initial_walk, stmt_walk, item_walk}
use Rattle.body_mentions.proofs.Values.{with_more, with-none, with-both, with-call, exprs-add}

abbrev part_or_none : Option Stmt → List Part
part_or_none None = []
part_or_none (Some s) = stmt_walk s ∷ []

abbrev perhaps_walk : Option Stmt → Option Part
perhaps_walk None = None
perhaps_walk (Some s) = Some (stmt_walk s)

if-parts : (o : Option Stmt) (u : Mentioned) → W.if_written (perhaps_walk o) u ≡ one_by_one (part_or_none o) u
if-parts None u = refl
if-parts (Some s) u = refl

-- the walk, one level at a time
walk-Block : (ls : List Local) (ss : List Stmt) → stmt_walk (V.Block ls ss) ≡ (λ u. one_by_one (map stmt_walk ss) (one_by_one (map initial_walk ls) u))
walk-Block ls ss = search (rules, the_lemmas)

walk-If : (on : Expr) (body : Stmt) (other : Option Stmt) → stmt_walk (V.If on body other) ≡ W.stmt_step (Stmt-F.If on (stmt_walk body) (perhaps_walk other))
walk-If on body None = search (rules, the_lemmas)
walk-If on body (Some s) = search (rules, the_lemmas)

walk-Case : (kind : CaseKind) (on : Expr) (is : List CaseItem) (other : Option Stmt) → stmt_walk (V.Case kind on is other) ≡ W.stmt_step (Stmt-F.Case kind on (map item_walk is) (perhaps_walk other))
walk-Case kind on is None = search (rules, the_lemmas)
walk-Case kind on is (Some s) = search (rules, the_lemmas)

walk-Loop : (n : ℕ) (first test step : Expr) (body : Stmt) (spot : Spot)
    → stmt_walk (V.Loop n first test step body spot) ≡ (λ u. stmt_walk body ((walk step).add ((walk test).add ((walk first).add u))))
walk-Loop n first test step body spot = search (rules, the_lemmas)

walk-Assign : (to : List Expr) (value : Expr) (later : Bool) (spot : Spot) → stmt_walk (V.Assign to value later spot) ≡ (λ u. (walk value).add (in_turn (map walk to) u))
walk-Assign to value later spot = search (rules, the_lemmas)

walk-Call : (f : ℕ) (es : List Expr) (spot : Spot) → stmt_walk (V.Call f es spot) ≡ (λ u. in_turn (map walk es) (W.calling f u))
walk-Call f es spot = search (rules, the_lemmas)

walk-Made : (ls : List Local) (before : List Stmt) (body : Option Stmt) → stmt_walk (V.Made ls before body) ≡ W.stmt_step (Stmt-F.Made ls (map stmt_walk before) (perhaps_walk body))
walk-Made ls before None = search (rules, the_lemmas)
walk-Made ls before (Some s) = search (rules, the_lemmas)

walk-Break : stmt_walk V.Break ≡ (λ u. u)
walk-Break = search (rules, the_lemmas)

walk-Continue : stmt_walk V.Continue ≡ (λ u. u)
walk-Continue = search (rules, the_lemmas)

walk-Return : stmt_walk V.Return ≡ (λ u. u)
walk-Return = search (rules, the_lemmas)

walk-item : (i : CaseItem) → item_walk i ≡ record { values = in_turn (map walk i.values); body = stmt_walk i.body }
walk-item i = search (rules, the_lemmas)

-- one list behind another
turn-append : (xs ys : List Expr) (u : Mentioned) → in_turn (map walk ys) (in_turn (map walk xs) u) ≡ in_turn (map walk (xs ++ ys)) u
turn-append [] ys u = refl
turn-append (x ∷ xs) ys u = turn-append xs ys ((walk x).add u)

each-append : (ps qs : List Part) (u : Mentioned) → one_by_one qs (one_by_one ps u) ≡ one_by_one (ps ++ qs) u
each-append [] qs u = refl
each-append (p ∷ ps) qs u = each-append ps qs (p u)

-- what locals start with
locals-walk : (ls : List Local) (u : Mentioned) → one_by_one (map initial_walk ls) u ≡ in_turn (map walk (starts_of ls)) u
locals-walk [] u = refl
locals-walk (l ∷ ls) u = by l.initial (locals-walk ls)
  where
    by : (o : Option Expr) → ((v : Mentioned) → one_by_one (map initial_walk ls) v ≡ in_turn (map walk (starts_of ls)) v)
        → one_by_one (map initial_walk ls) (elim o [ None ↦ u | Some e ↦ (walk e).add u ]) ≡ in_turn (map walk ((elim o [ None ↦ [] | Some e ↦ e ∷ [] ]) ++ flat_map start_of ls)) u
    by None h = h u
    by (Some e) h = h ((walk e).add u)

-- parts that add what is said
abbrev Says : Part → Actions → Type 0
Says p a = (u : Mentioned) → p u ≡ with_more u a.said

abbrev AllSay : List Part → List Actions → Type 0
AllSay [] [] = Unit {0}
AllSay [] (a ∷ as') = ⊥
AllSay (p ∷ ps) [] = ⊥
AllSay (p ∷ ps) (a ∷ as') = Says p a × AllSay ps as'

abbrev said_of : Actions → Mentions
said_of a = a.said

parts-add : (ps : List Part) (as' : List Actions) → AllSay ps as' → (u : Mentioned) → one_by_one ps u ≡ with_more u (M.all (map (λ (a : Actions). a.said) as'))
parts-add [] [] say u = with-none u
parts-add [] (a ∷ as') say u = absurd say
parts-add (p ∷ ps) [] say u = absurd say
parts-add (p ∷ ps) (a ∷ as') say u =
    ap (one_by_one ps) (say.0 u)
    ∙ parts-add ps as' say.1 (with_more u a.said)
    ∙ with-both u a.said (M.all (map (λ (b : Actions). b.said) as'))

together-adds : (es : List Expr) (ps : List Part) (as' : List Actions) → AllSay ps as' → (u : Mentioned) → one_by_one ps (in_turn (map walk es) u) ≡ with_more u (together es as').said
together-adds es ps as' say u =
    ap (one_by_one ps) (exprs-add es u)
    ∙ parts-add ps as' say (with_more u (all_mentions es))
    ∙ with-both u (all_mentions es) (M.all (map (λ (a : Actions). a.said) as'))

abbrev Adds : Stmt → Type 0
Adds s = Says (stmt_walk s) (actions s)

say-each : (ss : List Stmt) → Each Adds ss → AllSay (map stmt_walk ss) (map actions ss)
say-each [] each = tt
say-each (s ∷ ss) each = (each.0, say-each ss each.1)

say-or-none : (o : Option Stmt) → OrNone Adds o → AllSay (part_or_none o) (none_or (perhaps o))
say-or-none None h = tt
say-or-none (Some s) h = (h, tt)

say-append : (ps qs : List Part) (as' bs : List Actions) → AllSay ps as' → AllSay qs bs → AllSay (ps ++ qs) (as' ++ bs)
say-append [] qs [] bs h g = g
say-append [] qs (a ∷ as') bs h g = absurd h
say-append (p ∷ ps) qs [] bs h g = absurd h
say-append (p ∷ ps) qs (a ∷ as') bs h g = (h.0, say-append ps qs as' bs h.1 g)

-- items of a `case`
abbrev body_of : CaseItem → Part
body_of i = stmt_walk i.body

values-walk : (is : List CaseItem) (u : Mentioned) → all_values (map item_walk is) u ≡ in_turn (map walk (item_values (map item_actions is))) u
values-walk [] u = refl
values-walk (i ∷ is) u =
    ap (λ (x : W.Item). all_values (map item_walk is) (x.values u)) (walk-item i)
    ∙ values-walk is (in_turn (map walk i.values) u)
    ∙ turn-append i.values (item_values (map item_actions is)) u
    ∙ sym (ap (λ (x : Item). in_turn (map walk (x.values ++ item_values (map item_actions is))) u) (A.actions-of-item i))

bodies-walk : (is : List CaseItem) (u : Mentioned) → all_bodies (map item_walk is) u ≡ one_by_one (map body_of is) u
bodies-walk [] u = refl
bodies-walk (i ∷ is) u = ap (λ (x : W.Item). all_bodies (map item_walk is) (x.body u)) (walk-item i) ∙ bodies-walk is (stmt_walk i.body u)

abbrev ItemAdds : CaseItem → Type 0
ItemAdds i = Adds i.body

say-items : (is : List CaseItem) → Each ItemAdds is → AllSay (map body_of is) (item_bodies (map item_actions is))
say-items [] each = tt
say-items (i ∷ is) each = (λ u. each.0 u ∙ sym (ap (λ (x : Item). with_more u x.body.said) (A.actions-of-item i)), say-items is each.1)

-- from the level of a statement in both
by-levels : (s : Stmt) (p : Part) (a : Actions) → stmt_walk s ≡ p → actions s ≡ a → Says p a → Adds s
by-levels s p a w is h u = ap (λ (q : Part). q u) w ∙ h u ∙ sym (ap (λ (b : Actions). with_more u b.said) is)

adds-Block : (ls : List Local) (ss : List Stmt) → Each Adds ss → Adds (V.Block ls ss)
adds-Block ls ss each =
    by-levels (V.Block ls ss) _ _ (walk-Block ls ss) (A.actions-Block ls ss)
    (λ u. ap (one_by_one (map stmt_walk ss)) (locals-walk ls u) ∙ together-adds (starts_of ls) (map stmt_walk ss) (map actions ss) (say-each ss each) u)

adds-If : (on : Expr) (body : Stmt) (other : Option Stmt) → Adds body → OrNone Adds other → Adds (V.If on body other)
adds-If on body other h g =
    by-levels (V.If on body other) _ _ (walk-If on body other) (A.actions-If on body other)
    (λ u. if-parts other (stmt_walk body ((walk on).add u)) ∙ together-adds (on ∷ []) (stmt_walk body ∷ part_or_none other) (actions body ∷ none_or (perhaps other)) (h, say-or-none other g) u)

adds-Case : (kind : CaseKind) (on : Expr) (is : List CaseItem) (other : Option Stmt) → Each ItemAdds is → OrNone Adds other → Adds (V.Case kind on is other)
adds-Case kind on is other each g =
    by-levels (V.Case kind on is other) _ _ (walk-Case kind on is other) (A.actions-Case kind on is other)
    (λ u. if-parts other (all_bodies (map item_walk is) (all_values (map item_walk is) ((walk on).add u)))
    ∙ ap (λ v. one_by_one (part_or_none other) (all_bodies (map item_walk is) v)) (values-walk is ((walk on).add u))
    ∙ ap (one_by_one (part_or_none other)) (bodies-walk is (in_turn (map walk (item_values (map item_actions is))) ((walk on).add u)))
    ∙ each-append (map body_of is) (part_or_none other) (in_turn (map walk (on ∷ item_values (map item_actions is))) u)
    ∙ together-adds (on ∷ item_values (map item_actions is)) (map body_of is ++ part_or_none other) (item_bodies (map item_actions is) ++ none_or (perhaps other))
    (say-append (map body_of is) (part_or_none other) (item_bodies (map item_actions is)) (none_or (perhaps other)) (say-items is each) (say-or-none other g)) u)

adds-Loop : (n : ℕ) (first test step : Expr) (body : Stmt) (spot : Spot) → Adds body → Adds (V.Loop n first test step body spot)
adds-Loop n first test step body spot h =
    by-levels (V.Loop n first test step body spot) _ _ (walk-Loop n first test step body spot) (A.actions-Loop n first test step body spot)
    (λ u. together-adds (first ∷ test ∷ step ∷ []) (stmt_walk body ∷ []) (actions body ∷ []) (h, tt) u)

adds-Assign : (to : List Expr) (value : Expr) (later : Bool) (spot : Spot) → Adds (V.Assign to value later spot)
adds-Assign to value later spot =
    by-levels (V.Assign to value later spot) _ _ (walk-Assign to value later spot) (A.actions-Assign to value later spot)
    (λ u. turn-append to (value ∷ []) u ∙ exprs-add (to ++ value ∷ []) u)

adds-Call : (f : ℕ) (es : List Expr) (spot : Spot) → Adds (V.Call f es spot)
adds-Call f es spot = by-levels (V.Call f es spot) _ _ (walk-Call f es spot) (A.actions-Call f es spot) (λ u. exprs-add es (W.calling f u) ∙ with-call u f (all_mentions es))

adds-Made : (ls : List Local) (before : List Stmt) (body : Option Stmt) → Each Adds before → OrNone Adds body → Adds (V.Made ls before body)
adds-Made ls before None each g =
    by-levels (V.Made ls before None) _ _ (walk-Made ls before None) (A.actions-Made ls before None)
    (λ u. ap (one_by_one (map stmt_walk before)) (locals-walk ls u) ∙ together-adds (starts_of ls) (map stmt_walk before) (map actions before) (say-each before each) u)
adds-Made ls before (Some s) each g =
    by-levels (V.Made ls before (Some s)) _ _ (walk-Made ls before (Some s)) (A.actions-Made ls before (Some s))
    (λ u. ap (λ v. stmt_walk s (one_by_one (map stmt_walk before) v)) (locals-walk ls u)
    ∙ each-append (map stmt_walk before) (stmt_walk s ∷ []) (in_turn (map walk (starts_of ls)) u)
    ∙ together-adds (starts_of ls) (map stmt_walk before ++ stmt_walk s ∷ []) (map actions before ++ actions s ∷ [])
    (say-append (map stmt_walk before) (stmt_walk s ∷ []) (map actions before) (actions s ∷ []) (say-each before each) (g, tt)) u)

adds-Break : Adds V.Break
adds-Break = by-levels V.Break _ _ walk-Break A.actions-Break (λ u. with-none u)

adds-Continue : Adds V.Continue
adds-Continue = by-levels V.Continue _ _ walk-Continue A.actions-Continue (λ u. with-none u)

adds-Return : Adds V.Return
adds-Return = by-levels V.Return _ _ walk-Return A.actions-Return (λ u. with-none u)

pub stmt-adds : (s : Stmt) (u : Mentioned) → stmt_walk s u ≡ with_more u (actions s).said
stmt-adds = by-stmt Adds ItemAdds (record {
  item = λ i h. h;
  block = adds-Block;
  branch = adds-If;
  select = adds-Case;
  loop = adds-Loop;
  assign = adds-Assign;
  call = adds-Call;
  made = adds-Made;
  breaks = adds-Break;
  continues = adds-Continue;
  returns = adds-Return;
})

-- from nothing
pub whole-is : (s : Stmt) (a b : List ℕ) (r : Mentioned) → a ≡ [] → r ≡ stmt_walk s (record { whole = a; calls = b }) → r.whole ≡ (actions s).said.whole
whole-is s a b r none is = ap (λ (x : Mentioned). x.whole) (is ∙ stmt-adds s (record { whole = a; calls = b })) ∙ ap (λ xs. xs ++ (actions s).said.whole) none

pub calls-are : (s : Stmt) (a b : List ℕ) (r : Mentioned) → b ≡ [] → r ≡ stmt_walk s (record { whole = a; calls = b }) → r.calls ≡ (actions s).said.calls
calls-are s a b r none is = ap (λ (x : Mentioned). x.calls) (is ∙ stmt-adds s (record { whole = a; calls = b })) ∙ ap (λ xs. xs ++ (actions s).said.calls) none
