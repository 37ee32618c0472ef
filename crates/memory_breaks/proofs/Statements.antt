-- The walk over statements marks the signals that they name, as targets or otherwise.
use Rattle.std.proofs.Common.{◌≡◌, ℕ, suc, ◌==◌, Bool, true, false, ◌||◌, List, [], ◌∷◌, ◌++◌, length, map, flat_map, Option, Some, None, slice_get, rules, refl, ap, sym, ◌∙◌, subst, arith}
use Rattle.std.specs.List.{list_any}
use Rattle.std.proofs.lemmas.Bool.Decides.{nat_tests}
use Rattle.std.proofs.lemmas.List.Folds.{list_any-append}
use Rattle.sv_source.specs.declared.token.Spot.{Spot}
use Rattle.sv_types.specs.declared.expression.Expr.{Expr}
use Rattle.sv_types.specs.declared.statement.CaseKind.{CaseKind}
use Rattle.sv_types.specs.declared.statement.CaseItem.{CaseItem}
use Rattle.sv_types.specs.declared.statement.Formal.{Formal}
use Rattle.sv_types.specs.declared.statement.Function.{Function}
use Rattle.sv_types.specs.declared.statement.Local.{Local}
use Rattle.sv_types.specs.declared.statement.Way.{Way}
use Rattle.sv_types.specs.declared.statement.Way.TheVariants as Y
use Rattle.sv_types.specs.declared.statement.Stmt.{Stmt, Stmt-F, the_lemmas}
use Rattle.sv_types.specs.declared.statement.Stmt.TheVariants as V
use Rattle.sv_types.specs.declared.design.Design.{Design}
use Rattle.sv_types.specs.Surroundings.{Parameter, is_signal, local_number}
use Rattle.sv_types.specs.Meanings.{Meaning, Named}
use Rattle.sv_types.specs.Operators.{assigned_width}
use Rattle.sv_types.specs.Runs as R
use Rattle.sv_types.specs.Expressions.{meaning}
use Rattle.sv_types.specs.Functions.{parameter}
use Rattle.sv_types.specs.Statements.{Doing, Item, Limits, doing, no_limits, limits_at, limits_as_target, all_limits, local_limits, none_or, names_by_way, roots_by_way, actual_names, actual_roots, marks_of}
use Rattle.sv_types.proofs.DoingLevels as D
use Rattle.sv_types.proofs.DoingLevels.{item_of, perhaps}
use Rattle.flow_laws.proofs.Terms.{Each, OrNone, Steps, by-stmt}
use Rattle.design_breaks.specs.Breaks.{formals}
use Rattle.memory_breaks.specs.declared.names.Sense.TheVariants as Z
use Rattle.memory_breaks.specs.Marks.{Part}
use Rattle.memory_breaks.specs.Names.{walk, in_turn, first}
use Rattle.memory_breaks.specs.Bodies as W
use Rattle.memory_breaks.specs.Bodies.{one_by_one, initial_walk, stmt_walk, item_walk}
use Rattle.memory_breaks.proofs.Marking.{Marking, idle, also, same, or-assoc, or-false, or-swap}
use Rattle.memory_breaks.proofs.Naming.{expr-names, first-more}

-- the walk, one level at a time
module _ (fns : List Function) where
  abbrev on_walk : Expr → Part
  on_walk e = walk e Z.Named

  walk-Block : (ls : List Local) (ss : List Stmt) → stmt_walk fns (V.Block ls ss) ≡ (λ u. one_by_one (map (stmt_walk fns) ss) (one_by_one (map initial_walk ls) u))
  walk-Block ls ss = search (rules, the_lemmas)

  walk-If : (on : Expr) (body : Stmt) (other : Option Stmt) → stmt_walk fns (V.If on body other) ≡ W.stmt_step fns (Stmt-F.If on (stmt_walk fns body) (W.perhaps fns other))
  walk-If on body None = search (rules, the_lemmas)
  walk-If on body (Some s) = search (rules, the_lemmas)

  walk-Case : (kind : CaseKind) (on : Expr) (is : List CaseItem) (other : Option Stmt)
      → stmt_walk fns (V.Case kind on is other) ≡ W.stmt_step fns (Stmt-F.Case kind on (map (item_walk fns) is) (W.perhaps fns other))
  walk-Case kind on is None = search (rules, the_lemmas)
  walk-Case kind on is (Some s) = search (rules, the_lemmas)

  walk-Loop : (n : ℕ) (start test step : Expr) (body : Stmt) (spot : Spot)
      → stmt_walk fns (V.Loop n start test step body spot) ≡ (λ u. stmt_walk fns body (on_walk step (on_walk test (on_walk start u))))
  walk-Loop n start test step body spot = search (rules, the_lemmas)

  walk-Assign : (to : List Expr) (value : Expr) (later : Bool) (spot : Spot) → stmt_walk fns (V.Assign to value later spot) ≡ (λ u. on_walk value (in_turn (map walk to) Z.Named u))
  walk-Assign to value later spot = search (rules, the_lemmas)

  walk-Call : (f : ℕ) (es : List Expr) (spot : Spot) → stmt_walk fns (V.Call f es spot) ≡ (λ u. W.called fns f es u)
  walk-Call f es spot = search (rules, the_lemmas)

  walk-Made : (ls : List Local) (before : List Stmt) (body : Option Stmt)
      → stmt_walk fns (V.Made ls before body) ≡ W.stmt_step fns (Stmt-F.Made ls (map (stmt_walk fns) before) (W.perhaps fns body))
  walk-Made ls before None = search (rules, the_lemmas)
  walk-Made ls before (Some s) = search (rules, the_lemmas)

  walk-Break : stmt_walk fns V.Break ≡ (λ u. u)
  walk-Break = search (rules, the_lemmas)

  walk-Continue : stmt_walk fns V.Continue ≡ (λ u. u)
  walk-Continue = search (rules, the_lemmas)

  walk-Return : stmt_walk fns V.Return ≡ (λ u. u)
  walk-Return = search (rules, the_lemmas)

  walk-item : (i : CaseItem) → item_walk fns i ≡ (λ u. stmt_walk fns i.body (in_turn (map walk i.values) Z.Named u))
  walk-item i = search (rules, the_lemmas)

module _ (d : Design) (q : ℕ) (signal : is_signal q ≡ true) where
  abbrev has : List Named → Bool
  has ns = list_any (λ (m : Named). m.number == q) ns

  abbrev is_in : List ℕ → Bool
  is_in ns = list_any (λ (n : ℕ). n == q) ns

  abbrev walked : Stmt → Part
  walked = stmt_walk d.functions

  abbrev named_by : Doing → List Named
  named_by x = x.names (formals d)

  abbrev targets_of : Doing → List ℕ
  targets_of x = x.targets (formals d)

  -- whether a statement names it
  abbrev pub it : Doing → Bool
  it x = has (x.names (formals d)) || is_in (x.targets (formals d))

  abbrev any_it : List Doing → Bool
  any_it [] = false
  any_it (x ∷ xs) = it x || any_it xs

  any-names : (xs ys : List Named) → has (xs ++ ys) ≡ (has xs || has ys)
  any-names xs ys = list_any-append (λ (m : Named). m.number == q) xs ys

  any-numbers : (xs ys : List ℕ) → is_in (xs ++ ys) ≡ (is_in xs || is_in ys)
  any-numbers xs ys = list_any-append (λ (n : ℕ). n == q) xs ys

  it-parts : (xs : List Doing) → (has (flat_map named_by xs) || is_in (flat_map targets_of xs)) ≡ any_it xs
  it-parts [] = refl
  it-parts (x ∷ xs) =
      (λ i. any-names (named_by x) (flat_map named_by xs) i || any-numbers (targets_of x) (flat_map targets_of xs) i)
      ∙ or-swap (has (named_by x)) (has (flat_map named_by xs)) (is_in (targets_of x)) (is_in (flat_map targets_of xs))
      ∙ ap (λ b. it x || b) (it-parts xs)

  it-composed : (own : List Named) (xs : List Doing) → (has (own ++ flat_map named_by xs) || is_in (flat_map targets_of xs)) ≡ (has own || any_it xs)
  it-composed own xs =
      ap (λ b. b || is_in (flat_map targets_of xs)) (any-names own (flat_map named_by xs))
      ∙ sym (or-assoc (has own) (has (flat_map named_by xs)) (is_in (flat_map targets_of xs)))
      ∙ ap (λ b. has own || b) (it-parts xs)

  any-it-append : (xs ys : List Doing) → any_it (xs ++ ys) ≡ (any_it xs || any_it ys)
  any-it-append [] ys = refl
  any-it-append (x ∷ xs) ys = ap (λ b. it x || b) (any-it-append xs ys) ∙ or-assoc (it x) (any_it xs) (any_it ys)

  abbrev Claim : Stmt → Type 0
  Claim s = Marking q (walked s) (it (doing s))

  abbrev ItemClaim : CaseItem → Type 0
  ItemClaim i = Claim i.body

  -- expressions
  of-expr : (e : Expr) → Marking q (walk e Z.Named) (has (meaning e).names)
  of-expr e = (expr-names q signal e).named

  of-values : (w : ℕ) (es : List Expr) → Marking q (in_turn (map walk es) Z.Named) (has (all_limits (map (limits_at w) (map meaning es))).names)
  of-values w [] = idle q
  of-values w (e ∷ es) = same q (sym (any-names (meaning e).names (all_limits (map (limits_at w) (map meaning es))).names)) (also q (of-expr e) (of-values w es))

  of-targets : (es : List Expr) → Marking q (in_turn (map walk es) Z.Named) (has (all_limits (map limits_as_target (map meaning es))).names || is_in (flat_map (λ (m : Meaning). m.roots) (map meaning es)))
  of-targets [] = idle q
  of-targets (e ∷ es) =
      let m = meaning e in
      let inner = (all_limits (map limits_as_target (map meaning es))).names in
      let roots = flat_map (λ (x : Meaning). x.roots) (map meaning es) in
      same q (ap (λ b. b || (has inner || is_in roots)) (expr-names q signal e).target
      ∙ or-swap (has m.index_names) (is_in m.roots) (has inner) (is_in roots)
      ∙ sym (λ i. any-names m.index_names inner i || any-numbers m.roots roots i))
      (also q (of-expr e) (of-targets es))

  abbrev meaning_or_none : Option Expr → Option Meaning
  meaning_or_none o = elim o [ None ↦ None | Some e ↦ Some (meaning e) ]

  abbrev limits_or_none : List Bool → Option Meaning → Limits
  limits_or_none marks o = elim o [ None ↦ no_limits | Some m ↦ limits_at (assigned_width marks m) m ]

  abbrev start_of : Option Expr → Part
  start_of o u = elim o [ None ↦ u | Some e ↦ walk e Z.Named u ]

  of-initial : (marks : List Bool) (o : Option Expr) → Marking q (start_of o) (has (limits_or_none marks (meaning_or_none o)).names)
  of-initial marks None = idle q
  of-initial marks (Some e) = of-expr e

  of-locals : (ls : List Local) → Marking q (one_by_one (map initial_walk ls)) (has (all_limits (map local_limits ls)).names)
  of-locals [] = idle q
  of-locals (l ∷ ls) = same q (sym (any-names (local_limits l).names (all_limits (map local_limits ls)).names)) (also q (of-initial (marks_of l) l.initial) (of-locals ls))

  -- lists of statements
  of-body : (ss : List Stmt) → Each Claim ss → Marking q (one_by_one (map walked ss)) (any_it (map doing ss))
  of-body [] each = idle q
  of-body (s ∷ ss) each = also q each.0 (of-body ss each.1)

  of-other : (o : Option Stmt) → OrNone Claim o → Marking q (λ u. W.if_written (W.perhaps d.functions o) u) (any_it (none_or (perhaps o)))
  of-other None h = idle q
  of-other (Some s) h = same q (sym (or-false (it (doing s)))) h

  -- items of a `case`
  abbrev does : Item → Doing
  does i = i.does

  abbrev values_in : Item → List Meaning
  values_in i = i.values

  has-append : (w : ℕ) (ms ns : List Meaning) → has (all_limits (map (limits_at w) (ms ++ ns))).names ≡ (has (all_limits (map (limits_at w) ms)).names || has (all_limits (map (limits_at w) ns)).names)
  has-append w [] ns = refl
  has-append w (m ∷ ms) ns =
      let more = (all_limits (map (limits_at w) ms)).names in
      any-names m.names (all_limits (map (limits_at w) (ms ++ ns))).names
      ∙ ap (λ b. has m.names || b) (has-append w ms ns)
      ∙ or-assoc (has m.names) (has more) (has (all_limits (map (limits_at w) ns)).names)
      ∙ sym (ap (λ b. b || has (all_limits (map (limits_at w) ns)).names) (any-names m.names more))

  of-item : (w : ℕ) (i : CaseItem) → ItemClaim i → Marking q (item_walk d.functions i) (has (all_limits (map (limits_at w) (item_of i).values)).names || it (item_of i).does)
  of-item w i h =
      subst (λ (p : Part). Marking q p (has (all_limits (map (limits_at w) (item_of i).values)).names || it (item_of i).does)) (sym (walk-item d.functions i))
      (subst (λ (x : Item). Marking q (λ u. walked i.body (in_turn (map walk i.values) Z.Named u)) (has (all_limits (map (limits_at w) x.values)).names || it x.does)) (sym (D.item-of i))
      (also q (of-values w i.values) h))

  of-items : (w : ℕ) (is : List CaseItem) → Each ItemClaim is
      → Marking q (one_by_one (map (item_walk d.functions) is)) (has (all_limits (map (limits_at w) (flat_map values_in (map item_of is)))).names || any_it (map does (map item_of is)))
  of-items w [] each = idle q
  of-items w (i ∷ is) each =
      let own = has (all_limits (map (limits_at w) (item_of i).values)).names in
      let rest = has (all_limits (map (limits_at w) (flat_map values_in (map item_of is)))).names in
      same q (or-swap own (it (item_of i).does) rest (any_it (map does (map item_of is)))
      ∙ sym (ap (λ b. b || any_it (map does (map item_of (i ∷ is)))) (has-append w (item_of i).values (flat_map values_in (map item_of is)))))
      (also q (of-item w i each.0) (of-items w is each.1))

  -- what is passed to formals
  of-actual : (w : Way) (e : Expr) → Marking q (walk e Z.Named) (has (names_by_way w (meaning e)) || is_in (roots_by_way w (meaning e)))
  of-actual Y.Input e = same q (sym (or-false (has (meaning e).names))) (of-expr e)
  of-actual Y.Output e = same q (expr-names q signal e).target (of-expr e)
  of-actual Y.Inout e = same q (more (has (meaning e).index_names) (is_in (meaning e).roots) (has (meaning e).names) (expr-names q signal e).target) (of-expr e)
    where
      more : (a b c : Bool) → c ≡ (a || b) → c ≡ (c || b)
      more true true c is = is ∙ sym (ap (λ x. x || true) is)
      more true false c is = is ∙ sym (ap (λ x. x || false) is)
      more false true c is = is ∙ sym (ap (λ x. x || true) is)
      more false false c is = is ∙ sym (ap (λ x. x || false) is)

  of-actuals : (ps : List Parameter) (es : List Expr) → Marking q (first (length ps) (map walk es)) (has (actual_names ps (map meaning es)) || is_in (actual_roots ps (map meaning es)))
  of-actuals [] [] = idle q
  of-actuals [] (e ∷ es) = idle q
  of-actuals (p ∷ ps) [] = idle q
  of-actuals (p ∷ ps) (e ∷ es) =
      let m = meaning e in
      let names = actual_names ps (map meaning es) in
      let roots = actual_roots ps (map meaning es) in
      subst (λ (r : Part). Marking q r (has (actual_names (p ∷ ps) (map meaning (e ∷ es))) || is_in (actual_roots (p ∷ ps) (map meaning (e ∷ es))))) (sym (first-more (length ps) (walk e) (map walk es)))
      (same q (or-swap (has (names_by_way p.way m)) (is_in (roots_by_way p.way m)) (has names) (is_in roots)
      ∙ sym (λ i. any-names (names_by_way p.way m) names i || any-numbers (roots_by_way p.way m) roots i))
      (also q (of-actual p.way e) (of-actuals ps es)))

  length-parameters : (ps : List Formal) → length (map parameter ps) ≡ length ps
  length-parameters [] = refl
  length-parameters (p ∷ ps) = ap suc (length-parameters ps)

  count-is : (f : ℕ) → W.formal_count d.functions f ≡ length (formals d f)
  count-is f = by (slice_get d.functions f)
    where
      by : (o : Option Function) → (elim o [ None ↦ 0 | Some g ↦ length g.formals ]) ≡ length {A = Parameter} (elim o [ None ↦ [] | Some g ↦ map parameter g.formals ])
      by None = refl
      by (Some g) = sym (length-parameters g.formals)

  -- statements
  from-levels : (s : Stmt) (p : Part) (x : Doing) → walked s ≡ p → doing s ≡ x → Marking q p (it x) → Claim s
  from-levels s p x a b h = subst (λ (r : Part). Marking q r (it (doing s))) (sym a) (subst (λ y. Marking q p (it y)) (sym b) h)

  in-Block : (ls : List Local) (ss : List Stmt) → Each Claim ss → Claim (V.Block ls ss)
  in-Block ls ss each =
      from-levels (V.Block ls ss) _ _ (walk-Block d.functions ls ss) (D.doing-Block ls ss)
      (same q (sym (it-composed (all_limits (map local_limits ls)).names (map doing ss))) (also q (of-locals ls) (of-body ss each)))

  in-If : (on : Expr) (body : Stmt) (other : Option Stmt) → Claim body → OrNone Claim other → Claim (V.If on body other)
  in-If on body other h g =
      from-levels (V.If on body other) _ _ (walk-If d.functions on body other) (D.doing-If on body other)
      (same q (sym (or-assoc (has (meaning on).names) (it (doing body)) (any_it (none_or (perhaps other)))) ∙ sym (it-composed (meaning on).names (doing body ∷ none_or (perhaps other))))
      (also q (also q (of-expr on) h) (of-other other g)))

  in-Case : (kind : CaseKind) (on : Expr) (is : List CaseItem) (other : Option Stmt) → Each ItemClaim is → OrNone Claim other → Claim (V.Case kind on is other)
  in-Case kind on is other each g =
      let values = flat_map values_in (map item_of is) in
      let w = R.widest_of (meaning on ∷ values) in
      let inner = has (all_limits (map (limits_at w) values)).names in
      let bodies = any_it (map does (map item_of is)) in
      let last = any_it (none_or (perhaps other)) in
      from-levels (V.Case kind on is other) _ _ (walk-Case d.functions kind on is other) (D.doing-Case kind on is other)
      (same q (regroup (has (meaning on).names) inner bodies last
      ∙ sym (λ i. any-names (meaning on).names (all_limits (map (limits_at w) values)).names i || any-it-append (map does (map item_of is)) (none_or (perhaps other)) i)
      ∙ sym (it-composed (all_limits (map (limits_at w) (meaning on ∷ values))).names (map does (map item_of is) ++ none_or (perhaps other))))
      (also q (also q (of-expr on) (of-items w is each)) (of-other other g)))
    where
      regroup : (a b c e : Bool) → ((a || (b || c)) || e) ≡ ((a || b) || (c || e))
      regroup true b c e = refl
      regroup false true c e = refl
      regroup false false c e = refl

  in-Loop : (n : ℕ) (start test step : Expr) (body : Stmt) (spot : Spot) → Claim body → Claim (V.Loop n start test step body spot)
  in-Loop n start test step body spot h =
      let a = (meaning start).names in
      let b = (meaning test).names in
      let c = (meaning step).names in
      let own = (doing body).names (formals d) in
      let roots = (doing body).targets (formals d) in
      from-levels (V.Loop n start test step body spot) _ _ (walk-Loop d.functions n start test step body spot) (D.doing-Loop n (start) test step body spot)
      (same q (regroup (has a) (has b) (has c) (has own) (is_in roots)
      ∙ sym (λ i. (any-names (a ++ (b ++ (c ++ []))) (own ++ []) ∙ (λ j. three a b c j || none own j)) i || ((local-other n i) || is_in roots)))
      (also q (also q (also q (of-expr start) (of-expr test)) (of-expr step)) h))
    where
      none : (xs : List Named) → has (xs ++ []) ≡ has xs
      none xs = any-names xs [] ∙ or-false (has xs)

      three : (xs ys zs : List Named) → has (xs ++ (ys ++ (zs ++ []))) ≡ (has xs || (has ys || has zs))
      three xs ys zs = any-names xs (ys ++ (zs ++ [])) ∙ ap (λ b. has xs || b) (any-names ys (zs ++ []) ∙ ap (λ b. has ys || b) (none zs))

      local-other : (k : ℕ) → (local_number k == q) ≡ false
      local-other k = grind (arith, nat_tests, signal)

      regroup : (a b c e f : Bool) → (((a || b) || c) || (e || f)) ≡ (((a || (b || c)) || e) || f)
      regroup true b c e f = refl
      regroup false true c e f = refl
      regroup false false true e f = refl
      regroup false false false e f = refl

  in-Assign : (to : List Expr) (value : Expr) (later : Bool) (spot : Spot) → Claim (V.Assign to value later spot)
  in-Assign to value later spot =
      let inner = (all_limits (map limits_as_target (map meaning to))).names in
      let roots = flat_map (λ (m : Meaning). m.roots) (map meaning to) in
      let names = (meaning value).names in
      from-levels (V.Assign to value later spot) _ _ (walk-Assign d.functions to value later spot) (D.doing-Assign to value later spot)
      (same q (regroup (has inner) (is_in roots) (has names)
      ∙ sym (ap (λ b. b || is_in roots) (any-names (inner ++ names) [] ∙ or-false (has (inner ++ names)) ∙ any-names inner names)))
      (also q (of-targets to) (of-expr value)))
    where
      regroup : (a b c : Bool) → ((a || b) || c) ≡ ((a || c) || b)
      regroup true b c = refl
      regroup false true true = refl
      regroup false true false = refl
      regroup false false true = refl
      regroup false false false = refl

  in-Call : (f : ℕ) (es : List Expr) (spot : Spot) → Claim (V.Call f es spot)
  in-Call f es spot =
      from-levels (V.Call f es spot) _ _ (walk-Call d.functions f es spot) (D.doing-Call f es spot)
      (subst (λ n. Marking q (first n (map walk es)) (has (actual_names (formals d f) (map meaning es)) || is_in (actual_roots (formals d f) (map meaning es)))) (sym (count-is f)) (of-actuals (formals d f) es))

  in-Made : (ls : List Local) (before : List Stmt) (body : Option Stmt) → Each Claim before → OrNone Claim body → Claim (V.Made ls before body)
  in-Made ls before None each g =
      from-levels (V.Made ls before None) _ _ (walk-Made d.functions ls before None) (D.doing-Made ls before None)
      (same q (sym (it-composed (all_limits (map local_limits ls)).names (map doing before))) (also q (of-locals ls) (of-body before each)))
  in-Made ls before (Some s) each g =
      let own = has (all_limits (map local_limits ls)).names in
      from-levels (V.Made ls before (Some s)) _ _ (walk-Made d.functions ls before (Some s)) (D.doing-Made ls before (Some s))
      (same q (sym (or-assoc own (any_it (map doing before)) (it (doing s) || false))
      ∙ ap (λ b. own || b) (sym (any-it-append (map doing before) (doing s ∷ [])))
      ∙ sym (it-composed (all_limits (map local_limits ls)).names (map doing before ++ doing s ∷ [])))
      (also q (also q (of-locals ls) (of-body before each)) (of-other (Some s) g)))

  claims : Steps Claim ItemClaim
  claims = record {
    item = λ i h. h;
    block = in-Block;
    branch = in-If;
    select = in-Case;
    loop = in-Loop;
    assign = in-Assign;
    call = in-Call;
    made = in-Made;
    breaks = from-levels V.Break _ _ (walk-Break d.functions) D.doing-Break (idle q);
    continues = from-levels V.Continue _ _ (walk-Continue d.functions) D.doing-Continue (idle q);
    returns = from-levels V.Return _ _ (walk-Return d.functions) D.doing-Return (idle q);
  }

  claimed : (s : Stmt) → Claim s
  claimed = by-stmt Claim ItemClaim claims

  -- a walk marks a signal that a statement names
  pub stmt-names : (s : Stmt) → Marking q (walked s) (it (doing s))
  stmt-names s = claimed s
