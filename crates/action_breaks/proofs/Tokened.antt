-- The walk over statements keeps the least tokens of what the definition lists.
use Rattle.std.proofs.Common.{◌≡◌, ℕ, suc, ◌≤◌, ◌+◌, ◌<◌, Bool, true, false, ◌&&◌, ◌||◌, not, cond, List, [], ◌∷◌, ◌++◌, length, drop, map, flat_map, filter, Option, Some, None, rules, refl, ap, sym, ◌∙◌}
use Rattle.std.specs.Prelude.{slice_get, slice_index_or}
use Rattle.std.specs.List.{list_any}
use Rattle.std.proofs.Math.Seq.{drop-cons}
use Rattle.std.proofs.Math.Numerals.{add-one}
use Rattle.std.proofs.lemmas.List.{drop_all}
use Rattle.sv_source.specs.declared.token.Spot.{Spot}
use Rattle.sv_types.specs.declared.design.Design.{Design}
use Rattle.sv_types.specs.declared.expression.Expr.{Expr}
use Rattle.sv_types.specs.declared.statement.CaseKind.{CaseKind}
use Rattle.sv_types.specs.declared.statement.CaseItem.{CaseItem}
use Rattle.sv_types.specs.declared.statement.Formal.{Formal}
use Rattle.sv_types.specs.declared.statement.Function.{Function}
use Rattle.sv_types.specs.declared.statement.Local.{Local}
use Rattle.sv_types.specs.declared.statement.Stmt.{Stmt, Stmt-F, the_lemmas}
use Rattle.sv_types.specs.declared.statement.Stmt.TheVariants as V
use Rattle.sv_types.specs.Surroundings.{is_signal}
use Rattle.sv_types.specs.Expressions.{meaning}
use Rattle.sv_types.specs.Functions.{parameter}
use Rattle.flow_laws.proofs.Terms.{Each, OrNone, by-stmt}
use Rattle.design_breaks.specs.Actions.{Assignment, Passed, Actions, Item, actions, none_or, item_bodies, is_out, passed_out, roots_of}
use Rattle.design_breaks.specs.Breaks as B
use Rattle.break_laws.proofs.ActionLevels as A
use Rattle.break_laws.proofs.ActionLevels.{item_actions}
use Rattle.least_breaks.specs.Least.{with_token, least_from}
use Rattle.least_breaks.proofs.Tokens.{is-least}
use Rattle.action_breaks.specs.declared.misuse.Misuse.{Misuse}
use Rattle.action_breaks.specs.Bases.{bases_of, target_bases}
use Rattle.action_breaks.specs.Misuse as M
use Rattle.action_breaks.specs.Misuse.{Part, with_token_if, assigned, passed, all_passed, in_turn, if_written, called, stmt_walk, item_walk, perhaps, blocking_in, passed_in, IsMisuse}
use Rattle.action_breaks.proofs.Rooted.{signals-named, locals-named, target-named}

least-append : (xs ys : List ℕ) (acc : Option ℕ) → least_from (least_from acc xs) ys ≡ least_from acc (xs ++ ys)
unfolding least_from
least-append [] ys acc = refl
least-append (x ∷ xs) ys acc = least-append xs ys (with_token acc x)

least-none : (acc : Option ℕ) → acc ≡ least_from acc []
unfolding least_from
least-none acc = refl

least-if : (b : Bool) (acc : Option ℕ) (at : ℕ) → with_token_if b acc at ≡ least_from acc (cond b (at ∷ []) [])
unfolding least_from
least-if true acc at = refl
least-if false acc at = refl

kept-append : {X : Type 0} (at : X → ℕ) (test : X → Bool) (xs ys : List X) → map at (filter test xs) ++ map at (filter test ys) ≡ map at (filter test (xs ++ ys))
kept-append at test [] ys = refl
kept-append at test (x ∷ xs) ys = by (test x) (kept-append at test xs ys)
  where
    by : (b : Bool) → map at (filter test xs) ++ map at (filter test ys) ≡ map at (filter test (xs ++ ys))
        → map at (cond b (x ∷ filter test xs) (filter test xs)) ++ map at (filter test ys) ≡ map at (cond b (x ∷ filter test (xs ++ ys)) (filter test (xs ++ ys)))
    by true h = ap (λ ts. at x ∷ ts) h
    by false h = h

kept-one : {X : Type 0} (at : X → ℕ) (test : X → Bool) (x : X) → map at (filter test (x ∷ [])) ≡ cond (test x) (at x ∷ []) []
kept-one at test x = by (test x)
  where
    by : (b : Bool) → map at (cond b (x ∷ []) []) ≡ cond b (at x ∷ []) []
    by true = refl
    by false = refl

abbrev part_or_none : List Function → Option Stmt → List Part
part_or_none fs None = []
part_or_none fs (Some s) = stmt_walk fs s ∷ []

if-parts : (fs : List Function) (o : Option Stmt) (m : Misuse) → if_written (perhaps fs o) m ≡ in_turn (part_or_none fs o) m
if-parts fs None m = refl
if-parts fs (Some s) m = refl

turn-append : (ps qs : List Part) (m : Misuse) → in_turn qs (in_turn ps m) ≡ in_turn (ps ++ qs) m
turn-append [] qs m = refl
turn-append (p ∷ ps) qs m = turn-append ps qs (p m)

-- the walk, one level at a time
module _ (fs : List Function) where
  walk-Block : (ls : List Local) (ss : List Stmt) → stmt_walk fs (V.Block ls ss) ≡ M.stmt_step fs (Stmt-F.Block ls (map (stmt_walk fs) ss))
  walk-Block ls ss = search (rules, the_lemmas)

  walk-If : (on : Expr) (body : Stmt) (other : Option Stmt) → stmt_walk fs (V.If on body other) ≡ M.stmt_step fs (Stmt-F.If on (stmt_walk fs body) (perhaps fs other))
  walk-If on body None = search (rules, the_lemmas)
  walk-If on body (Some s) = search (rules, the_lemmas)

  walk-Case : (kind : CaseKind) (on : Expr) (is : List CaseItem) (other : Option Stmt)
      → stmt_walk fs (V.Case kind on is other) ≡ M.stmt_step fs (Stmt-F.Case kind on (map (item_walk fs) is) (perhaps fs other))
  walk-Case kind on is None = search (rules, the_lemmas)
  walk-Case kind on is (Some s) = search (rules, the_lemmas)

  walk-Loop : (n : ℕ) (first test step : Expr) (body : Stmt) (spot : Spot) → stmt_walk fs (V.Loop n first test step body spot) ≡ M.stmt_step fs (Stmt-F.Loop n first test step (stmt_walk fs body) spot)
  walk-Loop n first test step body spot = search (rules, the_lemmas)

  walk-Assign : (to : List Expr) (value : Expr) (later : Bool) (spot : Spot) → stmt_walk fs (V.Assign to value later spot) ≡ M.stmt_step fs (Stmt-F.Assign to value later spot)
  walk-Assign to value later spot = search (rules, the_lemmas)

  walk-Call : (f : ℕ) (es : List Expr) (spot : Spot) → stmt_walk fs (V.Call f es spot) ≡ M.stmt_step fs (Stmt-F.Call f es spot)
  walk-Call f es spot = search (rules, the_lemmas)

  walk-Made : (ls : List Local) (before : List Stmt) (body : Option Stmt) → stmt_walk fs (V.Made ls before body) ≡ M.stmt_step fs (Stmt-F.Made ls (map (stmt_walk fs) before) (perhaps fs body))
  walk-Made ls before None = search (rules, the_lemmas)
  walk-Made ls before (Some s) = search (rules, the_lemmas)

  walk-Break : stmt_walk fs V.Break ≡ M.stmt_step fs Stmt-F.Break
  walk-Break = search (rules, the_lemmas)

  walk-Continue : stmt_walk fs V.Continue ≡ M.stmt_step fs Stmt-F.Continue
  walk-Continue = search (rules, the_lemmas)

  walk-Return : stmt_walk fs V.Return ≡ M.stmt_step fs Stmt-F.Return
  walk-Return = search (rules, the_lemmas)

  walk-item : (i : CaseItem) → item_walk fs i ≡ stmt_walk fs i.body
  walk-item i = search (rules, the_lemmas)

module _ (d : Design) where
  abbrev deferred_in : Bool → List Assignment → List ℕ
  deferred_in in_edges as' = map (λ (a : Assignment). a.at) (filter (λ (a : Assignment). a.later && (not in_edges || B.names_local d a.to)) as')

  abbrev with_lists : Misuse → List Assignment → List Passed → Misuse
  with_lists m as' ps = record {
    blocking = least_from m.blocking (blocking_in d as');
    passed = least_from m.passed (passed_in d ps);
    later = least_from m.later (deferred_in false as');
    local_later = least_from m.local_later (deferred_in true as');
  }

  same-fields : (x y : Misuse) → x.blocking ≡ y.blocking → x.passed ≡ y.passed → x.later ≡ y.later → x.local_later ≡ y.local_later → x ≡ y
  same-fields x y a b c e = λ i. record { blocking = a i; passed = b i; later = c i; local_later = e i }

  with-none : (m : Misuse) → m ≡ with_lists m [] []
  with-none m = same-fields m (with_lists m [] []) (least-none m.blocking) (least-none m.passed) (least-none m.later) (least-none m.local_later)

  abbrev kept : (Assignment → Bool) → List Assignment → List ℕ
  kept test as' = map (λ (a : Assignment). a.at) (filter test as')

  kept-more : (test : Assignment → Bool) (as' bs : List Assignment) (acc : Option ℕ) → least_from (least_from acc (kept test as')) (kept test bs) ≡ least_from acc (kept test (as' ++ bs))
  kept-more test as' bs acc = least-append (kept test as') (kept test bs) acc ∙ ap (least_from acc) (kept-append (λ (a : Assignment). a.at) test as' bs)

  passed-more : (ps qs : List Passed) (acc : Option ℕ) → least_from (least_from acc (passed_in d ps)) (passed_in d qs) ≡ least_from acc (passed_in d (ps ++ qs))
  passed-more ps qs acc = least-append (passed_in d ps) (passed_in d qs) acc ∙ ap (least_from acc) (kept-append (λ (a : Passed). a.at) (λ (a : Passed). B.names_signal d a.to) ps qs)

  with-append : (m : Misuse) (as' bs : List Assignment) (ps qs : List Passed) → with_lists (with_lists m as' ps) bs qs ≡ with_lists m (as' ++ bs) (ps ++ qs)
  with-append m as' bs ps qs =
      same-fields (with_lists (with_lists m as' ps) bs qs) (with_lists m (as' ++ bs) (ps ++ qs))
      (kept-more (λ (a : Assignment). not a.later && B.names_signal d a.to) as' bs m.blocking)
      (passed-more ps qs m.passed)
      (kept-more (λ (a : Assignment). a.later && (not false || B.names_local d a.to)) as' bs m.later)
      (kept-more (λ (a : Assignment). a.later && (not true || B.names_local d a.to)) as' bs m.local_later)

  -- an assignment
  one-kept : (test : Assignment → Bool) (a : Assignment) (acc : Option ℕ) (b : Bool) → b ≡ test a → with_token_if b acc a.at ≡ least_from acc (kept test (a ∷ []))
  one-kept test a acc b is =
      ap (λ c. with_token_if c acc a.at) is ∙ least-if (test a) acc a.at ∙ ap (least_from acc) (sym (kept-one (λ (x : Assignment). x.at) test a))

  assign-adds : (to : List Expr) (later : Bool) (at : ℕ) (m : Misuse) → assigned (bases_of to) later at m ≡ with_lists m (record { at = at; later = later; to = roots_of to } ∷ []) []
  assign-adds to true at m =
      let a : Assignment = record { at = at; later = true; to = roots_of to } in
      same-fields (assigned (bases_of to) true at m) (with_lists m (a ∷ []) [])
      (one-kept (λ (x : Assignment). not x.later && B.names_signal d x.to) a m.blocking false refl)
      (least-none m.passed)
      (one-kept (λ (x : Assignment). x.later && (not false || B.names_local d x.to)) a m.later true refl)
      (one-kept (λ (x : Assignment). x.later && (not true || B.names_local d x.to)) a m.local_later (bases_of to).local (locals-named to))
  assign-adds to false at m =
      let a : Assignment = record { at = at; later = false; to = roots_of to } in
      same-fields (assigned (bases_of to) false at m) (with_lists m (a ∷ []) [])
      (one-kept (λ (x : Assignment). not x.later && B.names_signal d x.to) a m.blocking (bases_of to).signal (signals-named to))
      (least-none m.passed)
      (one-kept (λ (x : Assignment). x.later && (not false || B.names_local d x.to)) a m.later false refl)
      (one-kept (λ (x : Assignment). x.later && (not true || B.names_local d x.to)) a m.local_later false refl)

  -- a call
  abbrev actual : Expr → Passed
  actual e = record { at = e.spot.at; to = (meaning e).roots }

  one-passed : (b : Bool) (e : Expr) (acc : Option ℕ) → with_token_if (b && (target_bases e).signal) acc e.spot.at ≡ least_from acc (passed_in d (cond b (actual e ∷ []) []))
  one-passed false e acc = least-none acc
  one-passed true e acc =
      ap (λ c. with_token_if c acc e.spot.at) (target-named e)
      ∙ least-if (list_any is_signal (meaning e).roots) acc e.spot.at
      ∙ ap (least_from acc) (sym (kept-one (λ (a : Passed). a.at) (λ (a : Passed). B.names_signal d a.to) (actual e)))

  pass-adds : (p : Formal) (e : Expr) (m : Misuse) → passed p.way e m ≡ with_lists m [] (cond (is_out p.way) (actual e ∷ []) [])
  pass-adds p e m =
      same-fields (passed p.way e m) (with_lists m [] (cond (is_out p.way) (actual e ∷ []) []))
      (least-none m.blocking) (one-passed (is_out p.way) e m.passed) (least-none m.later) (least-none m.local_later)

  passes-add : (ps : List Formal) (es : List Expr) (m : Misuse) → all_passed ps es m ≡ with_lists m [] (passed_out (map parameter ps) es)
  passes-add [] es m = with-none m
  passes-add (p ∷ ps) [] m = with-none m
  passes-add (p ∷ ps) (e ∷ es) m =
      ap (all_passed ps es) (pass-adds p e m)
      ∙ passes-add ps es (with_lists m [] (cond (is_out p.way) (actual e ∷ []) []))
      ∙ with-append m [] [] (cond (is_out p.way) (actual e ∷ []) []) (passed_out (map parameter ps) es)

  call-adds : (f : ℕ) (es : List Expr) (m : Misuse) → called d.functions f es m ≡ with_lists m [] (passed_out (B.formals d f) es)
  call-adds f es m = by (slice_get d.functions f)
    where
      by : (o : Option Function) → elim o [ None ↦ m | Some g ↦ all_passed g.formals es m ] ≡ with_lists m [] (passed_out (elim o [ None ↦ [] | Some g ↦ map parameter g.formals ]) es)
      by None = with-none m
      by (Some g) = passes-add g.formals es m

  -- parts that add what actions have
  abbrev Adds : Part → Actions → Type 0
  Adds p a = (m : Misuse) → p m ≡ with_lists m a.assigns (a.passes (B.formals d))

  abbrev AllAdd : List Part → List Actions → Type 0
  AllAdd [] [] = Unit {0}
  AllAdd [] (a ∷ as') = ⊥
  AllAdd (p ∷ ps) [] = ⊥
  AllAdd (p ∷ ps) (a ∷ as') = Adds p a × AllAdd ps as'

  parts-add : (ps : List Part) (as' : List Actions) → AllAdd ps as' → (m : Misuse)
      → in_turn ps m ≡ with_lists m (flat_map (λ (a : Actions). a.assigns) as') (flat_map (λ (a : Actions). a.passes (B.formals d)) as')
  parts-add [] [] h m = with-none m
  parts-add [] (a ∷ as') h m = absurd h
  parts-add (p ∷ ps) [] h m = absurd h
  parts-add (p ∷ ps) (a ∷ as') h m =
      ap (in_turn ps) (h.0 m)
      ∙ parts-add ps as' h.1 (with_lists m a.assigns (a.passes (B.formals d)))
      ∙ with-append m a.assigns (flat_map (λ (b : Actions). b.assigns) as') (a.passes (B.formals d)) (flat_map (λ (b : Actions). b.passes (B.formals d)) as')

  abbrev fs : List Function
  fs = d.functions

  abbrev StmtAdds : Stmt → Type 0
  StmtAdds s = Adds (stmt_walk fs s) (actions s)

  abbrev ItemAdds : CaseItem → Type 0
  ItemAdds i = StmtAdds i.body

  add-each : (ss : List Stmt) → Each StmtAdds ss → AllAdd (map (stmt_walk fs) ss) (map actions ss)
  add-each [] each = tt
  add-each (s ∷ ss) each = (each.0, add-each ss each.1)

  add-or-none : (o : Option Stmt) → OrNone StmtAdds o → AllAdd (part_or_none fs o) (none_or (A.perhaps o))
  add-or-none None h = tt
  add-or-none (Some s) h = (h, tt)

  add-append : (ps qs : List Part) (as' bs : List Actions) → AllAdd ps as' → AllAdd qs bs → AllAdd (ps ++ qs) (as' ++ bs)
  add-append [] qs [] bs h g = g
  add-append [] qs (a ∷ as') bs h g = absurd h
  add-append (p ∷ ps) qs [] bs h g = absurd h
  add-append (p ∷ ps) qs (a ∷ as') bs h g = (h.0, add-append ps qs as' bs h.1 g)

  add-items : (is : List CaseItem) → Each ItemAdds is → AllAdd (map (item_walk fs) is) (item_bodies (map item_actions is))
  add-items [] each = tt
  add-items (i ∷ is) each =
      (λ m. ap (λ (p : Part). p m) (walk-item fs i) ∙ each.0 m ∙ sym (ap (λ (x : Item). with_lists m x.body.assigns (x.body.passes (B.formals d))) (A.actions-of-item i)), add-items is each.1)

  by-levels : (s : Stmt) (p : Part) (a : Actions) → stmt_walk fs s ≡ p → actions s ≡ a → Adds p a → StmtAdds s
  by-levels s p a w is h m = ap (λ (q : Part). q m) w ∙ h m ∙ sym (ap (λ (b : Actions). with_lists m b.assigns (b.passes (B.formals d))) is)

  adds-If : (on : Expr) (body : Stmt) (other : Option Stmt) → StmtAdds body → OrNone StmtAdds other → StmtAdds (V.If on body other)
  adds-If on body other h g =
      by-levels (V.If on body other) _ _ (walk-If fs on body other) (A.actions-If on body other)
      (λ m. if-parts fs other (stmt_walk fs body m) ∙ parts-add (stmt_walk fs body ∷ part_or_none fs other) (actions body ∷ none_or (A.perhaps other)) (h, add-or-none other g) m)

  adds-Case : (kind : CaseKind) (on : Expr) (is : List CaseItem) (other : Option Stmt) → Each ItemAdds is → OrNone StmtAdds other → StmtAdds (V.Case kind on is other)
  adds-Case kind on is other each g =
      by-levels (V.Case kind on is other) _ _ (walk-Case fs kind on is other) (A.actions-Case kind on is other)
      (λ m. if-parts fs other (in_turn (map (item_walk fs) is) m)
      ∙ turn-append (map (item_walk fs) is) (part_or_none fs other) m
      ∙ parts-add (map (item_walk fs) is ++ part_or_none fs other) (item_bodies (map item_actions is) ++ none_or (A.perhaps other))
      (add-append (map (item_walk fs) is) (part_or_none fs other) (item_bodies (map item_actions is)) (none_or (A.perhaps other)) (add-items is each) (add-or-none other g)) m)

  adds-Made : (ls : List Local) (before : List Stmt) (body : Option Stmt) → Each StmtAdds before → OrNone StmtAdds body → StmtAdds (V.Made ls before body)
  adds-Made ls before None each g =
      by-levels (V.Made ls before None) _ _ (walk-Made fs ls before None) (A.actions-Made ls before None) (λ m. parts-add (map (stmt_walk fs) before) (map actions before) (add-each before each) m)
  adds-Made ls before (Some s) each g =
      by-levels (V.Made ls before (Some s)) _ _ (walk-Made fs ls before (Some s)) (A.actions-Made ls before (Some s))
      (λ m. turn-append (map (stmt_walk fs) before) (stmt_walk fs s ∷ []) m
      ∙ parts-add (map (stmt_walk fs) before ++ stmt_walk fs s ∷ []) (map actions before ++ actions s ∷ [])
      (add-append (map (stmt_walk fs) before) (stmt_walk fs s ∷ []) (map actions before) (actions s ∷ []) (add-each before each) (g, tt)) m)

  stmt-adds : (s : Stmt) → StmtAdds s
  stmt-adds = by-stmt StmtAdds ItemAdds (record {
    item = λ i h. h;
    block = λ ls ss each. by-levels (V.Block ls ss) _ _ (walk-Block fs ls ss) (A.actions-Block ls ss) (λ m. parts-add (map (stmt_walk fs) ss) (map actions ss) (add-each ss each) m);
    branch = adds-If;
    select = adds-Case;
    loop = λ n first test step body spot h.
        by-levels (V.Loop n first test step body spot) _ _ (walk-Loop fs n first test step body spot) (A.actions-Loop n first test step body spot)
        (λ m. parts-add (stmt_walk fs body ∷ []) (actions body ∷ []) (h, tt) m);
    assign = λ to value later spot.
        by-levels (V.Assign to value later spot) _ _ (walk-Assign fs to value later spot) (A.actions-Assign to value later spot) (λ m. assign-adds to later spot.at m);
    call = λ f es spot. by-levels (V.Call f es spot) _ _ (walk-Call fs f es spot) (A.actions-Call f es spot) (λ m. call-adds f es m);
    made = adds-Made;
    breaks = by-levels V.Break _ _ (walk-Break fs) A.actions-Break (λ m. with-none m);
    continues = by-levels V.Continue _ _ (walk-Continue fs) A.actions-Continue (λ m. with-none m);
    returns = by-levels V.Return _ _ (walk-Return fs) A.actions-Return (λ m. with-none m);
  })

  abbrev no_misuse : Misuse
  no_misuse = record { blocking = None; passed = None; later = None; local_later = None }

  is-misuse : (s : Stmt) (r : Misuse) → r ≡ stmt_walk fs s no_misuse → IsMisuse d s r
  is-misuse s r is =
      let all : r ≡ with_lists no_misuse (actions s).assigns ((actions s).passes (B.formals d)) = is ∙ stmt-adds s no_misuse in
      record {
        blocking = is-least (blocking_in d (actions s).assigns) r.blocking (sym (ap (λ (m : Misuse). m.blocking) all));
        passed = is-least (passed_in d ((actions s).passes (B.formals d))) r.passed (sym (ap (λ (m : Misuse). m.passed) all));
        later = is-least (B.deferred d false s) r.later (sym (ap (λ (m : Misuse). m.later) all));
        local_later = is-least (B.deferred d true s) r.local_later (sym (ap (λ (m : Misuse). m.local_later) all));
      }

pub misuse-law : (functions : List Function) (s : Stmt) (r : Misuse) → r ≡ stmt_walk functions s (record { blocking = None; passed = None; later = None; local_later = None })
    → (d : Design) → functions ≡ d.functions → IsMisuse d s r
misuse-law functions s r is d same = is-misuse d s r (is ∙ ap (λ (xs : List Function). stmt_walk xs s (record { blocking = None; passed = None; later = None; local_later = None })) same)

-- the loop over formals and actuals
pub passed-step : (ps : List Formal) (es : List Expr) (k : ℕ) (p : Formal) (e : Expr) (m : Misuse) → k < length ps → k < length es → p ≡ slice_index_or ps k p → e ≡ slice_index_or es k e
    → all_passed (drop (k + 1) ps) (drop (k + 1) es) (passed p.way e m) ≡ all_passed (drop k ps) (drop k es) m
passed-step ps es k p e m lp le ip ie =
    let of_ps : drop k ps ≡ p ∷ drop (suc k) ps = drop-cons ps k p lp ∙ ap (λ (q : Formal). q ∷ drop (suc k) ps) (sym ip) in
    let of_es : drop k es ≡ e ∷ drop (suc k) es = drop-cons es k e le ∙ ap (λ (x : Expr). x ∷ drop (suc k) es) (sym ie) in
    ap (λ n. all_passed (drop n ps) (drop n es) (passed p.way e m)) (add-one k) ∙ sym (λ i. all_passed (of_ps i) (of_es i) m)

no-actuals : (ps : List Formal) (m : Misuse) → all_passed ps [] m ≡ m
no-actuals [] m = refl
no-actuals (p ∷ ps) m = refl

pub passed-formals : (ps : List Formal) (es : List Expr) (k : ℕ) (m : Misuse) → length ps ≤ k → all_passed (drop k ps) (drop k es) m ≡ m
passed-formals ps es k m past = ap (λ qs. all_passed qs (drop k es) m) (drop_all k ps past)

pub passed-actuals : (ps : List Formal) (es : List Expr) (k : ℕ) (m : Misuse) → length es ≤ k → all_passed (drop k ps) (drop k es) m ≡ m
passed-actuals ps es k m past = ap (λ xs. all_passed (drop k ps) xs m) (drop_all k es past) ∙ no-actuals (drop k ps) m
