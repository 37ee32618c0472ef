-- The tokens that are said of a statement are tokens of it.
use Rattle.std.proofs.Common.{◌≡◌, ℕ, Bool, cond, List, [], ◌∷◌, ◌++◌, map, flat_map, Option, Some, None, sym, subst}
use Rattle.sv_source.specs.declared.token.Spot.{Spot}
use Rattle.sv_types.specs.declared.expression.Expr.{Expr}
use Rattle.sv_types.specs.declared.statement.CaseItem.{CaseItem}
use Rattle.sv_types.specs.declared.statement.CaseKind.{CaseKind}
use Rattle.sv_types.specs.declared.statement.Local.{Local}
use Rattle.sv_types.specs.declared.statement.Stmt.{Stmt}
use Rattle.sv_types.specs.declared.statement.Stmt.TheVariants as V
use Rattle.sv_types.specs.declared.statement.Outcome.TheVariants as N
use Rattle.sv_types.specs.Surroundings.{Parameter, Sight}
use Rattle.sv_types.specs.Expressions.{meaning}
use Rattle.sv_types.specs.Flows as F
use Rattle.sv_types.specs.Flows.{Flow, Flows}
use Rattle.sv_types.specs.Statements as S
use Rattle.sv_types.specs.Statements.{Doing, Item, doing, scope_flow, initial_of}
use Rattle.sv_types.proofs.DoingLevels as D
use Rattle.sv_types.proofs.DoingLevels.{item_of}
use Rattle.sv_types.proofs.Terms.{Each}
use Rattle.design_breaks.specs.Unrolling as U
use Rattle.design_breaks.specs.Unrolling.{Control, starts_of}
use Rattle.design_breaks.specs.Actions as A
use Rattle.design_breaks.specs.Actions.{Actions, Assignment, Passed, actions, passed_to}
use Rattle.design_breaks.specs.Spots.{Spots, all, or_none, expr_spots, exprs_spots, stmt_spots}
use Rattle.break_laws.proofs.ActionLevels as L
use Rattle.break_laws.proofs.ActionLevels.{item_actions, control_of}
use Rattle.flow_laws.proofs.Terms as Y
use Rattle.flow_laws.proofs.Terms.{OrNone, Steps, by-stmt}
use Rattle.spot_laws.proofs.Each.{each-append, each-left, each-right, each-cond}
use Rattle.spot_laws.proofs.StmtSpots as T
use Rattle.spot_laws.proofs.StmtSpots.{item_spots, perhaps}
use Rattle.spot_laws.proofs.Tells.{AtUse, Tells}
use Rattle.spot_laws.proofs.Exprs.{AtSpot, Told, told, told-each, tells-all}
use Rattle.spot_laws.proofs.Flows as G
use Rattle.spot_laws.proofs.Flows.{Shows, Starts}
use Rattle.spot_laws.proofs.Unrolls as R
use Rattle.spot_laws.proofs.Unrolls.{Keeps}

module _ (At : ℕ → Type 0) where
  -- what a statement does
  abbrev Does : Doing → Type 0
  Does d = (k : Sight) → Shows At (d.flow k)

  -- and what it says
  pub record Says (a : Actions) : Type 0 where
    pub assigns : Each (λ (x : Assignment). At x.at) a.assigns
    pub passes : (fs : ℕ → List Parameter) → Each (λ (x : Passed). At x.at) (a.passes fs)
    pub unbounded : (fs : ℕ → List Parameter) (k : Sight) → Each At (a.unbounded fs k)
    pub unrolls : (fs : ℕ → List Parameter) → Keeps At (a.unrolls fs)

  pub record Speaks (s : Stmt) : Type 0 where
    pub does : Does (doing s)
    pub says : Says (actions s)

  abbrev pub Claim : Stmt → Type 0
  Claim s = Each (AtSpot At) (stmt_spots s) → Speaks s

  abbrev pub ItemClaim : CaseItem → Type 0
  ItemClaim i = Claim i.body

  -- statements that are made of others
  abbrev Saying : List Actions → Type 0
  Saying as' = Each Says as'

  all-assign : (as' : List Actions) → Saying as' → Each (λ (x : Assignment). At x.at) (flat_map (λ (a : Actions). a.assigns) as')
  all-assign [] h = tt
  all-assign (a ∷ as') h = each-append (λ (x : Assignment). At x.at) a.assigns (flat_map (λ (b : Actions). b.assigns) as') h.0.assigns (all-assign as' h.1)

  all-pass : (as' : List Actions) → Saying as' → (fs : ℕ → List Parameter) → Each (λ (x : Passed). At x.at) (flat_map (λ (a : Actions). a.passes fs) as')
  all-pass [] h fs = tt
  all-pass (a ∷ as') h fs = each-append (λ (x : Passed). At x.at) (a.passes fs) (flat_map (λ (b : Actions). b.passes fs) as') (h.0.passes fs) (all-pass as' h.1 fs)

  all-unbounded : (as' : List Actions) → Saying as' → (fs : ℕ → List Parameter) (k : Sight) → Each At (flat_map (λ (a : Actions). a.unbounded fs k) as')
  all-unbounded [] h fs k = tt
  all-unbounded (a ∷ as') h fs k = each-append At (a.unbounded fs k) (flat_map (λ (b : Actions). b.unbounded fs k) as') (h.0.unbounded fs k) (all-unbounded as' h.1 fs k)

  all-unroll : (as' : List Actions) → Saying as' → (fs : ℕ → List Parameter) → Each (Keeps At) (A.unrolling fs as')
  all-unroll [] h fs = tt
  all-unroll (a ∷ as') h fs = (h.0.unrolls fs, all-unroll as' h.1 fs)

  says-together : (es : List Expr) (as' : List Actions) → Each (Told At) es → Saying as' → Says (A.together es as')
  says-together es as' h g = record {
    assigns = all-assign as' g;
    passes = all-pass as' g;
    unbounded = all-unbounded as' g;
    unrolls = λ fs. R.keeps-turn At (U.valuing es ∷ A.unrolling fs as') (R.keeps-valuing At es h, all-unroll as' g fs);
  }

  says-counted : (a : Actions) → Says a → Says (A.counted a)
  says-counted a h = record { assigns = h.assigns; passes = h.passes; unbounded = h.unbounded; unrolls = λ fs. R.keeps-counted At (a.unrolls fs) (h.unrolls fs) }

  says-these : (es : List Expr) → Each (Told At) es → Says (A.saying es)
  says-these es h = record { assigns = tt; passes = λ fs. tt; unbounded = λ fs k. tt; unrolls = λ fs. R.keeps-valuing At es h }

  speaks-by : (s : Stmt) (d : Doing) (a : Actions) → doing s ≡ d → actions s ≡ a → Does d → Says a → Speaks s
  speaks-by s d a is are h g = record { does = subst (λ (x : Doing). Does x) (sym is) h; says = subst (λ (x : Actions). Says x) (sym are) g }

  spots-by : (s : Stmt) (ss : Spots) → stmt_spots s ≡ ss → Each (AtSpot At) (stmt_spots s) → Each (AtSpot At) ss
  spots-by s ss is h = subst (λ (xs : Spots). Each (AtSpot At) xs) is h

  -- parts
  left : (xs ys : Spots) → Each (AtSpot At) (xs ++ ys) → Each (AtSpot At) xs
  left xs ys h = each-left (AtSpot At) xs ys h

  right : (xs ys : Spots) → Each (AtSpot At) (xs ++ ys) → Each (AtSpot At) ys
  right xs ys h = each-right (AtSpot At) xs ys h

  these : (es : List Expr) → Each (AtSpot At) (exprs_spots es) → Each (Told At) es
  these es h = told-each At es h

  those : (ss : List Stmt) → Y.Each Claim ss → Each (AtSpot At) (all (map stmt_spots ss)) → Each Speaks ss
  those [] h g = tt
  those (s ∷ ss) h g = (h.0 (left (stmt_spots s) (all (map stmt_spots ss)) g), those ss h.1 (right (stmt_spots s) (all (map stmt_spots ss)) g))

  abbrev SpeaksOrNone : Option Stmt → Type 0
  SpeaksOrNone other = OrNone Speaks other

  that : (other : Option Stmt) → OrNone Claim other → Each (AtSpot At) (or_none (perhaps other)) → SpeaksOrNone other
  that None h g = tt
  that (Some s) h g = h g

  all-do : (ss : List Stmt) → Each Speaks ss → G.AllShow At (S.flows (map doing ss))
  all-do [] h = tt
  all-do (s ∷ ss) h = (h.0.does, all-do ss h.1)

  all-say : (ss : List Stmt) → Each Speaks ss → Saying (map actions ss)
  all-say [] h = tt
  all-say (s ∷ ss) h = (h.0.says, all-say ss h.1)

  other-does : (other : Option Stmt) → SpeaksOrNone other → (k : Sight) → Shows At (S.flow_or_nothing (D.perhaps other) k)
  other-does None h k = G.shows-nothing At
  other-does (Some s) h k = h.does k

  other-says : (other : Option Stmt) → SpeaksOrNone other → Saying (A.none_or (L.perhaps other))
  other-says None h = tt
  other-says (Some s) h = (h.says, tt)

  -- locals
  starting : (ls : List Local) → Each (Told At) (starts_of ls) → Starts At ls
  starting [] h = tt
  starting (l ∷ ls) h = (by l.initial (each-left (Told At) (start_by l.initial) (starts_of ls) h), starting ls (each-right (Told At) (start_by l.initial) (starts_of ls) h))
    where
      start_by : Option Expr → List Expr
      start_by o = elim o [ None ↦ [] | Some e ↦ e ∷ [] ]

      by : (o : Option Expr) → Each (Told At) (start_by o) → G.TellsOrNone At (elim o [ None ↦ None | Some e ↦ Some (meaning e) ])
      by None g = tt
      by (Some e) g = g.0.means

  scope-does : (ls : List Local) (ss : List Stmt) → Each (Told At) (starts_of ls) → Each Speaks ss → Does (S.scope ls (map doing ss))
  scope-does ls ss h g = G.shows-scope At ls (F.in_turn (S.flows (map doing ss))) (starting ls h) (G.shows-turn At (S.flows (map doing ss)) (all-do ss g))

  counted-does : (d : Doing) → Does d → Does (S.counted d)
  counted-does d h = λ k. G.shows-counted At (d.flow k) (h k)

  -- blocks
  block-speaks : (ls : List Local) (ss : List Stmt) → Y.Each Claim ss → Claim (V.Block ls ss)
  block-speaks ls ss h g =
      let at = spots-by (V.Block ls ss) (exprs_spots (starts_of ls) ++ all (map stmt_spots ss)) (T.spots-Block ls ss) g in
      let es = these (starts_of ls) (left (exprs_spots (starts_of ls)) (all (map stmt_spots ss)) at) in
      let parts = those ss h (right (exprs_spots (starts_of ls)) (all (map stmt_spots ss)) at) in
      speaks-by (V.Block ls ss) _ _ (D.doing-Block ls ss) (L.actions-Block ls ss) (counted-does (S.scope ls (map doing ss)) (scope-does ls ss es parts))
      (says-counted (A.together (starts_of ls) (map actions ss)) (says-together (starts_of ls) (map actions ss) es (all-say ss parts)))

  -- conditions
  branch-speaks : (on : Expr) (body : Stmt) (other : Option Stmt) → Claim body → OrNone Claim other → Claim (V.If on body other)
  branch-speaks on body other h g f =
      let at = spots-by (V.If on body other) (expr_spots on ++ (stmt_spots body ++ or_none (perhaps other))) (T.spots-If on body other) f in
      let e = told At on (left (expr_spots on) (stmt_spots body ++ or_none (perhaps other)) at) in
      let rest = right (expr_spots on) (stmt_spots body ++ or_none (perhaps other)) at in
      let b = h (left (stmt_spots body) (or_none (perhaps other)) rest) in
      let o = that other g (right (stmt_spots body) (or_none (perhaps other)) rest) in
      speaks-by (V.If on body other) _ _ (D.doing-If on body other) (L.actions-If on body other)
      (counted-does (S.branching (meaning on) (doing body) (D.perhaps other))
      (λ k. G.shows-then At (F.reading ((meaning on).reads k)) (F.or_else ((doing body).flow k) (S.flow_or_nothing (D.perhaps other) k)) (G.shows-reading At ((meaning on).reads k) (e.means.reads k))
      (G.shows-either At ((doing body).flow k) (S.flow_or_nothing (D.perhaps other) k) (b.does k) (other-does other o k))))
      (says-counted (A.together (on ∷ []) (actions body ∷ A.none_or (L.perhaps other)))
      (says-together (on ∷ []) (actions body ∷ A.none_or (L.perhaps other)) (e, tt) (b.says, other-says other o)))

  -- items of a `case`
  pub record ItemSpeaks (i : CaseItem) : Type 0 where
    pub values : Each (Told At) i.values
    pub body : Speaks i.body

  item-spots-by : (i : CaseItem) → Each (AtSpot At) (item_spots i) → Each (AtSpot At) (exprs_spots i.values ++ stmt_spots i.body)
  item-spots-by i h = subst (λ (xs : Spots). Each (AtSpot At) xs) (T.spots-of-item i) h

  one-item : (i : CaseItem) → ItemClaim i → Each (AtSpot At) (item_spots i) → ItemSpeaks i
  one-item i h g =
      let at = item-spots-by i g in
      record { values = these i.values (left (exprs_spots i.values) (stmt_spots i.body) at); body = h (right (exprs_spots i.values) (stmt_spots i.body) at) }

  items : (is : List CaseItem) → Y.Each ItemClaim is → Each (AtSpot At) (all (map item_spots is)) → Each ItemSpeaks is
  items [] h g = tt
  items (i ∷ is) h g = (one-item i h.0 (left (item_spots i) (all (map item_spots is)) g), items is h.1 (right (item_spots i) (all (map item_spots is)) g))

  item-values-tell : (i : CaseItem) → ItemSpeaks i → Each (Tells At) (item_of i).values
  item-values-tell i h = subst (λ (x : Item). Each (Tells At) x.values) (sym (D.item-of i)) (tells-all At i.values h.values)

  item-does : (i : CaseItem) → ItemSpeaks i → Does (item_of i).does
  item-does i h = subst (λ (x : Item). Does x.does) (sym (D.item-of i)) h.body.does

  item-told : (i : CaseItem) → ItemSpeaks i → Each (Told At) (item_actions i).values
  item-told i h = subst (λ (x : A.Item). Each (Told At) x.values) (sym (L.actions-of-item i)) h.values

  item-says : (i : CaseItem) → ItemSpeaks i → Says (item_actions i).body
  item-says i h = subst (λ (x : A.Item). Says x.body) (sym (L.actions-of-item i)) h.body.says

  values-tell : (is : List CaseItem) → Each ItemSpeaks is → Each (Tells At) (flat_map (λ (i : Item). i.values) (map item_of is))
  values-tell [] h = tt
  values-tell (i ∷ is) h = each-append (Tells At) (item_of i).values (flat_map (λ (j : Item). j.values) (map item_of is)) (item-values-tell i h.0) (values-tell is h.1)

  items-do : (is : List CaseItem) → Each ItemSpeaks is → G.AllShow At (map (λ (i : Item). i.does.flow) (map item_of is))
  items-do [] h = tt
  items-do (i ∷ is) h = (item-does i h.0, items-do is h.1)

  values-told : (is : List CaseItem) → Each ItemSpeaks is → Each (Told At) (A.item_values (map item_actions is))
  values-told [] h = tt
  values-told (i ∷ is) h = each-append (Told At) (item_actions i).values (A.item_values (map item_actions is)) (item-told i h.0) (values-told is h.1)

  items-say : (is : List CaseItem) → Each ItemSpeaks is → Saying (A.item_bodies (map item_actions is))
  items-say [] h = tt
  items-say (i ∷ is) h = (item-says i h.0, items-say is h.1)

  select-does : (kind : CaseKind) (on : Expr) (is : List CaseItem) (other : Option Stmt) → Told At on → Each ItemSpeaks is → SpeaksOrNone other
      → Does (S.selecting kind (meaning on) (map item_of is) (D.perhaps other))
  select-does kind on is other e h o k =
      let values = flat_map (λ (i : Item). i.values) (map item_of is) in
      let reads = (meaning on).reads k ++ F.all_reads values k in
      G.shows-then At (F.reading reads) (F.any_of (map (λ (i : Item). i.does.flow) (map item_of is)) (S.flow_or_nothing (D.perhaps other) k) k)
      (G.shows-reading At reads (each-append (AtUse At) ((meaning on).reads k) (F.all_reads values k) (e.means.reads k) (G.all-reads At values (values-tell is h) k)))
      (G.shows-any At (map (λ (i : Item). i.does.flow) (map item_of is)) (S.flow_or_nothing (D.perhaps other) k) k (items-do is h) (other-does other o k))

  select-speaks : (kind : CaseKind) (on : Expr) (is : List CaseItem) (other : Option Stmt) → Y.Each ItemClaim is → OrNone Claim other → Claim (V.Case kind on is other)
  select-speaks kind on is other h g f =
      let at = spots-by (V.Case kind on is other) (expr_spots on ++ (all (map item_spots is) ++ or_none (perhaps other))) (T.spots-Case kind on is other) f in
      let e = told At on (left (expr_spots on) (all (map item_spots is) ++ or_none (perhaps other)) at) in
      let rest = right (expr_spots on) (all (map item_spots is) ++ or_none (perhaps other)) at in
      let b = items is h (left (all (map item_spots is)) (or_none (perhaps other)) rest) in
      let o = that other g (right (all (map item_spots is)) (or_none (perhaps other)) rest) in
      let es = on ∷ A.item_values (map item_actions is) in
      let parts = A.item_bodies (map item_actions is) ++ A.none_or (L.perhaps other) in
      speaks-by (V.Case kind on is other) _ _ (D.doing-Case kind on is other) (L.actions-Case kind on is other)
      (counted-does (S.selecting kind (meaning on) (map item_of is) (D.perhaps other)) (select-does kind on is other e b o))
      (says-counted (A.together es parts)
      (says-together es parts (e, values-told is b) (each-append Says (A.item_bodies (map item_actions is)) (A.none_or (L.perhaps other)) (items-say is b) (other-says other o))))

  -- loops
  loop-says : (n : ℕ) (first test step : Expr) (body : Stmt) (spot : Spot) → At spot.at → Told At first → Told At test → Told At step → Speaks body
      → Says (A.looping (control_of n first test step spot) (actions body))
  loop-says n first test step body spot at f t s b =
      let c = control_of n first test step spot in
      let controls : R.Controls At c = record { at_it = at; first = f; test = t; step = s } in
      let all = says-together (first ∷ test ∷ step ∷ []) (actions body ∷ []) (f, (t, (s, tt))) (b.says, tt) in
      record {
        assigns = all.assigns;
        passes = all.passes;
        unbounded = λ fs k.
            each-append At (cond (A.is_counted c (actions body) fs k) [] (c.at ∷ [])) ((actions body).unbounded fs (A.entered c k))
            (each-cond At (A.is_counted c (actions body) fs k) [] (c.at ∷ []) tt (at, tt)) (b.says.unbounded fs (A.entered c k));
        unrolls = λ fs k u g. R.keeps-looping At (A.is_counted c (actions body) fs k) c ((actions body).unrolls fs) controls (b.says.unrolls fs) k u g;
      }

  loop-speaks : (n : ℕ) (first test step : Expr) (body : Stmt) (spot : Spot) → Claim body → Claim (V.Loop n first test step body spot)
  loop-speaks n first test step body spot h g =
      let at = spots-by (V.Loop n first test step body spot) (spot ∷ (exprs_spots (first ∷ test ∷ step ∷ []) ++ stmt_spots body)) (T.spots-Loop n first test step body spot) g in
      let es = these (first ∷ test ∷ step ∷ []) (left (exprs_spots (first ∷ test ∷ step ∷ [])) (stmt_spots body) at.1) in
      let b = h (right (exprs_spots (first ∷ test ∷ step ∷ [])) (stmt_spots body) at.1) in
      speaks-by (V.Loop n first test step body spot) _ _ (D.doing-Loop n first test step body spot) (L.actions-Loop n first test step body spot)
      (λ k. G.shows-looping At n (meaning first) (meaning test) (meaning step) (doing body).flow es.0.means es.1.0.means es.1.1.0.means b.does k)
      (loop-says n first test step body spot at.0 es.0 es.1.0 es.1.1.0 b)

  -- assignments and calls
  assign-speaks : (to : List Expr) (value : Expr) (later : Bool) (spot : Spot) → Claim (V.Assign to value later spot)
  assign-speaks to value later spot g =
      let at = spots-by (V.Assign to value later spot) (spot ∷ exprs_spots (to ++ value ∷ [])) (T.spots-Assign to value later spot) g in
      let es = these (to ++ value ∷ []) at.1 in
      let targets = each-left (Told At) to (value ∷ []) es in
      let valued = each-right (Told At) to (value ∷ []) es in
      let says = says-these (to ++ value ∷ []) es in
      speaks-by (V.Assign to value later spot) _ _ (D.doing-Assign to value later spot) (L.actions-Assign to value later spot)
      (counted-does (S.assigning (map meaning to) (meaning value) later) (λ k. G.shows-assigning At later (map meaning to) (meaning value) (tells-all At to targets) valued.0.means k))
      (says-counted (A.assigning to value later spot.at) (record { assigns = (at.0, tt); passes = λ fs. tt; unbounded = λ fs k. tt; unrolls = says.unrolls }))

  passed-out : (ps : List Parameter) (es : List Expr) → Each (Told At) es → Each (λ (x : Passed). At x.at) (A.passed_out ps es)
  passed-out [] es h = tt
  passed-out (p ∷ ps) [] h = tt
  passed-out (p ∷ ps) (e ∷ es) h =
      each-append (λ (x : Passed). At x.at) (cond (A.is_out p.way) (record { at = e.spot.at; to = (meaning e).roots } ∷ []) []) (A.passed_out ps es)
      (each-cond (λ (x : Passed). At x.at) (A.is_out p.way) (record { at = e.spot.at; to = (meaning e).roots } ∷ []) [] (h.0.token, tt) tt) (passed-out ps es h.1)

  passed-told : (ps : List Parameter) (es : List Expr) → Each (Told At) es → Each (Told At) (passed_to ps es)
  passed-told [] es h = tt
  passed-told (p ∷ ps) [] h = tt
  passed-told (p ∷ ps) (e ∷ es) h = (h.0, passed-told ps es h.1)

  call-speaks : (f : ℕ) (es : List Expr) (spot : Spot) → Claim (V.Call f es spot)
  call-speaks f es spot g =
      let at = spots-by (V.Call f es spot) (spot ∷ exprs_spots es) (T.spots-Call f es spot) g in
      let all = these es at.1 in
      speaks-by (V.Call f es spot) _ _ (D.doing-Call f es spot) (L.actions-Call f es spot)
      (counted-does (S.calling f (map meaning es)) (λ k. G.shows-calling At f (map meaning es) (tells-all At es all) k))
      (says-counted (A.calling f es)
      (record { assigns = tt; passes = λ fs. passed-out (fs f) es all; unbounded = λ fs k. tt; unrolls = λ fs. R.keeps-valuing At (passed_to (fs f) es) (passed-told (fs f) es all) }))

  -- what stands for a replaced call
  made-does : (ls : List Local) (ss : List Stmt) (body : Option Stmt) → Each (Told At) (starts_of ls) → Each Speaks ss → SpeaksOrNone body → Does (S.made ls (map doing ss) (D.perhaps body))
  made-does ls ss None h g f = λ k.
      let inner = scope_flow ls (F.in_turn (S.flows (map doing ss))) in
      G.shows-counted At (record (inner k) { statements = 0 }) (G.shows-uncounted At (inner k) (scope-does ls ss h g k))
  made-does ls ss (Some s) h g f =
      let before = F.in_turn (S.flows (map doing ss)) in
      G.shows-scope At ls (λ k. F.and_then (record (before k) { statements = 0 }) ((doing s).flow k)) (starting ls h)
      (λ k. G.shows-then At (record (before k) { statements = 0 }) ((doing s).flow k) (G.shows-uncounted At (before k) (G.shows-turn At (S.flows (map doing ss)) (all-do ss g) k)) (f.does k))

  before-keeps : (ls : List Local) (ss : List Stmt) → Each (Told At) (starts_of ls) → Each Speaks ss → (fs : ℕ → List Parameter)
      → Keeps At (U.uncounted (U.in_turn (U.valuing (starts_of ls) ∷ A.unrolling fs (map actions ss))))
  before-keeps ls ss h g fs =
      let first = U.valuing (starts_of ls) ∷ A.unrolling fs (map actions ss) in
      R.keeps-uncounted At (U.in_turn first) (R.keeps-turn At first (R.keeps-valuing At (starts_of ls) h, all-unroll (map actions ss) (all-say ss g) fs))

  made-says : (ls : List Local) (ss : List Stmt) (body : Option Stmt) → Each (Told At) (starts_of ls) → Each Speaks ss → SpeaksOrNone body → Says (A.made ls (map actions ss) (L.perhaps body))
  made-says ls ss None h g f =
      let all = says-together (starts_of ls) (map actions ss) h (all-say ss g) in
      says-counted (record (A.together (starts_of ls) (map actions ss)) { unrolls = λ fs. U.uncounted (U.in_turn (U.valuing (starts_of ls) ∷ A.unrolling fs (map actions ss))) })
      (record { assigns = all.assigns; passes = all.passes; unbounded = all.unbounded; unrolls = before-keeps ls ss h g })
  made-says ls ss (Some s) h g f =
      let all = says-together (starts_of ls) (map actions ss ++ actions s ∷ []) h (each-append Says (map actions ss) (actions s ∷ []) (all-say ss g) (f.says, tt)) in
      record {
        assigns = all.assigns;
        passes = all.passes;
        unbounded = all.unbounded;
        unrolls = λ fs.
            let before = U.uncounted (U.in_turn (U.valuing (starts_of ls) ∷ A.unrolling fs (map actions ss))) in
            R.keeps-turn At (before ∷ (actions s).unrolls fs ∷ []) (before-keeps ls ss h g fs, (f.says.unrolls fs, tt));
      }

  made-speaks : (ls : List Local) (ss : List Stmt) (body : Option Stmt) → Y.Each Claim ss → OrNone Claim body → Claim (V.Made ls ss body)
  made-speaks ls ss body h g f =
      let at = spots-by (V.Made ls ss body) (exprs_spots (starts_of ls) ++ (all (map stmt_spots ss) ++ or_none (perhaps body))) (T.spots-Made ls ss body) f in
      let es = these (starts_of ls) (left (exprs_spots (starts_of ls)) (all (map stmt_spots ss) ++ or_none (perhaps body)) at) in
      let rest = right (exprs_spots (starts_of ls)) (all (map stmt_spots ss) ++ or_none (perhaps body)) at in
      let parts = those ss h (left (all (map stmt_spots ss)) (or_none (perhaps body)) rest) in
      let b = that body g (right (all (map stmt_spots ss)) (or_none (perhaps body)) rest) in
      speaks-by (V.Made ls ss body) _ _ (D.doing-Made ls ss body) (L.actions-Made ls ss body) (made-does ls ss body es parts b) (made-says ls ss body es parts b)

  says-nothing : Says (A.counted (A.saying []))
  says-nothing = says-counted (A.saying []) (says-these [] tt)

  claims : Steps Claim ItemClaim
  claims = record {
    item = λ i h. h;
    block = block-speaks;
    branch = branch-speaks;
    select = select-speaks;
    loop = loop-speaks;
    assign = assign-speaks;
    call = call-speaks;
    made = made-speaks;
    breaks = λ h. speaks-by V.Break _ _ D.doing-Break L.actions-Break (counted-does (S.jumping N.Break) (λ k. G.shows-jumping At N.Break)) says-nothing;
    continues = λ h. speaks-by V.Continue _ _ D.doing-Continue L.actions-Continue (counted-does (S.jumping N.Continue) (λ k. G.shows-jumping At N.Continue)) says-nothing;
    returns = λ h. speaks-by V.Return _ _ D.doing-Return L.actions-Return (counted-does (S.jumping N.Return) (λ k. G.shows-jumping At N.Return)) says-nothing;
  }

  pub speaks : (s : Stmt) → Claim s
  speaks = by-stmt Claim ItemClaim claims
