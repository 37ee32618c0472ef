-- The walk finds the first of the tokens of a statement.
use Rattle.std.proofs.Common.{◌≡◌, ℕ, List, [], ◌∷◌, ◌++◌, map, Option, Some, None, refl, ap, sym, ◌∙◌}
use Rattle.sv_source.specs.declared.token.Spot.{Spot}
use Rattle.sv_types.specs.declared.expression.Expr.{Expr}
use Rattle.sv_types.specs.declared.statement.CaseItem.{CaseItem}
use Rattle.sv_types.specs.declared.statement.Local.{Local}
use Rattle.sv_types.specs.declared.statement.Stmt.{Stmt}
use Rattle.design_breaks.specs.Unrolling.{starts_of}
use Rattle.design_breaks.specs.Spots.{all, or_none, expr_spots, exprs_spots, stmt_spots}
use Rattle.flow_laws.proofs.Terms.{Each, OrNone, Steps, by-stmt}
use Rattle.spot_laws.proofs.StmtSpots as T
use Rattle.spot_laws.proofs.StmtSpots.{item_spots, perhaps}
use Rattle.break_spots.specs.Walk as W
use Rattle.break_spots.specs.Walk.{Walk, look, in_turn, if_written, expr_walk, exprs_walk, initial_walk, stmt_walk, item_walk}
use Rattle.break_spots.proofs.InExprs.{Follows, first_in, first-append, in-both, by-levels, in-expr, in-exprs}
use Rattle.break_spots.proofs.StmtLevels as L

module _ (at : ℕ) where
  abbrev OfStmt : Stmt → Type 0
  OfStmt s = Follows at (stmt_walk at s) (stmt_spots s)

  abbrev OfItem : CaseItem → Type 0
  OfItem i = OfStmt i.body

  look-first : (s : Spot) → Follows at (look at s) (s ∷ [])
  look-first s u = refl

  -- locals
  in-initial : (o : Option Expr) (u : Option Spot) → elim o [ None ↦ u | Some e ↦ expr_walk at e u ] ≡ first_in at (exprs_spots (elim o [ None ↦ [] | Some e ↦ e ∷ [] ])) u
  in-initial None u = refl
  in-initial (Some e) u = in-expr at e u ∙ sym (first-append at (expr_spots e) [] u)

  append-spots : (xs ys : List Expr) (u : Option Spot) → first_in at (exprs_spots (xs ++ ys)) u ≡ first_in at (exprs_spots ys) (first_in at (exprs_spots xs) u)
  append-spots [] ys u = refl
  append-spots (x ∷ xs) ys u =
      first-append at (expr_spots x) (exprs_spots (xs ++ ys)) u
      ∙ append-spots xs ys (first_in at (expr_spots x) u)
      ∙ ap (first_in at (exprs_spots ys)) (sym (first-append at (expr_spots x) (exprs_spots xs) u))

  in-locals : (ls : List Local) → Follows at (in_turn (map (initial_walk at) ls)) (exprs_spots (starts_of ls))
  in-locals [] u = refl
  in-locals (l ∷ ls) u =
      ap (in_turn (map (initial_walk at) ls)) (in-initial l.initial u)
      ∙ in-locals ls (first_in at (exprs_spots (elim l.initial [ None ↦ [] | Some e ↦ e ∷ [] ])) u)
      ∙ sym (append-spots (elim l.initial [ None ↦ [] | Some e ↦ e ∷ [] ]) (starts_of ls) u)

  -- parts
  in-stmts : (ss : List Stmt) → Each OfStmt ss → Follows at (in_turn (map (stmt_walk at) ss)) (all (map stmt_spots ss))
  in-stmts [] h u = refl
  in-stmts (s ∷ ss) h u =
      ap (in_turn (map (stmt_walk at) ss)) (h.0 u)
      ∙ in-stmts ss h.1 (first_in at (stmt_spots s) u)
      ∙ sym (first-append at (stmt_spots s) (all (map stmt_spots ss)) u)

  in-other : (other : Option Stmt) → OrNone OfStmt other → Follows at (if_written (L.perhaps at other)) (or_none (perhaps other))
  in-other None h u = refl
  in-other (Some s) h u = h u

  in-item : (i : CaseItem) → OfItem i → Follows at (item_walk at i) (item_spots i)
  in-item i h = by-levels at _ _ _ _ (L.walk-item at i) (T.spots-of-item i) (in-both at (exprs_walk at i.values) (stmt_walk at i.body) (exprs_spots i.values) (stmt_spots i.body) (in-exprs at i.values) h)

  in-items : (is : List CaseItem) → Each OfItem is → Follows at (in_turn (map (item_walk at) is)) (all (map item_spots is))
  in-items [] h u = refl
  in-items (i ∷ is) h u =
      ap (in_turn (map (item_walk at) is)) (in-item i h.0 u)
      ∙ in-items is h.1 (first_in at (item_spots i) u)
      ∙ sym (first-append at (item_spots i) (all (map item_spots is)) u)

  in-targets : (to : List Expr) (value : Expr) → Follows at (W.both (exprs_walk at to) (expr_walk at value)) (exprs_spots (to ++ value ∷ []))
  in-targets to value u =
      ap (expr_walk at value) (in-exprs at to u)
      ∙ in-expr at value (first_in at (exprs_spots to) u)
      ∙ sym (first-append at (expr_spots value) [] (first_in at (exprs_spots to) u))
      ∙ sym (append-spots to (value ∷ []) u)

  in-control : (first test step : Expr) → Follows at (W.both (expr_walk at first) (W.both (expr_walk at test) (expr_walk at step))) (exprs_spots (first ∷ test ∷ step ∷ []))
  in-control first test step u = in-exprs at (first ∷ test ∷ step ∷ []) u

  all-steps : Steps OfStmt OfItem
  all-steps = record {
    item = λ i h. h;
    block = λ ls ss h. by-levels at _ _ _ _ (L.walk-Block at ls ss) (T.spots-Block ls ss)
        (in-both at (in_turn (map (initial_walk at) ls)) (in_turn (map (stmt_walk at) ss)) (exprs_spots (starts_of ls)) (all (map stmt_spots ss)) (in-locals ls) (in-stmts ss h));
    branch = λ on body other h g. by-levels at _ _ _ _ (L.walk-If at on body other) (T.spots-If on body other)
        (in-both at (expr_walk at on) (W.both (stmt_walk at body) (if_written (L.perhaps at other))) (expr_spots on) (stmt_spots body ++ or_none (perhaps other)) (in-expr at on)
        (in-both at (stmt_walk at body) (if_written (L.perhaps at other)) (stmt_spots body) (or_none (perhaps other)) h (in-other other g)));
    select = λ kind on is other h g. by-levels at _ _ _ _ (L.walk-Case at kind on is other) (T.spots-Case kind on is other)
        (in-both at (expr_walk at on) (W.both (in_turn (map (item_walk at) is)) (if_written (L.perhaps at other))) (expr_spots on) (all (map item_spots is) ++ or_none (perhaps other)) (in-expr at on)
        (in-both at (in_turn (map (item_walk at) is)) (if_written (L.perhaps at other)) (all (map item_spots is)) (or_none (perhaps other)) (in-items is h) (in-other other g)));
    loop = λ n first test step body spot h. by-levels at _ _ _ _ (L.walk-Loop at n first test step body spot) (T.spots-Loop n first test step body spot)
        (in-both at (look at spot) (W.both (W.both (expr_walk at first) (W.both (expr_walk at test) (expr_walk at step))) (stmt_walk at body)) (spot ∷ []) (exprs_spots (first ∷ test ∷ step ∷ []) ++ stmt_spots body) (look-first spot)
        (in-both at (W.both (expr_walk at first) (W.both (expr_walk at test) (expr_walk at step))) (stmt_walk at body) (exprs_spots (first ∷ test ∷ step ∷ [])) (stmt_spots body) (in-control first test step) h));
    assign = λ to value later spot. by-levels at _ _ _ _ (L.walk-Assign at to value later spot) (T.spots-Assign to value later spot)
        (in-both at (look at spot) (W.both (exprs_walk at to) (expr_walk at value)) (spot ∷ []) (exprs_spots (to ++ value ∷ [])) (look-first spot) (in-targets to value));
    call = λ f es spot. by-levels at _ _ _ _ (L.walk-Call at f es spot) (T.spots-Call f es spot)
        (in-both at (look at spot) (exprs_walk at es) (spot ∷ []) (exprs_spots es) (look-first spot) (in-exprs at es));
    made = λ ls ss body h g. by-levels at _ _ _ _ (L.walk-Made at ls ss body) (T.spots-Made ls ss body)
        (in-both at (in_turn (map (initial_walk at) ls)) (W.both (in_turn (map (stmt_walk at) ss)) (if_written (L.perhaps at body))) (exprs_spots (starts_of ls)) (all (map stmt_spots ss) ++ or_none (perhaps body)) (in-locals ls)
        (in-both at (in_turn (map (stmt_walk at) ss)) (if_written (L.perhaps at body)) (all (map stmt_spots ss)) (or_none (perhaps body)) (in-stmts ss h) (in-other body g)));
    breaks = by-levels at _ _ _ _ (L.walk-Break at) T.spots-Break (λ u. refl);
    continues = by-levels at _ _ _ _ (L.walk-Continue at) T.spots-Continue (λ u. refl);
    returns = by-levels at _ _ _ _ (L.walk-Return at) T.spots-Return (λ u. refl);
  }

  pub in-stmt : (s : Stmt) → OfStmt s
  in-stmt = by-stmt OfStmt OfItem all-steps
