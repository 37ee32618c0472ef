-- Lowered expressions and statements break no rule.
use Rattle.std.proofs.Common.{◌≡◌, ℕ, suc, ◌+◌, Bool, true, false, not, max, List, [], ◌∷◌, ◌++◌, map, Some, None, refl, sym, ap, subst, ◌∙◌, inl, inr}
use Rattle.b4_core.specs.declared.operators.BinOp.{BinOp}
use Rattle.b4_core.specs.declared.operators.BinOp.TheVariants.{And, Or, Xor, Xnor, Add, Sub, Mul, Div, Rem}
use Rattle.row_machine.specs.Valuation.{Member}
use Rattle.row_machine.proofs.Members.{member-front, member-back}
use Rattle.sv_core.specs.declared.design.Signal.{Signal}
use Rattle.sv_core.specs.declared.design.Primary.{Primary}
use Rattle.sv_core.specs.declared.design.Primary.TheVariants as P
use Rattle.sv_core.specs.declared.design.Expr.{Expr}
use Rattle.sv_core.specs.declared.design.Expr.TheVariants.{Single, Binary}
use Rattle.sv_core.specs.declared.design.Stmt.{Stmt}
use Rattle.sv_core.specs.declared.design.Stmt.TheVariants as S
use Rattle.sv_core.specs.Statements.{Doing, sequence, choice, assignment, idle, stmt_doing, doing, primary_signals, expr_signals}
use Rattle.v_tree.specs.Names.{Name}
use Rattle.v_tree.specs.Scopes.{Kind}
use Rattle.v_tree.specs.Scopes as Things
use Rattle.v_tree.specs.ExprRules.{Around, Rules, SelRules, rules_of, expr_rules, prim_rules, sel_rules, only_if, name_broken, binary_rules, kind_of, bitwise}
use Rattle.v_tree.specs.StmtRules.{Target, target_of, lval_target, Procedure, mark_breaks, is_written, is_local, StmtRules, ItemRules, blocks_in, stmts_broken, branch_rules, item_rules, stmt_rules, rules_of_stmt, rules_of_branch}
use Rattle.v_tree.specs.declared.expressions.VPrim.{VPrim, fold-VPrim}
use Rattle.v_tree.specs.declared.expressions.VExpr.TheVariants as E
use Rattle.v_tree.specs.declared.operators.VUnaryOp.TheVariants.{Not}
use Rattle.v_tree.specs.declared.statements.VBranch.TheVariants.{Statement, Empty}
use Rattle.v_tree.specs.declared.statements.VStmt.{VStmt, VStmt-F}
use Rattle.v_tree.specs.declared.statements.VStmt.TheVariants as T
use Rattle.lower_design.specs.Translatable.{OperatorFits, ExprFits, Inside, all_exprs, inside, stmt_inside}
use Rattle.lower_design.specs.Shape.{name_of, trigger}
use Rattle.lower_design.specs.Lowered.{lines, branch, parenthesized, alone, lowered_primary, lowered_operand, lowered_expr, lowered_level, lowered_stmt, operator_of, reads_trigger, triggered, whole_name, whole_target}
use Rattle.lower_design.proofs.Induction.{Steps, by_statement}
use Rattle.lower_design.proofs.Levels.{block-level, alone-level, either-level, assign-level, statement-target, empty-target, block-target, alone-target, either-target, assign-target, target-level, number-level, name-level, paren-level, prim-level, unary-level, binary-level, lines-block, lines-if, lines-assign}
use Rattle.lower_design.proofs.Runs.{trigger_on}

-- nothing and nothing
pub none : {A : Type 0} (xs ys : List A) → xs ≡ [] → ys ≡ [] → xs ++ ys ≡ []
none xs ys e f = λ i. e i ++ f i

abbrev prim_of : VPrim → Rules
prim_of = fold-VPrim Rules Rules SelRules expr_rules prim_rules sel_rules

bitwise-is : (op : BinOp) → OperatorFits op → kind_of (operator_of op) ≡ bitwise
bitwise-is And h = refl
bitwise-is Or h = refl
bitwise-is Xor h = refl
bitwise-is Xnor h = absurd h
bitwise-is Add h = absurd h
bitwise-is Sub h = absurd h
bitwise-is Mul h = absurd h
bitwise-is Div h = absurd h
bitwise-is Rem h = absurd h

module _ (all : List Signal) (around : Around) where
  abbrev name : ℕ → Name
  name n = name_of all n

  -- a name that stands for a signal
  pub record IsValue (name : Name) : Type 0 where
    pub kind : Kind
    pub width : ℕ
    pub ranged : Bool
    pub is : around.scope name ≡ Some (Things.value kind width ranged)

  -- and one of these that a procedure writes
  pub record IsVariable (name : Name) : Type 0 where
    pub width : ℕ
    pub ranged : Bool
    pub is : around.scope name ≡ Some (Things.value Things.variable width ranged)

  abbrev pub AllValues : List ℕ → Type 0
  AllValues ns = (n : ℕ) → Member ns n → IsValue (name n)

  -- no rule is broken, at any width and place
  abbrev pub Quiet : Rules → Type 0
  Quiet r = (w at : ℕ) → r.broken around w at ≡ []

  name-quiet : (n : Name) → IsValue n → (at : ℕ) → name_broken (around.scope n) [] at ≡ []
  name-quiet n v at = ap (λ o. name_broken o [] at) v.is

  named-quiet : (n : Name) → IsValue n → Quiet (prim_of (whole_name n))
  named-quiet n v = subst Quiet (sym (name-level Rules Rules SelRules expr_rules prim_rules sel_rules n)) (λ w at. none _ _ (name-quiet n v at) refl)

  primary-quiet : (p : Primary) → AllValues (primary_signals p) → Quiet (prim_of (lowered_primary all p))
  primary-quiet (P.Signal n) values = named-quiet (name n) (values n (inl refl))
  primary-quiet (P.Literal bits) values = subst Quiet (sym (number-level Rules Rules SelRules expr_rules prim_rules sel_rules bits)) (λ w at. refl)

  unary-quiet : (p : VPrim) → Quiet (prim_of p) → Quiet (rules_of (E.Unary Not p))
  unary-quiet p q = subst Quiet (sym (unary-level Rules Rules SelRules expr_rules prim_rules sel_rules Not p)) (λ w at. q w (suc at))

  operand-quiet : (inverted : Bool) (p : Primary) → AllValues (primary_signals p) → Quiet (prim_of (parenthesized inverted (lowered_primary all p)))
  operand-quiet true p values =
      subst Quiet (sym (paren-level Rules Rules SelRules expr_rules prim_rules sel_rules (E.Unary Not (lowered_primary all p))))
      (λ w at. unary-quiet (lowered_primary all p) (primary-quiet p values) w (suc at))
  operand-quiet false p values = primary-quiet p values

  pub expr-quiet : (x : Expr) → ExprFits x → AllValues (expr_signals x) → Quiet (rules_of (lowered_expr all x))
  expr-quiet (Single a) fits values = by_case a.inverted (primary-quiet a.primary values)
    where
      by_case : (b : Bool) → Quiet (prim_of (lowered_primary all a.primary)) → Quiet (rules_of (alone b (lowered_primary all a.primary)))
      by_case true q = unary-quiet (lowered_primary all a.primary) q
      by_case false q = subst Quiet (sym (prim-level Rules Rules SelRules expr_rules prim_rules sel_rules (lowered_primary all a.primary))) q
  expr-quiet (Binary op a b) fits values =
      subst Quiet (sym (binary-level Rules Rules SelRules expr_rules prim_rules sel_rules (operator_of op) (lowered_operand all a) (lowered_operand all b)
      ∙ ap (λ o. binary_rules o (prim_of (lowered_operand all a)) (prim_of (lowered_operand all b))) (bitwise-is op fits.0)))
      (λ w at. none _ _ (operand-quiet a.inverted a.primary (λ n m. values n (member-front (primary_signals a.primary) _ n m)) w _)
      (operand-quiet b.inverted b.primary (λ n m. values n (member-back (primary_signals a.primary) _ n m)) w _))

  module _ (procedure : Procedure) where
    -- the procedure may assign so to the signal
    pub record MayWrite (later : Bool) (n : ℕ) : Type 0 where
      pub variable : IsVariable (name n)
      pub marked : mark_breaks procedure later true ≡ false

    -- what a statement needs
    pub record Allowed (d : Doing) (xs : List Expr) : Type 0 where
      pub exprs : (x : Expr) → Member xs x → ExprFits x
      pub reads : AllValues d.reads
      pub targets : (n : ℕ) → Member d.targets n → MayWrite false n
      pub later_targets : (n : ℕ) → Member d.later_targets n → MayWrite true n

    -- it declares no block and breaks no rule
    pub record QuietStmt (r : StmtRules) : Type 0 where
      pub blocks : (at : ℕ) → r.blocks at ≡ []
      pub broken : (at : ℕ) → r.broken procedure around at ≡ []

    pub record AllQuiet (rs : List StmtRules) : Type 0 where
      pub blocks : (at : ℕ) → blocks_in rs at ≡ []
      pub broken : (at : ℕ) → stmts_broken rs procedure around at ≡ []

    abbrev lowers : Stmt → VStmt
    lowers = lowered_stmt all

    -- so it and the lines of the block that it becomes
    pub record Kept (s : VStmt) : Type 0 where
      pub stmt : QuietStmt (rules_of_stmt s)
      pub each_line : AllQuiet (map rules_of_stmt (lines s))

    abbrev IsQuiet : Stmt → Type 0
    IsQuiet s = Allowed (doing s) (inside s).exprs → Kept (lowers s)

    one-quiet : (r : StmtRules) → QuietStmt r → AllQuiet (r ∷ [])
    one-quiet r q = record { blocks = λ at. none _ _ (q.blocks at) refl; broken = λ at. none _ _ (q.broken at) refl }

    more-quiet : (r : StmtRules) (rs : List StmtRules) → QuietStmt r → AllQuiet rs → AllQuiet (r ∷ rs)
    more-quiet r rs q qs = record { blocks = λ at. none _ _ (q.blocks at) (qs.blocks _); broken = λ at. none _ _ (q.broken at) (qs.broken _) }

    -- a statement that is its own line
    kept-line : (s : VStmt) → lines s ≡ s ∷ [] → QuietStmt (rules_of_stmt s) → Kept s
    kept-line s e q = record { stmt = q; each_line = subst (λ xs. AllQuiet (map rules_of_stmt xs)) (sym e) (one-quiet (rules_of_stmt s) q) }

    -- a block without a name
    block-quiet : (xs : List VStmt) → AllQuiet (map rules_of_stmt xs) → QuietStmt (rules_of_stmt (T.Block None xs))
    block-quiet xs q =
        subst QuietStmt (sym (block-target StmtRules ItemRules StmtRules branch_rules item_rules stmt_rules xs))
        (record { blocks = λ at. q.blocks (suc at); broken = λ at. q.broken (suc at) })

    kept-block : (xs : List VStmt) → AllQuiet (map rules_of_stmt xs) → Kept (T.Block None xs)
    kept-block xs q = record { stmt = block-quiet xs q; each_line = subst (λ ys. AllQuiet (map rules_of_stmt ys)) (sym (lines-block xs)) q }

    branch-of : (xs : List VStmt) → AllQuiet (map rules_of_stmt xs) → QuietStmt (rules_of_branch (Statement (T.Block None xs)))
    branch-of xs q =
        subst QuietStmt (sym (statement-target StmtRules ItemRules StmtRules branch_rules item_rules stmt_rules (T.Block None xs))) (block-quiet xs q)

    branch-quiet : (s : VStmt) → Kept s → QuietStmt (rules_of_branch (branch s))
    branch-quiet s k = branch-of (lines s) k.each_line

    -- an assignment
    target-quiet : (later : Bool) (n : ℕ) → MayWrite later n → (at : ℕ)
        → (let to = target_of (whole_target (name n)) in
        to.broken around at ++ (to.by_procedure around at ++ (only_if (mark_breaks procedure later (to.has_signal around)) (at + to.size) ++ [])) ≡ [])
    target-quiet later n w at =
        ap (λ (to : Target). to.broken around at ++ (to.by_procedure around at ++ (only_if (mark_breaks procedure later (to.has_signal around)) (at + to.size) ++ []))) (target-level Target lval_target (name n))
        ∙ ap (λ o. (name_broken o [] at ++ []) ++ (only_if (not (is_written o)) at ++ (only_if (mark_breaks procedure later (not (is_local o))) (at + 1) ++ []))) w.variable.is
        ∙ ap (λ b. only_if b (at + 1) ++ []) w.marked

    assign-quiet : (to : ℕ) (value : Expr) (later : Bool) → MayWrite later to → Quiet (rules_of (lowered_expr all value))
        → Kept (T.Assign (whole_target (name to)) (lowered_expr all value) later)
    assign-quiet to value later w q =
        kept-line (T.Assign (whole_target (name to)) (lowered_expr all value) later) (lines-assign (whole_target (name to)) (lowered_expr all value) later)
        (subst QuietStmt (sym (assign-target StmtRules ItemRules StmtRules branch_rules item_rules stmt_rules (whole_target (name to)) (lowered_expr all value) later))
        (record {
          blocks = λ at. refl;
          broken = λ at. (λ i. (target_of (whole_target (name to))).broken around at
              ++ ((target_of (whole_target (name to))).by_procedure around at
              ++ (only_if (mark_breaks procedure later ((target_of (whole_target (name to))).has_signal around)) (at + (target_of (whole_target (name to))).size)
              ++ q (max ((target_of (whole_target (name to))).width around) ((rules_of (lowered_expr all value)).width around)) (at + suc (target_of (whole_target (name to))).size) i)))
              ∙ target-quiet later to w at;
        }))

    -- an `if` whose branches are kept
    if-quiet : (on : Expr) (body : VStmt) → Quiet (rules_of (lowered_expr all on)) → Kept body → Kept (T.If (lowered_expr all on) (branch body) None)
    if-quiet on body q k =
        let b = branch-quiet body k in
        kept-line (T.If (lowered_expr all on) (branch body) None) (lines-if (lowered_expr all on) (branch body) None)
        (subst QuietStmt (sym (alone-target StmtRules ItemRules StmtRules branch_rules item_rules stmt_rules (lowered_expr all on) (branch body)))
        (record {
          blocks = λ at. none _ _ (b.blocks _) refl;
          broken = λ at. none _ _ (q _ _) (none _ _ (b.broken _) refl);
        }))

    else-quiet : (on : Expr) (body other : VStmt) → Quiet (rules_of (lowered_expr all on)) → Kept body → Kept other
        → Kept (T.If (lowered_expr all on) (branch body) (Some (branch other)))
    else-quiet on body other q k j =
        let b = branch-quiet body k in
        let c = branch-quiet other j in
        kept-line (T.If (lowered_expr all on) (branch body) (Some (branch other))) (lines-if (lowered_expr all on) (branch body) (Some (branch other)))
        (subst QuietStmt (sym (either-target StmtRules ItemRules StmtRules branch_rules item_rules stmt_rules (lowered_expr all on) (branch body) (branch other)))
        (record {
          blocks = λ at. none _ _ (b.blocks _) (c.blocks _);
          broken = λ at. none _ _ (q _ _) (none _ _ (b.broken _) (c.broken _));
        }))

    each-quiet : (xs : List Stmt) → ((s : Stmt) → Member xs s → IsQuiet s) → Allowed (sequence (map doing xs)) (all_exprs (map inside xs))
        → AllQuiet (map rules_of_stmt (map lowers xs))
    each-quiet [] h r = record { blocks = λ at. refl; broken = λ at. refl }
    each-quiet (x ∷ xs) h r =
        more-quiet (rules_of_stmt (lowers x)) (map rules_of_stmt (map lowers xs))
        (h x (inl refl) (record {
          exprs = λ y m. r.exprs y (member-front (inside x).exprs _ y m);
          reads = λ n m. r.reads n (member-front (doing x).reads _ n m);
          targets = λ n m. r.targets n (member-front (doing x).targets _ n m);
          later_targets = λ n m. r.later_targets n (member-front (doing x).later_targets _ n m);
        })).stmt
        (each-quiet xs (λ s m. h s (inr m)) (record {
          exprs = λ y m. r.exprs y (member-back (inside x).exprs _ y m);
          reads = λ n m. r.reads n (member-back (doing x).reads _ n m);
          targets = λ n m. r.targets n (member-back (doing x).targets _ n m);
          later_targets = λ n m. r.later_targets n (member-back (doing x).later_targets _ n m);
        }))

    of-assignment : (to : ℕ) (value : Expr) (later : Bool) → Allowed (assignment to value later) (value ∷ []) → Kept (T.Assign (whole_target (name to)) (lowered_expr all value) later)
    of-assignment to value true r = assign-quiet to value true (r.later_targets to (inl refl)) (expr-quiet value (r.exprs value (inl refl)) r.reads)
    of-assignment to value false r = assign-quiet to value false (r.targets to (inl refl)) (expr-quiet value (r.exprs value (inl refl)) r.reads)

    -- what is allowed to the parts of an `if`
    of-condition : (on : Expr) (d e : Doing) (xs : List Expr) → Allowed (choice on d e) (on ∷ xs) → Quiet (rules_of (lowered_expr all on))
    of-condition on d e xs r = expr-quiet on (r.exprs on (inl refl)) (λ n m. r.reads n (member-front (expr_signals on) _ n m))

    of-body : (on : Expr) (d e : Doing) (xs ys : List Expr) → Allowed (choice on d e) (on ∷ (xs ++ ys)) → Allowed d xs
    of-body on d e xs ys r = record {
      exprs = λ y m. r.exprs y (inr (member-front xs _ y m));
      reads = λ n m. r.reads n (member-back (expr_signals on) _ n (member-front d.reads _ n m));
      targets = λ n m. r.targets n (member-front d.targets _ n m);
      later_targets = λ n m. r.later_targets n (member-front d.later_targets _ n m);
    }

    of-other : (on : Expr) (d e : Doing) (xs ys : List Expr) → Allowed (choice on d e) (on ∷ (xs ++ ys)) → Allowed e ys
    of-other on d e xs ys r = record {
      exprs = λ y m. r.exprs y (inr (member-back xs _ y m));
      reads = λ n m. r.reads n (member-back (expr_signals on) _ n (member-back d.reads _ n m));
      targets = λ n m. r.targets n (member-back d.targets _ n m);
      later_targets = λ n m. r.later_targets n (member-back d.later_targets _ n m);
    }

    -- by what the sides are at this level
    at_level : (s : Stmt) (d : Doing) (i : Inside) (l : VStmt) → doing s ≡ d → inside s ≡ i → lowers s ≡ l → (Allowed d i.exprs → Kept l) → IsQuiet s
    at_level s d i l e j g h r =
        subst Kept (sym g) (h (subst (λ (x : Inside). Allowed d x.exprs) j (subst (λ x. Allowed x (inside s).exprs) e r)))

    steps : Steps IsQuiet
    steps = record {
      block = λ xs h. at_level (S.Block xs) _ _ _ (block-level Doing stmt_doing xs) (block-level Inside stmt_inside xs) (block-level VStmt (lowered_level all) xs)
          (λ r. kept-block (map lowers xs) (each-quiet xs h r));
      alone = λ on body h. at_level (S.If on body None) _ _ _ (alone-level Doing stmt_doing on body) (alone-level Inside stmt_inside on body) (alone-level VStmt (lowered_level all) on body)
          (λ r. if-quiet on (lowers body) (of-condition on (doing body) idle ((inside body).exprs ++ []) r) (h (of-body on (doing body) idle (inside body).exprs [] r)));
      either = λ on body other h k. at_level (S.If on body (Some other)) _ _ _ (either-level Doing stmt_doing on body other) (either-level Inside stmt_inside on body other)
          (either-level VStmt (lowered_level all) on body other)
          (λ r. else-quiet on (lowers body) (lowers other) (of-condition on (doing body) (doing other) ((inside body).exprs ++ (inside other).exprs) r)
          (h (of-body on (doing body) (doing other) (inside body).exprs (inside other).exprs r)) (k (of-other on (doing body) (doing other) (inside body).exprs (inside other).exprs r)));
      assign = λ to value later. at_level (S.Assign to value later) _ _ _ (assign-level Doing stmt_doing to value later) (assign-level Inside stmt_inside to value later)
          (assign-level VStmt (lowered_level all) to value later) (of-assignment to value later);
    }

    stmt-quiet : (s : Stmt) → IsQuiet s
    stmt-quiet = by_statement IsQuiet steps

    -- the body of an `always`
    pub body-quiet : (s : Stmt) → Allowed (doing s) (inside s).exprs → QuietStmt (rules_of_branch (branch (lowers s)))
    body-quiet s r = branch-quiet (lowers s) (stmt-quiet s r)

    trigger-quiet : IsValue trigger → QuietStmt (rules_of_stmt reads_trigger)
    trigger-quiet v =
        subst QuietStmt (sym (alone-target StmtRules ItemRules StmtRules branch_rules item_rules stmt_rules trigger_on Empty
        ∙ ap (λ r. stmt_rules (VStmt-F.If trigger_on r None)) (empty-target StmtRules ItemRules StmtRules branch_rules item_rules stmt_rules)))
        (record { blocks = λ at. refl; broken = λ at. none _ _ (on-quiet _ _) refl })
      where
        on-quiet : Quiet (rules_of trigger_on)
        on-quiet = subst Quiet (sym (prim-level Rules Rules SelRules expr_rules prim_rules sel_rules (whole_name trigger))) (named-quiet trigger v)

    pub triggered-quiet : (s : Stmt) → IsValue trigger → Allowed (doing s) (inside s).exprs → QuietStmt (rules_of_branch (triggered (lowers s)))
    triggered-quiet s v r =
        branch-of (reads_trigger ∷ lines (lowers s)) (more-quiet (rules_of_stmt reads_trigger) (map rules_of_stmt (lines (lowers s))) (trigger-quiet v) (stmt-quiet s r).each_line)
