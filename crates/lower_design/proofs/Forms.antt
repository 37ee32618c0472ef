-- Lowered expressions and statements are of the target grammar, and nest little deeper than their sources.
use Rattle.std.proofs.Common.{◌≡◌, ℕ, suc, ◌+◌, ◌*◌, ◌≤◌, max, nat_le, Bool, true, false, not, ◌&&◌, ◌||◌, ◌==◌, List, [], ◌∷◌, ◌++◌, map, length, Some, None, refl, sym, ap, subst, ◌∙◌, inl, inr, arith}
use Rattle.std.proofs.lemmas.Bool.{le-leb, leb-true, eqb-true, or_cases, and_parts, false≢true}
use Rattle.std.specs.List.{list_all}
use Rattle.row_machine.specs.Valuation.{Member}
use Rattle.row_machine.proofs.Members.{member-front, member-back}
use Rattle.sv_core.specs.declared.design.Signal.{Signal}
use Rattle.sv_core.specs.declared.design.Primary.{Primary}
use Rattle.sv_core.specs.declared.design.Primary.TheVariants as P
use Rattle.sv_core.specs.declared.design.Operand.{Operand}
use Rattle.sv_core.specs.declared.design.Expr.{Expr}
use Rattle.sv_core.specs.declared.design.Expr.TheVariants.{Single, Binary}
use Rattle.sv_core.specs.declared.design.Stmt.{Stmt}
use Rattle.sv_core.specs.declared.design.Stmt.TheVariants as S
use Rattle.sv_core.specs.Statements.{Doing, sequence, choice, assignment, idle, stmt_doing, doing, primary_signals, expr_signals}
use Rattle.v_tree.specs.Names.{Name}
use Rattle.v_tree.specs.Reserved.{is_reserved}
use Rattle.v_tree.specs.Tokens.{is_digit, is_letter, is_word, is_printable, is_name, is_simple}
use Rattle.v_tree.specs.Grammatical.{Fit, prim_fit, expr_fit, sel_fit, fit, lval_fit, fit_of_lval, Form, all_of_form, deepest_form, branch_form, item_form, stmt_form, if_form, form_of_branch}
use Rattle.v_tree.specs.declared.expressions.VPrim.{VPrim, fold-VPrim}
use Rattle.v_tree.specs.declared.expressions.VExpr.{VExpr-F}
use Rattle.v_tree.specs.declared.expressions.VExpr.TheVariants as E
use Rattle.v_tree.specs.declared.operators.VUnaryOp.TheVariants.{Not}
use Rattle.v_tree.specs.declared.statements.VBranch.TheVariants.{Statement, Empty}
use Rattle.v_tree.specs.declared.statements.VStmt.{VStmt, VStmt-F, fold-VStmt}
use Rattle.v_tree.specs.declared.statements.VStmt.TheVariants as T
use Rattle.lower_design.specs.Translatable.{PrimaryFits, ExprFits, Inside, all_exprs, inside, stmt_inside}
use Rattle.lower_design.specs.Translatable as Source
use Rattle.lower_design.specs.Shape.{name_of, trigger}
use Rattle.lower_design.specs.Lowered.{lines, branch, parenthesized, alone, lowered_primary, lowered_operand, lowered_expr, lowered_level, lowered_stmt, reads_trigger, triggered, operator_of, whole_name, whole_target}
use Rattle.lower_design.proofs.Induction.{Steps, by_statement}
use Rattle.lower_design.proofs.Levels.{block-level, alone-level, either-level, assign-level, statement-target, empty-target, block-target, alone-target, either-target, assign-target, number-level, name-level, paren-level, prim-level, unary-level, binary-level, target-level, lines-are}
use Rattle.lower_design.proofs.Runs.{trigger_on}

-- of the grammar, and no deeper than this
pub record Fine (limit : ℕ) (f : Fit) : Type 0 where
  pub fits : f.fits ≡ true
  pub depth : f.depth ≤ limit

pub record FineForm (limit : ℕ) (f : Form) : Type 0 where
  pub fits : f.fits ≡ true
  pub depth : f.depth ≤ limit

both : (a b : Bool) → a ≡ true → b ≡ true → (a && b) ≡ true
both a b e f = (λ i. e i && f i)

le_true : (a b : ℕ) → a ≤ b → nat_le a b ≡ true
le_true = le-leb

-- what a simple name is made of is printable
printable : (c : ℕ) → 33 ≤ c → c ≤ 126 → is_printable c ≡ true
printable c low high = λ i. le-leb 33 c low i && le-leb c 126 high i

between : (a b c : ℕ) → 33 ≤ a → b ≤ 126 → (nat_le a c && nat_le c b) ≡ true → is_printable c ≡ true
between a b c low high e =
    let parts = and_parts (nat_le a c) (nat_le c b) e in
    let above = leb-true a c parts.0 in
    let below = leb-true c b parts.1 in
    printable c (omega (arith, low, above)) (omega (arith, high, below))

exactly : (c b : ℕ) → 33 ≤ b → b ≤ 126 → (c == b) ≡ true → is_printable c ≡ true
exactly c b low high e = let same : c ≡ b = eqb-true c b e in printable c (omega (arith, same, low)) (omega (arith, same, high))

letter-printable : (c : ℕ) → is_letter c ≡ true → is_printable c ≡ true
letter-printable c e =
    elim (or_cases (nat_le 97 c && nat_le c 122 || nat_le 65 c && nat_le c 90) (c == 95) e) [
      | inr h ↦ exactly c 95 (omega arith) (omega arith) h
      | inl h ↦ elim (or_cases (nat_le 97 c && nat_le c 122) (nat_le 65 c && nat_le c 90) h) [
        | inl k ↦ between 97 122 c (omega arith) (omega arith) k
        | inr k ↦ between 65 90 c (omega arith) (omega arith) k
      ]
    ]

word-printable : (c : ℕ) → is_word c ≡ true → is_printable c ≡ true
word-printable c e =
    elim (or_cases (is_letter c || is_digit c) (c == 36) e) [
      | inr h ↦ exactly c 36 (omega arith) (omega arith) h
      | inl h ↦ elim (or_cases (is_letter c) (is_digit c) h) [
        | inl k ↦ letter-printable c k
        | inr k ↦ between 48 57 c (omega arith) (omega arith) k
      ]
    ]

words-printable : (text : List ℕ) → list_all is_word text ≡ true → list_all is_printable text ≡ true
words-printable [] e = refl
words-printable (c ∷ text) e =
    let parts = and_parts (is_word c) (list_all is_word text) e in
    (λ i. word-printable c parts.0 i && words-printable text parts.1 i)

-- a simple name is a name
pub simple-name : (n : Name) → is_simple n ≡ true → is_name n ≡ true
simple-name [] e = absurd (false≢true e)
simple-name (c ∷ text) e =
    let outer = and_parts (is_letter c && list_all is_word text) (not (is_reserved (c ∷ text))) e in
    let parts = and_parts (is_letter c) (list_all is_word text) outer.0 in
    (λ i. letter-printable c parts.0 i && words-printable text parts.1 i)

pub trigger-name : is_name trigger ≡ true
trigger-name = refl

abbrev prim_of : VPrim → Fit
prim_of = fold-VPrim Fit Fit Fit expr_fit prim_fit sel_fit

abbrev stmt_of : VStmt → Form
stmt_of = fold-VStmt Form Form Form branch_form item_form stmt_form

module _ (ss : List Signal) where
  abbrev name : ℕ → Name
  name n = name_of ss n

  -- the names of these signals are named
  abbrev pub AllNames : List ℕ → Type 0
  AllNames ns = (n : ℕ) → Member ns n → is_name (name n) ≡ true

  primary-fine : (p : Primary) → PrimaryFits p → AllNames (primary_signals p) → Fine 0 (prim_of (lowered_primary ss p))
  primary-fine (P.Signal n) fits named = subst (Fine 0) (sym (name-level Fit Fit Fit expr_fit prim_fit sel_fit (name n))) (record { fits = both _ _ (both _ _ (named n (inl refl)) refl) refl; depth = omega arith })
  primary-fine (P.Literal bits) fits named =
      subst (Fine 0) (sym (number-level Fit Fit Fit expr_fit prim_fit sel_fit bits))
      (record { fits = both _ _ (le_true 1 (length bits) fits.0) (le_true (length bits) 128 fits.1); depth = omega arith })

  unary-fine : (limit : ℕ) (p : VPrim) → Fine limit (prim_of p) → Fine (suc limit) (fit (E.Unary Not p))
  unary-fine limit p f = subst (Fine (suc limit)) (sym (unary-level Fit Fit Fit expr_fit prim_fit sel_fit Not p)) (record { fits = f.fits; depth = omega (arith, f.depth) })

  operand-fine : (a : Operand) → PrimaryFits a.primary → AllNames (primary_signals a.primary) → Fine 1 (prim_of (lowered_operand ss a))
  operand-fine a fits named = by_case a.inverted (primary-fine a.primary fits named)
    where
      by_case : (b : Bool) → Fine 0 (prim_of (lowered_primary ss a.primary)) → Fine 1 (prim_of (parenthesized b (lowered_primary ss a.primary)))
      by_case true f = subst (Fine 1) (sym (paren-level Fit Fit Fit expr_fit prim_fit sel_fit (E.Unary Not (lowered_primary ss a.primary)))) (unary-fine 0 (lowered_primary ss a.primary) f)
      by_case false f = record { fits = f.fits; depth = omega (arith, f.depth) }

  pub expr-fine : (x : Expr) → ExprFits x → AllNames (expr_signals x) → Fine 2 (fit (lowered_expr ss x))
  expr-fine (Single a) fits named = by_case a.inverted (primary-fine a.primary fits named)
    where
      by_case : (b : Bool) → Fine 0 (prim_of (lowered_primary ss a.primary)) → Fine 2 (fit (alone b (lowered_primary ss a.primary)))
      by_case true f = let g = unary-fine 0 (lowered_primary ss a.primary) f in record { fits = g.fits; depth = omega (arith, g.depth) }
      by_case false f = subst (Fine 2) (sym (prim-level Fit Fit Fit expr_fit prim_fit sel_fit (lowered_primary ss a.primary))) (record { fits = f.fits; depth = omega (arith, f.depth) })
  expr-fine (Binary op a b) fits named =
      let f = operand-fine a fits.1 (λ n m. named n (member-front (primary_signals a.primary) _ n m)) in
      let g = operand-fine b fits.2 (λ n m. named n (member-back (primary_signals a.primary) _ n m)) in
      subst (Fine 2) (sym (binary-level Fit Fit Fit expr_fit prim_fit sel_fit (operator_of op) (lowered_operand ss a) (lowered_operand ss b))) (record {
        fits = both _ _ f.fits g.fits;
        depth = omega (arith, f.depth, g.depth);
      })

  -- what a statement needs: names that are named, expressions that fit
  pub record Ready (d : Doing) (xs : List Expr) : Type 0 where
    pub exprs : (x : Expr) → Member xs x → ExprFits x
    pub reads : AllNames d.reads
    pub targets : AllNames d.targets
    pub later_targets : AllNames d.later_targets

  abbrev twice : ℕ → ℕ
  twice depth = 2 * depth + 2

  abbrev lowers : Stmt → VStmt
  lowers = lowered_stmt ss

  abbrev IsFine : Stmt → Type 0
  IsFine s = Ready (doing s) (inside s).exprs → FineForm (twice (inside s).depth) (stmt_of (lowers s))

  pub target-fine : (n : ℕ) → is_name (name n) ≡ true → Fine 0 (fit_of_lval (whole_target (name n)))
  target-fine n e = subst (Fine 0) (sym (target-level Fit lval_fit (name n))) (record { fits = both _ _ (both _ _ e refl) refl; depth = omega arith })

  assign-fine : (to : ℕ) (value : Expr) (later : Bool) → Ready (assignment to value later) (value ∷ [])
      → FineForm (twice 1) (stmt_form (VStmt-F.Assign (whole_target (name to)) (lowered_expr ss value) later))
  assign-fine to value later r =
      let f = expr-fine value (r.exprs value (inl refl)) (reads later r) in
      let g = target-fine to (target later r) in
      record { fits = both _ _ g.fits f.fits; depth = omega (arith, f.depth, g.depth) }
    where
      target : (later : Bool) → Ready (assignment to value later) (value ∷ []) → is_name (name to) ≡ true
      target true r = r.later_targets to (inl refl)
      target false r = r.targets to (inl refl)

      reads : (later : Bool) → Ready (assignment to value later) (value ∷ []) → AllNames (expr_signals value)
      reads true r = r.reads
      reads false r = r.reads

  pub record AllFine (limit : ℕ) (fs : List Form) : Type 0 where
    pub fits : all_of_form fs ≡ true
    pub depth : deepest_form fs ≤ limit

  each-fine : (xs : List Stmt) → ((s : Stmt) → Member xs s → IsFine s) → Ready (sequence (map doing xs)) (all_exprs (map inside xs))
      → AllFine (twice (Source.deepest (map inside xs))) (map stmt_of (map lowers xs))
  each-fine [] h r = record { fits = refl; depth = omega arith }
  each-fine (x ∷ xs) h r =
      let f = h x (inl refl) (record {
        exprs = λ y m. r.exprs y (member-front (inside x).exprs _ y m);
        reads = λ n m. r.reads n (member-front (doing x).reads _ n m);
        targets = λ n m. r.targets n (member-front (doing x).targets _ n m);
        later_targets = λ n m. r.later_targets n (member-front (doing x).later_targets _ n m);
      }) in
      let g = each-fine xs (λ s m. h s (inr m)) (record {
        exprs = λ y m. r.exprs y (member-back (inside x).exprs _ y m);
        reads = λ n m. r.reads n (member-back (doing x).reads _ n m);
        targets = λ n m. r.targets n (member-back (doing x).targets _ n m);
        later_targets = λ n m. r.later_targets n (member-back (doing x).later_targets _ n m);
      }) in
      record { fits = both _ _ f.fits g.fits; depth = omega (arith, f.depth, g.depth) }

  -- the lines of a statement nest no deeper than it does
  lines-fine : (limit : ℕ) (s : VStmt) → FineForm limit (stmt_of s) → AllFine limit (map stmt_of (lines s))
  lines-fine limit s f =
      elim (lines-are s) [
        | inl e ↦ (let g = subst (FineForm limit) (ap stmt_of e ∙ block-target Form Form Form branch_form item_form stmt_form (lines s)) f in record { fits = g.fits; depth = omega (arith, g.depth) })
        | inr e ↦ subst (λ xs. AllFine limit (map stmt_of xs)) (sym e) (record { fits = both _ _ f.fits refl; depth = omega (arith, f.depth) })
      ]

  pub record FineBlock (limit : ℕ) (f : Form) : Type 0 where
    pub fits : f.fits ≡ true
    pub depth : f.depth ≤ limit
    pub closed : f.closed ≡ true

  block-fine : (limit : ℕ) (xs : List VStmt) → AllFine limit (map stmt_of xs) → FineBlock (suc limit) (form_of_branch (Statement (T.Block None xs)))
  block-fine limit xs f =
      subst (FineBlock (suc limit)) (sym (statement-target Form Form Form branch_form item_form stmt_form (T.Block None xs) ∙ block-target Form Form Form branch_form item_form stmt_form xs))
      (record { fits = f.fits; depth = omega (arith, f.depth); closed = refl })

  branch-fine : (limit : ℕ) (s : VStmt) → FineForm limit (stmt_of s) → FineBlock (suc limit) (form_of_branch (branch s))
  branch-fine limit s f = block-fine limit (lines s) (lines-fine limit s f)

  alone-fine : (on : Expr) (body : Stmt) → IsFine body → Ready (choice on (doing body) idle) (on ∷ ((inside body).exprs ++ []))
      → FineForm (twice (suc (max (inside body).depth 0))) (if_form (fit (lowered_expr ss on)) (form_of_branch (branch (lowers body))) None)
  alone-fine on body h r =
      let e = expr-fine on (r.exprs on (inl refl)) (λ n m. r.reads n (member-front (expr_signals on) _ n m)) in
      let f = branch-fine (twice (inside body).depth) (lowers body) (h (record {
        exprs = λ y m. r.exprs y (inr (member-front (inside body).exprs _ y m));
        reads = λ n m. r.reads n (member-back (expr_signals on) _ n (member-front (doing body).reads _ n m));
        targets = λ n m. r.targets n (member-front (doing body).targets _ n m);
        later_targets = λ n m. r.later_targets n (member-front (doing body).later_targets _ n m);
      })) in
      record { fits = both _ _ e.fits f.fits; depth = omega (arith, e.depth, f.depth) }

  either-fine : (on : Expr) (body other : Stmt) → IsFine body → IsFine other → Ready (choice on (doing body) (doing other)) (on ∷ ((inside body).exprs ++ (inside other).exprs))
      → FineForm (twice (suc (max (inside body).depth (inside other).depth)))
      (if_form (fit (lowered_expr ss on)) (form_of_branch (branch (lowers body))) (Some (form_of_branch (branch (lowers other)))))
  either-fine on body other h k r =
      let e = expr-fine on (r.exprs on (inl refl)) (λ n m. r.reads n (member-front (expr_signals on) _ n m)) in
      let f = branch-fine (twice (inside body).depth) (lowers body) (h (record {
        exprs = λ y m. r.exprs y (inr (member-front (inside body).exprs _ y m));
        reads = λ n m. r.reads n (member-back (expr_signals on) _ n (member-front (doing body).reads _ n m));
        targets = λ n m. r.targets n (member-front (doing body).targets _ n m);
        later_targets = λ n m. r.later_targets n (member-front (doing body).later_targets _ n m);
      })) in
      let g = branch-fine (twice (inside other).depth) (lowers other) (k (record {
        exprs = λ y m. r.exprs y (inr (member-back (inside body).exprs _ y m));
        reads = λ n m. r.reads n (member-back (expr_signals on) _ n (member-back (doing body).reads _ n m));
        targets = λ n m. r.targets n (member-back (doing body).targets _ n m);
        later_targets = λ n m. r.later_targets n (member-back (doing body).later_targets _ n m);
      })) in
      record { fits = both _ _ (both _ _ (both _ _ e.fits f.fits) f.closed) g.fits; depth = omega (arith, e.depth, f.depth, g.depth) }

  -- by what the sides are at this level
  at_level : (s : Stmt) (d : Doing) (i : Inside) (f : Form) → doing s ≡ d → inside s ≡ i → stmt_of (lowers s) ≡ f
      → (Ready d i.exprs → FineForm (twice i.depth) f) → IsFine s
  at_level s d i f e j g h r =
      subst (FineForm (twice (inside s).depth)) (sym g)
      (subst (λ (x : Inside). FineForm (twice x.depth) f) (sym j) (h (subst (λ (x : Inside). Ready d x.exprs) j (subst (λ x. Ready x (inside s).exprs) e r))))

  steps : Steps IsFine
  steps = record {
    block = λ xs h. at_level (S.Block xs) _ _ _ (block-level Doing stmt_doing xs) (block-level Inside stmt_inside xs)
        (ap stmt_of (block-level VStmt (lowered_level ss) xs) ∙ block-target Form Form Form branch_form item_form stmt_form (map lowers xs))
        (λ r. let f = each-fine xs h r in record { fits = f.fits; depth = omega (arith, f.depth) });
    alone = λ on body h. at_level (S.If on body None) _ _ _ (alone-level Doing stmt_doing on body) (alone-level Inside stmt_inside on body)
        (ap stmt_of (alone-level VStmt (lowered_level ss) on body) ∙ alone-target Form Form Form branch_form item_form stmt_form (lowered_expr ss on) (branch (lowers body)))
        (alone-fine on body h);
    either = λ on body other h k. at_level (S.If on body (Some other)) _ _ _ (either-level Doing stmt_doing on body other) (either-level Inside stmt_inside on body other)
        (ap stmt_of (either-level VStmt (lowered_level ss) on body other) ∙ either-target Form Form Form branch_form item_form stmt_form (lowered_expr ss on) (branch (lowers body)) (branch (lowers other)))
        (either-fine on body other h k);
    assign = λ to value later. at_level (S.Assign to value later) _ _ _ (assign-level Doing stmt_doing to value later) (assign-level Inside stmt_inside to value later)
        (ap stmt_of (assign-level VStmt (lowered_level ss) to value later) ∙ assign-target Form Form Form branch_form item_form stmt_form (whole_target (name to)) (lowered_expr ss value) later)
        (assign-fine to value later);
  }

  stmt-fine : (s : Stmt) → IsFine s
  stmt-fine = by_statement IsFine steps

  -- the body of an `always`
  pub body-fine : (s : Stmt) → Ready (doing s) (inside s).exprs → FineBlock (suc (twice (inside s).depth)) (form_of_branch (branch (lowers s)))
  body-fine s r = branch-fine (twice (inside s).depth) (lowers s) (stmt-fine s r)

  trigger-on-fine : Fine 1 (fit trigger_on)
  trigger-on-fine =
      subst (Fine 1) (sym (prim-level Fit Fit Fit expr_fit prim_fit sel_fit (whole_name trigger) ∙ ap (λ f. expr_fit (VExpr-F.Prim f)) (name-level Fit Fit Fit expr_fit prim_fit sel_fit trigger)))
      (record { fits = both _ _ (both _ _ trigger-name refl) refl; depth = omega arith })

  trigger-fine : FineForm 2 (stmt_of reads_trigger)
  trigger-fine =
      subst (FineForm 2) (sym (alone-target Form Form Form branch_form item_form stmt_form trigger_on Empty ∙ ap (λ f. if_form (fit trigger_on) f None) (empty-target Form Form Form branch_form item_form stmt_form)))
      (let f = trigger-on-fine in record { fits = both _ _ f.fits refl; depth = omega (arith, f.depth) })

  pub triggered-fine : (s : Stmt) → Ready (doing s) (inside s).exprs → FineBlock (suc (twice (inside s).depth)) (form_of_branch (triggered (lowers s)))
  triggered-fine s r =
      let f = trigger-fine in
      let g = lines-fine (twice (inside s).depth) (lowers s) (stmt-fine s r) in
      block-fine (twice (inside s).depth) (reads_trigger ∷ lines (lowers s)) (record { fits = both _ _ f.fits g.fits; depth = omega (arith, f.depth, g.depth) })
