-- One level of a statement at a time.
use Rattle.std.proofs.Common.{◌≡◌, ℕ, Bool, List, [], ◌∷◌, map, Option, Some, None, sym, ap, ◌∙◌, append_assoc}
use Rattle.sv_core.specs.declared.design.Stmt.{Stmt as Typed}
use Rattle.sv_core.specs.declared.design.Stmt.TheVariants as D
use Rattle.built_forms.specs.declared.forms.Expr.{Expr}
use Rattle.built_forms.specs.declared.forms.Assign.{Assign}
use Rattle.built_forms.specs.declared.forms.Stmt.{Stmt, Stmt-F, fold-Stmt, fold-roll-Stmt}
use Rattle.built_forms.specs.declared.forms.Stmt.TheVariants.{Block, If, rolls-Block, rolls-If, rolls-Assign}
use Rattle.built_forms.specs.declared.forms.Stmt.TheVariants as T
use Rattle.sv2v_top.specs.source.Statements.{Parts, none, sequence, choice, one_more, assignment, stmt_parts, parts}
use Rattle.sv2v_top.specs.source.Elaboration.{expr_of, assign_of, stmt_step, stmt_of}

module _ (A : Type 0) (step : Stmt-F A → A) where
  abbrev pub folded : Stmt → A
  folded = fold-Stmt A step

  pub block-level : (ss : List Stmt) → folded (Block ss) ≡ step (Stmt-F.Block (map folded ss))
  block-level ss = ap folded (sym (rolls-Block ss)) ∙ fold-roll-Stmt A step (Stmt-F.Block ss)

  pub alone-level : (on : Expr) (body : Stmt) → folded (If on body None) ≡ step (Stmt-F.If on (folded body) None)
  alone-level on body = ap folded (sym (rolls-If on body None)) ∙ fold-roll-Stmt A step (Stmt-F.If on body None)

  pub either-level : (on : Expr) (body other : Stmt) → folded (If on body (Some other)) ≡ step (Stmt-F.If on (folded body) (Some (folded other)))
  either-level on body other = ap folded (sym (rolls-If on body (Some other))) ∙ fold-roll-Stmt A step (Stmt-F.If on body (Some other))

  pub assign-level : (a : Assign) → folded (T.Assign a) ≡ step (Stmt-F.Assign a)
  assign-level a = ap folded (sym (rolls-Assign a)) ∙ fold-roll-Stmt A step (Stmt-F.Assign a)

pub block-parts : (ss : List Stmt) → parts (Block ss) ≡ one_more (sequence (map parts ss))
block-parts = block-level Parts stmt_parts

pub alone-parts : (on : Expr) (body : Stmt) → parts (If on body None) ≡ choice on (parts body) none
alone-parts = alone-level Parts stmt_parts

pub either-parts : (on : Expr) (body other : Stmt) → parts (If on body (Some other)) ≡ choice on (parts body) (parts other)
either-parts = either-level Parts stmt_parts

pub assign-parts : (a : Assign) → parts (T.Assign a) ≡ assignment a
assign-parts = assign-level Parts stmt_parts

pub ruleset levels = (append_assoc, block-parts, alone-parts, either-parts, assign-parts)

module _ (names : List (List ℕ)) (later : Bool) where
  pub block-typed : (ss : List Stmt) → stmt_of names later (Block ss) ≡ D.Block (map (stmt_of names later) ss)
  block-typed = block-level Typed (stmt_step names later)

  pub alone-typed : (on : Expr) (body : Stmt) → stmt_of names later (If on body None) ≡ D.If (expr_of names on) (stmt_of names later body) None
  alone-typed = alone-level Typed (stmt_step names later)

  pub either-typed : (on : Expr) (body other : Stmt) → stmt_of names later (If on body (Some other)) ≡ D.If (expr_of names on) (stmt_of names later body) (Some (stmt_of names later other))
  either-typed = either-level Typed (stmt_step names later)

  pub assign-typed : (a : Assign) → stmt_of names later (T.Assign a) ≡ assign_of names later a
  assign-typed = assign-level Typed (stmt_step names later)

pub ruleset typed = (block-typed, alone-typed, either-typed, assign-typed)
