-- Statements of core designs as statements of the elaborated language, one level at a time.
use Rattle.std.proofs.Common.{◌≡◌, ℕ, Bool, List, [], map, Option, Some, None, rules}
use Rattle.std.specs.Option.{option_map}
use Rattle.sv_types.specs.declared.statement.Stmt.TheVariants as Y
use Rattle.sv_core.specs.declared.design.Signal.{Signal}
use Rattle.sv_core.specs.declared.design.Expr.{Expr}
use Rattle.sv_core.specs.declared.design.Stmt.{Stmt, the_lemmas}
use Rattle.sv_core.specs.declared.design.Stmt.TheVariants as V
use Rattle.core_forms.specs.Typed.{assigned, typed_expr, typed_stmt}

pub typed-Block : (signals : List Signal) (ss : List Stmt) → typed_stmt signals (V.Block ss) ≡ Y.Block [] (map (typed_stmt signals) ss)
typed-Block signals ss = search (rules, the_lemmas)

pub typed-If : (signals : List Signal) (on : Expr) (body : Stmt) (other : Option Stmt)
    → typed_stmt signals (V.If on body other) ≡ Y.If (typed_expr signals on) (typed_stmt signals body) (option_map (typed_stmt signals) other)
typed-If signals on body None = search (rules, the_lemmas)
typed-If signals on body (Some s) = search (rules, the_lemmas)

pub typed-Assign : (signals : List Signal) (to : ℕ) (value : Expr) (later : Bool) → typed_stmt signals (V.Assign to value later) ≡ assigned signals to value later
typed-Assign signals to value later = search (rules, the_lemmas)

pub ruleset levels = (typed-Block, typed-If, typed-Assign)
