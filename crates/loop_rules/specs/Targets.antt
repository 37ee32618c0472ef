-- What statements write.
use Rattle.std.specs.Prelude.{◌≡◌, ℕ, Bool, false, ◌==◌, List, flat_map, Option, Some, None}
use Rattle.std.specs.Borrow.{Bor}
use Rattle.std.specs.List.{list_any}
use Rattle.sv_types.specs.declared.expression.Expr.{Expr}
use Rattle.sv_types.specs.declared.statement.Stmt.{Stmt}
use Rattle.sv_types.specs.declared.statement.Way.{Way}
use Rattle.sv_types.specs.declared.statement.Way.TheVariants as W
use Rattle.sv_types.specs.Surroundings.{Parameter}
use Rattle.sv_types.specs.Meanings.{roots_of}
use Rattle.sv_types.specs.Expressions.{meaning}
use Rattle.expr_flows.specs.Targets.{IsJoined}
use Rattle.design_breaks.specs.Actions.{Passed, actions, passed_out}
use Rattle.loop_laws.specs.Walks.{Formals}

-- whether a number is among some
abbrev pub names : ℕ → List ℕ → Bool
names number ns = list_any (λ (m : ℕ). m == number) ns

abbrev pub roots_in : List Expr → List ℕ
roots_in es = flat_map (λ e. (meaning e).roots) es

abbrev pub targets_of : Formals → Stmt → List ℕ
targets_of fs s = (actions s).targets fs

abbrev pub targets_out : List Parameter → List Expr → List ℕ
targets_out ps es = flat_map (λ (p : Passed). p.to) (passed_out ps es)

abbrev pub named_by_way : ℕ → Way → Expr → Bool
named_by_way number W.Input e = false
named_by_way number W.Output e = names number (meaning e).roots
named_by_way number W.Inout e = names number (meaning e).roots

-- the parts of a target, where it has some; else it names what it stands on
abbrev pub ArePartsOf : Option (Bor (List Expr)) → Expr → Type 0
ArePartsOf None e = (meaning e).roots ≡ roots_of (meaning e).root
ArePartsOf (Some es) e = IsJoined es.now e
