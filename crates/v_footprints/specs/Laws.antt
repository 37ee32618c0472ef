-- Footprints of all that a target design has.
use Rattle.std.specs.Prelude.{ℕ, List}
use Rattle.v_tree.specs.declared.expressions.VExpr.{VExpr}
use Rattle.v_tree.specs.declared.items.VItem.{VItem}
use Rattle.v_tree.specs.declared.statements.VBranch.{VBranch}
use Rattle.v_tree.specs.declared.statements.VLval.{VLval}
use Rattle.v_meaning.specs.Scopes.{Scope}
use Rattle.v_meaning.specs.Values.{meaning}
use Rattle.v_meaning.specs.Statements.{target, doing_of}
use Rattle.v_meaning.specs.Modules.{scope_of}
use Rattle.v_footprints.specs.Footprints.{ValueHangs, TargetHangs, FunctionsHang, RunHangs, Sized, TargetWrites, RunWrites}

-- the functions of a module hang on the signals that they read
abbrev pub ModulesHang : Type 0
ModulesHang = (first : ℕ) (items : List VItem) → FunctionsHang (scope_of first items)

abbrev pub ExpressionsHang : Type 0
ExpressionsHang = (e : VExpr) (sc : Scope) → FunctionsHang sc → ValueHangs (meaning e) sc

abbrev pub TargetsHang : Type 0
TargetsHang = (t : VLval) (sc : Scope) → FunctionsHang sc → TargetHangs (target t) sc

abbrev pub StatementsHang : Type 0
StatementsHang = (b : VBranch) (sc : Scope) → FunctionsHang sc → RunHangs (doing_of b) sc

abbrev pub TargetsWrite : Type 0
TargetsWrite = (size : ℕ → ℕ) (t : VLval) (sc : Scope) → Sized size sc → TargetWrites size (target t) sc

abbrev pub StatementsWrite : Type 0
StatementsWrite = (size : ℕ → ℕ) (b : VBranch) (sc : Scope) → Sized size sc → RunWrites size (doing_of b) sc
