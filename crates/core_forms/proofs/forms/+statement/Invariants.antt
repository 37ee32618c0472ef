use Rattle.std.proofs.Common.{◌≡◌, drop}
use Rattle.core_forms.specs.Forms.{each, stmt_of}
use Rattle.core_forms.proofs.Gathering.{behind}
use Rattle.core_forms.proofs.forms.+statement.Given as goal

abbrev pub invariant-statements-loop-item : goal.invariant-statements-loop-item
invariant-statements-loop-item l = behind l.statements (each stmt_of (drop l.item-index l.list)) ≡ each stmt_of l.list
