-- Blocks that are entered.
use Rattle.std.specs.Prelude.{◌≡◌, ◌++◌, List, map}
use Rattle.row_machine.specs.Valuation.{Valuation}
use Rattle.v_tree.specs.declared.items.VLocal.{VLocal}
use Rattle.v_meaning.specs.Runs as R
use Rattle.v_meaning.specs.Statements.{declared}
use Rattle.v_eval.specs.declared.modules.Local.{Local}
use Rattle.v_eval.specs.declared.scopes.Scope.{Scope}
use Rattle.v_eval.specs.Names.{local_named}
use Rattle.v_run.specs.declared.state.State.{State}
use Rattle.v_run.specs.Standing.{Stands}

-- the locals in a block, and a run that has made its own x
pub record Entered (s : Scope) (locals : List VLocal) (before after : State) (all : List Local) : Type 0 where
  pub names : map local_named all ≡ declared s.next locals ++ map local_named s.locals.now
  pub stands : (v : Valuation) (r : R.State) → Stands v r before → Stands v (R.assign_now (R.cleared (declared s.next locals)) r) after
