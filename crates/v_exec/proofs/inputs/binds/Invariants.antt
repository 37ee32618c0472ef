use Rattle.std.proofs.Common.{◌≡◌, drop, map}
use Rattle.row_machine.specs.Steps.{then_changes}
use Rattle.v_meaning.specs.Functions.{bound}
use Rattle.v_eval.specs.Names.{local_named}
use Rattle.v_run.specs.Changes.{changes_of, AllNear}
use Rattle.v_exec.proofs.inputs.binds.Given as goal

abbrev pub invariant-loop-i : goal.invariant-loop-i
invariant-loop-i l = record {
  changes : then_changes (changes_of l.pieces) (bound (map local_named (drop l.i l.inputs)) (drop l.i l.args)) ≡ bound (map local_named l.fn.inputs) l.fn.args;
  near : AllNear l.pieces;
}
