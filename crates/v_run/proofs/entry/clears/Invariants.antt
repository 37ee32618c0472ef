use Rattle.std.proofs.Common.{◌≡◌, drop, map}
use Rattle.row_machine.specs.Steps.{then_changes}
use Rattle.v_meaning.specs.Runs.{cleared}
use Rattle.v_eval.specs.Names.{local_named}
use Rattle.v_run.specs.Changes.{changes_of, AllNear}
use Rattle.v_run.proofs.entry.clears.Given as goal

abbrev pub invariant-loop-local : goal.invariant-loop-local
invariant-loop-local l = record {
  changes : then_changes (changes_of l.pieces) (cleared (map local_named (drop l.local-index l.locals))) ≡ cleared (map local_named l.fn.locals);
  near : AllNear l.pieces;
}
