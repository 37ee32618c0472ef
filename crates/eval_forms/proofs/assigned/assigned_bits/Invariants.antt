use Rattle.std.proofs.Common.{drop}
use Rattle.eval_parts.specs.Targets.{marks_of}
use Rattle.eval_forms.specs.Assigned.{PlacesFit}
use Rattle.eval_forms.proofs.Placing.{Turn}
use Rattle.eval_forms.proofs.assigned.assigned_bits.Given as goal

abbrev pub invariant-loop-i : goal.invariant-loop-i
invariant-loop-i l = record {
  fit : PlacesFit (drop l.i (marks_of l.places)) (drop l.i l.es) (drop l.i l.values);
  turn : Turn (marks_of l.places) l.es l.values l.i l.all.items;
}
