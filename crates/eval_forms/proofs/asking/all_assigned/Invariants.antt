use Rattle.std.proofs.Common.{◌≡◌, ◌++◌, map, drop}
use Rattle.eval_parts.specs.Targets.{marks_of}
use Rattle.eval_forms.specs.Asked.{asked, assigned_asked}
use Rattle.eval_forms.specs.Narrow.{AllNarrowAt}
use Rattle.eval_forms.proofs.asking.all_assigned.Given as goal

abbrev pub invariant-loop-i : goal.invariant-loop-i
invariant-loop-i l = record {
  narrow : AllNarrowAt (drop l.i (marks_of l.places)) (drop l.i l.es);
  made : map asked l.all.items ++ assigned_asked (drop l.i (marks_of l.places)) (drop l.i l.es) ≡ assigned_asked (marks_of l.places) l.es;
}
