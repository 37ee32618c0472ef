use Rattle.std.proofs.Common.{◌≡◌, ◌++◌, map, drop}
use Rattle.eval_forms.specs.Asked.{asked, alone_asked}
use Rattle.eval_forms.specs.Narrow.{AllNarrowOperands}
use Rattle.eval_forms.proofs.asking.all_alone.Given as goal

abbrev pub invariant-loop-e : goal.invariant-loop-e
invariant-loop-e l = record {
  narrow : AllNarrowOperands (drop l.e-index l.es);
  made : map asked l.all.items ++ map alone_asked (drop l.e-index l.es) ≡ map alone_asked l.es;
}
