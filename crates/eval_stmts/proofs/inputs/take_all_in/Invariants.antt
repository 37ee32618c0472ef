use Rattle.std.proofs.Common.{◌≡◌, ◌++◌, map, drop}
use Rattle.sv_types.specs.Functions.{parameter}
use Rattle.sv_types.specs.Expressions.{meaning}
use Rattle.sv_types.specs.Runs.{all_taken_in}
use Rattle.sv_types.specs.Efforts.{all_take_in}
use Rattle.eval_parts.specs.Surroundings.{running}
use Rattle.eval_parts.specs.Targets.{AllNarrow}
use Rattle.eval_exprs.specs.Held.{formals}
use Rattle.eval_stmts.specs.Environments.{standing, SameSlots}
use Rattle.eval_stmts.specs.Targets.{ActualsFit}
use Rattle.eval_stmts.proofs.inputs.take_all_in.Given as goal

abbrev pub invariant-loop-i : goal.invariant-loop-i
invariant-loop-i g l =
    let fs = drop l.i l.formals in
    let ps = map parameter fs in
    let es = drop l.i l.actuals in
    let a = standing l.scope l.initial.env in
    record {
      same : SameSlots l.initial.env l.env;
      narrow : AllNarrow fs;
      fits : ActualsFit ps es (formals l.scope);
      made : l.passed.items ++ all_taken_in ps (map meaning es) a ≡ all_taken_in (map parameter l.formals) (map meaning l.actuals) a;
      runs : all_take_in ps (map meaning es) a (running l.env.budget) ≡ all_take_in (map parameter l.formals) (map meaning l.actuals) a (running l.initial.env.budget);
    }
