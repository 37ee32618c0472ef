use Rattle.std.proofs.Common.{map, drop}
use Rattle.sv_types.specs.Functions.{parameter}
use Rattle.sv_types.specs.Expressions.{meaning}
use Rattle.sv_types.specs.Statements.{actual_roots}
use Rattle.eval_parts.specs.Steps.{is_held}
use Rattle.eval_exprs.specs.Held.{formals}
use Rattle.eval_stmts.specs.Environments.{AllHeld}
use Rattle.eval_stmts.specs.Routines.{copies_step}
use Rattle.eval_stmts.specs.Stepping.{Resumes}
use Rattle.eval_stmts.specs.Targets.{ActualsFit}
use Rattle.eval_runs.proofs.outputs.copy_all_out.Given as goal

abbrev pub invariant-loop-i : goal.invariant-loop-i
invariant-loop-i g l =
    let ps = map parameter (drop l.i l.formals) in
    let ms = map meaning (drop l.i l.actuals) in
    record {
      fits : ActualsFit ps (drop l.i l.actuals) (formals l.scope);
      held : AllHeld (actual_roots ps ms) (is_held l.env.signals.items);
      left : Resumes l.scope (copies_step ps ms (drop l.i l.finals)) (copies_step (map parameter l.formals) (map meaning l.actuals) l.finals) l.initial.env l.env;
    }
