use Rattle.std.proofs.Common.{◌≡◌, map, drop}
use Rattle.std.specs.List.{list_any}
use Rattle.sv_types.specs.Expressions.{meaning}
use Rattle.sv_types.specs.Runs.{matches}
use Rattle.sv_types.specs.Efforts.{tried}
use Rattle.eval_parts.specs.Surroundings.{running}
use Rattle.eval_exprs.specs.Held.{formals}
use Rattle.eval_stmts.specs.Environments.{standing, SameSlots}
use Rattle.eval_stmts.specs.Targets.{AllFitWide, selector_of}
use Rattle.eval_stmts.proofs.choices.is_matched.Given as goal

abbrev pub invariant-loop-e : goal.invariant-loop-e
invariant-loop-e g l =
    let es = drop l.e-index l.values in
    let a = standing l.scope l.initial.env in
    let on = selector_of l.selector in
    record {
      same : SameSlots l.initial.env l.env;
      fits : AllFitWide es (formals l.scope) l.selector.width;
      found : list_any (matches on a) (map meaning es) ≡ list_any (matches on a) (map meaning l.values);
      runs : tried on (map meaning es) a (running l.env.budget) ≡ tried on (map meaning l.values) a (running l.initial.env.budget);
    }
