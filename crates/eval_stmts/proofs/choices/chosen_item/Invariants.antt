use Rattle.std.proofs.Common.{drop}
use Rattle.sv_types.specs.Efforts.{Step}
use Rattle.sv_types.specs.Expressions.{meaning}
use Rattle.eval_exprs.specs.Held.{formals}
use Rattle.eval_stmts.specs.Targets.{ItemsFitWide, selector_of, select_step}
use Rattle.eval_stmts.specs.Stepping.{Resumes}
use Rattle.eval_stmts.proofs.Choosing.{first_step}
use Rattle.eval_stmts.proofs.choices.chosen_item.Given as goal

abbrev pub invariant-loop-k : goal.invariant-loop-k
invariant-loop-k g l =
    let is = drop l.k l.items in
    record {
      fits : ItemsFitWide is (formals l.scope) l.selector.width;
      left : (other : Step) → Resumes l.scope (first_step (selector_of l.selector) is other) (select_step l.fn.kind (meaning l.fn.on) l.fn.items other) l.fn.env l.env;
    }
