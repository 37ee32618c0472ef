use Rattle.std.proofs.Common.{ℕ, ◌-◌, Option, ap, ◌∙◌, arith}
use Rattle.expr_type.specs.Names.{RoutineText}
use Rattle.source_routines.specs.Texts.{routine_in}
use Rattle.source_routines.proofs.Walking.{routine-put, routine-none}
use Rattle.source_routines.proofs.routine_table.table_of.Goals as goal

pub loop-at-init : goal.loop-at-init
loop-at-init c = record {
  named = λ q. ap (λ (f : ℕ → Option RoutineText). f q) c.new-table.ensures ∙ routine-none c.args.list.now q;
  within = omega arith;
}

pub loop-at-preserved : goal.loop-at-preserved
loop-at-preserved c = record {
  named = routine-put (routine_in c.loop-at.table) (routine_in c.put.new.self) c.args.list.now c.loop-at.at (c.loop-at.at - 1) c.index-list-at.result c.name.result
      (omega arith) (omega arith) c.index-list-at.is c.name.ensures c.in_ok-put.ensures c.loop-at.invariant.named;
  within = omega arith;
}
