use Rattle.std.proofs.Common.{sym, subst}
use Rattle.sv_types.specs.Flows as F
use Rattle.flow_sets.specs.Flows.{IsFlow}
use Rattle.part_flows.proofs.Parts as A
use Rattle.part_flows.proofs.simple.written.Goals as goal
use Rattle.part_flows.proofs.simple.written.Goals.{then-later, else-later+in_ok-then}

pub returns-clause-flow : goal.returns-clause-flow
returns-clause-flow c = elim c.if-later.branch [
  | then-later w ↦
      A.written-later c.and_then.result c.in_ok-first.first c.if-later.then c.args.later c.args.reads c.args.writes w.if-later.true c.in_ok-first.ensures.flow
      (λ ws h. subst (λ t. IsFlow t (F.writing_later ws)) (sym w.then-is) (w.writing_later-then.ensures.flow ws h)) c.and_then.ensures.flow
  | else-later+in_ok-then w ↦
      A.written-now c.and_then.result c.in_ok-first.first c.if-later.then c.args.later c.args.reads c.args.writes w.if-later.false c.in_ok-first.ensures.flow
      (λ ws h. subst (λ t. IsFlow t (F.writing ws)) (sym w.then-is) (w.in_ok-then.ensures.flow ws h)) c.and_then.ensures.flow
]
