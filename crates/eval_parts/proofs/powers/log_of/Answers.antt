use Rattle.std.proofs.Common.{◌-◌, length, drop, sym, subst, arith}
use Rattle.b4_core.specs.Vectors.{num}
use Rattle.eval_parts.specs.Logs.{IsLog}
use Rattle.eval_parts.proofs.Logs.{log-next, room}
use Rattle.eval_parts.proofs.powers.log_of.Goals as goal

pub with_digit-log-requires : goal.with_digit-log-requires
with_digit-log-requires c = room c.loop-i.log _ _ c.loop-i.invariant.log (omega arith)

pub loop-i-preserved : goal.loop-i-preserved
loop-i-preserved c =
    let v = c.args.v.now in
    let l = c.loop-i in
    record {
      within = omega arith;
      log = subst (λ x. IsLog x (num (drop (l.i - 1) v)) (length v - (l.i - 1))) (sym c.with_digit-log.ensures)
          (log-next v l.i _ l.log c.is_one_bit.result (omega arith) l.invariant.within c.is_one_bit.ensures l.invariant.log);
    }
