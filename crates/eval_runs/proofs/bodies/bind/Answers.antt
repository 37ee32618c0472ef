use Rattle.std.proofs.Common.{◌≡◌, ◌+◌, drop, arith, sym, ◌∙◌, subst}
use Rattle.row_machine.specs.Valuation.{put}
use Rattle.sv_types.specs.declared.statement.Formal.{Formal}
use Rattle.sv_types.specs.Layouts.{layout}
use Rattle.sv_types.specs.Runs.{set_local}
use Rattle.eval_parts.specs.Surroundings.{now_of}
use Rattle.eval_parts.specs.Targets.{AllNarrow}
use Rattle.eval_exprs.proofs.Turns.{at-front}
use Rattle.eval_runs.proofs.Entering.{bound-next, bound-ends}
use Rattle.eval_runs.proofs.bodies.bind.Goals as goal

pub loop-i-preserved : goal.loop-i-preserved
loop-i-preserved c =
    let fs = c.args.formals.now in
    let vs = c.args.passed.now in
    let i = c.loop-i.i in
    let f = c.index-formals-i.result in
    let v = c.index-passed-i.result in
    let cur = c.loop-i.env in
    let new = c.write_whole.new.env in
    let formals = at-front fs i f (omega arith) c.index-formals-i.is in
    let passed = at-front vs i v (omega arith) c.index-passed-i.is in
    let w = c.in_ok-write_whole.ensures in
    let kept = c.loop-i.invariant in
    record {
      narrow = (subst AllNarrow formals kept.narrow).1;
      now = bound-next (drop i fs) (drop (i + 1) fs) (drop i vs) (drop (i + 1) vs) f v (now_of cur.signals.items cur.locals.items) (now_of new.signals.items new.locals.items) formals passed
          (subst (λ (x : Formal). now_of new.signals.items new.locals.items ≡ put (set_local x.local.number (layout x.local.of).two_state v) (now_of cur.signals.items cur.locals.items)) (sym c.index-formals-i.is) w.now)
          ∙ kept.now;
      holds = w.holds ∙ kept.holds;
      pending = w.pending ∙ kept.pending;
      budget = w.budget ∙ kept.budget;
    }

pub returns : goal.returns
returns c =
    let cur = c.loop-i.env in
    let kept = c.loop-i.invariant in
    record {
      now = sym (bound-ends c.args.formals.now c.args.passed.now c.loop-i.i (now_of cur.signals.items cur.locals.items) (omega arith)) ∙ kept.now;
      holds = kept.holds;
      pending = kept.pending;
      budget = kept.budget;
    }
