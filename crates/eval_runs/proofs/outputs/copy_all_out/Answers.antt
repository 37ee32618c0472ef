use Rattle.std.proofs.Common.{◌+◌, map, drop, Ok, Err, arith, ap, sym, ◌∙◌, subst}
use Rattle.std.proofs.lemmas.Result.{err_from_is_err_and}
use Rattle.sv_types.specs.declared.statement.Outcome.TheVariants.{Normal}
use Rattle.sv_types.specs.Functions.{parameter}
use Rattle.sv_types.specs.Expressions.{meaning}
use Rattle.sv_types.specs.Statements.{actual_roots}
use Rattle.eval_parts.specs.Steps.{is_held}
use Rattle.eval_exprs.specs.Held.{formals}
use Rattle.eval_exprs.proofs.Turns.{at-front}
use Rattle.eval_stmts.specs.Environments.{AllHeld}
use Rattle.eval_stmts.specs.Routines.{copies_step}
use Rattle.eval_stmts.specs.Stepping.{GoesOn}
use Rattle.eval_stmts.proofs.Chains as C
use Rattle.eval_stmts.proofs.Turning as T
use Rattle.eval_runs.specs.Forms.{hand_step}
use Rattle.eval_runs.proofs.Handing as H
use Rattle.eval_runs.proofs.outputs.copy_all_out.Goals as goal

pub hand_back-requires-clause-fits : goal.hand_back-requires-clause-fits
hand_back-requires-clause-fits g c =
    let fs = c.args.formals.now in
    let es = c.args.actuals.now in
    let i = c.loop-i.i in
    let f = c.index-formals-i.result in
    let e = c.index-actuals-i.result in
    let ps = formals c.args.scope in
    H.first-fits f (drop (i + 1) fs) e (drop (i + 1) es) ps
    (H.fits-from (drop i fs) (drop (i + 1) fs) (drop i es) (drop (i + 1) es) f e ps (at-front fs i f (omega arith) c.index-formals-i.is) (at-front es i e (omega arith) c.index-actuals-i.is) c.loop-i.invariant.fits)

pub hand_back-requires-clause-held : goal.hand_back-requires-clause-held
hand_back-requires-clause-held g c =
    let fs = c.args.formals.now in
    let es = c.args.actuals.now in
    let i = c.loop-i.i in
    let f = c.index-formals-i.result in
    let e = c.index-actuals-i.result in
    let h = is_held c.loop-i.env.signals.items in
    H.first-held f (drop (i + 1) fs) e (drop (i + 1) es) h
    (H.held-from (drop i fs) (drop (i + 1) fs) (drop i es) (drop (i + 1) es) f e h (at-front fs i f (omega arith) c.index-formals-i.is) (at-front es i e (omega arith) c.index-actuals-i.is) c.loop-i.invariant.held)

pub returns-in_err-hand_back : goal.returns-in_err-hand_back
returns-in_err-hand_back g c =
    let p = err_from_is_err_and c.from_residual.result c.from_residual.ensures.1 in
    let sc = c.args.scope in
    let fs = c.args.formals.now in
    let es = c.args.actuals.now in
    let vs = c.args.finals.now in
    let i = c.loop-i.i in
    let f = c.index-formals-i.result in
    let e = c.index-actuals-i.result in
    let v = c.index-finals-i.result in
    let start = c.args.env.now in
    let cur = c.loop-i.env in
    let all = copies_step (map parameter fs) (map meaning es) vs in
    let st = hand_step (parameter f) (meaning e) v in
    let rest = copies_step (map parameter (drop (i + 1) fs)) (map meaning (drop (i + 1) es)) (drop (i + 1) vs) in
    let h = c.in_err-hand_back.field-0.0 in
    let left =
    H.left-from sc all start cur (drop i fs) (drop (i + 1) fs) (drop i es) (drop (i + 1) es) (drop i vs) (drop (i + 1) vs) f e v (at-front fs i f (omega arith) c.index-formals-i.is)
    (at-front es i e (omega arith) c.index-actuals-i.is) (at-front vs i v (omega arith) c.index-finals-i.is) c.loop-i.invariant.left in
    subst (λ r. GoesOn r sc all start c.hand_back.new.env) (sym (p.1 ∙ ap Err p.2)) (C.resumed (Err h) sc (T.led_by st rest) all start cur c.hand_back.new.env left (T.lead-stops sc st rest cur h c.in_err-hand_back.ensures))

pub loop-i-preserved : goal.loop-i-preserved
loop-i-preserved g c =
    let sc = c.args.scope in
    let fs = c.args.formals.now in
    let es = c.args.actuals.now in
    let vs = c.args.finals.now in
    let i = c.loop-i.i in
    let f = c.index-formals-i.result in
    let e = c.index-actuals-i.result in
    let v = c.index-finals-i.result in
    let start = c.args.env.now in
    let cur = c.loop-i.env in
    let new = c.hand_back.new.env in
    let hf = at-front fs i f (omega arith) c.index-formals-i.is in
    let he = at-front es i e (omega arith) c.index-actuals-i.is in
    let ps = formals sc in
    let h = is_held cur.signals.items in
    let d = c.in_ok-hand_back.ensures in
    let all = copies_step (map parameter fs) (map meaning es) vs in
    let st = hand_step (parameter f) (meaning e) v in
    let rest = copies_step (map parameter (drop (i + 1) fs)) (map meaning (drop (i + 1) es)) (drop (i + 1) vs) in
    record {
      fits = (H.fits-from (drop i fs) (drop (i + 1) fs) (drop i es) (drop (i + 1) es) f e ps hf he c.loop-i.invariant.fits).1;
      held = subst (AllHeld (actual_roots (map parameter (drop (i + 1) fs)) (map meaning (drop (i + 1) es)))) (sym d.holds)
          (H.later-held f (drop (i + 1) fs) e (drop (i + 1) es) h (H.held-from (drop i fs) (drop (i + 1) fs) (drop i es) (drop (i + 1) es) f e h hf he c.loop-i.invariant.held));
      left = C.onto sc rest (T.led_by st rest) all start cur new
          (H.left-from sc all start cur (drop i fs) (drop (i + 1) fs) (drop i es) (drop (i + 1) es) (drop i vs) (drop (i + 1) vs) f e v hf he (at-front vs i v (omega arith) c.index-finals-i.is) c.loop-i.invariant.left)
          (T.leads sc st rest cur new d);
    }

pub returns : goal.returns
returns g c =
    let sc = c.args.scope in
    let fs = c.args.formals.now in
    let es = c.args.actuals.now in
    let vs = c.args.finals.now in
    let i = c.loop-i.i in
    let cur = c.loop-i.env in
    C.resumed (Ok Normal) sc (copies_step (map parameter (drop i fs)) (map meaning (drop i es)) (drop i vs)) (copies_step (map parameter fs) (map meaning es) vs) c.args.env.now cur cur c.loop-i.invariant.left
    (H.no-more-back sc fs es vs i cur (omega arith))
