use Rattle.std.proofs.Common.{◌≡◌, true, false, Ok, Err, ap, ◌∙◌}
use Rattle.std.proofs.lemmas.Result.{err_from_is_err_and}
use Rattle.sv_preproc.specs.Code.{whole}
use Rattle.sv_preproc.proofs.Reaching.{advance_at, reaches_next, stops_at, done_at, settled_at, level_at}
use Rattle.sv_preproc.proofs.OneRelation.{reaches_leads}
use Rattle.sv_preproc.proofs.expansion.expand.Goals as goal

pub loop-state-preserved : goal.loop-state-preserved
loop-state-preserved g c =
    let is : c.advance.result ≡ Ok true = c.in_ok-advance.was ∙ ap Ok c.if-branch.true in
    let s = settled_at _ (whole c.loop-state.state) (whole c.advance.new.self) c.advance.result is c.advance.ensures.falls in
    record {
      ready = s.0;
      same = c.advance.ensures.same ∙ c.loop-state.invariant.same;
      level = level_at c.advance.result _ _ is c.advance.ensures.cause ∙ c.loop-state.invariant.level;
      reaches = reaches_next c.args.set.now (g.F.Files.contents c.args.files.now) (whole c.loop-state.state) (whole c.advance.new.self) c.loop-state.invariant.reaches
          (advance_at c.args.set.now _ (g.F.Files.contents c.args.files.now) (whole c.loop-state.state) (whole c.advance.new.self) c.advance.result (Ok true) c.loop-state.invariant.same is c.advance.ensures.reaches);
    }

pub returns-in_err-advance-clause-comes : goal.returns-in_err-advance-clause-comes
returns-in_err-advance-clause-comes g c =
    let p = err_from_is_err_and c.from_residual-in_err-advance.result c.from_residual-in_err-advance.ensures.1 in
    let a = advance_at c.args.set.now _ (g.F.Files.contents c.args.files.now) (whole c.loop-state.state) (whole c.advance.new.self) c.advance.result (Err c.in_err-advance.field-0.0) c.loop-state.invariant.same c.in_err-advance.was c.advance.ensures.reaches in
    rw (p.1, p.2) (stops_at c.args.set.now (g.F.Files.contents c.args.files.now) (whole c.loop-state.state) (whole c.advance.new.self) c.in_err-advance.field-0.0 c.loop-state.invariant.reaches a)

pub returns-clause-comes : goal.returns-clause-comes
returns-clause-comes g c =
    let is : c.advance.result ≡ Ok false = c.in_ok-advance.was ∙ ap Ok c.if-branch.false in
    let a = advance_at c.args.set.now _ (g.F.Files.contents c.args.files.now) (whole c.loop-state.state) (whole c.advance.new.self) c.advance.result (Ok false) c.loop-state.invariant.same is c.advance.ensures.reaches in
    done_at c.args.set.now (g.F.Files.contents c.args.files.now) (whole c.loop-state.state) (whole c.advance.new.self) c.in_ok-finished.field-0 c.loop-state.invariant.reaches a c.in_ok-finished.ensures.0 c.in_ok-finished.ensures.1

pub returns-in_err-advance-clause-leads : goal.returns-in_err-advance-clause-leads
returns-in_err-advance-clause-leads g c =
    let p = err_from_is_err_and c.from_residual-in_err-advance.result c.from_residual-in_err-advance.ensures.1 in
    let a = advance_at c.args.set.now _ (g.F.Files.contents c.args.files.now) (whole c.loop-state.state) (whole c.advance.new.self) c.advance.result (Err c.in_err-advance.field-0.0) c.loop-state.invariant.same c.in_err-advance.was c.advance.ensures.reaches in
    rw (p.1, p.2) (reaches_leads c.args.set.now (g.F.Files.contents c.args.files.now) (Err c.in_err-advance.field-0.0)
    (stops_at c.args.set.now (g.F.Files.contents c.args.files.now) (whole c.loop-state.state) (whole c.advance.new.self) c.in_err-advance.field-0.0 c.loop-state.invariant.reaches a))

pub returns-clause-leads : goal.returns-clause-leads
returns-clause-leads g c =
    let is : c.advance.result ≡ Ok false = c.in_ok-advance.was ∙ ap Ok c.if-branch.false in
    let a = advance_at c.args.set.now _ (g.F.Files.contents c.args.files.now) (whole c.loop-state.state) (whole c.advance.new.self) c.advance.result (Ok false) c.loop-state.invariant.same is c.advance.ensures.reaches in
    reaches_leads c.args.set.now (g.F.Files.contents c.args.files.now) (Ok c.in_ok-finished.field-0)
    (done_at c.args.set.now (g.F.Files.contents c.args.files.now) (whole c.loop-state.state) (whole c.advance.new.self) c.in_ok-finished.field-0 c.loop-state.invariant.reaches a c.in_ok-finished.ensures.0 c.in_ok-finished.ensures.1)
