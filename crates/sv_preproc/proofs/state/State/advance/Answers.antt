use Rattle.std.proofs.Common.{arith}
use Rattle.sv_preproc.specs.Code.{whole}
use Rattle.sv_preproc.specs.Machine.{move}
use Rattle.sv_preproc.proofs.Reaching.{goes_reach, done_reach, go_of, look_of, done_of, fail_of, goes_settles, looks_waits, opens_found, found_reach, stopped_reach}
use Rattle.sv_preproc.proofs.state.State.advance.Goals as goal

pub load-requires : goal.load-requires
load-requires g c =
    let e = look_of (move c.args.set.now (whole c.args.self.now)) c.step.new.self c.step.result c.in-Ok-Look.field-0 c.in-Ok-Look.search c.into_inner.result c.in-Ok-Look.is c.in-Ok-Look.field-0-is c.into_inner.ensures c.step.ensures in
    let w = looks_waits c.args.set.now (whole c.args.self.now) (whole c.step.new.self) c.into_inner.result c.requires.ready e in
    (w.spent, omega (arith, w.uses), w.loaded, omega (arith, w.names))

pub returns-in-Ok-Go-clause-falls : goal.returns-in-Ok-Go-clause-falls
returns-in-Ok-Go-clause-falls g c =
    let e = go_of (move c.args.set.now (whole c.args.self.now)) c.step.new.self c.step.result c.in-Ok-Go.field-0 c.in-Ok-Go.is c.in-Ok-Go.field-0-is c.step.ensures in
    goes_settles c.args.set.now (whole c.args.self.now) (whole c.step.new.self) c.requires.ready e

pub returns-in-Ok-Look-clause-falls : goal.returns-in-Ok-Look-clause-falls
returns-in-Ok-Look-clause-falls g c =
    let e = look_of (move c.args.set.now (whole c.args.self.now)) c.step.new.self c.step.result c.in-Ok-Look.field-0 c.in-Ok-Look.search c.into_inner.result c.in-Ok-Look.is c.in-Ok-Look.field-0-is c.into_inner.ensures c.step.ensures in
    let w = looks_waits c.args.set.now (whole c.args.self.now) (whole c.step.new.self) c.into_inner.result c.requires.ready e in
    opens_found c.args.set.now (whole c.args.self.now) c.step.new.self c.load.new.self c.into_inner.result.top c.load.result w c.load.ensures.opened c.load.ensures.calls

pub returns-in-Ok-Go-clause-reaches : goal.returns-in-Ok-Go-clause-reaches
returns-in-Ok-Go-clause-reaches g c =
    let e = go_of (move c.args.set.now (whole c.args.self.now)) c.step.new.self c.step.result c.in-Ok-Go.field-0 c.in-Ok-Go.is c.in-Ok-Go.field-0-is c.step.ensures in
    goes_reach c.args.set.now (g.F.Files.contents c.args.files.now) (whole c.args.self.now) (whole c.step.new.self) e

pub returns-in-Ok-Look-clause-reaches : goal.returns-in-Ok-Look-clause-reaches
returns-in-Ok-Look-clause-reaches g c =
    let e = look_of (move c.args.set.now (whole c.args.self.now)) c.step.new.self c.step.result c.in-Ok-Look.field-0 c.in-Ok-Look.search c.into_inner.result c.in-Ok-Look.is c.in-Ok-Look.field-0-is c.into_inner.ensures c.step.ensures in
    found_reach c.args.set.now (g.F.Files.contents c.args.files.now) (whole c.args.self.now) c.step.new.self c.load.new.self c.into_inner.result c.load.result e c.load.ensures.opened c.load.ensures.reaches c.load.ensures.calls

pub returns-in-Ok-Done-clause-reaches : goal.returns-in-Ok-Done-clause-reaches
returns-in-Ok-Done-clause-reaches g c =
    let e = done_of (move c.args.set.now (whole c.args.self.now)) c.step.new.self c.step.result c.in-Ok-Done.field-0 c.in-Ok-Done.is c.in-Ok-Done.field-0-is c.step.ensures in
    done_reach c.args.set.now (g.F.Files.contents c.args.files.now) (whole c.args.self.now) (whole c.step.new.self) e

pub returns-in-Err-clause-reaches : goal.returns-in-Err-clause-reaches
returns-in-Err-clause-reaches g c =
    let t = fail_of (move c.args.set.now (whole c.args.self.now)) c.step.new.self c.step.result c.in-Err.fail c.in-Err.is c.step.ensures in
    stopped_reach c.args.set.now (g.F.Files.contents c.args.files.now) (whole c.args.self.now) c.step.new.self c.stopped.new.self c.in-Err.fail c.stopped.result t c.stopped.ensures
