use Rattle.std.proofs.Common.{◌≤◌, length, arith}
use Rattle.sv_preproc.specs.Code.{seen}
use Rattle.sv_preproc.proofs.Opening.{opens_at, all_true}
use Rattle.sv_preproc.proofs.state.State.load.Goals as goal

pub returns-in-File-clause-opened : goal.returns-in-File-clause-opened
returns-in-File-clause-opened g c =
    let within : length c.in-File.bytes ≤ c.room_left-limit.result = rw c.in-File.is at c.in_ok-path.ensures.within in
    opens_at c.args.search.top (seen c.args.self.now) (seen c.open_found.new.self) c.in-File.path c.in-File.bytes c.open_found.result (omega (arith, within, c.room_left-limit.ensures)) (all_true c.open_found.result _ c.open_found.ensures.goes) c.open_found.ensures.opened
