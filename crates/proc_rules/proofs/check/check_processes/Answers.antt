use Rattle.std.proofs.Common.{flat_map, ◌++◌}
use Rattle.design_breaks.specs.Breaks as B
use Rattle.proc_rules.specs.Check.{wide_breaks}
use Rattle.proc_rules.proofs.check.check_processes.Goals as goal

pub returns : goal.returns
returns c =
    let d = c.args.design.now in
    let ps = flat_map (B.process_breaks d) (B.numbered d 0 d.processes) in
    let fs = flat_map (B.function_breaks d) (B.numbered d 0 d.functions) in
    c.least_is_least.ensures (B.breaks d) c.lesser-2.result (c.lesser-2.ensures ps (fs ++ wide_breaks d) c.in_ok-processes.ensures (c.lesser.ensures fs (wide_breaks d) c.in_ok-functions.ensures c.requires.too_wide))
