use Rattle.std.proofs.Common.{rules, ◌<◌, length}
use Rattle.process_cases.proofs.Parts.{by-Link}
use Rattle.process_cases.proofs.fits.link_stands.Goals as goal

pub returns-else-port-len : goal.returns-else-port-len
returns-else-port-len c =
    let low : c.in-Link.port < length c.args.design.now.signals = search rules in
    by-Link c.is_broken.result c.args.design.now c.args.process.now c.args.loops c.in-Link.port c.in-Link.is low c.requires.loops c.is_broken.ensures
