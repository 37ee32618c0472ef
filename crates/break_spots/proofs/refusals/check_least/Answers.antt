use Rattle.std.proofs.Common.{◌∙◌}
use Rattle.break_spots.proofs.InDesigns.{least-stands}
use Rattle.break_spots.proofs.refusals.check_least.Goals as goal

pub refusal_of-requires : goal.refusal_of-requires
refusal_of-requires c = least-stands c.args.design.now c.requires.few c.in-Some.first (c.requires.least ∙ c.in-Some.is)
