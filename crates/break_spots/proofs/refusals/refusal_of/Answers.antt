use Rattle.break_spots.proofs.InDesigns.{never-none, refused-ok}
use Rattle.break_spots.proofs.refusals.refusal_of.Goals as goal

pub unreachable-requires : goal.unreachable-requires
unreachable-requires c = never-none c.args.design.now c.args.broken.now.instance c.args.broken.now.at c.requires c.in-None.ensures

pub returns : goal.returns
returns c = refused-ok c.args.design.now c.args.broken.now c.in-Some.spot.now c.refusal_at.result c.in-Some.ensures c.refusal_at.ensures
