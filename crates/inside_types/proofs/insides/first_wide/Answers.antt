use Rattle.inside_types.proofs.Firsts.{inside-first}
use Rattle.inside_types.proofs.insides.first_wide.Goals as goal

pub returns : goal.returns
returns c = cc (inside-first c.args.at c.args.parts.now.value c.args.parts.now.items)
