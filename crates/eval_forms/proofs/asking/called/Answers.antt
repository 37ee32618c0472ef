use Rattle.eval_forms.proofs.Narrowness.{at-places}
use Rattle.eval_forms.proofs.asking.called.Goals as goal

pub all_assigned-requires-clause-narrow : goal.all_assigned-requires-clause-narrow
all_assigned-requires-clause-narrow c = at-places _ c.args.es.now c.requires.narrow
