use Rattle.two_state.proofs.Helping.{all-help}
use Rattle.two_state.proofs.Quiet.{all-quiet}
use Rattle.two_state.proofs.by_kind.helper.Goals as goal

pub returns-clause-helps : goal.returns-clause-helps
returns-clause-helps c = all-help c.args.kind c.args.width c.in_ok-name.name c.made.result c.requires.some c.requires.sizes c.in_ok-name.ensures c.made.ensures

pub returns-clause-quiet : goal.returns-clause-quiet
returns-clause-quiet c = all-quiet c.args.kind c.args.width c.in_ok-name.name c.made.result c.requires.some c.requires.sizes c.in_ok-name.ensures c.made.ensures
