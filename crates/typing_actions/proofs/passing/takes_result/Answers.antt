use Rattle.typing_actions.proofs.Calling.{enum-breaks, target-takes, unfit-breaks}
use Rattle.typing_actions.proofs.passing.takes_result.Goals as goal

pub returns-then-is_unfit : goal.returns-then-is_unfit
returns-then-is_unfit c = λ k. unfit-breaks k c.args.back c.args.t.now c.args.v c.is_unfit.result c.is_unfit.ensures c.if-is_unfit.true

pub returns-then-is_unfit_enum : goal.returns-then-is_unfit_enum
returns-then-is_unfit_enum c = λ k. enum-breaks k c.args.back c.args.t.now c.args.v c.is_unfit.result c.is_unfit_enum.result c.is_unfit.ensures c.if-is_unfit.false c.is_unfit_enum.ensures c.if-is_unfit_enum.true

pub returns : goal.returns
returns c = λ k. target-takes k c.args.back c.args.t.now c.args.v c.is_unfit.result c.is_unfit_enum.result c.is_unfit.ensures c.if-is_unfit.false c.is_unfit_enum.ensures c.if-is_unfit_enum.false
