use Rattle.std.proofs.Common.{subst}
use Rattle.ll_engine.specs.Texts.{OneAnswer}
use Rattle.ll_engine.proofs.Laws.{one_answer}
use Rattle.ll_engine.proofs.ll1.Ll1.has_one_answer.Goals as goal

pub returns : goal.returns
returns c =
    subst (λ t. OneAnswer t c.args.symbols.now c.args.limit) c.self.view_is
    (one_answer c.self.inside.tables.rows c.self.invariant.is_fit c.args.symbols.now c.args.limit)
