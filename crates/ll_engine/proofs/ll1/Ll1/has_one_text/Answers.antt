use Rattle.std.proofs.Common.{subst}
use Rattle.ll_engine.specs.Texts.{OneText}
use Rattle.ll_engine.proofs.One.{one_text}
use Rattle.ll_engine.proofs.ll1.Ll1.has_one_text.Goals as goal

pub returns : goal.returns
returns c = subst (λ t. OneText t) c.self.view_is (one_text c.self.inside.tables.rows c.self.invariant.is_fit)
