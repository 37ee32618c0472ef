use Rattle.typing_parts.proofs.Keeping.{extends-then}
use Rattle.typing_patterns.proofs.items.numbered_item.Goals as goal

pub returns-in-Err-Quiet-clause-keeps : goal.returns-in-Err-Quiet-clause-keeps
returns-in-Err-Quiet-clause-keeps g c = extends-then _ _ _ c.in-Err-Quiet.ensures.keeps c.unstreamed-value.ensures.keeps
