use Rattle.std.proofs.Common.{◌∙◌, ap, map}
use Rattle.v_tree.proofs.Written.{rows-read}
use Rattle.v_tree.proofs.reader.grammar_rows.Goals as goal

pub returns : goal.returns
returns c = rows-read c.deref.result.now c.rows.result c.rows.ensures (ap (map (λ line. line.now)) c.deref.ensures.value ∙ c.in_ok-lines.ensures)
