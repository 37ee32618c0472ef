use Rattle.std.proofs.Common.{sym}
use Rattle.eval_stmts.proofs.Collecting as K
use Rattle.eval_stmts.proofs.assigns.is_stream.Goals as goal

pub returns-in-Path : goal.returns-in-Path
returns-in-Path c = sym (K.path-streams c.args.e.now c.in-Path.field-0 c.in-Path.ensures)

pub returns-in-Concat : goal.returns-in-Concat
returns-in-Concat c = sym (K.concat-streams c.args.e.now c.in-Concat.field-0.now c.in-Concat.ensures)

pub returns-in-Stream : goal.returns-in-Stream
returns-in-Stream c = let s = c.in-Stream.field-0 in sym (K.stream-streams c.args.e.now s.reversed s.slice s.parts.now c.in-Stream.ensures)
