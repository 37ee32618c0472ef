use Rattle.std.proofs.Common.{arith}
use Rattle.sv_lexer.proofs.Groups.{mark_span-empty, mark_span-group}
use Rattle.sv_lexer.proofs.tables.Tables.mark_span.Goals as goal

pub returns-in-empty-clause-value : goal.returns-in-empty-clause-value
returns-in-empty-clause-value c = mark_span-empty _ c.in-empty.len_below

pub returns-in-len1-up-clause-value : goal.returns-in-len1-up-clause-value
returns-in-len1-up-clause-value c =
    mark_span-group c.args.bytes.now _ _ _ _ c.args.self.now.all_marks c.args.self.now.marks.grouped c.in-len1-up.len_at_least (omega (arith, c.type_inv.bytes 0)) c.group.ensures c.longest_among.ensures.value
