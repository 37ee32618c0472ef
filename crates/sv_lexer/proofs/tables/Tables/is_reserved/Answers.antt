use Rattle.std.proofs.Common.{arith}
use Rattle.sv_lexer.proofs.Groups.{is_reserved-empty, is_reserved-group}
use Rattle.sv_lexer.proofs.tables.Tables.is_reserved.Goals as goal

pub returns-in-empty : goal.returns-in-empty
returns-in-empty c = is_reserved-empty _ c.in-empty.len_below

pub returns-in-len1-up : goal.returns-in-len1-up
returns-in-len1-up c =
    is_reserved-group c.args.name.now _ _ _ _ c.args.self.now.all_reserved c.args.self.now.reserved.grouped c.in-len1-up.len_at_least (omega (arith, c.type_inv.name 0)) c.group.ensures c.is_among.ensures
