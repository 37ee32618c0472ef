use Rattle.std.proofs.Common.{◌≡◌, sym, ap, ◌∙◌, arith}
use Rattle.v_rows.specs.Rows.{meaning_of}
use Rattle.v_rows.proofs.Meanings.{nonblocking-row}
use Rattle.v_rows.proofs.node.statement_row.Goals as goal

pub returns-in_default : goal.returns-in_default
returns-in_default c =
    let is : c.args.row ≡ 53 = omega arith in
    sym (ap (λ n. meaning_of n c.args.parts) is ∙ nonblocking-row c.args.parts)
