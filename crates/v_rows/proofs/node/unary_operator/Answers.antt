use Rattle.std.proofs.Common.{◌≡◌, sym, ap, ◌∙◌, arith}
use Rattle.v_rows.specs.Rows.{meaning_of}
use Rattle.v_rows.proofs.Meanings.{reduce-xnor-row}
use Rattle.v_rows.proofs.node.unary_operator.Goals as goal

pub returns-in_default : goal.returns-in_default
returns-in_default c =
    let is : c.args.row ≡ 86 = omega arith in
    λ parts. sym (ap (λ n. meaning_of n parts) is ∙ reduce-xnor-row parts)
