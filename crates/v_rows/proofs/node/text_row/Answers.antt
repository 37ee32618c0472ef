use Rattle.std.proofs.Common.{◌≡◌, sym, ap, ◌∙◌, arith}
use Rattle.v_rows.specs.Rows.{meaning_of}
use Rattle.v_rows.proofs.Meanings.{next-name-row}
use Rattle.v_rows.proofs.node.text_row.Goals as goal

pub returns-in_default : goal.returns-in_default
returns-in_default c =
    let is : c.args.row ≡ 3 = omega arith in
    c.same.ensures ∙ sym (ap (λ n. meaning_of n c.args.parts) is ∙ next-name-row c.args.parts)
