use Rattle.std.proofs.Common.{◌≡◌, sym, ap, ◌∙◌, arith}
use Rattle.v_rows.specs.Rows.{meaning_of}
use Rattle.v_rows.proofs.Meanings.{nought-bound-row}
use Rattle.v_rows.proofs.node.item_row.Goals as goal

pub returns-in_default : goal.returns-in_default
returns-in_default c =
    let is : c.args.row ≡ 26 = omega arith in
    c.same-in_default.ensures ∙ sym (ap (λ n. meaning_of n c.args.parts) is ∙ nought-bound-row c.args.parts)
