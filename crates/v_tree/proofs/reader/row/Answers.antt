use Rattle.v_tree.proofs.Lines.{row-is}
use Rattle.v_tree.proofs.reader.row.Goals as goal

pub returns-in_ok-parts-in-len2-up : goal.returns-in_ok-parts-in-len2-up
returns-in_ok-parts-in-len2-up c =
    row-is c.args.words.now _ _ _ _ _ _ _ c.in-len2-up.len_at_least c.as_bytes.ensures.value c.head_number.ensures c.in_ok-parts-in-len2-up.ensures
    c.as_bytes-in-len2-up.ensures.value c.as_slice.ensures c.eq.ensures
