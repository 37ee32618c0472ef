use Rattle.std.proofs.Common.{◌≡◌, suc, codes, ap, ◌∙◌}
use Rattle.v_writer.specs.Layout.{line, word, stmt_layout, function_head}
use Rattle.v_writer.specs.Margins.{levels}
use Rattle.v_writer.specs.Sheets.{step, set}
use Rattle.v_writer.proofs.Sheets.{body-written}
use Rattle.v_writer.proofs.items.write_function.Goals as goal

pub returns : goal.returns
returns c =
    let f = c.args.function.now in
    let outer : levels c.inner-outer.result ≡ 1 = c.inner-outer.ensures ∙ ap suc c.edge-edge.ensures in
    body-written c.args.page.now _ _ _ _ _ (function_head f) (stmt_layout f.body 2) 2 1 (word (codes "endfunction"))
    c.write_function_head.ensures
    (c.line.ensures ∙ ap (λ n. step c.write_function_head.new.page (line n)) (c.inner-2.ensures ∙ ap suc outer))
    (c.write_stmt.ensures ∙ ap (λ n. set c.line.new.self (stmt_layout f.body n)) (c.inner-3.ensures ∙ ap suc outer))
    (c.line-2.ensures ∙ ap (λ n. step c.write_stmt.new.page (line n)) outer)
    c.word.ensures
