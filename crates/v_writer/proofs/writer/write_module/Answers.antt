use Rattle.std.proofs.Common.{◌∷◌, [], ◌++◌, map, codes, ap, sym, ◌∙◌, append_assoc}
use Rattle.v_writer.specs.Layout.{line, word, lines, item_layout, header_layout}
use Rattle.v_writer.specs.Sheets.{set}
use Rattle.v_writer.proofs.Layouts.{set-append}
use Rattle.v_writer.proofs.writer.write_module.Goals as goal

pub returns : goal.returns
returns c =
    let m = c.args.m.now in
    let items = lines 1 (map item_layout m.items) in
    let end = line 0 ∷ word (codes "endmodule") ∷ line 0 ∷ [] in
    c.write_end.ensures
    ∙ ap (λ s. set s end) (c.write_items.ensures ∙ ap (λ is. set c.write_header.new.page (lines 1 (map item_layout is))) c.as_slice.ensures ∙ ap (λ s. set s items) c.write_header.ensures)
    ∙ sym (set-append (set c.args.page.now (header_layout m)) items end)
    ∙ sym (set-append c.args.page.now (header_layout m) (items ++ end))
    ∙ ap (λ ps. set c.args.page.now (header_layout m ++ ps)) (sym (append_assoc items (line 0 ∷ word (codes "endmodule") ∷ []) (line 0 ∷ [])))
    ∙ ap (set c.args.page.now) (sym (append_assoc (header_layout m) (items ++ line 0 ∷ word (codes "endmodule") ∷ []) (line 0 ∷ [])))
