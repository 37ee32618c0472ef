use Rattle.std.proofs.Common.{map, ap, ◌∙◌}
use Rattle.v_writer.specs.Layout.{in_turn, module_line, text_layout}
use Rattle.v_writer.specs.Sheets.{Sheet, set}
use Rattle.v_writer.proofs.Sheets.{text-length}
use Rattle.v_writer.proofs.writer.text_len.Goals as goal

pub returns : goal.returns
returns c =
    c.length.ensures
    ∙ ap (λ (s : Sheet). s.length_so_far)
    (c.write_modules.ensures ∙ ap (λ ms. set c.measured-page.result (in_turn (map module_line ms))) c.as_slice.ensures
    ∙ ap (λ s. set s (text_layout c.args.d.now)) c.measured-page.ensures)
    ∙ text-length (text_layout c.args.d.now)
