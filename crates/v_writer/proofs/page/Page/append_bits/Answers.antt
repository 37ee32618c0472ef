use Rattle.std.proofs.Common.{◌++◌, [], ◌∷◌, map, codes, ap, sym, ◌∙◌}
use Rattle.std.proofs.lemmas.List.{map-append}
use Rattle.v_writer.specs.Layout.{bit_digit}
use Rattle.v_writer.specs.Sheets.{appended}
use Rattle.v_writer.proofs.Sheets.{appended-appended}
use Rattle.v_writer.proofs.page.Page.append_bits.Goals as goal

pub loop-bit-preserved : goal.loop-bit-preserved
loop-bit-preserved c =
    c.append-in-loop-bit.ensures ∙ ap (λ d. appended c.loop-bit.self (d ∷ [])) c.digit.ensures ∙ ap (λ s. appended s (bit_digit c.in-Some.bit.now ∷ [])) c.loop-bit.invariant
    ∙ appended-appended c.args.self.now (codes "'b" ++ map (λ b. bit_digit b.now) c.loop-bit.yielded) (bit_digit c.in-Some.bit.now ∷ [])
    ∙ ap (λ w. appended c.args.self.now (codes "'b" ++ w)) (sym (map-append (λ b. bit_digit b.now) c.loop-bit.yielded (c.in-Some.bit ∷ [])))
