use Rattle.std.proofs.Common.{◌≡◌, ◌≤◌, ◌+◌, ◌++◌, List, ℕ, map, length, Vec, Global, ap, sym, subst, ◌∙◌, arith}
use Rattle.v_writer.specs.Layout.{in_turn, module_line, text_layout, text_of}
use Rattle.v_writer.specs.Pages.{kept}
use Rattle.v_writer.specs.Sheets.{Sheet, set}
use Rattle.v_writer.proofs.ReadsBack.{written_spells}
use Rattle.v_writer.proofs.Sheets.{text-bytes}
use Rattle.v_writer.proofs.writer.write_text.Goals as goal

-- what was written on a page behind these bytes
on-page : (to bytes : Vec ℕ Global) (text : List ℕ) → bytes ≡ to → to.len + length text ≤ to.cap → length bytes.items + length text ≤ bytes.cap
on-page to bytes text same room =
    let fits : bytes.len + length text ≤ bytes.cap = subst (λ (v : Vec ℕ Global). v.len + length text ≤ v.cap) (sym same) room in
    let exact = bytes.ok in
    omega (arith, fits, exact)

pub returns-in-Some : goal.returns-in-Some
returns-in-Some c = record {
  is_added =
      ap kept (sym c.in-Some.is) ∙ c.into_bytes.ensures
      ∙ ap (λ (s : Sheet). s.bytes)
      (c.write_modules.ensures ∙ ap (λ ms. set c.behind-page.result (in_turn (map module_line ms))) c.as_slice.ensures
      ∙ ap (λ s. set s (text_layout c.args.d.now)) c.behind-page.ensures)
      ∙ text-bytes c.replace-bytes.result.items c.replace-bytes.result.cap (text_layout c.args.d.now)
      (on-page c.args.to.now c.replace-bytes.result (text_of c.args.d.now) c.replace-bytes.ensures.value c.requires.room)
      ∙ ap (λ (b : Vec ℕ Global). b.items ++ text_of c.args.d.now) c.replace-bytes.ensures.value;
  reads = record { spells = written_spells c.args.d.now c.requires.grammar; keeps = c.requires.keeps };
}

pub returns-in_default : goal.returns-in_default
returns-in_default c = record {
  is_added =
      ap (λ (b : Vec ℕ Global). b.items) c.replace-bytes.ensures.after ∙ c.new.ensures.items
      ∙ ap kept (sym c.in_default.is) ∙ c.into_bytes.ensures
      ∙ ap (λ (s : Sheet). s.bytes)
      (c.write_modules.ensures ∙ ap (λ ms. set c.behind-page.result (in_turn (map module_line ms))) c.as_slice.ensures
      ∙ ap (λ s. set s (text_layout c.args.d.now)) c.behind-page.ensures)
      ∙ text-bytes c.replace-bytes.result.items c.replace-bytes.result.cap (text_layout c.args.d.now)
      (on-page c.args.to.now c.replace-bytes.result (text_of c.args.d.now) c.replace-bytes.ensures.value c.requires.room)
      ∙ ap (λ (b : Vec ℕ Global). b.items ++ text_of c.args.d.now) c.replace-bytes.ensures.value;
  reads = record { spells = written_spells c.args.d.now c.requires.grammar; keeps = c.requires.keeps };
}
