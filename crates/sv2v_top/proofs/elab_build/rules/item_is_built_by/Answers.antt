use Rattle.std.proofs.Common.{◌≡◌, ◌&&◌, ◌||◌, not, ap, ◌∙◌}
use Rattle.sv2v_top.specs.source.Statements.{item_parts, targets_in, reads_in, targets, reads}
use Rattle.sv2v_top.specs.source.Rules.{are_plain, none_among, is_comb_item}
use Rattle.sv2v_top.proofs.Checks.{spots-free}
use Rattle.sv2v_top.proofs.elab_build.rules.item_is_built_by.Goals as goal

pub returns : goal.returns
returns c = λ ns is ws n m k.
    let item = c.args.item.now in
    let uses : c.as_slice-uses.result.now ≡ (item_parts item).names = c.as_slice-uses.ensures ∙ c.requires.uses in
    let plain : c.literals_are_plain-plain.result ≡ are_plain (item_parts item).literals = c.literals_are_plain-plain.ensures ∙ ap are_plain (c.as_slice.ensures ∙ c.requires.literals) in
    let apart : c.reads_fit-apart.result ≡ (not (is_comb_item item) || none_among ws (reads item)) =
    c.reads_fit-apart.ensures ∙ ap (λ b. not (is_comb_item item) || b) (spots-free _ ws k _ ∙ ap (λ us. none_among ws (reads_in us)) uses) in
    let outside : c.targets_are_outside-outside.result ≡ none_among is (targets item) = c.targets_are_outside-outside.ensures ∙ spots-free _ is m _ ∙ ap (λ us. none_among is (targets_in us)) uses in
    λ i. (((plain i && apart i) && outside i) && c.clock_fits-clock.ensures ns n i) && c.has_at_most-few.ensures i
