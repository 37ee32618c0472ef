use Rattle.std.proofs.Common.{◌≡◌, ◌&&◌, ◌||◌, not, ap, ◌∙◌}
use Rattle.sv2v_top.specs.source.Statements.{item_parts, targets_in, targets}
use Rattle.sv2v_top.specs.source.Rules.{all_among, none_among, sizes_hold, has_procedure}
use Rattle.sv2v_top.proofs.Checks.{uses-held, spots-free}
use Rattle.sv2v_top.proofs.elab_build.rules.item_fits.Goals as goal

pub returns : goal.returns
returns c = λ ns is n m.
    let item = c.args.item.now in
    let known : c.uses_are_in-known.result ≡ all_among ns (item_parts item).names =
    c.uses_are_in-known.ensures ∙ uses-held _ ns n _ ∙ ap (all_among ns) (c.as_slice.ensures ∙ c.requires.uses) in
    let outside : c.procedure_fits-outside.result ≡ (not (has_procedure item) || none_among is (targets item)) =
    c.procedure_fits-outside.ensures ∙ ap (λ b. not (has_procedure item) || b) (spots-free _ is m _ ∙ ap (λ us. none_among is (targets_in us)) (c.as_slice-2.ensures ∙ c.requires.uses)) in
    let sizes : c.sizes_fit-sizes.result ≡ sizes_hold (item_parts item).literals = c.sizes_fit-sizes.ensures ∙ ap sizes_hold (c.as_slice-3.ensures ∙ c.requires.literals) in
    λ i. (known i && outside i) && sizes i
