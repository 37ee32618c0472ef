use Rattle.std.proofs.Common.{◌≡◌, ◌&&◌, None, sym, ap, ◌∙◌}
use Rattle.std.specs.List.{list_all}
use Rattle.built_forms.specs.declared.forms.Direction.TheVariants.{Input}
use Rattle.sv2v_top.specs.source.Names.{ports_from, variables, declared_by, Declared}
use Rattle.sv2v_top.specs.source.Rules.{is_plain_range, ranges_are_plain}
use Rattle.sv2v_top.proofs.Checks.{all-append, plain-items}
use Rattle.sv2v_top.proofs.elab_build.signals.module_ranges_are_plain.Goals as goal

pub returns : goal.returns
returns c =
    let source = c.args.source.now in
    let a : c.port_ranges_are_plain-ports.result ≡ ranges_are_plain (ports_from Input None source.ports) = c.port_ranges_are_plain-ports.ensures ∙ ap (λ ps. ranges_are_plain (ports_from Input None ps)) c.as_slice.ensures in
    let b : c.item_ranges_are_plain-variables.result ≡ ranges_are_plain (variables source.items) =
    c.item_ranges_are_plain-variables.ensures ∙ ap (list_all (λ i. ranges_are_plain (declared_by i))) c.as_slice-2.ensures ∙ plain-items source.items in
    (λ i. a i && b i) ∙ sym (all-append (λ (d : Declared). is_plain_range d.range) (ports_from Input None source.ports) (variables source.items))
