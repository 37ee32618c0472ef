use Rattle.std.proofs.Common.{◌≡◌, ◌&&◌, ◌+◌, true, drop, sym, ap, ◌∙◌}
use Rattle.built_forms.specs.declared.forms.Direction.TheVariants.{Input}
use Rattle.sv2v_top.specs.source.Names.{ports_from, range_after}
use Rattle.sv2v_top.specs.source.Rules.{is_plain_range, ranges_are_plain}
use Rattle.sv2v_top.proofs.Checks.{plain-step}
use Rattle.sv2v_top.proofs.elab_build.signals.port_ranges_are_plain.Goals as goal

pub loop-port-preserved : goal.loop-port-preserved
loop-port-preserved c =
    let ports = c.args.ports.now in
    let i = c.loop-port.port-index in
    let p = c.port-item.result in
    let behind = range_after c.loop-port.range.now p.head in
    let new : c.range_behind-range.result.now ≡ behind = c.range_behind-range.ensures in
    let plain : is_plain_range behind ≡ true = ap is_plain_range (sym new) ∙ sym c.range_is_plain.ensures ∙ c.if-not-range_is_plain.false in
    ap (λ q. ranges_are_plain (ports_from Input q (drop (i + 1) ports))) new
    ∙ ap (λ b. b && ranges_are_plain (ports_from Input behind (drop (i + 1) ports))) (sym plain)
    ∙ sym (plain-step c.loop-port.range.now ports i p c.loop-port-test.true c.port-item.is)
    ∙ c.loop-port.invariant
