use Rattle.std.proofs.Common.{◌≡◌, ◌<◌, List, length, get_or, flat_map, take, ap, ◌∙◌, arith}
use Rattle.sv_types.specs.declared.design.Process.{Process}
use Rattle.proc_rules.specs.Processes.{own_breaks}
use Rattle.proc_rules.proofs.Joining.{processes-more}
use Rattle.proc_rules.proofs.processes.process_breaks.Goals as goal

pub loop-k-preserved : goal.loop-k-preserved
loop-k-preserved c =
    let d = c.args.design.now in
    let p = c.index-processes-k.result in
    let k = c.loop-k.k in
    let long = ap (λ (ps : List Process). length ps) c.as_slice-processes.ensures in
    let its : p ≡ get_or d.processes k p = c.index-processes-k.is ∙ ap (λ (ps : List Process). get_or ps k p) c.as_slice-processes.ensures in
    let low : k < length d.processes = omega (arith, long) in
    processes-more d k p c.lesser-least.result low its (c.lesser-least.ensures (flat_map (own_breaks d) (take k d.processes)) (own_breaks d p) c.loop-k.invariant c.in_ok-one.ensures)
