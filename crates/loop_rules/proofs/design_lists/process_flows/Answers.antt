use Rattle.std.proofs.Common.{◌≡◌, List, length, get_or, None, false, refl, ap, sym, ◌∙◌, subst, arith}
use Rattle.std.specs.Prelude.{slice_index_or}
use Rattle.std.proofs.lemmas.Option.{slice_get_read, slice_get-get_or}
use Rattle.sv_types.specs.declared.design.Process.{Process}
use Rattle.flow_breaks.specs.Pieces.{IsFoundOf}
use Rattle.proc_rules.specs.declared.bodies.Loops.{Loops}
use Rattle.proc_rules.specs.Processes.{IsLoops}
use Rattle.unroll_laws.specs.Bodies.{BodyFits}
use Rattle.loop_rules.specs.Bodies.{IsFoundIn}
use Rattle.loop_rules.proofs.Collecting.{so-far-more, whole}
use Rattle.loop_rules.proofs.Finding.{process-found}
use Rattle.loop_rules.proofs.design_lists.process_flows.Goals as goal

pub found_of-requires-clause-fits : goal.found_of-requires-clause-fits
found_of-requires-clause-fits c =
    let d = c.args.design.now in
    let p = c.index-processes-k.result in
    let k = c.loop-k.k in
    let long = ap (λ (ps : List Process). length ps) c.as_slice-processes.ensures in
    let its : p ≡ get_or d.processes k p = c.index-processes-k.is ∙ ap (λ (ps : List Process). get_or ps k p) c.as_slice-processes.ensures in
    subst (λ (x : Process). BodyFits x.body d.functions) c.index-processes-k.is (c.requires.fits.processes k p (slice_get_read d.processes (length d.processes) k p refl (omega (arith, long)) its))

pub found_of-requires-clause-loops : goal.found_of-requires-clause-loops
found_of-requires-clause-loops c =
    let d = c.args.design.now in
    let p = c.index-processes-k.result in
    let k = c.loop-k.k in
    let nothing : Loops = record { endless = None; too_long = false } in
    let long = ap (λ (ps : List Process). length ps) c.as_slice-processes.ensures in
    let its : p ≡ get_or d.processes k p = c.index-processes-k.is ∙ ap (λ (ps : List Process). get_or ps k p) c.as_slice-processes.ensures in
    subst (λ (x : Process). IsLoops d x.body (slice_index_or c.args.loops.now k nothing)) c.index-processes-k.is
    (c.requires.loops.each k p (slice_index_or c.args.loops.now k nothing) (slice_get_read d.processes (length d.processes) k p refl (omega (arith, long)) its)
    (slice_get-get_or c.args.loops.now k nothing (omega (arith, long, c.requires.loops.count))))

pub loop-k-preserved : goal.loop-k-preserved
loop-k-preserved c =
    let d = c.args.design.now in
    let p = c.index-processes-k.result in
    let k = c.loop-k.k in
    let long = ap (λ (ps : List Process). length ps) c.as_slice-processes.ensures in
    let its : p ≡ get_or d.processes k p = c.index-processes-k.is ∙ ap (λ (ps : List Process). get_or ps k p) c.as_slice-processes.ensures in
    so-far-more (IsFoundOf d) d.processes k c.loop-k.all _ p c.in_ok-one.one (omega (arith, long)) its (process-found d p c.in_ok-one.one (subst (λ (x : Process). IsFoundIn d x.body c.in_ok-one.one) (sym c.index-processes-k.is) c.in_ok-one.ensures)) c.loop-k.invariant c.in_ok-push.ensures.ok

pub returns : goal.returns
returns c =
    let d = c.args.design.now in
    let long = ap (λ (ps : List Process). length ps) c.as_slice-processes.ensures in
    let all = whole (IsFoundOf d) d.processes c.loop-k.k c.loop-k.all (omega (arith, long)) (omega (arith, long)) c.loop-k.invariant in
    record { count = all.0; each = all.1 }
