use Rattle.std.proofs.Common.{◌≡◌, List, length, get_or, refl, ap, sym, ◌∙◌, subst, arith}
use Rattle.std.proofs.lemmas.Option.{slice_get_read}
use Rattle.sv_types.specs.declared.design.Process.{Process}
use Rattle.proc_rules.specs.Processes.{IsLoops}
use Rattle.unroll_laws.specs.Bodies.{BodyFits}
use Rattle.loop_rules.proofs.Collecting.{so-far-more, whole}
use Rattle.loop_rules.proofs.lists.process_loops.Goals as goal

pub loops_of-requires-clause-fits : goal.loops_of-requires-clause-fits
loops_of-requires-clause-fits c =
    let d = c.args.design.now in
    let p = c.index-processes-k.result in
    let k = c.loop-k.k in
    let long = ap (λ (ps : List Process). length ps) c.as_slice-processes.ensures in
    let its : p ≡ get_or d.processes k p = c.index-processes-k.is ∙ ap (λ (ps : List Process). get_or ps k p) c.as_slice-processes.ensures in
    subst (λ (x : Process). BodyFits x.body d.functions) c.index-processes-k.is (c.requires.fits.processes k p (slice_get_read d.processes (length d.processes) k p refl (omega (arith, long)) its))

pub loop-k-preserved : goal.loop-k-preserved
loop-k-preserved c =
    let d = c.args.design.now in
    let p = c.index-processes-k.result in
    let k = c.loop-k.k in
    let long = ap (λ (ps : List Process). length ps) c.as_slice-processes.ensures in
    let its : p ≡ get_or d.processes k p = c.index-processes-k.is ∙ ap (λ (ps : List Process). get_or ps k p) c.as_slice-processes.ensures in
    so-far-more (λ (q : Process) x. IsLoops d q.body x) d.processes k c.loop-k.all _ p c.in_ok-one.one (omega (arith, long)) its (subst (λ (x : Process). IsLoops d x.body c.in_ok-one.one) (sym c.index-processes-k.is) c.in_ok-one.ensures) c.loop-k.invariant c.in_ok-push.ensures.ok

pub returns : goal.returns
returns c =
    let d = c.args.design.now in
    let long = ap (λ (ps : List Process). length ps) c.as_slice-processes.ensures in
    let all = whole (λ (q : Process) x. IsLoops d q.body x) d.processes c.loop-k.k c.loop-k.all (omega (arith, long)) (omega (arith, long)) c.loop-k.invariant in
    record { count = all.0; each = all.1 }
