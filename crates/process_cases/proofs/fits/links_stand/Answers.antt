use Rattle.std.proofs.Common.{◌≡◌, List, length, get_or, None, false, refl, ap, ◌∙◌, arith}
use Rattle.std.specs.Prelude.{slice_index_or}
use Rattle.std.proofs.lemmas.Option.{slice_get_read, slice_get-get_or}
use Rattle.sv_types.specs.declared.design.Process.{Process}
use Rattle.proc_rules.specs.declared.bodies.Loops.{Loops}
use Rattle.expr_fits.proofs.Walks as W
use Rattle.process_cases.proofs.Parts.{EachStands, links-stand}
use Rattle.process_cases.proofs.fits.links_stand.Goals as goal

pub link_stands-requires : goal.link_stands-requires
link_stands-requires c =
    let d = c.args.design.now in
    let p = c.index-processes-k.result in
    let k = c.loop-k.k in
    let nothing : Loops = record { endless = None; too_long = false } in
    let long = ap (λ (ps : List Process). length ps) c.as_slice-processes.ensures in
    let its : p ≡ get_or d.processes k p = c.index-processes-k.is ∙ ap (λ (ps : List Process). get_or ps k p) c.as_slice-processes.ensures in
    record {
      loops =
          c.requires.loops.each k p (slice_index_or c.args.loops.now k nothing) (slice_get_read d.processes (length d.processes) k p refl (omega (arith, long)) its)
          (slice_get-get_or c.args.loops.now k nothing (omega (arith, long, c.requires.loops.count)));
    }

pub loop-k-preserved : goal.loop-k-preserved
loop-k-preserved c =
    let d = c.args.design.now in
    let p = c.index-processes-k.result in
    let k = c.loop-k.k in
    let long = ap (λ (ps : List Process). length ps) c.as_slice-processes.ensures in
    let its : p ≡ get_or d.processes k p = c.index-processes-k.is ∙ ap (λ (ps : List Process). get_or ps k p) c.as_slice-processes.ensures in
    W.next (EachStands d) d.processes k p (omega (arith, long)) its (λ r. (c.if-not-link_stands.ensures, r)) c.loop-k.invariant

pub returns : goal.returns
returns c =
    let d = c.args.design.now in
    let long = ap (λ (ps : List Process). length ps) c.as_slice-processes.ensures in
    links-stand d (W.done (EachStands d) d.processes c.loop-k.k (omega (arith, long)) tt c.loop-k.invariant)
