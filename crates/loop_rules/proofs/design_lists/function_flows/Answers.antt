use Rattle.std.proofs.Common.{◌≡◌, List, length, get_or, None, false, refl, ap, sym, ◌∙◌, subst, arith}
use Rattle.std.specs.Prelude.{slice_index_or}
use Rattle.std.proofs.lemmas.Option.{slice_get_read, slice_get-get_or}
use Rattle.sv_types.specs.declared.statement.Function.{Function}
use Rattle.proc_rules.specs.Functions.{IsBodyOf}
use Rattle.proc_rules.specs.declared.bodies.Loops.{Loops}
use Rattle.proc_rules.specs.Processes.{IsLoops}
use Rattle.unroll_laws.specs.Bodies.{BodyFits}
use Rattle.loop_rules.specs.Bodies.{IsFoundIn}
use Rattle.loop_rules.proofs.Collecting.{so-far-more, whole}
use Rattle.loop_rules.proofs.Finding.{function-found}
use Rattle.loop_rules.proofs.design_lists.function_flows.Goals as goal

pub found_of-requires-clause-fits : goal.found_of-requires-clause-fits
found_of-requires-clause-fits c =
    let d = c.args.design.now in
    let p = c.index-functions-k.result in
    let k = c.loop-k.k in
    let long = ap (λ (ps : List Function). length ps) c.as_slice-functions.ensures in
    let its : p ≡ get_or d.functions k p = c.index-functions-k.is ∙ ap (λ (ps : List Function). get_or ps k p) c.as_slice-functions.ensures in
    subst (λ (x : Function). BodyFits x.body d.functions) c.index-functions-k.is (c.requires.fits.bodies k p (slice_get_read d.functions (length d.functions) k p refl (omega (arith, long)) its))

pub found_of-requires-clause-loops : goal.found_of-requires-clause-loops
found_of-requires-clause-loops c =
    let d = c.args.design.now in
    let p = c.index-functions-k.result in
    let k = c.loop-k.k in
    let nothing : Loops = record { endless = None; too_long = false } in
    let long = ap (λ (ps : List Function). length ps) c.as_slice-functions.ensures in
    let its : p ≡ get_or d.functions k p = c.index-functions-k.is ∙ ap (λ (ps : List Function). get_or ps k p) c.as_slice-functions.ensures in
    subst (λ (x : Function). IsLoops d x.body (slice_index_or c.args.loops.now k nothing)) c.index-functions-k.is
    (c.requires.loops.each k p (slice_index_or c.args.loops.now k nothing) (slice_get_read d.functions (length d.functions) k p refl (omega (arith, long)) its)
    (slice_get-get_or c.args.loops.now k nothing (omega (arith, long, c.requires.loops.count))))

pub loop-k-preserved : goal.loop-k-preserved
loop-k-preserved c =
    let d = c.args.design.now in
    let p = c.index-functions-k.result in
    let k = c.loop-k.k in
    let long = ap (λ (ps : List Function). length ps) c.as_slice-functions.ensures in
    let its : p ≡ get_or d.functions k p = c.index-functions-k.is ∙ ap (λ (ps : List Function). get_or ps k p) c.as_slice-functions.ensures in
    so-far-more (IsBodyOf d) d.functions k c.loop-k.all _ p c.in_ok-one.one (omega (arith, long)) its (function-found d p c.in_ok-one.one (subst (λ (x : Function). IsFoundIn d x.body c.in_ok-one.one) (sym c.index-functions-k.is) c.in_ok-one.ensures)) c.loop-k.invariant c.in_ok-push.ensures.ok

pub returns : goal.returns
returns c =
    let d = c.args.design.now in
    let long = ap (λ (ps : List Function). length ps) c.as_slice-functions.ensures in
    let all = whole (IsBodyOf d) d.functions c.loop-k.k c.loop-k.all (omega (arith, long)) (omega (arith, long)) c.loop-k.invariant in
    record { count = all.0; each = all.1 }
