use Rattle.std.proofs.Common.{◌≡◌, List, length, get_or, refl, ap, sym, ◌∙◌, subst, arith}
use Rattle.std.proofs.lemmas.Option.{slice_get_read}
use Rattle.sv_types.specs.declared.statement.Function.{Function}
use Rattle.proc_rules.specs.Processes.{IsLoops}
use Rattle.unroll_laws.specs.Bodies.{BodyFits}
use Rattle.loop_rules.proofs.Collecting.{so-far-more, whole}
use Rattle.loop_rules.proofs.lists.function_loops.Goals as goal

pub loops_of-requires-clause-fits : goal.loops_of-requires-clause-fits
loops_of-requires-clause-fits c =
    let d = c.args.design.now in
    let p = c.index-functions-k.result in
    let k = c.loop-k.k in
    let long = ap (λ (ps : List Function). length ps) c.as_slice-functions.ensures in
    let its : p ≡ get_or d.functions k p = c.index-functions-k.is ∙ ap (λ (ps : List Function). get_or ps k p) c.as_slice-functions.ensures in
    subst (λ (x : Function). BodyFits x.body d.functions) c.index-functions-k.is (c.requires.fits.bodies k p (slice_get_read d.functions (length d.functions) k p refl (omega (arith, long)) its))

pub loop-k-preserved : goal.loop-k-preserved
loop-k-preserved c =
    let d = c.args.design.now in
    let p = c.index-functions-k.result in
    let k = c.loop-k.k in
    let long = ap (λ (ps : List Function). length ps) c.as_slice-functions.ensures in
    let its : p ≡ get_or d.functions k p = c.index-functions-k.is ∙ ap (λ (ps : List Function). get_or ps k p) c.as_slice-functions.ensures in
    so-far-more (λ (q : Function) x. IsLoops d q.body x) d.functions k c.loop-k.all _ p c.in_ok-one.one (omega (arith, long)) its (subst (λ (x : Function). IsLoops d x.body c.in_ok-one.one) (sym c.index-functions-k.is) c.in_ok-one.ensures) c.loop-k.invariant c.in_ok-push.ensures.ok

pub returns : goal.returns
returns c =
    let d = c.args.design.now in
    let long = ap (λ (ps : List Function). length ps) c.as_slice-functions.ensures in
    let all = whole (λ (q : Function) x. IsLoops d q.body x) d.functions c.loop-k.k c.loop-k.all (omega (arith, long)) (omega (arith, long)) c.loop-k.invariant in
    record { count = all.0; each = all.1 }
