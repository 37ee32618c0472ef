use Rattle.std.proofs.Common.{◌≡◌, ◌<◌, ◌≤◌, false, List, length, get_or, flat_map, take, None, refl, ap, ◌∙◌, arith}
use Rattle.std.specs.Prelude.{slice_index_or}
use Rattle.std.proofs.lemmas.Option.{slice_get_read, slice_get-get_or}
use Rattle.sv_types.specs.declared.statement.Function.{Function}
use Rattle.design_breaks.specs.Breaks as B
use Rattle.proc_rules.specs.declared.bodies.Loops.{Loops}
use Rattle.proc_rules.specs.Functions.{function_breaks_at}
use Rattle.proc_rules.proofs.Joining.{fits-at, functions-more, functions-all}
use Rattle.proc_rules.proofs.functions.function_breaks.Goals as goal

pub break_if_called-requires-clause-fits : goal.break_if_called-requires-clause-fits
break_if_called-requires-clause-fits c =
    let f = c.index-functions-k.result in
    let long = ap (λ (fs : List Function). length fs) c.as_slice-functions.ensures in
    let its : f ≡ get_or c.args.design.now.functions c.loop-k.k f = c.index-functions-k.is ∙ ap (λ (fs : List Function). get_or fs c.loop-k.k f) c.as_slice-functions.ensures in
    fits-at c.args.design.now.functions c.loop-k.k f its (omega (arith, long)) c.requires.fit

pub break_if_called-requires-clause-found : goal.break_if_called-requires-clause-found
break_if_called-requires-clause-found c =
    let f = c.index-functions-k.result in
    let g = c.index-found-k.result in
    let k = c.loop-k.k in
    let long = ap (λ (fs : List Function). length fs) c.as_slice-functions.ensures in
    let its : f ≡ get_or c.args.design.now.functions k f = c.index-functions-k.is ∙ ap (λ (fs : List Function). get_or fs k f) c.as_slice-functions.ensures in
    c.requires.found.each k f g (slice_get_read c.args.design.now.functions (length c.args.design.now.functions) k f refl (omega (arith, long)) its)
    (slice_get_read c.args.found.now (length c.args.found.now) k g refl (omega (arith, long, c.requires.found.count)) c.index-found-k.is)

pub break_if_called-requires-clause-loops : goal.break_if_called-requires-clause-loops
break_if_called-requires-clause-loops c =
    let f = c.index-functions-k.result in
    let k = c.loop-k.k in
    let nothing : Loops = record { endless = None; too_long = false } in
    let long = ap (λ (fs : List Function). length fs) c.as_slice-functions.ensures in
    let its : f ≡ get_or c.args.design.now.functions k f = c.index-functions-k.is ∙ ap (λ (fs : List Function). get_or fs k f) c.as_slice-functions.ensures in
    c.requires.loops.each k f (slice_index_or c.args.loops.now k nothing) (slice_get_read c.args.design.now.functions (length c.args.design.now.functions) k f refl (omega (arith, long)) its)
    (slice_get-get_or c.args.loops.now k nothing (omega (arith, long, c.requires.loops.count)))

pub loop-k-preserved : goal.loop-k-preserved
loop-k-preserved c =
    let d = c.args.design.now in
    let f = c.index-functions-k.result in
    let k = c.loop-k.k in
    let called = slice_index_or c.args.called.now k false in
    let long = ap (λ (fs : List Function). length fs) c.as_slice-functions.ensures in
    let its : f ≡ get_or d.functions k f = c.index-functions-k.is ∙ ap (λ (fs : List Function). get_or fs k f) c.as_slice-functions.ensures in
    let low : k < length d.functions = omega (arith, long) in
    functions-more d k f called c.lesser-least.result low its (c.requires.called.each k low)
    (c.lesser-least.ensures (flat_map (B.function_breaks d) (take k (B.numbered d 0 d.functions))) (B.only_if called (function_breaks_at d f)) c.loop-k.invariant c.in_ok-one.ensures)

pub returns : goal.returns
returns c =
    let long = ap (λ (fs : List Function). length fs) c.as_slice-functions.ensures in
    let past : length c.args.design.now.functions ≤ c.loop-k.k = omega (arith, long) in
    functions-all c.args.design.now c.loop-k.k c.loop-k.least past c.loop-k.invariant
