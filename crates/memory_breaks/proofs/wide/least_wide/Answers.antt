use Rattle.std.proofs.Common.{◌≡◌, ◌<◌, ◌≤◌, List, length, get_or, flat_map, take, ap, sym, ◌∙◌, subst, arith}
use Rattle.sv_types.specs.declared.design.Signal.{Signal}
use Rattle.design_breaks.specs.Breaks as B
use Rattle.least_breaks.specs.Least.{IsLeast}
use Rattle.memory_breaks.specs.Wide.{wide_break, known_of}
use Rattle.memory_breaks.proofs.Least.{signal-least, signals-more, signals-all, narrow-at, all_signals}
use Rattle.memory_breaks.proofs.wide.least_wide.Goals as goal

pub known_of-known-requires-clause-whole : goal.known_of-known-requires-clause-whole
known_of-known-requires-clause-whole c =
    let long = ap (λ (ss : List Signal). length ss) c.as_slice-signals.ensures in
    omega (arith, long, c.requires.marked.all_whole)

pub known_of-known-requires-clause-unsettled : goal.known_of-known-requires-clause-unsettled
known_of-known-requires-clause-unsettled c =
    let long = ap (λ (ss : List Signal). length ss) c.as_slice-signals.ensures in
    omega (arith, long, c.requires.marked.all_unsettled)

pub known_of-known-requires-clause-edged : goal.known_of-known-requires-clause-edged
known_of-known-requires-clause-edged c =
    let long = ap (λ (ss : List Signal). length ss) c.as_slice-signals.ensures in
    omega (arith, long, c.requires.marked.all_edged)

pub known_of-known-requires-clause-other : goal.known_of-known-requires-clause-other
known_of-known-requires-clause-other c =
    let long = ap (λ (ss : List Signal). length ss) c.as_slice-signals.ensures in
    omega (arith, long, c.requires.marked.all_other)

pub wide_break-requires : goal.wide_break-requires
wide_break-requires c =
    let s = c.index-signals-n.result in
    let n = c.loop-n.n in
    let long = ap (λ (ss : List Signal). length ss) c.as_slice-signals.ensures in
    let its : s ≡ get_or c.args.design.now.signals n s = c.index-signals-n.is ∙ ap (λ (ss : List Signal). get_or ss n s) c.as_slice-signals.ensures in
    record { narrow = narrow-at c.args.design.now c.args.design.now.signals n s c.requires.limits.narrow its (omega (arith, long)) }

pub loop-n-preserved : goal.loop-n-preserved
loop-n-preserved c =
    let d = c.args.design.now in
    let s = c.index-signals-n.result in
    let n = c.loop-n.n in
    let k = known_of n c.args.whole.now c.args.unsettled.now c.args.written.now in
    let long = ap (λ (ss : List Signal). length ss) c.as_slice-signals.ensures in
    let its : s ≡ get_or d.signals n s = c.index-signals-n.is ∙ ap (λ (ss : List Signal). get_or ss n s) c.as_slice-signals.ensures in
    let low : n < length d.signals = omega (arith, long) in
    let one : IsLeast (B.too_wide d (n, s)) c.in_ok-one.one =
    subst (IsLeast (B.too_wide d (n, s))) (sym (c.in_ok-one.ensures ∙ ap (wide_break d.instances s) c.known_of-known.ensures)) (signal-least d n s k (c.requires.marked.each n low)) in
    signals-more d n s c.lesser-least.result low its (c.lesser-least.ensures (flat_map (B.too_wide d) (take n (all_signals d))) (B.too_wide d (n, s)) c.loop-n.invariant one)

pub returns : goal.returns
returns c =
    let d = c.args.design.now in
    let long = ap (λ (ss : List Signal). length ss) c.as_slice-signals.ensures in
    let past : length d.signals ≤ c.loop-n.n = omega (arith, long) in
    signals-all d c.loop-n.n c.loop-n.least past c.loop-n.invariant
