use Rattle.eval_forms.specs.Callees.{formals_in}
use Rattle.memory_lower.proofs.Assembling.{lowers-from, shape-from}
use Rattle.memory_lower.proofs.Preparing.{can-be-lowered}
use Rattle.memory_lower.proofs.targets.lower_in_memory.Goals as goal

pub element_targets-requires-clause-can : goal.element_targets-requires-clause-can
element_targets-requires-clause-can c =
    let x = c.args.element in
    let e = c.args.e.now in
    can-be-lowered x.signal x.of.now x.index.now (formals_in c.args.functions.now) e c.in_ok-inner.inner (c.in_ok-inner.ensures x.signal x.of.now x.index.now c.requires.goes) c.requires.built c.requires.fits
    c.requires.typed

pub returns-clause-lowers : goal.returns-clause-lowers
returns-clause-lowers c =
    let x = c.args.element in
    let e = c.args.e.now in
    lowers-from x.signal x.of.now x.index.now e c.in_ok-inner.inner (c.in_ok-inner.ensures x.signal x.of.now x.index.now c.requires.goes) c.args.within c.args.names.now c.args.functions.now c.element_targets.new.helpers
    c.requires.typed c.requires.fits.typed c.element_targets.result c.element_targets.ensures.made

pub returns-clause-shape : goal.returns-clause-shape
returns-clause-shape c =
    let x = c.args.element in
    let e = c.args.e.now in
    shape-from x.signal x.of.now x.index.now e c.in_ok-inner.inner (c.in_ok-inner.ensures x.signal x.of.now x.index.now c.requires.goes) c.args.within c.args.names.now c.args.functions.now c.element_targets.new.helpers
    c.element_targets.result c.element_targets.ensures.made
