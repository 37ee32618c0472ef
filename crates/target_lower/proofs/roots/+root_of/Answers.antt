use Rattle.std.proofs.Common.{arith, refl, subst}
use Rattle.eval_parts.specs.Steps.{IsStep}
use Rattle.eval_parts.proofs.Nodes.{nodes-Member, nodes-Index, nodes-Part, nodes-Slide}
use Rattle.typed_paths.proofs.Narrowing.{own-narrow, member-narrow, index-narrow, part-narrow, slide-narrow}
use Rattle.target_lower.proofs.Stepping.{root-plain, root-Signal, root-Local, root-Member, root-Index, root-Part, root-Slide}
use Rattle.target_lower.proofs.roots.+root_of.Goals as goal

pub root_of-requires : goal.root_of-requires
root_of-requires t c =
    let h = rw c.in-Some-Member.field-0-is at c.in-Some-Member.ensures.step in
    let less = nodes-Member c.args.e.now _ _ h in
    (omega (arith, c.decreases, less), member-narrow c.args.e.now _ _ 4194304 h c.requires.narrow)

pub root_of-requires-in-Some-Index : goal.root_of-requires-in-Some-Index
root_of-requires-in-Some-Index t c =
    let h = rw c.in-Some-Index.field-0-is at c.in-Some-Index.ensures.step in
    let less = nodes-Index c.args.e.now _ _ h in
    (omega (arith, c.decreases, less), index-narrow c.args.e.now _ _ 4194304 h c.requires.narrow)

pub root_of-requires-in-Some-Part : goal.root_of-requires-in-Some-Part
root_of-requires-in-Some-Part t c =
    let h = rw c.in-Some-Part.field-0-is at c.in-Some-Part.ensures.step in
    let less = nodes-Part c.args.e.now _ _ _ h in
    (omega (arith, c.decreases, less), part-narrow c.args.e.now _ _ _ 4194304 h c.requires.narrow)

pub root_of-requires-in-Some-Slide : goal.root_of-requires-in-Some-Slide
root_of-requires-in-Some-Slide t c =
    let h = rw c.in-Some-Slide.field-0-is at c.in-Some-Slide.ensures.step in
    let less = nodes-Slide c.args.e.now _ _ _ _ h in
    (omega (arith, c.decreases, less), slide-narrow c.args.e.now _ _ _ _ 4194304 h c.requires.narrow)

pub width-requires : goal.width-requires
width-requires t c = own-narrow c.args.e.now 4194304 c.requires.narrow

pub width-requires-in-Some-Local : goal.width-requires-in-Some-Local
width-requires-in-Some-Local t c = own-narrow c.args.e.now 4194304 c.requires.narrow

pub returns-in-None-clause-root : goal.returns-in-None-clause-root
returns-in-None-clause-root t c = root-plain _ c.args.e.now c.in-None.ensures.plain

pub returns-in-Some-Signal-clause-root : goal.returns-in-Some-Signal-clause-root
returns-in-Some-Signal-clause-root t c =
    let is = subst (λ st. IsStep st c.args.e.now) c.in-Some-Signal.field-0-is c.in-Some-Signal.ensures.step in
    root-Signal _ c.args.e.now c.in-Some-Signal.n is refl c.width.ensures.bits

pub returns-in-Some-Signal-clause-narrow : goal.returns-in-Some-Signal-clause-narrow
returns-in-Some-Signal-clause-narrow t c = omega (arith, c.width.ensures.bits, own-narrow c.args.e.now 4194304 c.requires.narrow)

pub returns-in-Some-Local-clause-root : goal.returns-in-Some-Local-clause-root
returns-in-Some-Local-clause-root t c =
    let is = subst (λ st. IsStep st c.args.e.now) c.in-Some-Local.field-0-is c.in-Some-Local.ensures.step in
    root-Local _ c.args.e.now c.in-Some-Local.n is refl c.width-in-Some-Local.ensures.bits

pub returns-in-Some-Local-clause-narrow : goal.returns-in-Some-Local-clause-narrow
returns-in-Some-Local-clause-narrow t c = omega (arith, c.width-in-Some-Local.ensures.bits, own-narrow c.args.e.now 4194304 c.requires.narrow)

pub returns-in-Some-Member-clause-root : goal.returns-in-Some-Member-clause-root
returns-in-Some-Member-clause-root t c =
    let h = rw c.in-Some-Member.field-0-is at c.in-Some-Member.ensures.step in root-Member c.root_of.result c.args.e.now c.in-Some-Member.from.now _ h c.root_of.ensures.root

pub returns-in-Some-Index-clause-root : goal.returns-in-Some-Index-clause-root
returns-in-Some-Index-clause-root t c =
    let h = rw c.in-Some-Index.field-0-is at c.in-Some-Index.ensures.step in
    root-Index c.root_of-in-Some-Index.result c.args.e.now c.in-Some-Index.from.now _ h c.root_of-in-Some-Index.ensures.root

pub returns-in-Some-Part-clause-root : goal.returns-in-Some-Part-clause-root
returns-in-Some-Part-clause-root t c =
    let h = rw c.in-Some-Part.field-0-is at c.in-Some-Part.ensures.step in
    root-Part c.root_of-in-Some-Part.result c.args.e.now c.in-Some-Part.from.now _ _ h c.root_of-in-Some-Part.ensures.root

pub returns-in-Some-Slide-clause-root : goal.returns-in-Some-Slide-clause-root
returns-in-Some-Slide-clause-root t c =
    let h = rw c.in-Some-Slide.field-0-is at c.in-Some-Slide.ensures.step in
    root-Slide c.root_of-in-Some-Slide.result c.args.e.now c.in-Some-Slide.from.now _ _ _ h c.root_of-in-Some-Slide.ensures.root
