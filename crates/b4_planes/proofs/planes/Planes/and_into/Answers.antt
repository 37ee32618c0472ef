use Rattle.std.proofs.Common.{◌∙◌, ap, sym, length}
use Rattle.b4_planes.proofs.Aligned.{length_of_third, length_of_fourth}
use Rattle.b4_planes.proofs.Results.{aligned_planes, ran, and_result}
use Rattle.b4_planes.specs.Words.{and_value, and_unknown}
use Rattle.b4_planes.proofs.planes.Planes.and_into.Goals as goal

pub sweep-requires-clause-b : goal.sweep-requires-clause-b
sweep-requires-clause-b c =
    ap length c.deref.ensures.value
    ∙ length_of_third (aligned_planes _ _ _ _ _ _ _ _ c.self.invariant c.b.invariant c.self.view_is c.b.view_is c.requires)
    ∙ sym (ap length c.deref_mut.ensures.value)

pub sweep-requires-clause-v : goal.sweep-requires-clause-v
sweep-requires-clause-v c =
    ap length c.deref-2.ensures.value
    ∙ length_of_fourth (aligned_planes _ _ _ _ _ _ _ _ c.self.invariant c.b.invariant c.self.view_is c.b.view_is c.requires)
    ∙ sym (ap length c.deref_mut.ensures.value)

pub invariant_of-self : goal.invariant_of-self
invariant_of-self c =
    let done = ran and_value and_unknown c.self.inside.values c.self.inside.unknowns _ _ _ _ _ _ _ _ c.deref_mut.ensures.value c.deref_mut-2.ensures.value c.deref.ensures.value c.deref-2.ensures.value c.sweep.ensures.value c.sweep.ensures.unknown in
    (and_result _ _ c.self.inside.values c.self.inside.unknowns _ _ _ _ _ _ c.self.invariant c.b.invariant c.self.view_is c.b.view_is c.requires done).0

pub returns : goal.returns
returns c =
    let done = ran and_value and_unknown c.self.inside.values c.self.inside.unknowns _ _ _ _ _ _ _ _ c.deref_mut.ensures.value c.deref_mut-2.ensures.value c.deref.ensures.value c.deref-2.ensures.value c.sweep.ensures.value c.sweep.ensures.unknown in
    (and_result _ _ c.self.inside.values c.self.inside.unknowns _ _ _ _ _ _ c.self.invariant c.b.invariant c.self.view_is c.b.view_is c.requires done).1
