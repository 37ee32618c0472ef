use Rattle.b4_planes.proofs.Inverted.{inverted_result, inverted_from}
use Rattle.b4_planes.proofs.planes.Planes.not_in_place.Goals as goal

pub invariant_of-self : goal.invariant_of-self
invariant_of-self c =
    (inverted_result c.self.inside.len c.self.inside.values c.self.inside.unknowns.items _ _ c.self.invariant c.self.view_is c.invert.ensures.len
    (inverted_from c.self.inside.len _ _ _ _ _ c.deref_mut.ensures.value c.deref.ensures.value c.invert.ensures.bits)).0

pub returns : goal.returns
returns c =
    (inverted_result c.self.inside.len c.self.inside.values c.self.inside.unknowns.items _ _ c.self.invariant c.self.view_is c.invert.ensures.len
    (inverted_from c.self.inside.len _ _ _ _ _ c.deref_mut.ensures.value c.deref.ensures.value c.invert.ensures.bits)).1
