use Rattle.std.proofs.Common.{◌∙◌, ap, replicate}
use Rattle.std.specs.Simd.Lanes.{zip2}
use Rattle.b4_planes.specs.Words.{one_of}
use Rattle.b4_planes.proofs.Inverted.{stored_result}
use Rattle.b4_planes.proofs.planes.Planes.to_two_state.Goals as goal

pub invariant_of-self : goal.invariant_of-self
invariant_of-self c =
    (stored_result c.self.inside.len c.self.inside.values c.self.inside.unknowns.items _ _ _ c.self.invariant c.self.view_is
    (c.sweep_value.ensures ∙ ap (λ l. zip2 one_of l c.deref.result.now) c.deref_mut.ensures.value ∙ ap (zip2 one_of c.self.inside.values.items) c.deref.ensures.value)
    (c.fill.ensures.items (λ y e. e) ∙ ap (λ k. replicate k 0) c.self.inside.unknowns.ok.0)).0

pub returns : goal.returns
returns c =
    (stored_result c.self.inside.len c.self.inside.values c.self.inside.unknowns.items _ _ _ c.self.invariant c.self.view_is
    (c.sweep_value.ensures ∙ ap (λ l. zip2 one_of l c.deref.result.now) c.deref_mut.ensures.value ∙ ap (zip2 one_of c.self.inside.values.items) c.deref.ensures.value)
    (c.fill.ensures.items (λ y e. e) ∙ ap (λ k. replicate k 0) c.self.inside.unknowns.ok.0)).1
