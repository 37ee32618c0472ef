use Rattle.std.proofs.Common.{◌≡◌, ℕ, ◌∙◌, ap, sym, length, subst}
use Rattle.b4_planes.specs.Planes.{IsPlanes, plane_bits}
use Rattle.b4_planes.proofs.Aligned.{length_of_third, length_of_fourth}
use Rattle.b4_planes.proofs.Results.{aligned_planes, same_len}
use Rattle.b4_planes.proofs.PlaneBits.{vector_of}
use Rattle.b4_planes.proofs.Compared.{same_vectors}
use Rattle.b4_planes.proofs.planes.Planes.case_eq.Goals as goal

pub same_planes-requires-clause-b : goal.same_planes-requires-clause-b
same_planes-requires-clause-b c =
    ap length c.deref-3.ensures.value
    ∙ length_of_third (aligned_planes _ _ _ _ _ _ _ _ c.self.invariant c.b.invariant c.self.view_is c.b.view_is c.requires)
    ∙ sym (ap length c.deref.ensures.value)

pub same_planes-requires-clause-v : goal.same_planes-requires-clause-v
same_planes-requires-clause-v c =
    ap length c.deref-4.ensures.value
    ∙ length_of_fourth (aligned_planes _ _ _ _ _ _ _ _ c.self.invariant c.b.invariant c.self.view_is c.b.view_is c.requires)
    ∙ sym (ap length c.deref.ensures.value)

pub returns : goal.returns
returns c =
    let e = same_len _ _ _ _ _ _ _ _ c.self.invariant c.b.invariant c.self.view_is c.b.view_is c.requires in
    let P : ℕ → Type 0 = λ k. IsPlanes k c.b.inside.values.items c.b.inside.unknowns.items in
    let b : IsPlanes c.self.inside.len c.b.inside.values.items c.b.inside.unknowns.items = subst P e c.b.invariant in
    let view : vector_of c.self.inside.len c.b.inside.values.items c.b.inside.unknowns.items ≡ c.args.b.now =
    ap (λ k. vector_of k c.b.inside.values.items c.b.inside.unknowns.items) (sym e) ∙ c.b.view_is in
    let left : plane_bits c.deref.result.now c.deref-2.result.now ≡ plane_bits c.self.inside.values.items c.self.inside.unknowns.items =
    ap (λ l. plane_bits l c.deref-2.result.now) c.deref.ensures.value ∙ ap (plane_bits c.self.inside.values.items) c.deref-2.ensures.value in
    let right : plane_bits c.deref-3.result.now c.deref-4.result.now ≡ plane_bits c.b.inside.values.items c.b.inside.unknowns.items =
    ap (λ l. plane_bits l c.deref-4.result.now) c.deref-3.ensures.value ∙ ap (plane_bits c.b.inside.values.items) c.deref-4.ensures.value in
    same_vectors c.self.inside.len _ _ _ _ _ _ _ c.self.invariant b c.self.view_is view c.requires
    (λ t. sym left ∙ c.same_planes.ensures.0 t ∙ right, λ h. c.same_planes.ensures.1 (left ∙ h ∙ sym right))
