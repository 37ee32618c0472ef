use Rattle.std.proofs.Common.{◌≡◌, ◌+◌, ℕ, ℤ, true, refl, rules, ap, ◌∙◌, subst}
use Rattle.std.specs.Prelude.{int_le}
use Rattle.std.proofs.lemmas.Int.{to_z-of_z}
use mir.Val.{SFits, to_z, of_z}
use mir.Syntax.{w128}
use Rattle.sv_types.specs.Layouts.{layout}
use Rattle.sv_types.specs.Windows.{falls}
use Rattle.v_meaning.specs.Values as T
use Rattle.v_meaning.specs.Values.{meaning}
use Rattle.lowering_laws.specs.Signed.{FitsSigned}
use Rattle.lowering_laws.specs.Terms as terms
use Rattle.path_flatten.specs.declared.offsets.Offset.TheVariants as O
use Rattle.path_flatten.specs.Distances.{distance_term}
use Rattle.path_flatten.proofs.Beginning.{sum-offset}
use Rattle.path_flatten.proofs.Naming.{like-then}
use Rattle.path_flatten.proofs.NamingSlides.{offset-sum, like-distance, like-scaled}
use Rattle.path_flatten.proofs.offsets.sum_of.Goals as goal

pub returns-clause-begins : goal.returns-clause-begins
returns-clause-begins c =
    let y = c.in_ok-number.number in
    let item = c.bounds_of-bounds.result.element in
    let start : ℤ = c.origin_of-start.result in
    let bits : ℕ = c.max.result + 2 + c.bits_of_width.result in
    let fits : SFits w128 c.origin_of-start.result = search rules in
    let same : to_z w128 (of_z w128 c.origin_of-start.result) ≡ c.origin_of-start.result = to_z-of_z w128 c.origin_of-start.result fits in
    let fall : c.fall.result ≡ falls (layout c.args.of.now) = c.fall.ensures ∙ (λ i. int_le (c.bounds_of-bounds.ensures.right i) (c.bounds_of-bounds.ensures.left i)) in
    let term : meaning c.in_ok-expr.expr ≡ terms.scaled (distance_term c.fall.result (T.signing true (meaning c.in_ok-number.number.expr)) bits c.origin_of-start.result) c.bounds_of-bounds.result.element bits =
    c.in_ok-expr.ensures ∙ ap (λ m. terms.scaled m c.bounds_of-bounds.result.element bits) (c.in_ok-far.ensures
    ∙ ap (λ k. distance_term c.fall.result (T.signing true (meaning c.in_ok-number.number.expr)) bits k) same) in
    sum-offset c.args.of.now c.args.up c.args.n c.args.index y item c.bits_for.result c.max.result c.bits_of_width.result bits start (meaning c.in_ok-expr.expr)
    c.in_ok-number.ensures.number c.bounds_of-bounds.ensures.element c.origin_of-start.ensures.value (subst (FitsSigned c.bits_for.result) same c.bits_for.ensures.fits) c.bits_of_width.ensures.fits c.max.ensures refl
    c.in_ok-expr.expr (O.Sum c.in_ok-expr.expr bits) c.fall.result fall refl term

pub returns-clause-names : goal.returns-clause-names
returns-clause-names c =
    let bits : ℕ = c.max.result + 2 + c.bits_of_width.result in
    offset-sum c.args.index c.in_ok-expr.expr bits (O.Sum c.in_ok-expr.expr bits) refl
    (like-then (meaning c.args.index.expr) (meaning c.in_ok-number.number.expr) (meaning c.in_ok-expr.expr) c.in_ok-number.ensures.names
    (like-then (meaning c.in_ok-number.number.expr) (meaning c.in_ok-far.far) (meaning c.in_ok-expr.expr)
    (like-distance c.fall.result (meaning c.in_ok-number.number.expr) bits (to_z w128 (of_z w128 c.origin_of-start.result)) (meaning c.in_ok-far.far) c.in_ok-far.ensures)
    (like-scaled (meaning c.in_ok-far.far) c.bounds_of-bounds.result.element bits (meaning c.in_ok-expr.expr) c.in_ok-expr.ensures)))
