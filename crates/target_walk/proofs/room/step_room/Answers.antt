use Rattle.std.proofs.Common.{◌≡◌, arith, rules, ap, sym, subst}
use Rattle.std.specs.Prelude.{unsigned_abs}
use Rattle.std.proofs.lemmas.Int.{to_z-of_z}
use mir.Val.{SFits, to_z, of_z}
use mir.Syntax.{w64, w128}
use Rattle.target_walk.specs.declared.given.Given.{Given}
use Rattle.target_walk.specs.Rooms.{GivesRoom}
use Rattle.target_walk.proofs.Rooming.{gives-lowered}
use Rattle.target_walk.proofs.room.step_room.Goals as goal

pub returns-in-Lowered-clause-room : goal.returns-in-Lowered-clause-room
returns-in-Lowered-clause-room c =
    let fits : SFits w128 c.in-Lowered.by = search rules in
    let same : to_z w128 (of_z w128 c.in-Lowered.by) ≡ c.in-Lowered.by = to_z-of_z w128 c.in-Lowered.by fits in
    let left_fits : SFits w64 c.args.bounds.now.left = search rules in
    let right_fits : SFits w64 c.args.bounds.now.right = search rules in
    let left_far : unsigned_abs (to_z w64 (of_z w64 c.args.bounds.now.left)) ≡ unsigned_abs c.args.bounds.now.left = ap unsigned_abs (to_z-of_z w64 c.args.bounds.now.left left_fits) in
    let right_far : unsigned_abs (to_z w64 (of_z w64 c.args.bounds.now.right)) ≡ unsigned_abs c.args.bounds.now.right = ap unsigned_abs (to_z-of_z w64 c.args.bounds.now.right right_fits) in
    let far : unsigned_abs (to_z w128 (of_z w128 c.in-Lowered.by)) ≡ unsigned_abs c.in-Lowered.by = ap unsigned_abs same in
    subst (λ (g : Given). GivesRoom c.args.bounds.now g c.args.n c.max-in-Lowered.result) (sym c.in-Lowered.is)
    (gives-lowered c.args.bounds.now c.in-Lowered.index c.in-Lowered.by c.args.n c.max-in-Lowered.result c.bits_for.result _ c.max-in-Lowered.ensures (omega (arith, c.max.ensures, far, left_far, right_far)) c.bits_for.ensures.fits)
