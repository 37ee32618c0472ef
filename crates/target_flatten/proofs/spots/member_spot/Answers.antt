use Rattle.std.proofs.Common.{◌≡◌, ◌∙◌, ap}
use Rattle.std.specs.Prelude.{slice_get}
use Rattle.picks.specs.Windows.{whole}
use Rattle.sv_types.specs.Layouts.{layout, width_of}
use Rattle.sv_types.specs.Windows.{member_of}
use Rattle.eval_parts.specs.Places.{window_of}
use Rattle.target_flatten.proofs.Stands.{member-spots}
use Rattle.target_flatten.proofs.spots.member_spot.Goals as goal

pub returns-clause-stands : goal.returns-clause-stands
returns-clause-stands c =
    let m = slice_get (layout c.args.of.now).members c.args.k in
    let window : window_of c.member_at.result ≡ member_of (slice_get (layout c.args.of.now).members c.args.k) (whole (width_of c.args.of.now)) =
    c.member_at.ensures.window ∙ ap (member_of (slice_get (layout c.args.of.now).members c.args.k)) (c.entire.ensures.window ∙ ap whole c.width.ensures.bits) in
    member-spots c.args.spot c.narrowed.result c.args.of.now c.args.k c.member_at.result window c.narrowed.ensures.stands

pub returns-clause-names : goal.returns-clause-names
returns-clause-names c = c.narrowed.ensures.names

pub returns-clause-steady : goal.returns-clause-steady
returns-clause-steady c = c.narrowed.ensures.steady
