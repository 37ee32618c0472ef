use Rattle.std.proofs.Common.{◌≡◌, ◌∙◌, ap}
use Rattle.picks.specs.Windows.{whole}
use Rattle.sv_types.specs.Layouts.{layout, width_of}
use Rattle.sv_types.specs.Windows.{element_of}
use Rattle.eval_parts.specs.Places.{window_of}
use Rattle.target_flatten.proofs.Stands.{element-spots}
use Rattle.target_flatten.proofs.spots.element_spot.Goals as goal

pub returns-clause-stands : goal.returns-clause-stands
returns-clause-stands c =
    let window : window_of c.element_at.result ≡ element_of (layout c.args.of.now) c.args.index (whole (width_of c.args.of.now)) =
    c.element_at.ensures.window ∙ ap (element_of (layout c.args.of.now) c.args.index) (c.entire.ensures.window ∙ ap whole c.width.ensures.bits) in
    element-spots c.args.spot c.narrowed.result c.args.of.now c.args.index c.element_at.result window c.narrowed.ensures.stands

pub returns-clause-names : goal.returns-clause-names
returns-clause-names c = c.narrowed.ensures.names

pub returns-clause-steady : goal.returns-clause-steady
returns-clause-steady c = c.narrowed.ensures.steady
