use Rattle.std.proofs.Common.{◌≡◌, ◌∙◌, ap, rules}
use Rattle.picks.specs.Windows.{whole}
use Rattle.sv_types.specs.Layouts.{layout, width_of}
use Rattle.sv_types.specs.Windows.{between}
use Rattle.eval_parts.specs.Places.{window_of}
use Rattle.target_flatten.proofs.Writing.{between-inner}
use Rattle.target_flatten.proofs.writes.between_writes.Goals as goal

pub returns-clause-writes : goal.returns-clause-writes
returns-clause-writes c =
    let inner : window_of c.between_at-inner.result ≡ between (layout c.args.of.now) c.args.left c.args.right (window_of c.entire.result) = search rules in
    let window : window_of c.between_at-inner.result ≡ between (layout c.args.of.now) c.args.left c.args.right (whole (width_of c.args.of.now)) =
    inner ∙ ap (between (layout c.args.of.now) c.args.left c.args.right) (c.entire.ensures.window ∙ ap whole c.width.ensures.bits) in
    between-inner c.args.image.now.bits c.args.spot c.args.of.now c.args.left c.args.right c.args.image.now.room c.between_at-inner.result c.in_ok-made.made window c.in_ok-made.ensures.writes

pub returns-clause-names : goal.returns-clause-names
returns-clause-names c = c.in_ok-made.ensures.names

pub returns-clause-own : goal.returns-clause-own
returns-clause-own c = c.in_ok-made.ensures.own

pub returns-clause-plain : goal.returns-clause-plain
returns-clause-plain c = c.in_ok-made.ensures.plain
