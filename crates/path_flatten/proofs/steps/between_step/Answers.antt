use Rattle.std.proofs.Common.{◌≡◌, refl, rules}
use Rattle.sv_types.specs.Layouts.{layout}
use Rattle.sv_types.specs.Windows.{between}
use Rattle.eval_parts.specs.Places.{window_of}
use Rattle.path_flatten.proofs.Stepping.{sound-by, between-inside, between-reads}
use Rattle.path_flatten.proofs.steps.between_step.Goals as goal

pub returns-clause-sound : goal.returns-clause-sound
returns-clause-sound c =
    let old = c.args.reading in
    let window : window_of c.between_at.result ≡ between (layout c.args.of.now) c.args.left c.args.right (window_of c.args.reading.window) = search rules in
    sound-by old (record { root = old.root; width = old.width; window = c.between_at.result }) (between (layout c.args.of.now) c.args.left c.args.right (window_of old.window)) c.requires.sound c.between_at.ensures.near refl
    window (between-inside (layout c.args.of.now) c.args.left c.args.right (window_of old.window))

pub returns-clause-reads : goal.returns-clause-reads
returns-clause-reads c =
    let old = c.args.reading in
    let window : window_of c.between_at.result ≡ between (layout c.args.of.now) c.args.left c.args.right (window_of c.args.reading.window) = search rules in
    between-reads old (record { root = old.root; width = old.width; window = c.between_at.result }) c.args.of.now c.args.left c.args.right refl refl window
