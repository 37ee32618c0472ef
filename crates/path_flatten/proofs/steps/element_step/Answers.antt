use Rattle.std.proofs.Common.{refl}
use Rattle.sv_types.specs.Layouts.{layout}
use Rattle.sv_types.specs.Windows.{element_of}
use Rattle.eval_parts.specs.Places.{window_of}
use Rattle.path_flatten.proofs.Stepping.{sound-by, element-inside, element-reads}
use Rattle.path_flatten.proofs.steps.element_step.Goals as goal

pub returns-clause-sound : goal.returns-clause-sound
returns-clause-sound c =
    let old = c.args.reading in
    sound-by old (record { root = old.root; width = old.width; window = c.element_at.result }) (element_of (layout c.args.of.now) c.args.index (window_of old.window)) c.requires.sound c.element_at.ensures.near refl
    c.element_at.ensures.window (element-inside (layout c.args.of.now) c.args.index (window_of old.window))

pub returns-clause-reads : goal.returns-clause-reads
returns-clause-reads c =
    let old = c.args.reading in
    element-reads old (record { root = old.root; width = old.width; window = c.element_at.result }) c.args.of.now c.args.index refl refl c.element_at.ensures.window
