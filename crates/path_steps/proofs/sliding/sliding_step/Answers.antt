use Rattle.std.proofs.Common.{refl}
use Rattle.sv_types.specs.Layouts.{layout}
use Rattle.sv_types.specs.Windows.{slide}
use Rattle.eval_parts.specs.Places.{window_of}
use Rattle.path_flatten.proofs.Stepping.{sound-by}
use Rattle.path_steps.proofs.KnownSlides.{slide-inside, slide-reads}
use Rattle.path_steps.proofs.sliding.sliding_step.Goals as goal

pub returns-clause-sound : goal.returns-clause-sound
returns-clause-sound c =
    let old = c.args.reading in
    sound-by old (record { root = old.root; width = old.width; window = c.slide_at.result }) (slide (layout c.args.of.now) c.args.up c.args.count c.args.index (window_of old.window)) c.requires.sound c.slide_at.ensures.near refl
    c.slide_at.ensures.window (slide-inside (layout c.args.of.now) c.args.up c.args.count c.args.index (window_of old.window))

pub returns-clause-reads : goal.returns-clause-reads
returns-clause-reads c =
    let old = c.args.reading in
    slide-reads old (record { root = old.root; width = old.width; window = c.slide_at.result }) c.args.of.now c.args.up c.args.count c.args.index refl refl c.slide_at.ensures.window
