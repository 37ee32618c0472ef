use Rattle.std.proofs.Common.{refl}
use Rattle.std.specs.Prelude.{slice_get}
use Rattle.sv_types.specs.Layouts.{layout}
use Rattle.sv_types.specs.Windows.{member_of}
use Rattle.eval_parts.specs.Places.{window_of}
use Rattle.path_flatten.proofs.Stepping.{sound-by, member-inside, member-reads}
use Rattle.path_flatten.proofs.steps.member_step.Goals as goal

pub returns-clause-sound : goal.returns-clause-sound
returns-clause-sound c =
    let old = c.args.reading in
    let m = slice_get (layout c.args.of.now).members c.args.k in
    sound-by old (record { root = old.root; width = old.width; window = c.member_at.result }) (member_of m (window_of old.window)) c.requires.sound c.member_at.ensures.near refl c.member_at.ensures.window
    (member-inside m (window_of old.window))

pub returns-clause-reads : goal.returns-clause-reads
returns-clause-reads c =
    let old = c.args.reading in
    member-reads old (record { root = old.root; width = old.width; window = c.member_at.result }) c.args.of.now c.args.k refl refl c.member_at.ensures.window
