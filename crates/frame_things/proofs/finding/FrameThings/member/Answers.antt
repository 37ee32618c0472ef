use Rattle.std.proofs.Common.{sym, ◌∙◌, List, ap}
use Rattle.std.specs.Prelude.{slice_get}
use Rattle.sv_types.specs.declared.frame.SignalId.{SignalId}
use Rattle.frame_things.proofs.Standing.{no-member, member-at}
use Rattle.frame_things.proofs.finding.FrameThings.member.Goals as goal

pub returns-in-None : goal.returns-in-None
returns-in-None c =
    no-member c.args.interface c.args.name.now c.args.self.now.frame.now.signals
    (sym (c.args.self.now.indexed.signals c.args.interface c.args.name.now) ∙ sym c.of.ensures ∙ c.in-None.is)

pub returns-in-Some : goal.returns-in-Some
returns-in-Some c =
    member-at (λ s. s.now) c.at.result c.args.interface c.in-Some.place c.args.name.now c.args.self.now.frame.now.signals (c.at.ensures ∙ ap (λ (xs : List SignalId). slice_get xs c.in-Some.place) c.as_slice.ensures)
    (sym (c.args.self.now.indexed.signals c.args.interface c.args.name.now) ∙ sym c.of.ensures ∙ c.in-Some.is)
