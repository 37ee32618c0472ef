use Rattle.std.proofs.Common.{◌≡◌, Some, None, sym, ap, ◌∙◌, List}
use Rattle.std.specs.Prelude.{slice_get}
use Rattle.sv_types.specs.declared.frame.SignalId.{SignalId}
use Rattle.frame_things.specs.Members.{member_from}
use Rattle.frame_things.proofs.Standing.{no-signal, signal-at}
use Rattle.frame_things.proofs.finding.FrameThings.signal.Goals as goal

pub returns-in-None : goal.returns-in-None
returns-in-None c =
    let place : member_from 0 c.args.declaration c.args.whole.now c.args.self.now.frame.now.signals ≡ None =
    sym (c.args.self.now.indexed.signals c.args.declaration c.args.whole.now) ∙ sym c.of.ensures ∙ c.in-None.is in
    no-signal c.args.declaration c.args.self.now.frame.now.signals (ap (λ q. member_from 0 c.args.declaration q c.args.self.now.frame.now.signals) (sym c.requires) ∙ place)

pub returns-in-Some : goal.returns-in-Some
returns-in-Some c =
    let place : member_from 0 c.args.declaration c.args.whole.now c.args.self.now.frame.now.signals ≡ Some c.in-Some.place =
    sym (c.args.self.now.indexed.signals c.args.declaration c.args.whole.now) ∙ sym c.of.ensures ∙ c.in-Some.is in
    signal-at (λ s. s.now) c.at.result c.args.declaration c.in-Some.place c.args.self.now.frame.now.signals (c.at.ensures ∙ ap (λ (xs : List SignalId). slice_get xs c.in-Some.place) c.as_slice.ensures)
    (ap (λ q. member_from 0 c.args.declaration q c.args.self.now.frame.now.signals) (sym c.requires) ∙ place)
