use Rattle.std.proofs.Common.{sym, ◌∙◌, List, ap}
use Rattle.std.specs.Prelude.{slice_get}
use Rattle.sv_types.specs.declared.frame.ParamType.{ParamType}
use Rattle.frame_things.proofs.Standing.{no-type, type-at}
use Rattle.frame_things.proofs.finding.FrameThings.named_type.Goals as goal

pub returns-in-None : goal.returns-in-None
returns-in-None c = no-type c.args.declaration c.args.self.now.frame.now.types (sym (c.args.self.now.indexed.types c.args.declaration) ∙ sym c.of.ensures ∙ c.in-None.is)

pub returns-in-Some : goal.returns-in-Some
returns-in-Some c =
    type-at (λ t. t.now) c.at.result c.args.declaration c.in-Some.place c.args.self.now.frame.now.types (c.at.ensures ∙ ap (λ (xs : List ParamType). slice_get xs c.in-Some.place) c.as_slice.ensures)
    (sym (c.args.self.now.indexed.types c.args.declaration) ∙ sym c.of.ensures ∙ c.in-Some.is)
