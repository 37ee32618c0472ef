use Rattle.std.proofs.Common.{sym, ◌∙◌, List, ap}
use Rattle.std.specs.Prelude.{slice_get}
use Rattle.sv_types.specs.declared.frame.ParamValue.{ParamValue}
use Rattle.frame_things.proofs.Standing.{no-value, value-at}
use Rattle.frame_things.proofs.finding.FrameThings.value.Goals as goal

pub returns-in-None : goal.returns-in-None
returns-in-None c = no-value c.args.declaration c.args.self.now.frame.now.values (sym (c.args.self.now.indexed.values c.args.declaration) ∙ sym c.of.ensures ∙ c.in-None.is)

pub returns-in-Some : goal.returns-in-Some
returns-in-Some c =
    value-at (λ v. v.now) c.at.result c.args.declaration c.in-Some.place c.args.self.now.frame.now.values (c.at.ensures ∙ ap (λ (xs : List ParamValue). slice_get xs c.in-Some.place) c.as_slice.ensures)
    (sym (c.args.self.now.indexed.values c.args.declaration) ∙ sym c.of.ensures ∙ c.in-Some.is)
