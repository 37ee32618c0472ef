use Rattle.std.proofs.Common.{sym, ap, subst, ◌∙◌, Option}
use Rattle.std.specs.Option.{option_copied}
use Rattle.expr_type.specs.Names.{Thing}
use Rattle.frame_things.specs.Finding.{IsValue}
use Rattle.frame_things.proofs.Grown.{value-met, value-framed}
use Rattle.frame_things.proofs.things.Things.value.Goals as goal

pub returns-in-Some : goal.returns-in-Some
returns-in-Some c =
    value-met c.args.declaration c.args.self.now.values c.args.self.now.base.frame.now.values c.in-Some.value.now (sym (ap option_copied c.in-Some.is) ∙ c.find.ensures)

pub returns-in-None : goal.returns-in-None
returns-in-None c =
    subst (λ (t : Option Thing). IsValue (λ v. v.now) c.value.result t)
    (sym (value-framed c.args.declaration c.args.self.now.values c.args.self.now.base.frame.now.values (sym (ap option_copied c.in-None.is) ∙ c.find.ensures)))
    c.value.ensures
