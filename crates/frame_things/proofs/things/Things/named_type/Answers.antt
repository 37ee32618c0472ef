use Rattle.std.proofs.Common.{sym, ap, subst, ◌∙◌, Option}
use Rattle.std.specs.Option.{option_copied}
use Rattle.expr_type.specs.Names.{Thing}
use Rattle.frame_things.specs.Finding.{IsType}
use Rattle.frame_things.proofs.Grown.{type-met, type-framed}
use Rattle.frame_things.proofs.things.Things.named_type.Goals as goal

pub returns-in-Some : goal.returns-in-Some
returns-in-Some c =
    type-met c.args.declaration c.args.self.now.types c.args.self.now.base.frame.now.types c.in-Some.named.now (sym (ap option_copied c.in-Some.is) ∙ c.find.ensures)

pub returns-in-None : goal.returns-in-None
returns-in-None c =
    subst (λ (t : Option Thing). IsType (λ v. v.now) c.named_type.result t)
    (sym (type-framed c.args.declaration c.args.self.now.types c.args.self.now.base.frame.now.types (sym (ap option_copied c.in-None.is) ∙ c.find.ensures)))
    c.named_type.ensures
