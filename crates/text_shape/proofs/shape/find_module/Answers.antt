use Rattle.std.proofs.Common.{Some, None, sym, ◌∙◌}
use Rattle.text_shape.proofs.Shaping.{found-module}
use Rattle.text_shape.proofs.shape.find_module.Goals as goal

pub returns-in-None : goal.returns-in-None
returns-in-None c =
    found-module c.args.modules.now c.args.name.now None (sym c.in-None.is ∙ c.number.ensures ∙ (λ i. c.requires.numbers i c.args.name.now))

pub returns-in-Some : goal.returns-in-Some
returns-in-Some c =
    c.at.ensures ∙ found-module c.args.modules.now c.args.name.now (Some c.in-Some.number) (sym c.in-Some.is ∙ c.number.ensures ∙ (λ i. c.requires.numbers i c.args.name.now))
