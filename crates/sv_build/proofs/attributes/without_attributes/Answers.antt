use Rattle.std.proofs.Common.{◌≡◌, List, reverse, IfOk, sym, ap, subst, ◌∙◌}
use Rattle.sv_source.specs.declared.token.Token.{Token}
use Rattle.sv_build.specs.Attributes as means
use Rattle.sv_build.proofs.Kept.{none-dropped}
use Rattle.sv_build.proofs.attributes.without_attributes.Goals as goal

pub returns-then-closings-eq0 : goal.returns-then-closings-eq0
returns-then-closings-eq0 c = sym (none-dropped c.args.tokens (sym c.count_closings-closings.ensures ∙ c.if-closings-eq0.true))

pub kept-requires : goal.kept-requires
kept-requires c = c.count_closings-closings.ensures ∙ ap means.closings (sym c.in_ok-coming.ensures)

pub returns : goal.returns
returns c = subst (λ (ts : List Token). IfOk c.kept.result (λ k. k ≡ means.without_attributes ts)) c.in_ok-coming.ensures c.kept.ensures
