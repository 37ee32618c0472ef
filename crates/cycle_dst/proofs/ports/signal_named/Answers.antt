use Rattle.std.proofs.Common.{ap, ◌∙◌}
use Rattle.v_meaning.specs.Scopes.{Named, Scope, named}
use Rattle.cycle_dst.proofs.ports.signal_named.Goals as goal

pub returns : goal.returns
returns c = c.number_of.ensures ∙ ap (λ (n : Named). n.number) c.find.ensures ∙ ap (λ (sc : Scope). (named sc.names c.args.name.now).number) c.scope_in.ensures
