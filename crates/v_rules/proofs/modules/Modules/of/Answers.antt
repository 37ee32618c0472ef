use Rattle.std.proofs.Common.{ap, ◌∙◌, List}
use Rattle.v_scopes.specs.Env.{Env}
use Rattle.v_rules.specs.Tables.{Numbers, numbers_from, ports_added}
use Rattle.v_rules.proofs.modules.Modules.of.Goals as goal

pub returns : goal.returns
returns c = record {
  numbers =
      c.in_ok-add_ports.ensures.kept ∙ c.in_ok-number_all.ensures.numbers ∙ ap (λ (ns : Numbers). numbers_from 0 c.args.modules.now ns) c.new-table.ensures.none;
  ports =
      c.in_ok-add_ports.ensures.adds ∙ ap (λ (es : List Env). ports_added c.args.modules.now es) (c.in_ok-number_all.ensures.kept ∙ c.new-table.ensures.empty);
}
