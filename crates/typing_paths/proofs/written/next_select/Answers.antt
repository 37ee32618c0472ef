use Rattle.std.proofs.Common.{◌≡◌, subst, rules}
use Rattle.std.specs.Prelude.{List, Result, Err}
use Rattle.expr_type.specs.declared.halt.Halt.{Halt}
use Rattle.expr_type.specs.declared.halt.Halt.TheVariants as H
use Rattle.expr_type.specs.KeywordTypes.{Dim}
use Rattle.expr_type.specs.Typings.{all}
use Rattle.typing_steps.specs.Steps.{TypesTo}
use Rattle.typing_paths.specs.Dimensions.{select_dimension_of}
use Rattle.typing_paths.proofs.Rows.{adds, looks-on}
use Rattle.typing_paths.proofs.written.next_select.Goals as goal

pub returns-in-Ok-clause-value : goal.returns-in-Ok-clause-value
returns-in-Ok-clause-value g c xs fs h =
    adds c.in-Ok.made c.select_dimension.result c.with_last.result xs (select_dimension_of (g.S.Names.context c.args.names.now) c.args.select.now) fs c.args.known.now.functions
    c.select_dimension.new.known.functions c.with_last.ensures
    (subst (λ (r : Result (List Dim) Halt). TypesTo r (all xs fs) c.args.known.now.functions) c.in-Ok.is h) c.select_dimension.ensures.value

pub returns-in-Err-Quiet-clause-value : goal.returns-in-Err-Quiet-clause-value
returns-in-Err-Quiet-clause-value g c xs fs h =
    let is : c.args.dims ≡ Err H.Quiet = search rules in
    looks-on c.args.dims c.select_dimension-in-Err-Quiet.result c.behind_quiet.result xs (select_dimension_of (g.S.Names.context c.args.names.now) c.args.select.now) fs
    c.args.known.now.functions c.select_dimension-in-Err-Quiet.new.known.functions is c.behind_quiet.ensures h c.select_dimension-in-Err-Quiet.ensures.value
