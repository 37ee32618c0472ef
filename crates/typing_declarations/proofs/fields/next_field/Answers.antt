use Rattle.std.proofs.Common.{◌≡◌, subst, rules}
use Rattle.std.specs.Prelude.{List, Result, Err}
use Rattle.std.specs.Option.{option_copied}
use Rattle.expr_type.specs.declared.halt.Halt.{Halt}
use Rattle.expr_type.specs.declared.halt.Halt.TheVariants as H
use Rattle.expr_type.specs.Types.{Field}
use Rattle.expr_type.specs.Typings.{all}
use Rattle.typing_steps.specs.Steps.{TypesTo}
use Rattle.typing_declarations.specs.Texts.{field_by}
use Rattle.typing_declarations.proofs.FieldRows.{adds, looks-on}
use Rattle.typing_declarations.proofs.fields.next_field.Goals as goal

pub returns-in-Ok-clause-value : goal.returns-in-Ok-clause-value
returns-in-Ok-clause-value g c xs fs h =
    adds c.in-Ok.made c.field.result c.with_last.result xs (field_by (g.S.Names.context c.args.names.now) c.args.inside_packed (option_copied c.args.of) c.args.name.now) fs
    c.args.known.now.functions c.field.new.known.functions c.with_last.ensures
    (subst (λ (r : Result (List Field) Halt). TypesTo r (all xs fs) c.args.known.now.functions) c.in-Ok.is h) c.field.ensures.value

pub returns-in-Err-Quiet-clause-value : goal.returns-in-Err-Quiet-clause-value
returns-in-Err-Quiet-clause-value g c xs fs h =
    let is : c.args.fields ≡ Err H.Quiet = search rules in
    looks-on c.args.fields c.field-in-Err-Quiet.result c.behind_quiet.result xs (field_by (g.S.Names.context c.args.names.now) c.args.inside_packed (option_copied c.args.of) c.args.name.now) fs
    c.args.known.now.functions c.field-in-Err-Quiet.new.known.functions is c.behind_quiet.ensures h c.field-in-Err-Quiet.ensures.value
