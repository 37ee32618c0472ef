use Rattle.std.proofs.Common.{subst}
use Rattle.expr_type.specs.Forms.{plain}
use Rattle.typing_steps.specs.Steps.{TypesTo}
use Rattle.typing_values.specs.Parts.{by_size, named_path}
use Rattle.typing_exprs.proofs.Naming.{path-fits}
use Rattle.typing_exprs.proofs.type_names.to_size.Goals as goal

pub by_size-requires-clause-fits : goal.by_size-requires-clause-fits
by_size-requires-clause-fits g c =
    let k = g.S.Names.context c.args.names.now in
    c.plain_operand-size.ensures.fits c.named_path-v.new.known.functions
    (path-fits k c.args.of c.args.selects.now c.args.known.now.functions c.named_path-v.new.known.functions c.named_path-v.result c.requires.fits c.named_path-v.ensures.value)

pub returns-clause-value : goal.returns-clause-value
returns-clause-value g c =
    let k = g.S.Names.context c.args.names.now in
    let path = named_path k c.args.of c.args.selects.now in
    let fs = c.args.known.now.functions in
    subst (λ n. TypesTo c.by_size.result (by_size k n (plain path) c.args.cast.now fs) c.by_size.new.known.functions) c.first_token.ensures
    (c.by_size.ensures.value (plain path) fs (c.plain_operand-size.ensures.value k.source path fs c.named_path-v.new.known.functions c.named_path-v.ensures.value))
