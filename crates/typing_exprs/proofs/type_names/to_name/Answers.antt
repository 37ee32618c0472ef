use Rattle.std.proofs.Common.{subst}
use Rattle.typing_steps.specs.Steps.{TypesTo}
use Rattle.typing_patterns.specs.Sized.{typed_by}
use Rattle.typing_values.specs.Parts.{dimensioned}
use Rattle.typing_exprs.proofs.Naming.{type-named}
use Rattle.typing_exprs.proofs.type_names.to_name.Goals as goal

pub returns-in-Some-clause-value : goal.returns-in-Some-clause-value
returns-in-Some-clause-value g c =
    let k = g.S.Names.context c.args.names.now in
    let t = c.in-Some.t.now in
    let fs = c.args.known.now.functions in
    let of_type = dimensioned k t c.args.selects.now in
    type-named k c.args.of c.args.selects.now c.args.cast.now t c.by_type.result fs c.by_type.new.known.functions c.in-Some.ensures
    (subst (λ n. TypesTo c.by_type.result (typed_by k n of_type c.args.cast.now fs) c.by_type.new.known.functions) c.first_token.ensures
    (c.by_type.ensures.value of_type fs c.dimensioned-t.ensures.value))
