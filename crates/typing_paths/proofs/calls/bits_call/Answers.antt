use Rattle.std.proofs.Common.{◌≡◌, Some, rules}
use Rattle.std.specs.Prelude.{Ok}
use Rattle.expr_type.specs.Answers.{source}
use Rattle.expr_type.specs.Expressions.{meaning}
use Rattle.typing_paths.proofs.Asking.{bits-found}
use Rattle.typing_paths.proofs.calls.bits_call.Goals as goal

pub returns-in_ok-bits_of_type-in-Ok-Some-clause-value : goal.returns-in_ok-bits_of_type-in-Ok-Some-clause-value
returns-in_ok-bits_of_type-in-Ok-Some-clause-value g c =
    let k = g.S.Names.context c.args.names.now in
    let e = meaning c.args.argument.now in
    let is : c.as_type.result ≡ Ok (Some c.in-Ok-Some.t) = search rules in
    bits-found k.source (source c.text.result) c.args.name (e.as_type k) (e.typed k) c.args.known.now.functions c.as_type.new.known.functions c.as_type.result
    c.in-Ok-Some.t c.in_ok-bits_of_type-in-Ok-Some.field-0 c.text.ensures is c.as_type.ensures.value c.in_ok-bits_of_type-in-Ok-Some.ensures.value
