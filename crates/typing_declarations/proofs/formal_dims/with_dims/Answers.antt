use Rattle.std.proofs.Common.{◌≡◌, rules}
use Rattle.std.specs.Prelude.{Err}
use Rattle.expr_type.specs.declared.halt.Halt.TheVariants as H
use Rattle.typing_scopes.specs.Scopes.{context_of}
use Rattle.typing_declarations.proofs.FormalUnder.{dims-breaks, dims-quiet, dims-whole}
use Rattle.typing_declarations.proofs.formal_dims.with_dims.Goals as goal

pub returns-in-Ok-clause-value : goal.returns-in-Ok-clause-value
returns-in-Ok-clause-value g c x fs p =
    dims-whole (context_of g.B.Names.context c.args.names.now) x c.args.ds.now c.args.found c.in-Ok.found c.dims_behind.result fs c.args.known.now.functions c.dims_behind.new.known.functions
    c.in-Ok.is p c.dims_behind.ensures.value

pub returns-in-Err-Breaks-clause-value : goal.returns-in-Err-Breaks-clause-value
returns-in-Err-Breaks-clause-value g c x fs p =
    let is : c.args.found ≡ Err (H.Breaks c.in-Err-Breaks.at c.in-Err-Breaks.rule) = search rules in
    dims-breaks (context_of g.B.Names.context c.args.names.now) x c.args.ds.now c.args.found c.in-Err-Breaks.at c.in-Err-Breaks.rule fs c.args.known.now.functions c.args.known.now.functions is p

pub returns-in-Err-Quiet-clause-value : goal.returns-in-Err-Quiet-clause-value
returns-in-Err-Quiet-clause-value g c x fs p =
    let is : c.args.found ≡ Err H.Quiet = search rules in
    dims-quiet (context_of g.B.Names.context c.args.names.now) x c.args.ds.now c.args.found c.declared_type.result c.behind_quiet.result fs c.args.known.now.functions c.declared_type.new.known.functions
    is c.behind_quiet.ensures p c.declared_type.ensures.value
