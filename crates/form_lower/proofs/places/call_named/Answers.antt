use Rattle.std.proofs.Common.{map}
use Rattle.sv_types.specs.Expressions.{meaning}
use Rattle.sv_types.specs.Functions.{parameter}
use Rattle.v_meaning.specs.Values as T
use Rattle.v_build.specs.Trees.{meanings}
use Rattle.form_lower.proofs.Placing.{calls-named}
use Rattle.form_lower.proofs.places.call_named.Goals as goal

pub returns-clause-calls : goal.returns-clause-calls
returns-clause-calls c =
    calls-named c.args.of.now c.args.function (map parameter c.args.formals.now) c.is_signed.result (map meaning c.args.actuals.now) (meanings c.args.parts) (meanings c.in_ok-args.args) c.all_placed.new.helpers (meanings c.in_ok-all.all) (T.meaning c.call.result) (T.meaning c.in_ok-made.made)
    c.in_ok-args.ensures.puts c.in_ok-all.ensures c.call.ensures c.is_signed.ensures c.in_ok-made.ensures
