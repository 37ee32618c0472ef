use Rattle.std.proofs.Common.{List, subst}
use Rattle.std.specs.Prelude.{Ok, Err}
use Rattle.sv_types.specs.declared.statement.Function.{Function}
use Rattle.const_eval.specs.Values.{AloneGives}
use Rattle.expr_type.specs.Answers.{source}
use Rattle.enum_values.proofs.Constants.{bits-are, run-halts}
use Rattle.enum_values.proofs.bits.constant_bits.Goals as goal

pub returns-in-Ok-alone-clause-value : goal.returns-in-Ok-alone-clause-value
returns-in-Ok-alone-clause-value c =
    bits-are (source c.args.text) c.args.v.now c.args.functions.now c.nothing_held-env.result c.in-Ok-alone.bits c.in-Ok.ensures c.nothing_held-env.ensures
    (subst (λ (fs : List Function). AloneGives (Ok c.in-Ok-alone.bits) c.args.v.now.expr fs c.nothing_held-env.result) c.as_slice.ensures c.in-Ok-alone.ensures)

pub returns-clause-value : goal.returns-clause-value
returns-clause-value c =
    run-halts (source c.args.text) c.args.v.now c.args.functions.now c.nothing_held-env.result c.in-Err-alone.halt c.halt_for.result c.in-Ok.ensures c.nothing_held-env.ensures
    (subst (λ (fs : List Function). AloneGives (Err c.in-Err-alone.halt) c.args.v.now.expr fs c.nothing_held-env.result) c.as_slice.ensures c.in-Err-alone.ensures)
    c.halt_for.ensures
