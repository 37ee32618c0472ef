use Rattle.std.proofs.Common.{length, refl}
use Rattle.eval_forms.specs.Callees.{formals_in}
use Rattle.eval_runs.proofs.Knots.{all-fit}
use Rattle.constant_values.proofs.Running.{bits-give}
use Rattle.constant_values.proofs.runs.bits_given.Goals as goal

pub assigned_in-requires-clause-calls : goal.assigned_in-requires-clause-calls
assigned_in-requires-clause-calls c = record { always = record { at = λ a. c.requires.functions }; functions = all-fit c.args.functions.now (formals_in c.args.functions.now) c.requires.functions; gives = λ q r p. p.1 }

pub returns : goal.returns
returns c =
    bits-give c.assigned_in.result c.args.t.now c.args.e.now c.args.functions.now c.nothing_held-env.result _ _ c.nothing_held-env.ensures refl c.assigned_in.ensures.gives
