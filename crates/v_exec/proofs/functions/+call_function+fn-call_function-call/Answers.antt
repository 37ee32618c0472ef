use Rattle.std.proofs.Common.{rules, ◌≡◌, ◌-◌, suc, Some, arith, ◌∙◌}
use Rattle.v_eval.specs.Functions.{function_at}
use Rattle.v_eval.specs.Holding.{holds}
use Rattle.v_exec.specs.Modules.{scope_in}
use Rattle.v_exec.proofs.Calling.{function-narrow, callee-called}
use Rattle.v_exec.proofs.Running.{if-ok}
use Rattle.v_exec.proofs.functions.+call_function+fn-call_function-call.Goals as goal

pub run_function-requires-clause-narrow : goal.run_function-requires-clause-narrow
run_function-requires-clause-narrow t c =
    let there : Some c.in-Some.f.now ≡ function_at c.args.of.now.items.now (Some c.args.i) = search rules in
    function-narrow c.args.of.now.items.now c.args.i c.in-Some.f.now (scope_in c.args.first (c.args.depth - 1) c.args.of.now) there (c.requires (c.args.depth - 1))

pub returns-else-depth-eq0 : goal.returns-else-depth-eq0
returns-else-depth-eq0 t c =
    let there : Some c.in-Some.f.now ≡ function_at c.args.of.now.items.now (Some c.args.i) = search rules in
    let deep : c.args.depth ≡ suc (c.args.depth - 1) = omega (arith, c.if-depth-eq0.false) in
    if-ok (λ x h. h ∙ callee-called c.args.first (c.args.depth - 1) c.args.depth c.args.of.now c.args.i c.in-Some.f.now (holds c.args.held) c.args.args deep there) c.run_function.result c.run_function.ensures
