use Rattle.std.proofs.Common.{arith, subst}
use Rattle.sv_types.specs.Meanings.{wide}
use Rattle.sv_types.specs.Expressions.{meaning}
use Rattle.v_meaning.specs.Values as T
use Rattle.eval_forms.specs.Callees.{formals_in}
use Rattle.eval_runs.proofs.Knots.{all-fit}
use Rattle.expr_lower.specs.Lowering.{Lowers}
use Rattle.target_lower.proofs.indices.lowered_index.Goals as goal

pub lower-requires-clause-functions : goal.lower-requires-clause-functions
lower-requires-clause-functions c = all-fit c.args.functions.now (formals_in c.args.functions.now) c.requires.functions

pub returns-clause-index : goal.returns-clause-index
returns-clause-index c =
    let i = c.args.i.now in
    let names = c.args.names.now in
    let functions = c.args.functions.now in
    let hs = c.lower.new.helpers in
    let m = T.meaning c.in_ok-expr.expr in
    record {
      width = c.own_width-width.ensures;
      sign = c.own_sign-signed.ensures;
      lowers = subst (λ s. Lowers names functions hs i (wide (meaning i)) s m) c.own_sign-signed.ensures (subst (λ k. Lowers names functions hs i k c.own_sign-signed.result m) c.own_width-width.ensures c.in_ok-expr.ensures.lowers);
    }

pub returns-clause-short : goal.returns-clause-short
returns-clause-short c = omega (arith, c.own_width-width.ensures, c.requires.short)
