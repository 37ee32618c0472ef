use Rattle.std.proofs.Common.{List, map, ap, ◌∙◌}
use Rattle.v_tree.specs.declared.expressions.VExpr.{VExpr}
use Rattle.v_meaning.specs.Values.{meaning, all_constant}
use Rattle.v_eval.specs.Scopes.{scope_of}
use Rattle.v_constants.proofs.Exprs.{call-constant-of}
use Rattle.v_constants.proofs.constants.+constants.Goals as goal

pub is_constant_prim-returns-in-Call : goal.is_constant_prim-returns-in-Call
is_constant_prim-returns-in-Call t c =
    c.both.ensures
    ∙ call-constant-of c.args.prim.now c.in-Call.function c.in-Call.args c.are_constant.result c.is_quiet-own.result c.function.result c.args.scope c.in-Call.is
    (c.are_constant.ensures ∙ ap (λ (xs : List VExpr). all_constant (map meaning xs) (scope_of c.args.scope)) c.as_slice.ensures) c.is_quiet-own.ensures c.function.ensures
