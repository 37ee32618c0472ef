use Rattle.std.proofs.Common.{◌≡◌, ◌<◌, true, arith, sym, subst}
use Rattle.sv_tree.specs.declared.expressions.Expr.{Expr}
use Rattle.expr_type.specs.Expressions.{meaning}
use Rattle.typing_parts.specs.Operands.{as_operand}
use Rattle.typing_steps.specs.Steps.{TypesTo}
use Rattle.typing_walks.specs.Written.{is_written}
use Rattle.typing_operators.specs.Children.{nodes}
use Rattle.typing_exprs.proofs.Children.{children-can}
use Rattle.typing_exprs.proofs.walk.+typing.Goals as goal

pub operand-form-requires-clause-can : goal.operand-form-requires-clause-can
operand-form-requires-clause-can g t c =
    let k = g.S.Names.context c.args.names.now in
    children-can _ _ _ _ _ _ _ c.args.e.now (λ x less written. record {
      can = λ y s is q. (
        (let d = c.decreases in omega arith),
        (
          λ a m. m,
          (
            λ a m. m,
            (
              c.requires.needs,
              (
                c.requires.names,
                (
                  subst (λ (z : Expr). nodes z < nodes c.args.e.now) (sym is) less,
                  (
                    subst (λ (z : Expr). is_written z ≡ true) (sym is) written,
                    q,
                  ),
                ),
              ),
            ),
          ),
        ),
      );
      gives = λ y s r u is p. subst (λ (z : Expr). TypesTo (as_operand k.source r) ((meaning z).typed k s.now.functions) u.now.functions) is p.0;
      narrow = λ y s r u is p. p.1.0;
      fits = λ y s r u is p. p.1.1.0;
      ready = λ y s r u is p. p.1.1.1.0;
      keeps = λ y s r u is p. p.1.1.1.1;
    }) c.requires.written
