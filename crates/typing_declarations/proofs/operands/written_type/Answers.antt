use Rattle.std.proofs.Common.{◌≡◌, true, sym, subst}
use Rattle.sv_tree.specs.declared.expressions.Expr.{Expr}
use Rattle.expr_type.specs.Expressions.{meaning}
use Rattle.typing_parts.specs.Operands.{as_operand}
use Rattle.typing_steps.specs.Steps.{TypesTo}
use Rattle.typing_paths.specs.Children.{in_type}
use Rattle.typing_walks.specs.Written.{is_written}
use Rattle.typing_declarations.proofs.BlocksWritten.{each-can, type-written}
use Rattle.typing_declarations.proofs.operands.written_type.Goals as goal

pub as_type-requires-clause-can : goal.as_type-requires-clause-can
as_type-requires-clause-can g c =
    let k = g.S.Names.context c.args.names.now in
    each-can _ _ _ _ _ _ _ (in_type c.args.e.now) (λ x written. record {
      can = λ y s is q. (c.requires.needs, (c.requires.names, (subst (λ (z : Expr). is_written z ≡ true) (sym is) written, q)));
      gives = λ y s r u is p. subst (λ (z : Expr). TypesTo (as_operand k.source r) ((meaning z).typed k s.now.functions) u.now.functions) is p.0;
      narrow = λ y s r u is p. p.1.0;
      fits = λ y s r u is p. p.1.1.0;
      ready = λ y s r u is p. p.1.1.1.0;
      keeps = λ y s r u is p. p.1.1.1.1;
    }) (type-written c.args.e.now c.requires.written)
