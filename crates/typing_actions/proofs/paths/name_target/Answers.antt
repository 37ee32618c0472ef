use Rattle.std.proofs.Common.{◌≡◌, true, sym, subst}
use Rattle.sv_tree.specs.declared.expressions.Expr.{Expr}
use Rattle.expr_type.specs.Expressions.{meaning}
use Rattle.typing_parts.specs.Operands.{as_operand}
use Rattle.typing_steps.specs.Steps.{TypesTo}
use Rattle.typing_values.specs.Children.{in_selects}
use Rattle.typing_walks.specs.Written.{is_written}
use Rattle.typing_actions.proofs.Named.{path-types}
use Rattle.typing_actions.proofs.Written.{each-can, selects-written}
use Rattle.typing_actions.proofs.paths.name_target.Goals as goal

pub named_target-requires-clause-names : goal.named_target-requires-clause-names
named_target-requires-clause-names g c = c.requires.names.context

pub named_target-requires-clause-can : goal.named_target-requires-clause-can
named_target-requires-clause-can g c =
    let k = g.S.Names.context c.args.names.now in
    each-can _ _ _ _ _ _ _ (in_selects c.args.selects.now) (λ x written. record {
      can = λ y s is q. (c.requires.needs, (c.requires.names, (subst (λ (z : Expr). is_written z ≡ true) (sym is) written, q)));
      gives = λ y s r u is p. subst (λ (z : Expr). TypesTo (as_operand k.source r) ((meaning z).typed k s.now.functions) u.now.functions) is p.0;
      narrow = λ y s r u is p. p.1.0;
      fits = λ y s r u is p. p.1.1.0;
      ready = λ y s r u is p. p.1.1.1.0;
      keeps = λ y s r u is p. p.1.1.1.1;
    }) (selects-written c.args.selects.now c.requires.written)

pub returns-clause-value : goal.returns-clause-value
returns-clause-value g c =
    let k = g.S.Names.context c.args.names.now in
    path-types k c.args.in_statement c.args.name c.args.selects.now c.in_ok-v.v c.args.known.now.functions c.named_target.new.known.functions c.in_ok-v.ensures.value
