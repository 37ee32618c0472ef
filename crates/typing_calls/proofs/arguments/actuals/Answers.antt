use Rattle.std.proofs.Common.{subst}
use Rattle.std.specs.Prelude.{Result}
use Rattle.expr_type.specs.declared.halt.Halt.{Halt}
use Rattle.expr_type.specs.Operands.{Operand}
use Rattle.pattern_types.specs.Meaning.{operand_of}
use Rattle.typing_steps.specs.Steps.{TypesTo}
use Rattle.typing_parts.proofs.Keeping.{extends-then}
use Rattle.typing_values.specs.Values.{unstreamed_of}
use Rattle.typing_values.proofs.Children.{all-at}
use Rattle.typing_calls.proofs.Each.{operand-meant, turn-types}
use Rattle.typing_calls.proofs.arguments.actuals.Goals as goal

pub loop-e-preserved : goal.loop-e-preserved
loop-e-preserved g c =
    let k = g.S.Names.context c.args.names.now in
    let gs = c.unstreamed.new.known.functions in
    let one = subst (λ (r : Result Operand Halt). TypesTo r (unstreamed_of k c.e-item.result c.loop-e.known.functions) gs) (operand-meant k.source c.unstreamed.result) c.unstreamed.ensures.value in
    record {
      made =
          turn-types (operand_of k.source) (unstreamed_of k) c.args.es.now c.loop-e.e-index c.e-item.result c.args.known.now.functions c.loop-e.known.functions gs c.loop-e.made c.unstreamed.result
          c.followed-made.result c.loop-e-test.true c.e-item.is c.followed-made.ensures c.loop-e.invariant.made one;
      ready = c.unstreamed.ensures.ready;
      keeps = extends-then _ _ _ c.loop-e.invariant.keeps c.unstreamed.ensures.keeps;
    }

pub unstreamed-requires-clause-can : goal.unstreamed-requires-clause-can
unstreamed-requires-clause-can g c = all-at _ _ _ _ _ _ _ c.args.es.now c.loop-e.e-index c.e-item.result c.requires.can c.loop-e-test.true c.e-item.is
