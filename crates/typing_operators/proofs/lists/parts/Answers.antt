use Rattle.std.proofs.Common.{List, ap, sym, ◌∙◌, subst}
use Rattle.std.specs.Prelude.{Result, Err}
use Rattle.std.proofs.lemmas.Result.{err_from_is_err_and}
use Rattle.sv_types.specs.declared.expression.Expr as T
use Rattle.expr_type.specs.declared.halt.Halt.{Halt}
use Rattle.typing_steps.specs.Steps.{TypesTo}
use Rattle.typing_parts.proofs.Keeping.{extends-then}
use Rattle.typing_rows.specs.Rows.{so_far}
use Rattle.typing_rows.proofs.Walking.{turn, turn-ends, walked}
use Rattle.typing_values.proofs.Children.{all-at}
use Rattle.typing_operators.specs.Lists.{part_expr, parts_of}
use Rattle.typing_operators.proofs.Narrow.{narrow-more}
use Rattle.typing_operators.proofs.Rows.{parts-type}
use Rattle.typing_operators.proofs.lists.parts.Goals as goal

pub part_expr-requires-clause-can : goal.part_expr-requires-clause-can
part_expr-requires-clause-can g c = all-at _ _ _ _ _ _ _ c.args.es.now c.loop-e.e-index c.e-item.result c.requires.can c.loop-e-test.true c.e-item.is

pub returns-in_err-whole-clause-value : goal.returns-in_err-whole-clause-value
returns-in_err-whole-clause-value g c =
    let k = g.S.Names.context c.args.names.now in
    let es = c.args.es.now in
    let fs = c.args.known.now.functions in
    let hs = c.part_expr.new.known.functions in
    let e = err_from_is_err_and c.from_residual.result c.from_residual.ensures.1 in
    subst (λ (r : Result (List T.Expr) Halt). TypesTo r (parts_of k es fs) hs) (sym (e.1 ∙ ap Err e.2))
    (parts-type k es fs hs (Err c.in_err-whole.field-0.0)
    (turn-ends (part_expr k) es c.loop-e.e-index c.e-item.result c.loop-e.whole c.loop-e.made c.add.new.made c.part_expr.result c.in_err-whole.field-0.0 fs c.loop-e.known.functions hs hs c.loop-e-test.true c.e-item.is
    c.in_err-whole.ensures c.loop-e.invariant.typed c.part_expr.ensures.value))

pub loop-e-preserved : goal.loop-e-preserved
loop-e-preserved g c =
    let k = g.S.Names.context c.args.names.now in
    record {
      typed =
          turn (part_expr k) c.args.es.now c.loop-e.e-index c.e-item.result c.loop-e.whole c.in_ok-whole.whole c.loop-e.made c.add.new.made c.part_expr.result c.args.known.now.functions c.loop-e.known.functions
          c.part_expr.new.known.functions c.loop-e-test.true c.e-item.is c.in_ok-whole.ensures c.loop-e.invariant.typed c.part_expr.ensures.value;
      ready = c.part_expr.ensures.ready;
      keeps = extends-then _ _ _ c.loop-e.invariant.keeps c.part_expr.ensures.keeps;
      narrow = narrow-more c.loop-e.made c.add.new.made c.loop-e.whole c.in_ok-whole.whole c.part_expr.result c.in_ok-whole.ensures c.loop-e.invariant.narrow c.part_expr.ensures.narrow;
    }

pub returns-clause-value : goal.returns-clause-value
returns-clause-value g c =
    let k = g.S.Names.context c.args.names.now in
    let es = c.args.es.now in
    let fs = c.args.known.now.functions in
    let gs = c.loop-e.known.functions in
    let made = so_far c.loop-e.whole c.loop-e.made in
    subst (λ (r : Result (List T.Expr) Halt). TypesTo r (parts_of k es fs) gs) (sym c.all_whole.ensures)
    (parts-type k es fs gs made (walked (part_expr k) es c.loop-e.e-index made fs gs c.loop-e-test.false c.loop-e.invariant.typed))
