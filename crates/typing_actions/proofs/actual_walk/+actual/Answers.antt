use Rattle.std.proofs.Common.{◌≡◌, ◌≤◌, suc, List, map, take, rules, sym, ◌∙◌, subst, true}
use Rattle.std.specs.Prelude.{Result}
use Rattle.sv_types.specs.declared.expression.Expr as T
use Rattle.expr_type.specs.declared.halt.Halt.{Halt}
use Rattle.expr_type.specs.Typings as Y
use Rattle.typing_steps.specs.Steps.{TypesTo}
use Rattle.typing_parts.proofs.Keeping.{extends-then}
use Rattle.typing_calls.proofs.Each.{all-types, turn-types}
use Rattle.typing_calls.specs.Lists.{listed}
use Rattle.typing_walks.specs.Written.{is_written}
use Rattle.typing_operators.specs.Children.{AllWritten, nodes, sum}
use Rattle.typing_actions.specs.Actuals.{are_targets, as_itself, is_target, part_of, parts_of, target_of}
use Rattle.typing_actions.specs.Forms.{IsConcatenation, IsName}
use Rattle.typing_actions.proofs.Counting.{all-themselves, narrow-listed, narrow-on, nodes-at, one-itself, target-at, written-at}
use Rattle.typing_actions.proofs.Forming.{concatenation-target, name-target, no-target, parts-type, there-by}
use Rattle.typing_actions.proofs.actual_walk.+actual.Goals as goal

pub parts-target-next-requires : goal.parts-target-next-requires
parts-target-next-requires g t c =
    let k = g.S.Names.context c.args.names.now in
    let es = c.args.items.now in
    let i = c.loop-item.item-index in
    let e = c.item-item.result in
    let less : nodes e ≤ sum (map nodes es) = nodes-at es i e c.loop-item-test.true c.item-item.is in
    let w : is_written e ≡ true = written-at es i e c.requires.written c.loop-item-test.true c.item-item.is in
    let f : is_target k e ≡ true = target-at k es i e c.requires.form c.loop-item-test.true c.item-item.is in
    let d = c.decreases in
    search rules

pub parts-loop-item-preserved : goal.parts-loop-item-preserved
parts-loop-item-preserved g t c =
    let k = g.S.Names.context c.args.names.now in
    let e = c.item-item.result in
    let hs = c.loop-item.known.functions in
    let gs = c.target-next.new.known.functions in
    let part = c.part_of.ensures.value k.source (target_of k e) hs gs c.target-next.ensures.value in
    record {
      made =
          turn-types as_itself (part_of k) c.args.items.now c.loop-item.item-index e c.args.known.now.functions hs gs c.loop-item.made c.part_of.result c.followed-made.result c.loop-item-test.true c.item-item.is
          c.followed-made.ensures c.loop-item.invariant.made (subst (λ (r : Result T.Expr Halt). TypesTo r (part_of k e hs) gs) (sym (one-itself c.part_of.result)) part);
      narrow = narrow-on c.loop-item.made c.part_of.result c.followed-made.result c.followed-made.ensures c.loop-item.invariant.narrow c.part_of.ensures.narrow;
      ready = c.target-next.ensures.ready;
      keeps = extends-then _ _ _ c.loop-item.invariant.keeps c.target-next.ensures.keeps;
    }

pub parts-returns-clause-value : goal.parts-returns-clause-value
parts-returns-clause-value g t c =
    let k = g.S.Names.context c.args.names.now in
    let es = c.args.items.now in
    let fs = c.args.known.now.functions in
    let gs = c.loop-item.known.functions in
    let made = subst (λ (r : Result (List T.Expr) Halt). TypesTo r (Y.all (map (part_of k) (take c.loop-item.item-index es)) fs) gs) (all-themselves c.loop-item.made) c.loop-item.invariant.made in
    subst (λ (r : Result (List T.Expr) Halt). TypesTo r (parts_of k es fs) gs) (sym c.all_made.ensures)
    (parts-type k es fs gs (listed c.loop-item.made) (all-types (part_of k) es c.loop-item.item-index fs gs (listed c.loop-item.made) c.loop-item-test.false made))

pub parts-returns-clause-narrow : goal.parts-returns-clause-narrow
parts-returns-clause-narrow g t c = narrow-listed c.loop-item.made c.all_made.result c.all_made.ensures c.loop-item.invariant.narrow

pub target-name_target-requires-clause-written : goal.target-name_target-requires-clause-written
target-name_target-requires-clause-written g t c =
    let form : IsName c.in-Name.of c.in-Name.selects.now c.args.e.now = c.in-Name.ensures in
    form.written c.requires.written

pub target-returns-in-Name-clause-value : goal.target-returns-in-Name-clause-value
target-returns-in-Name-clause-value g t c =
    let k = g.S.Names.context c.args.names.now in
    let form : IsName c.in-Name.of c.in-Name.selects.now c.args.e.now = c.in-Name.ensures in
    name-target k c.in-Name.of c.in-Name.selects.now c.args.e.now c.args.known.now.functions c.name_target.new.known.functions c.name_target.result form c.name_target.ensures.value

pub target-parts-found-requires : goal.target-parts-found-requires
target-parts-found-requires g t c =
    let k = g.S.Names.context c.args.names.now in
    let es = c.in-Concatenation.items.now in
    let form : IsConcatenation c.in-Concatenation.opening es c.args.e.now = c.in-Concatenation.ensures in
    let larger : nodes c.args.e.now ≡ suc (sum (map nodes es)) = form.larger in
    let w : AllWritten es = form.written c.requires.written in
    let f : are_targets k es ≡ true = sym (there-by k c.in-Concatenation.opening es c.args.e.now form) ∙ c.requires.form in
    let d = c.decreases in
    search rules

pub target-returns-in-Concatenation-clause-value : goal.target-returns-in-Concatenation-clause-value
target-returns-in-Concatenation-clause-value g t c =
    let k = g.S.Names.context c.args.names.now in
    let e = c.args.e.now in
    let es = c.in-Concatenation.items.now in
    let fs = c.args.known.now.functions in
    let gs = c.parts-found.new.known.functions in
    let form : IsConcatenation c.in-Concatenation.opening es e = c.in-Concatenation.ensures in
    let f : are_targets k es ≡ true = sym (there-by k c.in-Concatenation.opening es e form) ∙ c.requires.form in
    concatenation-target k c.in-Concatenation.opening es e fs gs c.joined.result form f (c.joined.ensures.value (parts_of k es) fs gs c.parts-found.ensures.value)

pub target-returns-in-Other-clause-value : goal.target-returns-in-Other-clause-value
target-returns-in-Other-clause-value g t c =
    let k = g.S.Names.context c.args.names.now in
    no-target k c.args.e.now c.args.known.now.functions c.in-Other.ensures
