use Rattle.std.proofs.Common.{List, map, sym, ap, ◌∙◌, subst}
use Rattle.std.proofs.lemmas.Iterator.{YieldsList-from_slice, YieldsList-from_zip}
use Rattle.std.proofs.lemmas.Iterator.Adapters.{YieldsList-from_vec}
use Rattle.std.proofs.lemmas.Iterator.Consumers.{YieldsList-end}
use Rattle.sv_types.specs.declared.expression.Expr.{Expr}
use Rattle.expr_type.specs.Answers.{Gives}
use Rattle.expr_type.specs.Typings.{Checked, all_of}
use Rattle.typing_calls.proofs.Zipping.{all-pairs, one-more}
use Rattle.typing_actions.specs.Calls.{actual_of, pair_expr}
use Rattle.typing_actions.proofs.passing.all_actuals.Goals as goal

pub loop-formal-preserved : goal.loop-formal-preserved
loop-formal-preserved c =
    λ k s. one-more (λ p. pair_expr k (p.0.now, actual_of k.source p.1)) c.loop-formal.yielded (c.in-Some.formal, c.in-Some.actual) c.loop-formal.made c.actual_expr.result c.followed-made.result
    c.followed-made.ensures (c.loop-formal.invariant k s) (c.actual_expr.ensures k s)

pub returns : goal.returns
returns c =
    let z = c.zip-formal-items.ensures in
    let it = c.into_iter-formal-iterator.ensures.into_iter_gives in
    let chain =
    YieldsList-from_zip {s = c.into_iter-formal-iterator.result}
    (YieldsList-from_slice {s = c.into_iter-formal-iterator.result.a} c.args.formals.now (ap (λ s. s.a.rest.now) it ∙ ap (λ s. s.rest.now) z.first ∙ c.iter.ensures.rest))
    (YieldsList-from_vec {s = c.into_iter-formal-iterator.result.b} c.args.actuals.items (ap (λ s. s.b.rest.items) it ∙ z.second.0) (ap (λ s. s.b.rest.len) it ∙ z.second.1 ∙ c.args.actuals.ok.0)) in
    let e = YieldsList-end chain c.loop-formal.yielded c.loop-formal.formal-iterator c.loop-formal.yielded_by c.next.result c.next.new.self c.in-None.is c.next.ensures.steps in
    λ k s. subst (λ (cs : List (Checked Expr)). Gives c.all_made.result (all_of cs))
    (all-pairs (λ p. p.0.now) (λ p. p.1) (actual_of k.source) (pair_expr k) c.loop-formal.yielded c.args.formals.now c.args.actuals.items e.0)
    (subst (λ r. Gives r (all_of (map (λ p. pair_expr k (p.0.now, actual_of k.source p.1)) c.loop-formal.yielded))) (sym c.all_made.ensures) (c.loop-formal.invariant k s))
