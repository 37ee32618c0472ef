use Rattle.std.proofs.Common.{List, map, sym, ap, ◌∙◌, subst}
use Rattle.std.proofs.lemmas.Iterator.{YieldsList-from_slice, YieldsList-from_zip}
use Rattle.std.proofs.lemmas.Iterator.Adapters.{YieldsList-from_vec}
use Rattle.std.proofs.lemmas.Iterator.Consumers.{YieldsList-end}
use Rattle.sv_types.specs.declared.expression.Expr.{Expr}
use Rattle.expr_type.specs.Answers.{Gives, source}
use Rattle.expr_type.specs.Forms.{passed_to}
use Rattle.expr_type.specs.Typings.{Checked, all_of}
use Rattle.pattern_types.specs.Meaning.{operand_of}
use Rattle.typing_calls.proofs.Zipping.{all-pairs, one-more}
use Rattle.typing_calls.proofs.passing.passed_all.Goals as goal

pub loop-formal-preserved : goal.loop-formal-preserved
loop-formal-preserved c =
    let k = source c.args.text in
    one-more (λ p. passed_to k (p.0.now, operand_of k p.1)) c.loop-formal.yielded (c.in-Some.formal, c.in-Some.operand) c.loop-formal.made c.passed.result c.followed-made.result
    c.followed-made.ensures c.loop-formal.invariant c.passed.ensures

pub returns : goal.returns
returns c =
    let k = source c.args.text in
    let z = c.zip-formal-items.ensures in
    let it = c.into_iter-formal-iterator.ensures.into_iter_gives in
    let chain =
    YieldsList-from_zip {s = c.into_iter-formal-iterator.result}
    (YieldsList-from_slice {s = c.into_iter-formal-iterator.result.a} c.args.formals.now (ap (λ s. s.a.rest.now) it ∙ ap (λ s. s.rest.now) z.first ∙ c.iter.ensures.rest))
    (YieldsList-from_vec {s = c.into_iter-formal-iterator.result.b} c.args.operands.items (ap (λ s. s.b.rest.items) it ∙ z.second.0) (ap (λ s. s.b.rest.len) it ∙ z.second.1 ∙ c.args.operands.ok.0)) in
    let e = YieldsList-end chain c.loop-formal.yielded c.loop-formal.formal-iterator c.loop-formal.yielded_by c.next.result c.next.new.self c.in-None.is c.next.ensures.steps in
    subst (λ (cs : List (Checked Expr)). Gives c.all_made.result (all_of cs))
    (all-pairs (λ p. p.0.now) (λ p. p.1) (operand_of k) (passed_to k) c.loop-formal.yielded c.args.formals.now c.args.operands.items e.0)
    (subst (λ r. Gives r (all_of (map (λ p. passed_to k (p.0.now, operand_of k p.1)) c.loop-formal.yielded))) (sym c.all_made.ensures) c.loop-formal.invariant)
