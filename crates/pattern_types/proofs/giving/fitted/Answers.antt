use Rattle.std.proofs.Common.{Err, ap, sym, ◌∙◌, subst}
use Rattle.std.proofs.lemmas.Result.{err_from_is_err_and}
use Rattle.expr_type.specs.Answers.{Gives, source}
use Rattle.pattern_types.specs.Meaning.{fitted_in, parts_in, pattern_of, tick_of}
use Rattle.pattern_types.specs.Reasons.{reason_of}
use Rattle.pattern_types.proofs.At.{halts-at, whole-at}
use Rattle.pattern_types.proofs.giving.fitted.Goals as goal

pub build_pattern-requires : goal.build_pattern-requires
build_pattern-requires c =
    let p = parts_in c.args.p in
    let k = source c.args.text in
    whole-at k (pattern_of k p) (tick_of p) c.args.at c.args.t.now (reason_of c.in_ok-look_at_pattern.field-0) c.in_ok-look_at_pattern.ensures c.in_ok-passes.ensures

pub returns-in_err-passes : goal.returns-in_err-passes
returns-in_err-passes c =
    let p = parts_in c.args.p in
    let k = source c.args.text in
    let e = err_from_is_err_and c.from_residual-in_err-passes.result c.from_residual-in_err-passes.ensures.1 in
    subst (λ r. Gives r (fitted_in k (pattern_of k p) c.args.at c.args.t.now)) (sym (e.1 ∙ ap Err e.2))
    (halts-at k (pattern_of k p) (tick_of p) c.args.at c.args.t.now (reason_of c.in_ok-look_at_pattern.field-0) c.in_err-passes.field-0.0 c.in_ok-look_at_pattern.ensures c.in_err-passes.ensures)
