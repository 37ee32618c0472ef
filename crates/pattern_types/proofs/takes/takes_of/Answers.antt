use Rattle.std.proofs.Common.{Err, ap, sym, ◌∙◌, subst}
use Rattle.std.proofs.lemmas.Result.{err_from_is_err_and}
use Rattle.expr_type.specs.Answers.{source}
use Rattle.pattern_types.specs.Meaning.{parts_in}
use Rattle.pattern_types.specs.Reasons.{reason_of}
use Rattle.pattern_types.specs.Takes.{TakesGive}
use Rattle.pattern_types.proofs.Taking.{beyond-halts, covers-give, keys-halt, keys-short, never-covers}
use Rattle.pattern_types.proofs.takes.takes_of.Goals as goal

pub returns-in_err-passes : goal.returns-in_err-passes
returns-in_err-passes c =
    let k = source c.args.text in
    let p = parts_in c.args.p in
    let e = err_from_is_err_and c.from_residual.result c.from_residual.ensures.1 in
    subst (λ r. TakesGive k p c.args.t.now r) (sym (e.1 ∙ ap Err e.2))
    (keys-halt k p c.args.t.now c.in_err-passes.field-0.0 c.has_members-members.result (reason_of c.look_at_keys.result) c.has_members-members.ensures c.look_at_keys.ensures c.in_err-passes.ensures)

pub returns-then-not-may_cover : goal.returns-then-not-may_cover
returns-then-not-may_cover c =
    never-covers (source c.args.text) (parts_in c.args.p) c.args.t.now c.has_members-members.result (reason_of c.look_at_keys.result) c.may_cover.result c.unfit.result c.has_members-members.ensures c.look_at_keys.ensures
    c.in_ok-passes.ensures c.may_cover.ensures c.if-not-may_cover.true c.unfit.ensures

pub returns-then-is_beyond : goal.returns-then-is_beyond
returns-then-is_beyond c =
    beyond-halts (source c.args.text) (parts_in c.args.p) c.args.t.now c.has_members-members.result (reason_of c.look_at_keys.result) c.may_cover.result c.unfit-then-is_beyond.result c.has_members-members.ensures c.look_at_keys.ensures
    c.in_ok-passes.ensures c.may_cover.ensures c.if-not-may_cover.false c.is_beyond.ensures.bounds (c.is_beyond.ensures.far c.if-is_beyond.true) c.unfit-then-is_beyond.ensures

pub fit-takes-requires : goal.fit-takes-requires
fit-takes-requires c = keys-short (source c.args.text) c.args.p.times c.has_members-members.result _ c.in_ok-pattern.pattern.keys c.in_ok-pattern.ensures.keys (c.is_short.ensures c.if-not-is_short.false)

pub returns : goal.returns
returns c =
    covers-give (source c.args.text) (parts_in c.args.p) c.args.t.now c.has_members-members.result (reason_of c.look_at_keys.result) c.may_cover.result c.in_ok-pattern.pattern c.default_place-default.result c.keyed_count.result
    c.fit-takes.result c.taking_of.result c.has_members-members.ensures c.look_at_keys.ensures c.in_ok-passes.ensures c.may_cover.ensures c.if-not-may_cover.false c.in_ok-pattern.ensures.keys c.in_ok-pattern.ensures.rest
    c.default_place-default.ensures c.keyed_count.ensures c.fit-takes.ensures c.taking_of.ensures
