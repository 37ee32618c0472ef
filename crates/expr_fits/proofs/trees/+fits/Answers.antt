use Rattle.std.proofs.Common.{◌+◌, max, drop, arith, ap, sym, ◌∙◌, subst}
use Rattle.sv_types.specs.Layouts.{layout, width_of}
use Rattle.sv_types.specs.Expressions.{meaning}
use Rattle.eval_parts.specs.Limits.{Fits, AllFit}
use Rattle.eval_parts.specs.Targets.{marks_of}
use Rattle.eval_forms.specs.Callees.{formals_in}
use Rattle.expr_fits.specs.Needs.{ChoiceIf, AllChoicesFit}
use Rattle.expr_fits.proofs.OwnTypes.{fits-own}
use Rattle.expr_fits.proofs.Choices as C
use Rattle.expr_fits.proofs.Walks as W
use Rattle.expr_fits.proofs.trees.+fits.Goals as goal

pub fits_alone-returns : goal.fits_alone-returns
fits_alone-returns t c = C.alone-fits c.fits.result c.args.e.now (formals_in c.args.functions.now) c.own.result c.own.ensures.value c.fits.ensures

pub fits-widest_compared-requires : goal.fits-widest_compared-requires
fits-widest_compared-requires t c = C.all-narrow c.own.result (formals_in c.args.functions.now) c.in-Inside.choices.now c.if-choices_fit.ensures

-- several expressions
pub each_fits-loop-e-preserved : goal.each_fits-loop-e-preserved
each_fits-loop-e-preserved t c =
    W.next (λ es. AllFit es (formals_in c.args.functions.now)) c.args.es.now c.loop-e.e-index c.e-item.result (omega arith) c.e-item.is (λ r. (c.if-not-fits_alone.ensures, r)) c.loop-e.invariant

pub each_fits-returns : goal.each_fits-returns
each_fits-returns t c = W.done (λ es. AllFit es (formals_in c.args.functions.now)) c.args.es.now c.loop-e.e-index (omega arith) tt c.loop-e.invariant

pub each_fits-fits_alone-requires : goal.each_fits-fits_alone-requires
each_fits-fits_alone-requires t c = let n = W.one-node c.args.es.now c.loop-e.e-index c.e-item.result (omega arith) c.e-item.is in omega (arith, c.decreases, n)

-- what is assigned to places
pub placed_fit-returns-in_default : goal.placed_fit-returns-in_default
placed_fit-returns-in_default t c = c.loop-i.invariant (W.places-end (marks_of c.args.places.now) (drop c.loop-i.i c.args.es.now) c.loop-i.i (formals_in c.args.functions.now) c.in_default.ensures)

pub placed_fit-loop-i-preserved : goal.placed_fit-loop-i-preserved
placed_fit-loop-i-preserved t c =
    let e = c.index-es-i.result in
    let of = c.in-Some.t.now in
    let fs = formals_in c.args.functions.now in
    let w = c.max.result in
    let f : Fits (meaning e) fs w = c.if-not-fits.ensures in
    let wide = c.max.ensures ∙ ap (λ n. max n c.own.result) c.width.ensures.bits ∙ ap (λ n. max (width_of of) n) (c.own.ensures.value ∙ fits-own e fs w f) in λ r.
    c.loop-i.invariant
    (W.place-step (marks_of c.args.places.now) c.args.es.now c.loop-i.i (layout of).two_state e fs (omega arith) c.index-es-i.is c.in-Some.ensures.0 (subst (λ n. Fits (meaning e) fs n) wide f) r)

pub placed_fit-fits-requires : goal.placed_fit-fits-requires
placed_fit-fits-requires t c = let n = W.one-node c.args.es.now c.loop-i.i c.index-es-i.result (omega arith) c.index-es-i.is in omega (arith, c.decreases, n)

pub placed_fit-returns : goal.placed_fit-returns
placed_fit-returns t c = c.loop-i.invariant (W.exprs-end (marks_of c.args.places.now) c.args.es.now c.loop-i.i (formals_in c.args.functions.now) (omega arith))

-- alternatives
pub choice_fits-returns-in-Value : goal.choice_fits-returns-in-Value
choice_fits-returns-in-Value t c =
    let fs = formals_in c.args.functions.now in
    subst (λ k. ChoiceIf c.fits.result c.args.bits fs k) (sym c.in-Value.is) (C.value-fits c.fits.result c.args.bits c.in-Value.v fs c.max.result (c.max.ensures ∙ ap (λ k. max c.args.bits k) c.own.ensures.value) c.fits.ensures)

pub side_fits-returns : goal.side_fits-returns
side_fits-returns t c =
    C.side-fits c.fits.result c.args.bits c.args.side.now (formals_in c.args.functions.now) c.max-wider.result (c.max-wider.ensures ∙ ap (λ k. max c.args.bits k) c.own.ensures.value) (c.if-not-is_word.ensures) c.fits.ensures

pub choices_fit-loop-choice-preserved : goal.choices_fit-loop-choice-preserved
choices_fit-loop-choice-preserved t c =
    W.next (AllChoicesFit c.args.bits (formals_in c.args.functions.now)) c.args.choices.now c.loop-choice.choice-index c.choice-item.result (omega arith) c.choice-item.is (λ r. (c.if-not-choice_fits.ensures, r)) c.loop-choice.invariant

pub choices_fit-returns : goal.choices_fit-returns
choices_fit-returns t c = W.done (AllChoicesFit c.args.bits (formals_in c.args.functions.now)) c.args.choices.now c.loop-choice.choice-index (omega arith) tt c.loop-choice.invariant

pub choices_fit-choice_fits-requires : goal.choices_fit-choice_fits-requires
choices_fit-choice_fits-requires t c = let n = W.one-choice c.args.choices.now c.loop-choice.choice-index c.choice-item.result (omega arith) c.choice-item.is in omega (arith, c.decreases, n)
