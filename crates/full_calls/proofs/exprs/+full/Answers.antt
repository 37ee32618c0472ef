use Rattle.std.proofs.Common.{◌≡◌, true, List, length, refl, arith, rules, subst}
use Rattle.std.specs.Prelude.{nat_le}
use Rattle.std.specs.Cmp.Derive.{both_true}
use Rattle.sv_types.specs.declared.expression.Expr.{Expr}
use Rattle.sv_types.specs.declared.expression.Choice.{Choice}
use Rattle.eval_forms.specs.Callees.{formals_in}
use Rattle.expr_flows.specs.Full.{is_full, all_full}
use Rattle.expr_fits.proofs.Walks as W
use Rattle.full_calls.specs.Full.{FullIf, choices_full}
use Rattle.full_calls.proofs.Parts as P
use Rattle.full_calls.proofs.exprs.+full.Goals as goal

pub is_full-returns-in-Concat : goal.is_full-returns-in-Concat
is_full-returns-in-Concat t c =
    let fs = formals_in c.args.functions.now in
    P.by-Concat c.are_full.result fs c.args.e.now c.in-Concat.es c.in-Concat.is (subst (λ xs. FullIf c.are_full.result (all_full fs xs)) c.as_slice.ensures c.are_full.ensures)

pub is_full-returns-in-Repeat : goal.is_full-returns-in-Repeat
is_full-returns-in-Repeat t c =
    let fs = formals_in c.args.functions.now in
    P.by-Repeat c.are_full-in-Repeat.result fs c.args.e.now c.in-Repeat.field-0 c.in-Repeat.es c.in-Repeat.is (subst (λ xs. FullIf c.are_full-in-Repeat.result (all_full fs xs)) c.as_slice-in-Repeat.ensures c.are_full-in-Repeat.ensures)

pub is_full-returns-in-Pattern : goal.is_full-returns-in-Pattern
is_full-returns-in-Pattern t c =
    let fs = formals_in c.args.functions.now in
    P.by-Pattern c.are_full-in-Pattern.result fs c.args.e.now c.in-Pattern.es c.in-Pattern.is (subst (λ xs. FullIf c.are_full-in-Pattern.result (all_full fs xs)) c.as_slice-in-Pattern.ensures c.are_full-in-Pattern.ensures)

pub is_full-returns-in-Stream : goal.is_full-returns-in-Stream
is_full-returns-in-Stream t c =
    let fs = formals_in c.args.functions.now in
    P.by-Stream c.are_full-in-Stream.result fs c.args.e.now c.in-Stream.reversed c.in-Stream.slice c.in-Stream.es c.in-Stream.is
    (subst (λ xs. FullIf c.are_full-in-Stream.result (all_full fs xs)) c.as_slice-in-Stream.ensures c.are_full-in-Stream.ensures)

pub is_full-returns-then-is_full-12 : goal.is_full-returns-then-is_full-12
is_full-returns-then-is_full-12 t c =
    let fs = formals_in c.args.functions.now in
    let first : is_full fs c.in-Inside.x ≡ true = subst (λ (y : Expr). is_full fs y ≡ true) c.get-in-Inside.ensures (c.if-is_full-12.ensures) in
    P.by-Inside c.are_choices_full.result fs c.args.e.now c.in-Inside.x c.in-Inside.choices c.in-Inside.is first
    (subst (λ (xs : List Choice). FullIf c.are_choices_full.result (choices_full fs xs)) c.as_slice-then-is_full-12.ensures c.are_choices_full.ensures)

pub is_full-returns-then-has_formals : goal.is_full-returns-then-has_formals
is_full-returns-then-has_formals t c =
    let fs = formals_in c.args.functions.now in
    let enough : nat_le (length c.in-Call.es) (length (fs c.in-Call.f)) ≡ true = search rules in
    P.by-Call c.are_full-then-has_formals.result fs c.args.e.now c.in-Call.f c.in-Call.es c.in-Call.is enough
    (subst (λ xs. FullIf c.are_full-then-has_formals.result (all_full fs xs)) c.as_slice-then-has_formals.ensures c.are_full-then-has_formals.ensures)

pub are_full-loop-e-preserved : goal.are_full-loop-e-preserved
are_full-loop-e-preserved t c = W.next (λ xs. all_full (formals_in c.args.functions.now) xs ≡ true) c.args.es.now c.loop-e.e-index c.e-item.result (omega arith) c.e-item.is (λ r. both_true (c.if-not-is_full.ensures) r) c.loop-e.invariant

pub are_full-returns : goal.are_full-returns
are_full-returns t c = W.done (λ xs. all_full (formals_in c.args.functions.now) xs ≡ true) c.args.es.now c.loop-e.e-index (omega arith) refl c.loop-e.invariant

pub are_choices_full-loop-choice-preserved : goal.are_choices_full-loop-choice-preserved
are_choices_full-loop-choice-preserved t c = W.next (λ xs. choices_full (formals_in c.args.functions.now) xs ≡ true) c.args.choices.now c.loop-choice.choice-index c.choice-item.result (omega arith) c.choice-item.is (λ r. both_true (c.if-not-is_choice_full.ensures) r) c.loop-choice.invariant

pub are_choices_full-returns : goal.are_choices_full-returns
are_choices_full-returns t c = W.done (λ xs. choices_full (formals_in c.args.functions.now) xs ≡ true) c.args.choices.now c.loop-choice.choice-index (omega arith) refl c.loop-choice.invariant
