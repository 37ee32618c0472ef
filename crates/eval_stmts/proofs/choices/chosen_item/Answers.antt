use Rattle.std.proofs.Common.{◌+◌, ◌<◌, ◌∷◌, map, drop, length, Some, Err, arith, ap, sym, ◌∙◌, subst}
use Rattle.std.specs.List.{list_any}
use Rattle.std.proofs.lemmas.Result.{err_from_is_err_and}
use Rattle.std.proofs.lemmas.Option.{slice_get-get_or}
use Rattle.std.proofs.Math.ListN.{drop_of_length-le}
use Rattle.sv_types.specs.Expressions.{meaning}
use Rattle.sv_types.specs.Runs.{matches, widest_of}
use Rattle.sv_types.specs.Efforts.{tried}
use Rattle.sv_types.specs.Statements.{doing}
use Rattle.eval_parts.specs.Answers.{Halts}
use Rattle.eval_parts.specs.Surroundings.{running}
use Rattle.eval_exprs.specs.Held.{formals}
use Rattle.eval_exprs.proofs.Turns.{at-front}
use Rattle.eval_stmts.specs.Environments.{standing}
use Rattle.eval_stmts.specs.Stepping.{Resumes, step_of}
use Rattle.eval_stmts.specs.Targets.{ChoiceGives, ItemsFitWide, body_or_nothing, selector_of, select_step, values_of}
use Rattle.eval_stmts.specs.declared.selectors.Selector.{Selector}
use Rattle.eval_stmts.proofs.Chains as C
use Rattle.eval_stmts.proofs.Branches as B
use Rattle.eval_stmts.proofs.Choosing as X
use Rattle.eval_stmts.proofs.choices.chosen_item.Goals as goal

pub widest_value-width-requires : goal.widest_value-width-requires
widest_value-width-requires g c = X.items-narrow c.args.items.now (formals c.args.scope) (widest_of (meaning c.args.on.now ∷ values_of c.args.items.now)) c.requires.fits.values

pub returns-in_err-is_matched : goal.returns-in_err-is_matched
returns-in_err-is_matched g c =
    let p = err_from_is_err_and c.from_residual-in_err-is_matched.result c.from_residual-in_err-is_matched.ensures.1 in
    let sc = c.args.scope in
    let h = c.in_err-is_matched.field-0.0 in
    let items = c.args.items.now in
    let cur = c.loop-k.env in
    let x = c.index-items-k.result in
    let rest = drop (c.loop-k.k + 1) items in
    let here = at-front items c.loop-k.k x (omega arith) c.index-items-k.is in
    let sel : Selector = record { kind = c.args.kind; width = c.widest_value-width.result; signed = c.if-own_sign.signed; value = c.in_ok-value.value } in
    let on = selector_of sel in
    subst (λ r. ChoiceGives r sc c.args.kind c.args.on.now items c.args.env.now c.is_matched.new.env) (sym (p.1 ∙ ap Err p.2))
    (λ other.
    let all = select_step c.args.kind (meaning c.args.on.now) items other in
    C.resumed (Err h) sc (X.item_step on x rest other) all c.args.env.now cur c.is_matched.new.env
    (subst (λ is. Resumes sc (X.first_step on is other) all c.args.env.now cur) here (c.loop-k.invariant.left other))
    (B.test-stops sc (λ e. list_any (matches on e) (map meaning x.values)) (λ e t. tried on (map meaning x.values) e t) (step_of (doing x.body)) (X.first_step on rest other) cur h
    (subst (λ es. Halts h (tried on (map meaning es) (standing sc cur) (running cur.budget))) c.as_slice.ensures c.in_err-is_matched.ensures.gives)))

pub returns-then-branch : goal.returns-then-branch
returns-then-branch g c =
    let sc = c.args.scope in
    let items = c.args.items.now in
    let cur = c.loop-k.env in
    let new = c.is_matched.new.env in
    let k = c.loop-k.k in
    let x = c.index-items-k.result in
    let rest = drop (k + 1) items in
    let below : k < length items = omega arith in
    let here = at-front items k x below c.index-items-k.is in
    let sel : Selector = record { kind = c.args.kind; width = c.widest_value-width.result; signed = c.if-own_sign.signed; value = c.in_ok-value.value } in
    let on = selector_of sel in
    let gives = c.in_ok-is_matched.ensures.gives in
    record {
      item = below;
      left = λ other.
          let all = select_step c.args.kind (meaning c.args.on.now) items other in
          subst (λ o. Resumes sc (body_or_nothing o) all c.args.env.now new) (ap Some (c.index-items-k.is) ∙ sym (slice_get-get_or items k x below))
          (C.onto sc (step_of (doing x.body)) (X.item_step on x rest other) all c.args.env.now cur new
          (subst (λ is. Resumes sc (X.first_step on is other) all c.args.env.now cur) here (c.loop-k.invariant.left other))
          (B.tested-true sc (λ e. list_any (matches on e) (map meaning x.values)) (λ e t. tried on (map meaning x.values) e t) c.in_ok-is_matched.field-0 (step_of (doing x.body)) (X.first_step on rest other) cur new c.in_ok-is_matched.ensures.same
          (gives.0 ∙ ap (λ es. list_any (matches on (standing sc cur)) (map meaning es)) c.as_slice.ensures) (ap (λ es. tried on (map meaning es) (standing sc cur) (running cur.budget)) (sym c.as_slice.ensures) ∙ gives.1) c.if-branch.true));
    }

pub loop-k-preserved : goal.loop-k-preserved
loop-k-preserved g c =
    let sc = c.args.scope in
    let items = c.args.items.now in
    let cur = c.loop-k.env in
    let new = c.is_matched.new.env in
    let k = c.loop-k.k in
    let x = c.index-items-k.result in
    let rest = drop (k + 1) items in
    let below : k < length items = omega arith in
    let here = at-front items k x below c.index-items-k.is in
    let sel : Selector = record { kind = c.args.kind; width = c.widest_value-width.result; signed = c.if-own_sign.signed; value = c.in_ok-value.value } in
    let on = selector_of sel in
    let gives = c.in_ok-is_matched.ensures.gives in
    record {
      fits = (subst (λ is. ItemsFitWide is (formals sc) c.widest_value-width.result) here c.loop-k.invariant.fits).1;
      left = λ other.
          let all = select_step c.args.kind (meaning c.args.on.now) items other in
          C.onto sc (X.first_step on rest other) (X.item_step on x rest other) all c.args.env.now cur new
          (subst (λ is. Resumes sc (X.first_step on is other) all c.args.env.now cur) here (c.loop-k.invariant.left other))
          (B.tested-false sc (λ e. list_any (matches on e) (map meaning x.values)) (λ e t. tried on (map meaning x.values) e t) c.in_ok-is_matched.field-0 (step_of (doing x.body)) (X.first_step on rest other) cur new c.in_ok-is_matched.ensures.same
          (gives.0 ∙ ap (λ es. list_any (matches on (standing sc cur)) (map meaning es)) c.as_slice.ensures) (ap (λ es. tried on (map meaning es) (standing sc cur) (running cur.budget)) (sym c.as_slice.ensures) ∙ gives.1) c.if-branch.false);
    }

pub returns : goal.returns
returns g c =
    let sc = c.args.scope in
    let items = c.args.items.now in
    let sel : Selector = record { kind = c.args.kind; width = c.widest_value-width.result; signed = c.if-own_sign.signed; value = c.in_ok-value.value } in
    record {
      item = tt;
      left = λ other. subst (λ is. Resumes sc (X.first_step (selector_of sel) is other) (select_step c.args.kind (meaning c.args.on.now) items other) c.args.env.now c.loop-k.env) (drop_of_length-le items (omega arith)) (c.loop-k.invariant.left other);
    }
