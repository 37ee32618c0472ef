use Rattle.std.proofs.Common.{◌++◌, map, drop, ◌≡◌, ◌+◌, Err, refl, arith, rules, ap, sym, ◌∙◌, subst}
use Rattle.std.proofs.lemmas.Result.{err_from_is_err_and}
use Rattle.sv_types.specs.Meanings.{wide}
use Rattle.sv_types.specs.Expressions.{meaning}
use Rattle.sv_types.specs.Layouts.{layout}
use Rattle.sv_types.specs.Windows.{whole, between}
use Rattle.eval_parts.specs.declared.paths.Root.TheVariants as R
use Rattle.eval_parts.specs.Answers.{Gives}
use Rattle.eval_parts.specs.Surroundings.{running}
use Rattle.eval_forms.specs.Asked.{asked, Operands, Combines, AllFitAsked, all_bits, values_asked}
use Rattle.eval_forms.specs.Repeats.{OnlyFirstAgain}
use Rattle.eval_forms.proofs.AskedLaws.{AllFewer}
use Rattle.eval_parts.specs.Limits.{Fits}
use Rattle.eval_parts.specs.PathForms.{StepsOn}
use Rattle.eval_parts.specs.Places.{FindGives}
use Rattle.eval_parts.proofs.Nodes as N
use Rattle.eval_parts.proofs.Lists.{own-narrow}
use Rattle.eval_parts.proofs.PathLimits as L
use Rattle.eval_parts.proofs.PathLaws as W
use Rattle.eval_parts.proofs.Selecting as S
use Rattle.eval_parts.proofs.TypeKinds.{wide-is}
use Rattle.eval_exprs.specs.Held.{around, formals}
use Rattle.eval_exprs.specs.Calls.{CallOperands}
use Rattle.eval_exprs.proofs.Operators as O
use Rattle.eval_exprs.proofs.Paths as P
use Rattle.eval_exprs.proofs.Turns as T
use Rattle.eval_exprs.proofs.evaluate.+evaluate.Goals as goal

pub bits-returns-then-not-can_be_read : goal.bits-returns-then-not-can_be_read
bits-returns-then-not-can_be_read g t c =
    S.read-unheld c.args.e.now c.in-Some.step c.args.width c.args.signed (around c.args.held) c.args.budget.now c.args.budget.now c.in-Some.ensures.step (sym c.if-not-can_be_read.ensures)

pub bits-follow-requires : goal.bits-follow-requires
bits-follow-requires g t c = λ κs inside. (omega (arith, c.decreases), (inside, (c.requires.calls, (c.in-Some.ensures.step, L.path-fits c.args.e.now c.in-Some.step (formals c.args.held.scope) c.args.width c.in-Some.ensures.step c.requires.fits))))

pub bits-returns-in_err-found-in-Some : goal.bits-returns-in_err-found-in-Some
bits-returns-in_err-found-in-Some g t c =
    let p = err_from_is_err_and c.from_residual.result c.from_residual.ensures.1 in
    let h = c.in_err-found-in-Some.field-0.0 in
    subst (λ r. Gives r (meaning c.args.e.now) c.args.width c.args.signed (around c.args.held) c.args.budget.now c.follow.new.budget) (sym (p.1 ∙ ap Err p.2))
    (S.read-halts h c.args.e.now c.in-Some.step c.args.width c.args.signed (around c.args.held) c.args.budget.now c.follow.new.budget c.in-Some.ensures.step (sym c.if-not-can_be_read.ensures) c.in_err-found-in-Some.ensures)

pub bits-returns-in_ok-read_path-in-Some : goal.bits-returns-in_ok-read_path-in-Some
bits-returns-in_ok-read_path-in-Some g t c =
    P.path-done c.args.held c.args.e.now c.in-Some.step c.in_ok-found-in-Some.found c.in_ok-read_path-in-Some.field-0 c.args.width c.args.signed c.args.budget.now c.follow.new.budget c.in-Some.ensures.step
    (sym c.if-not-can_be_read.ensures) c.in_ok-found-in-Some.ensures c.in_ok-read_path-in-Some.ensures

-- members
pub follow-find-found-requires : goal.follow-find-found-requires
follow-find-found-requires g t c =
    let e = c.args.e.now in
    let is = rw c.in-Member.is at c.requires.step in
    λ κs inside. (omega (arith, c.decreases, N.nodes-Member e c.in-Member.from.now c.in-Member.k is), (inside, (c.requires.calls, L.member-fits e c.in-Member.from.now c.in-Member.k (formals c.args.held.scope) (wide (meaning e)) is c.requires.fits)))

pub follow-member_form-requires-clause-narrow : goal.follow-member_form-requires-clause-narrow
follow-member_form-requires-clause-narrow g t c =
    let e = c.args.e.now in
    let x = c.in-Member.from.now in
    let is = rw c.in-Member.is at c.requires.step in
    own-narrow x (formals c.args.held.scope) (wide (meaning x)) (L.member-fits e x c.in-Member.k (formals c.args.held.scope) (wide (meaning e)) is c.requires.fits)

pub follow-returns-in-Member : goal.follow-returns-in-Member
follow-returns-in-Member g t c =
    let is = rw c.in-Member.is at c.requires.step in
    W.member-law c.find-found.result c.member_form.result c.args.e.now c.in-Member.from.now c.in-Member.k (around c.args.held) c.args.budget.now c.find-found.new.budget is c.find-found.ensures c.member_form.ensures

-- parts
pub follow-find-found-requires-in-Part : goal.follow-find-found-requires-in-Part
follow-find-found-requires-in-Part g t c =
    let e = c.args.e.now in
    let x = c.in-Part.from.now in
    let is = rw c.in-Part.is at c.requires.step in
    λ κs inside. (omega (arith, c.decreases, N.nodes-Part e x c.in-Part.left c.in-Part.right is), (inside, (c.requires.calls, L.part-fits e x c.in-Part.left c.in-Part.right (formals c.args.held.scope) (wide (meaning e)) is c.requires.fits)))

pub follow-part_form-requires-clause-narrow : goal.follow-part_form-requires-clause-narrow
follow-part_form-requires-clause-narrow g t c =
    let e = c.args.e.now in
    let x = c.in-Part.from.now in
    let is = rw c.in-Part.is at c.requires.step in
    own-narrow x (formals c.args.held.scope) (wide (meaning x)) (L.part-fits e x c.in-Part.left c.in-Part.right (formals c.args.held.scope) (wide (meaning e)) is c.requires.fits)

pub follow-returns-in-Part : goal.follow-returns-in-Part
follow-returns-in-Part g t c =
    let is = rw c.in-Part.is at c.requires.step in
    let s : StepsOn c.find-found-in-Part.result (between (layout c.in-Part.from.now.of) c.in-Part.left c.in-Part.right) c.part_form.result = search rules in
    W.part-law c.find-found-in-Part.result c.part_form.result c.args.e.now c.in-Part.from.now c.in-Part.left c.in-Part.right (around c.args.held) c.args.budget.now c.find-found-in-Part.new.budget is c.find-found-in-Part.ensures s

-- elements
pub follow-find-requires : goal.follow-find-requires
follow-find-requires g t c =
    let e = c.args.e.now in
    let x = c.in-Index.from.now in
    let y = c.in-Index.i.now in
    let is = rw c.in-Index.is at c.requires.step in
    λ κs inside. (omega (arith, c.decreases, N.nodes-Index e x y is), (inside, (c.requires.calls, L.index-fits-x e x y (formals c.args.held.scope) (wide (meaning e)) is c.requires.fits)))

pub follow-returns-in_err-found-in-Index : goal.follow-returns-in_err-found-in-Index
follow-returns-in_err-found-in-Index g t c =
    let is = rw c.in-Index.is at c.requires.step in
    let p = err_from_is_err_and c.from_residual.result c.from_residual.ensures.1 in
    subst (λ r. FindGives r (meaning c.args.e.now) (around c.args.held) c.args.budget.now c.find.new.budget) (sym (p.1 ∙ ap Err p.2))
    (S.index-halts-x c.in_err-found-in-Index.field-0.0 c.args.e.now c.in-Index.from.now c.in-Index.i.now (around c.args.held) c.args.budget.now c.find.new.budget is c.in_err-found-in-Index.ensures)

pub follow-own_width-requires-in-Index : goal.follow-own_width-requires-in-Index
follow-own_width-requires-in-Index g t c =
    let e = c.args.e.now in
    let is = rw c.in-Index.is at c.requires.step in
    (L.index-fits-y e c.in-Index.from.now c.in-Index.i.now (formals c.args.held.scope) (wide (meaning e)) is c.requires.fits).narrow

pub follow-bits-index-requires : goal.follow-bits-index-requires
follow-bits-index-requires g t c =
    let e = c.args.e.now in
    let x = c.in-Index.from.now in
    let y = c.in-Index.i.now in
    let is = rw c.in-Index.is at c.requires.step in λ κs inside. (
      omega (arith, c.decreases, N.nodes-Index e x y is),
      (inside, (c.requires.calls, subst (λ n. Fits (meaning y) (formals c.args.held.scope) n) (sym c.own_width-in-Index.ensures) (L.index-fits-y e x y (formals c.args.held.scope) (wide (meaning e)) is c.requires.fits))),
    )

pub follow-index_form-requires-clause-narrow : goal.follow-index_form-requires-clause-narrow
follow-index_form-requires-clause-narrow g t c =
    let e = c.args.e.now in
    let x = c.in-Index.from.now in
    let is = rw c.in-Index.is at c.requires.step in
    own-narrow x (formals c.args.held.scope) (wide (meaning x)) (L.index-fits-x e x c.in-Index.i.now (formals c.args.held.scope) (wide (meaning e)) is c.requires.fits)

pub follow-index_form-requires-clause-short : goal.follow-index_form-requires-clause-short
follow-index_form-requires-clause-short g t c =
    let e = c.args.e.now in
    let y = c.in-Index.i.now in
    let is = rw c.in-Index.is at c.requires.step in
    P.short-answer c.bits-index.result y c.own_width-in-Index.result c.own_sign-signed.result (around c.args.held) c.find.new.budget c.bits-index.new.budget
    (omega (arith, c.own_width-in-Index.ensures, L.index-short e c.in-Index.from.now y (formals c.args.held.scope) (wide (meaning e)) is c.requires.fits)) c.bits-index.ensures

pub follow-returns-in_ok-found-in-Index : goal.follow-returns-in_ok-found-in-Index
follow-returns-in_ok-found-in-Index g t c =
    let y = c.in-Index.i.now in
    let is = rw c.in-Index.is at c.requires.step in
    W.index-law c.in_ok-found-in-Index.found c.bits-index.result c.index_form.result c.args.e.now c.in-Index.from.now y c.own_sign-signed.result (around c.args.held) c.args.budget.now c.find.new.budget c.bits-index.new.budget is
    c.in_ok-found-in-Index.ensures
    (P.own-gives c.bits-index.result y c.own_width-in-Index.result c.own_sign-signed.result (around c.args.held) c.find.new.budget c.bits-index.new.budget c.own_width-in-Index.ensures c.own_sign-signed.ensures c.bits-index.ensures)
    c.own_sign-signed.ensures c.index_form.ensures

-- indexed part-selects
pub follow-find-requires-in-Slide : goal.follow-find-requires-in-Slide
follow-find-requires-in-Slide g t c =
    let e = c.args.e.now in
    let x = c.in-Slide.from.now in
    let y = c.in-Slide.base.now in
    let is = rw c.in-Slide.is at c.requires.step in
    λ κs inside. (omega (arith, c.decreases, N.nodes-Slide e x y c.in-Slide.width c.in-Slide.up is), (inside, (c.requires.calls, L.slide-fits-x e x y c.in-Slide.width c.in-Slide.up (formals c.args.held.scope) (wide (meaning e)) is c.requires.fits)))

pub follow-returns-in_err-found-in-Slide : goal.follow-returns-in_err-found-in-Slide
follow-returns-in_err-found-in-Slide g t c =
    let is = rw c.in-Slide.is at c.requires.step in
    let p = err_from_is_err_and c.from_residual-in_err-found-in-Slide.result c.from_residual-in_err-found-in-Slide.ensures.1 in
    subst (λ r. FindGives r (meaning c.args.e.now) (around c.args.held) c.args.budget.now c.find-in-Slide.new.budget) (sym (p.1 ∙ ap Err p.2))
    (S.slide-halts-x c.in_err-found-in-Slide.field-0.0 c.args.e.now c.in-Slide.from.now c.in-Slide.base.now c.in-Slide.width c.in-Slide.up (around c.args.held) c.args.budget.now c.find-in-Slide.new.budget is c.in_err-found-in-Slide.ensures)

pub follow-own_width-requires-in-Slide : goal.follow-own_width-requires-in-Slide
follow-own_width-requires-in-Slide g t c =
    let e = c.args.e.now in
    let is = rw c.in-Slide.is at c.requires.step in
    (L.slide-fits-y e c.in-Slide.from.now c.in-Slide.base.now c.in-Slide.width c.in-Slide.up (formals c.args.held.scope) (wide (meaning e)) is c.requires.fits).narrow

pub follow-bits-index-requires-in-Slide : goal.follow-bits-index-requires-in-Slide
follow-bits-index-requires-in-Slide g t c =
    let e = c.args.e.now in
    let x = c.in-Slide.from.now in
    let y = c.in-Slide.base.now in
    let is = rw c.in-Slide.is at c.requires.step in λ κs inside. (
      omega (arith, c.decreases, N.nodes-Slide e x y c.in-Slide.width c.in-Slide.up is),
      (inside, (c.requires.calls, subst (λ n. Fits (meaning y) (formals c.args.held.scope) n) (sym c.own_width-in-Slide.ensures) (L.slide-fits-y e x y c.in-Slide.width c.in-Slide.up (formals c.args.held.scope) (wide (meaning e)) is c.requires.fits))),
    )

pub follow-slide_form-requires-clause-narrow : goal.follow-slide_form-requires-clause-narrow
follow-slide_form-requires-clause-narrow g t c =
    let e = c.args.e.now in
    let x = c.in-Slide.from.now in
    let is = rw c.in-Slide.is at c.requires.step in
    own-narrow x (formals c.args.held.scope) (wide (meaning x)) (L.slide-fits-x e x c.in-Slide.base.now c.in-Slide.width c.in-Slide.up (formals c.args.held.scope) (wide (meaning e)) is c.requires.fits)

pub follow-slide_form-requires-clause-short : goal.follow-slide_form-requires-clause-short
follow-slide_form-requires-clause-short g t c =
    let e = c.args.e.now in
    let y = c.in-Slide.base.now in
    let is = rw c.in-Slide.is at c.requires.step in
    P.short-answer c.bits-index-in-Slide.result y c.own_width-in-Slide.result c.own_sign-signed-in-Slide.result (around c.args.held) c.find-in-Slide.new.budget c.bits-index-in-Slide.new.budget
    (omega (arith, c.own_width-in-Slide.ensures, L.slide-short e c.in-Slide.from.now y c.in-Slide.width c.in-Slide.up (formals c.args.held.scope) (wide (meaning e)) is c.requires.fits)) c.bits-index-in-Slide.ensures

pub follow-returns-in_ok-found-in-Slide : goal.follow-returns-in_ok-found-in-Slide
follow-returns-in_ok-found-in-Slide g t c =
    let y = c.in-Slide.base.now in
    let is = rw c.in-Slide.is at c.requires.step in
    W.slide-law c.in_ok-found-in-Slide.found c.bits-index-in-Slide.result c.slide_form.result c.args.e.now c.in-Slide.from.now y c.in-Slide.width c.in-Slide.up c.own_sign-signed-in-Slide.result (around c.args.held) c.args.budget.now
    c.find-in-Slide.new.budget c.bits-index-in-Slide.new.budget is c.in_ok-found-in-Slide.ensures
    (P.own-gives c.bits-index-in-Slide.result y c.own_width-in-Slide.result c.own_sign-signed-in-Slide.result (around c.args.held) c.find-in-Slide.new.budget c.bits-index-in-Slide.new.budget c.own_width-in-Slide.ensures c.own_sign-signed-in-Slide.ensures c.bits-index-in-Slide.ensures)
    c.own_sign-signed-in-Slide.ensures c.slide_form.ensures

-- whole signals and locals
pub follow-returns-in-Signal : goal.follow-returns-in-Signal
follow-returns-in-Signal g t c =
    let e = c.args.e.now in
    let is = rw c.in-Signal.is at c.requires.step in
    S.find-signal e c.in-Signal.n (record { root = R.Signal c.in-Signal.n; window = c.entire.result }) (around c.args.held) c.args.budget.now is refl (c.entire.ensures.window ∙ ap whole (c.own_width.ensures ∙ wide-is e))
    c.entire.ensures.near

pub follow-returns-in-Local : goal.follow-returns-in-Local
follow-returns-in-Local g t c =
    let e = c.args.e.now in
    let is = rw c.in-Local.is at c.requires.step in
    S.find-local e c.in-Local.n (record { root = R.Local c.in-Local.n; window = c.entire-in-Local.result }) (around c.args.held) c.args.budget.now is refl
    (c.entire-in-Local.ensures.window ∙ ap whole (c.own_width-in-Local.ensures ∙ wide-is e)) c.entire-in-Local.ensures.near

-- what is no path
pub form_bits-returns-in_err-values : goal.form_bits-returns-in_err-values
form_bits-returns-in_err-values g t c =
    let e = c.args.e.now in
    let p = err_from_is_err_and c.from_residual.result c.from_residual.ensures.1 in
    subst (λ r. Gives r (meaning e) c.args.width c.args.signed (around c.args.held) c.args.budget.now c.operand_bits.new.budget) (sym (p.1 ∙ ap Err p.2))
    (O.halts c.call_of-called.result c.in_err-values.field-0.0 e c.args.held c.args.width c.args.signed c.args.budget.now c.operand_bits.new.budget c.requires.kind c.call_of-called.ensures c.in_err-values.ensures)

pub form_bits-result_of-requires-clause-operands : goal.form_bits-result_of-requires-clause-operands
form_bits-result_of-requires-clause-operands g t c =
    let e = c.args.e.now in
    let h = c.args.held in
    let f = c.in-Some.function in
    subst (λ vs. CallOperands e f (formals h.scope) vs) (sym c.deref.ensures.value) (O.call-operands e f h c.args.width c.args.signed _ (around h) c.requires.fits c.in_ok-values.ensures.0)

pub form_bits-returns-in_err-result-in-Some : goal.form_bits-returns-in_err-result-in-Some
form_bits-returns-in_err-result-in-Some g t c =
    let e = c.args.e.now in
    let h = c.args.held in
    let p = err_from_is_err_and c.from_residual-in_err-result-in-Some.result c.from_residual-in_err-result-in-Some.ensures.1 in
    subst (λ r. Gives r (meaning e) c.args.width c.args.signed (around h) c.args.budget.now c.result_of.new.budget) (sym (p.1 ∙ ap Err p.2))
    (O.call-stops c.in_err-result-in-Some.field-0.0 e c.in-Some.function h _ c.args.width c.args.signed c.args.budget.now c.operand_bits.new.budget c.result_of.new.budget c.in-Some.ensures (c.deref.ensures.value ∙ c.in_ok-values.ensures.0) c.in_ok-values.ensures.1
    c.in_err-result-in-Some.ensures)

pub form_bits-returns-in-Some : goal.form_bits-returns-in-Some
form_bits-returns-in-Some g t c =
    let e = c.args.e.now in
    let h = c.args.held in
    O.call-done e c.in-Some.function h _ c.in_ok-result-in-Some.result c.in_ok-extended-in-Some.field-0 c.args.width c.args.signed c.args.budget.now c.operand_bits.new.budget c.result_of.new.budget c.in-Some.ensures
    (c.deref.ensures.value ∙ c.in_ok-values.ensures.0) c.in_ok-values.ensures.1 c.in_ok-result-in-Some.ensures c.in_ok-extended-in-Some.ensures

pub form_bits-combine-requires-clause-operands : goal.form_bits-combine-requires-clause-operands
form_bits-combine-requires-clause-operands g t c =
    let e = c.args.e.now in
    subst (λ vs. Operands e c.args.width c.args.signed vs) (sym c.deref-in-None.ensures.value) (O.ready e (formals c.args.held.scope) c.args.width c.args.signed _ (around c.args.held) c.requires.fits c.in_ok-values.ensures.0)

pub form_bits-returns : goal.form_bits-returns
form_bits-returns g t c =
    let e = c.args.e.now in
    let r = c.in_ok-combine-in-None.field-0 in
    O.done e (formals c.args.held.scope) c.args.width c.args.signed _ r (around c.args.held) c.args.budget.now c.operand_bits.new.budget (record { no_path = c.requires.kind; no_call = c.in-None.ensures }) c.in_ok-values.ensures.0 c.in_ok-values.ensures.1
    (subst (λ vs. Combines e c.args.width c.args.signed vs r) c.deref-in-None.ensures.value c.in_ok-combine-in-None.ensures)

pub operand_bits-operands-requires-clause-some : goal.operand_bits-operands-requires-clause-some
operand_bits-operands-requires-clause-some g t c = O.some-bits c.args.e.now (formals c.args.held.scope) c.args.width c.requires.fits

-- operands
pub operand_bits-loop-operand-init : goal.operand_bits-loop-operand-init
operand_bits-loop-operand-init g t c =
    let e = c.args.e.now in
    let w = c.args.width in
    let s = c.args.signed in
    let a = around c.args.held in
    let qs = map asked c.deref-operand-items.result.now in
    let is : qs ≡ O.asks e (formals c.args.held.scope) w s = ap (map asked) c.deref-operand-items.ensures.value ∙ c.in_ok-asks.ensures in
    let laws = O.parts c.args.called e c.requires.kind c.requires.called in
    record {
      fits = subst (AllFitAsked (formals c.args.held.scope)) (sym is) (laws.fits (formals c.args.held.scope) w s c.requires.fits);
      fewer = subst (AllFewer (N.nodes e)) (sym is) (laws.fewer (formals c.args.held.scope) w s);
      ready = (subst OnlyFirstAgain (sym is) (laws.again (formals c.args.held.scope) w s), refl);
      made = ap (λ m. m ++ all_bits qs a) c.in_ok-values.ensures.items ∙ ap (λ ps. all_bits ps a) is;
      runs = ap (λ ps. values_asked ps a (running c.args.budget.now)) is;
    }

pub operand_bits-answer-requires : goal.operand_bits-answer-requires
operand_bits-answer-requires g t c =
    let items = c.deref-operand-items.result.now in
    let i = c.loop-operand.operand-index in
    let q = asked c.operand-item.result in
    let qs = map asked (drop (i + 1) items) in
    let here = ap (map asked) (T.at-front items i c.operand-item.result (omega arith) c.operand-item.is) in
    let fewer = subst (AllFewer (N.nodes c.args.e.now)) here c.loop-operand.invariant.fewer in λ κs inside. (
      omega (arith, c.decreases, fewer.0),
      (
        inside,
        (
          c.requires.calls,
          (
            (subst (AllFitAsked (formals c.args.held.scope)) here c.loop-operand.invariant.fits).0,
            T.ready-here i q qs (around c.args.held) c.args.budget.now c.loop-operand.budget
                (subst (λ ps. T.StillReady i ps (around c.args.held) c.args.budget.now c.loop-operand.budget) here c.loop-operand.invariant.ready),
          ),
        ),
      ),
    )

pub operand_bits-loop-operand-preserved : goal.operand_bits-loop-operand-preserved
operand_bits-loop-operand-preserved g t c =
    let items = c.deref-operand-items.result.now in
    let i = c.loop-operand.operand-index in
    let q = asked c.operand-item.result in
    let qs = map asked (drop (i + 1) items) in
    let a = around c.args.held in
    let all = O.asks c.args.e.now (formals c.args.held.scope) c.args.width c.args.signed in
    let l = c.loop-operand in
    let start = c.args.budget.now in
    let new = c.answer.new.budget in
    let here = ap (map asked) (T.at-front items i c.operand-item.result (omega arith) c.operand-item.is) in
    record {
      fits = (subst (AllFitAsked (formals c.args.held.scope)) here l.invariant.fits).1;
      fewer = (subst (AllFewer (N.nodes c.args.e.now)) here l.invariant.fewer).1;
      ready = T.ready-next i q qs a start l.budget new (subst (λ ps. T.StillReady i ps a start l.budget) here l.invariant.ready) c.in_ok-answer.ensures.1;
      made = T.made-next q qs a l.values.items c.push.new.self.items (all_bits all a) c.in_ok-answer.field-0 c.in_ok-answer.ensures.0 c.in_ok-push.ensures.items
          (subst (λ ps. l.values.items ++ all_bits ps a ≡ all_bits all a) here l.invariant.made);
      runs = T.runs-next q qs a l.budget new (values_asked all a (running start)) c.in_ok-answer.ensures.1
          (subst (λ ps. values_asked ps a (running l.budget) ≡ values_asked all a (running start)) here l.invariant.runs);
    }
