use Rattle.std.proofs.Common.{◌≡◌, ◌<◌, suc, List, Some, Bool, true, false, sym, ◌∙◌, ap, subst, slice_get, set, length, add-one, arith}
use Rattle.ll_engine.specs.Marks.{Has, all_marked}
use Rattle.ll_engine.proofs.Closing.{Applied, has_at, slice_get_at, step_new, step_old}
use Rattle.ll_engine.proofs.rules.pass.Goals as goal
use Rattle.ll_engine.proofs.rules.pass.Goals.{then-not-marks-to+then-all_marked, then-not-marks-to+else-all_marked, else-not-marks-to}

pub bounds-marks-to : goal.bounds-marks-to
bounds-marks-to c =
    let r = c.rule-item.result in
    let h : Has c.args.rules.now r =
    subst (λ q. Has c.args.rules.now q) (sym c.rule-item.is) (has_at c.args.rules.now c.loop-rule.rule-index r (omega arith)) in
    let b = c.requires r h in
    let l = c.loop-rule.auto.marks in
    omega (arith, b, l)

pub bounds-marks-to-then-all_marked : goal.bounds-marks-to-then-all_marked
bounds-marks-to-then-all_marked c =
    let r = c.rule-item.result in
    let h : Has c.args.rules.now r =
    subst (λ q. Has c.args.rules.now q) (sym c.rule-item.is) (has_at c.args.rules.now c.loop-rule.rule-index r (omega arith)) in
    let b = c.requires r h in
    let l = c.loop-rule.auto.marks in
    omega (arith, b, l)

pub loop-rule-preserved : goal.loop-rule-preserved
loop-rule-preserved c =
    let rules = c.args.rules.now in
    let n = c.loop-rule.rule-index in
    let r = c.rule-item.result in
    let old = c.args.marks.now in
    let now = c.loop-rule.marks in
    let at : slice_get rules n ≡ Some r = slice_get_at rules n r (omega arith) ∙ ap Some (sym c.rule-item.is) in
    let h : Has rules r = subst (λ q. Has rules q) (sym c.rule-item.is) (has_at rules n r (omega arith)) in
    let b = c.requires r h in
    let l = c.loop-rule.auto.marks in
    let inside : r.to < length now = omega (arith, b, l) in
    let new = c.if-not-marks-to.marks in
    let into : (d : Bool) (ms : List Bool) → c.if-not-marks-to.changed ≡ d → new ≡ ms → Applied rules (suc n) d old ms
    → Applied rules (suc n) c.if-not-marks-to.changed old new =
    λ d ms e f a. subst (λ q. Applied rules (suc n) q old new) (sym e) (subst (λ q. Applied rules (suc n) d old q) (sym f) a) in
    rw add-one (elim c.if-not-marks-to.branch [
      | then-not-marks-to+then-all_marked w ↦
          let m : all_marked now r.from ≡ true = ap (all_marked now) (sym w.as_slice.ensures) ∙ (sym w.all_marked.ensures ∙ w.if-all_marked.true) in
          into true (set now r.to true) w.changed-is w.marks-is
          (step_new rules n c.loop-rule.changed old now r c.loop-rule.invariant h m w.if-not-marks-to.true inside)
      | then-not-marks-to+else-all_marked w ↦
          let m : all_marked now r.from ≡ false = ap (all_marked now) (sym w.as_slice.ensures) ∙ (sym w.all_marked.ensures ∙ w.if-all_marked.false) in
          into c.loop-rule.changed now w.changed-is w.marks-is
          (step_old rules n c.loop-rule.changed old now r c.loop-rule.invariant at (λ y. cc (m, y)))
      | else-not-marks-to w ↦
          into c.loop-rule.changed now w.changed-is w.marks-is
          (step_old rules n c.loop-rule.changed old now r c.loop-rule.invariant at (λ y. w.if-not-marks-to.false))
    ])
