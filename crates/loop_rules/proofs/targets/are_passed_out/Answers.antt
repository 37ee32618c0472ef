use Rattle.std.proofs.Common.{◌≡◌, true, false, arith, ap, sym, ◌∙◌}
use Rattle.sv_types.specs.declared.statement.Formal.{Formal}
use Rattle.loop_rules.specs.Targets.{named_by_way}
use Rattle.loop_rules.proofs.Writing as W
use Rattle.loop_rules.proofs.targets.are_passed_out.Goals as goal

pub returns-then-is_passed_out : goal.returns-then-is_passed_out
returns-then-is_passed_out c =
    let fs = c.args.formals.now in
    let es = c.args.actuals.now in
    let i = c.loop-i.i in
    let f = c.index-formals-i.result in
    let e = c.index-actuals-i.result in
    let n = c.args.number in
    let hit : named_by_way n f.way e ≡ true = ap (λ (x : Formal). named_by_way n x.way e) c.index-formals-i.is ∙ sym c.is_passed_out.ensures ∙ c.if-is_passed_out.true in
    sym (W.passed-hit n fs es i f e (omega arith) (omega arith) c.index-formals-i.is c.index-actuals-i.is hit) ∙ c.loop-i.invariant

pub loop-i-preserved : goal.loop-i-preserved
loop-i-preserved c =
    let fs = c.args.formals.now in
    let es = c.args.actuals.now in
    let i = c.loop-i.i in
    let f = c.index-formals-i.result in
    let e = c.index-actuals-i.result in
    let n = c.args.number in
    let miss : named_by_way n f.way e ≡ false = ap (λ (x : Formal). named_by_way n x.way e) c.index-formals-i.is ∙ sym c.is_passed_out.ensures ∙ c.if-is_passed_out.false in
    sym (W.passed-skip n fs es i f e (omega arith) (omega arith) c.index-formals-i.is c.index-actuals-i.is miss) ∙ c.loop-i.invariant

pub returns : goal.returns
returns c = sym (W.none-passed c.args.number c.args.formals.now c.args.actuals.now c.loop-i.i (omega arith)) ∙ c.loop-i.invariant
