use Rattle.std.proofs.Common.{◌||◌, ap, sym, ◌∙◌}
use Rattle.sv_types.specs.declared.statement.Stmt.TheVariants as V
use Rattle.eval_forms.specs.Callees.{formals_in}
use Rattle.loop_rules.proofs.Writing as W
use Rattle.loop_rules.proofs.targets.+writes.Goals as goal

pub writes-returns-in-Block : goal.writes-returns-in-Block
writes-returns-in-Block t c =
    let fs = formals_in c.args.functions.now in
    let is = c.in-Block.is ∙ ap (λ x. V.Block c.in-Block.locals x) (sym c.as_slice.ensures) in
    c.some_write.ensures ∙ W.in-Block fs c.args.s.now c.in-Block.locals c.as_slice.result.now c.args.number is

pub writes-returns-in-If : goal.writes-returns-in-If
writes-returns-in-If t c =
    let fs = formals_in c.args.functions.now in
    let is = c.in-If.is ∙ ap (λ x. V.If c.in-If.on x c.in-If.other) (sym c.get.ensures) in
    c.either.ensures ∙ (λ i. c.writes-one.ensures i || c.perhaps_writes.ensures i) ∙ W.in-If fs c.args.s.now c.in-If.on c.get.result.now c.in-If.other c.args.number is

pub writes-returns-in-Case : goal.writes-returns-in-Case
writes-returns-in-Case t c =
    let fs = formals_in c.args.functions.now in
    let is = c.in-Case.is ∙ ap (λ x. V.Case c.in-Case.kind c.in-Case.on x c.in-Case.other) (sym c.as_slice-in-Case.ensures) in
    c.either-in-Case.ensures ∙ (λ i. c.items_write-one.ensures i || c.perhaps_writes-in-Case.ensures i)
    ∙ W.in-Case fs c.args.s.now c.in-Case.kind c.in-Case.on c.as_slice-in-Case.result.now c.in-Case.other c.args.number is

pub writes-returns-in-Made : goal.writes-returns-in-Made
writes-returns-in-Made t c =
    let fs = formals_in c.args.functions.now in
    let is = c.in-Made.is ∙ ap (λ x. V.Made c.in-Made.locals x c.in-Made.body) (sym c.as_slice-in-Made.ensures) in
    c.either-in-Made.ensures ∙ (λ i. c.some_write-one.ensures i || c.perhaps_writes-in-Made.ensures i)
    ∙ W.in-Made fs c.args.s.now c.in-Made.locals c.as_slice-in-Made.result.now c.in-Made.body c.args.number is
