use Rattle.std.proofs.Common.{rules, ◌≡◌, ◌≤◌, ◌+◌, ◌++◌, drop, map, length, min, Some, arith, ap, sym, ◌∙◌, subst}
use Rattle.picks.specs.Windows.{picked, tabulated}
use Rattle.v_tree.specs.declared.expressions.VPrim.TheVariants as O
use Rattle.v_tree.specs.declared.items.VLocal.{VLocal}
use Rattle.v_meaning.specs.Scopes.{bits_of_range}
use Rattle.v_meaning.specs.Values.{meaning, sel_meaning, arguments, joined, width_of}
use Rattle.v_tree.specs.declared.expressions.VSel.TheVariants as S
use Rattle.v_eval.specs.declared.operators.Context.{Context}
use Rattle.v_eval.specs.Holding.{holds, bit_in, bit_or_x}
use Rattle.v_eval.specs.Limits.{limits, most_of_all}
use Rattle.v_eval.specs.Paths.{named_or_not}
use Rattle.v_eval.specs.Scopes.{scope_of}
use Rattle.v_eval.specs.Vectors.{stacked}
use Rattle.v_eval.specs.Windows.{window_of}
use Rattle.v_eval.proofs.Loops as L
use Rattle.v_eval.proofs.Selected.{name-valued, step-moving}
use Rattle.v_eval.proofs.Valued as V
use Rattle.v_eval.proofs.evaluate.+evaluate.Goals as goal

pub arguments-returns : goal.arguments-returns
arguments-returns g t c =
    let n : c.min-i-end.result ≡ min (length c.args.inputs.now) (length c.args.args.now) = search rules in
    L.args-end c.args.inputs.now c.args.args.now c.loop-i.i c.min-i-end.result c.loop-i.made
    (arguments (map (λ (l : VLocal). bits_of_range l.range) c.args.inputs.now) (map meaning c.args.args.now) (scope_of c.args.around.scope) (holds c.args.around.held)) (scope_of c.args.around.scope) (holds c.args.around.held) n
    (omega (arith, c.loop-i-test.false)) c.loop-i.invariant.made

pub joined-loop-item-preserved : goal.joined-loop-item-preserved
joined-loop-item-preserved g t c =
    let items = c.args.items.now in
    let i = c.loop-item.item-index in
    let x = c.item-item.result in
    let sc = scope_of c.args.around.scope in
    let v = holds c.args.around.held in
    let front = L.at-front items i x (omega arith) c.item-item.is in
    let all = joined (map meaning items) sc v in
    let before = subst (λ xs. joined (map meaning xs) sc v ++ stacked c.loop-item.pieces ≡ all) front c.loop-item.invariant.made in
    let narrow = subst (λ xs. most_of_all (map limits xs) sc ≤ 128) front c.loop-item.invariant.narrow in
    record {
      made = ap (λ ps. joined (map meaning (drop (i + 1) items)) sc v ++ stacked ps) c.in_ok-push.ensures.ok
          ∙ L.joined-next (meaning x) (map meaning (drop (i + 1) items)) c.loop-item.pieces c.in_ok-value.field-0 all c.in_ok-at.at sc v c.in_ok-at.ensures.meaning c.in_ok-value.ensures.value before;
      narrow = omega (arith, narrow);
    }

pub prim_value-returns-in_ok-extended-in-Number-clause-value : goal.prim_value-returns-in_ok-extended-in-Number-clause-value
prim_value-returns-in_ok-extended-in-Number-clause-value g t c =
    V.number-valued c.in_ok-extended-in-Number.field-0 c.args.prim.now c.in-Number.bits c.args.at (scope_of c.args.around.scope) (holds c.args.around.held) c.in-Number.is c.in_ok-extended-in-Number.ensures

pub prim_value-returns-in_ok-extended-in-Name-clause-value : goal.prim_value-returns-in_ok-extended-in-Name-clause-value
prim_value-returns-in_ok-extended-in-Name-clause-value g t c =
    let s = c.args.around.scope in
    let h = c.args.around.held in
    let o = c.find-named.result in
    let sels : c.as_slice.result.now ≡ c.in-Name.sels = search rules in
    let same : c.as_slice-in-Name.result.now ≡ c.in-Name.sels = search rules in
    name-valued c.in_ok-extended-in-Name.field-0 c.in_ok-bits-in-Name.bits c.args.prim.now c.in-Name.name c.as_slice.result.now o c.in_ok-path-in-Name.path c.args.at s h.signals.now h.over.now h.locals.now
    (c.in-Name.is ∙ ap (O.Name c.in-Name.name) (sym sels)) c.find-named.ensures c.in_ok-path-in-Name.ensures.path
    (subst (λ xs. c.in_ok-bits-in-Name.bits ≡ tabulated (width_of (named_or_not o) (map sel_meaning xs)) (λ j. bit_or_x (bit_in h (named_or_not o).number) (picked (window_of c.in_ok-path-in-Name.path.window) j))) (same ∙ sym sels) c.in_ok-bits-in-Name.ensures)
    c.in_ok-extended-in-Name.ensures

pub prim_value-returns-in_ok-extended-in-None-clause-value : goal.prim_value-returns-in_ok-extended-in-None-clause-value
prim_value-returns-in_ok-extended-in-None-clause-value g t c =
    V.call-of-none c.in_ok-extended-in-None.field-0 c.empty.result c.args.prim.now c.in-Call.function c.in-Call.args c.args.at c.args.around.scope (holds c.args.around.held) c.in-Call.is c.in-None.ensures c.empty.ensures
    c.in_ok-extended-in-None.ensures

pub prim_value-returns-in_ok-extended-in-Some-clause-value : goal.prim_value-returns-in_ok-extended-in-Some-clause-value
prim_value-returns-in_ok-extended-in-Some-clause-value g t c =
    let s = c.args.around.scope in
    let v = holds c.args.around.held in
    let args : c.as_slice-in-Some.result.now ≡ c.in-Call.args = search rules in
    V.call-valued c.in_ok-extended-in-Some.field-0 c.in_ok-bits-in-Some.bits c.in_ok-values-in-Some.values c.args.prim.now c.in-Call.function c.as_slice-in-Some.result.now (Some c.in-Some.i) c.args.at s v
    (c.in-Call.is ∙ ap (O.Call c.in-Call.function) (sym args)) c.in-Some.ensures
    (c.in_ok-values-in-Some.ensures ∙ ap (λ ns. arguments ns (map meaning c.as_slice-in-Some.result.now) (scope_of s) v) (ap (map (λ (l : VLocal). bits_of_range l.range)) c.inputs_of-inputs.ensures ∙ sym (V.inputs-are s (Some c.in-Some.i))))
    (c.requires.right c.args.around.held c.in-Some.i c.in_ok-values-in-Some.values _ c.in_ok-bits-in-Some.ensures)
    c.in_ok-extended-in-Some.ensures

pub prim_value-returns-in_ok-extended-in-Some-clause-long : goal.prim_value-returns-in_ok-extended-in-Some-clause-long
prim_value-returns-in_ok-extended-in-Some-clause-long g t c = V.long-ext c.in_ok-extended-in-Some.field-0 c.args.at.width c.args.at.signed c.in_ok-bits-in-Some.bits c.in_ok-extended-in-Some.ensures

pub prim_value-returns-in_ok-extended-in-Repeat-clause-value : goal.prim_value-returns-in_ok-extended-in-Repeat-clause-value
prim_value-returns-in_ok-extended-in-Repeat-clause-value g t c =
    let items : c.as_slice-in-Repeat.result.now ≡ c.in-Repeat.items = search rules in
    V.repeat-valued c.in_ok-extended-in-Repeat.field-0 c.in_ok-repeated-in-Repeat.field-0 c.in_ok-bits-in-Repeat.bits c.args.prim.now c.in-Repeat.count c.as_slice-in-Repeat.result.now c.args.at (scope_of c.args.around.scope)
    (holds c.args.around.held) (c.in-Repeat.is ∙ ap (O.Repeat c.in-Repeat.count) (sym items)) c.in_ok-bits-in-Repeat.ensures c.in_ok-repeated-in-Repeat.ensures c.in_ok-extended-in-Repeat.ensures

pub prim_value-returns-in_ok-extended-in-Concat-clause-value : goal.prim_value-returns-in_ok-extended-in-Concat-clause-value
prim_value-returns-in_ok-extended-in-Concat-clause-value g t c =
    let items : c.as_slice-in-Concat.result.now ≡ c.in-Concat.items = search rules in
    V.concat-valued c.in_ok-extended-in-Concat.field-0 c.in_ok-bits-in-Concat.bits c.args.prim.now c.as_slice-in-Concat.result.now c.args.at (scope_of c.args.around.scope) (holds c.args.around.held)
    (c.in-Concat.is ∙ ap O.Concat (sym items)) c.in_ok-bits-in-Concat.ensures c.in_ok-extended-in-Concat.ensures

pub prim_value-returns-in_ok-extended-in-Sign-clause-value : goal.prim_value-returns-in_ok-extended-in-Sign-clause-value
prim_value-returns-in_ok-extended-in-Sign-clause-value g t c =
    let x = c.get-in-Sign.result.now in
    let of : x ≡ c.in-Sign.of = search rules in
    let again : c.get-in-Sign-2.result.now ≡ x = search rules in
    V.sign-valued c.in_ok-extended-in-Sign.field-0 c.in_ok-bits-in-Sign.bits c.args.prim.now c.in-Sign.signed x c.args.at c.in_ok-own-in-Sign.own (scope_of c.args.around.scope) (holds c.args.around.held)
    (c.in-Sign.is ∙ ap (O.Sign c.in-Sign.signed) (sym of)) c.in_ok-own-in-Sign.ensures.meaning
    (c.in_ok-bits-in-Sign.ensures.value ∙ ap (λ e. V.at (meaning e) c.in_ok-own-in-Sign.own (scope_of c.args.around.scope) (holds c.args.around.held)) again) c.in_ok-extended-in-Sign.ensures

pub prim_value-returns-in_ok-extended-in-Sign-clause-long : goal.prim_value-returns-in_ok-extended-in-Sign-clause-long
prim_value-returns-in_ok-extended-in-Sign-clause-long g t c = V.long-ext c.in_ok-extended-in-Sign.field-0 c.args.at.width c.args.at.signed c.in_ok-bits-in-Sign.bits c.in_ok-extended-in-Sign.ensures

pub step-returns-in_ok-v-in-Expr-clause-path : goal.step-returns-in_ok-v-in-Expr-clause-path
step-returns-in_ok-v-in-Expr-clause-path g t c =
    let x = c.get.result.now in
    let of : x ≡ c.in-Expr.base = search rules in
    let again : c.get-in-Expr.result.now ≡ x = search rules in
    step-moving c.select-in-Expr.result c.args.path c.args.sel.now x c.in-Expr.extent c.index_of.result c.in_ok-v-in-Expr.v c.in_ok-at-in-Expr.at (scope_of c.args.around.scope) (holds c.args.around.held)
    (c.in-Expr.is ∙ ap (λ y. S.Expr y c.in-Expr.extent) (sym of)) c.in_ok-at-in-Expr.ensures.meaning
    (c.in_ok-v-in-Expr.ensures.value ∙ ap (λ e. V.at (meaning e) c.in_ok-at-in-Expr.at (scope_of c.args.around.scope) (holds c.args.around.held)) again) c.index_of.ensures.value c.select-in-Expr.ensures.path c.requires.short
    c.select-in-Expr.ensures.short

pub value-returns-in_ok-prefix_value-in-Unary-clause-value : goal.value-returns-in_ok-prefix_value-in-Unary-clause-value
value-returns-in_ok-prefix_value-in-Unary-clause-value g t c =
    V.unary-valued c.in_ok-prefix_value-in-Unary.field-0 c.in_ok-v-in-Unary.v c.prefix_of-op.result c.args.at c.prefix_context-inner.result c.in_ok-prim_own-in-Unary.field-0 c.args.e.now c.in-Unary.op c.in-Unary.of
    (scope_of c.args.around.scope) (holds c.args.around.held) c.in-Unary.is c.prefix_of-op.ensures c.in_ok-prim_own-in-Unary.ensures.meaning c.prefix_context-inner.ensures c.in_ok-v-in-Unary.ensures.value
    c.in_ok-prefix_value-in-Unary.ensures

pub value-returns-in_ok-prefix_value-in-Unary-clause-long : goal.value-returns-in_ok-prefix_value-in-Unary-clause-long
value-returns-in_ok-prefix_value-in-Unary-clause-long g t c =
    ap length c.in_ok-prefix_value-in-Unary.ensures
    ∙ V.long-prefix c.prefix_of-op.result c.args.at c.in_ok-prim_own-in-Unary.field-0 c.in_ok-v-in-Unary.v (c.in_ok-v-in-Unary.ensures.long ∙ ap (λ (x : Context). x.width) c.prefix_context-inner.ensures)

pub value-returns-in_ok-infix_value-in-Binary-clause-value : goal.value-returns-in_ok-infix_value-in-Binary-clause-value
value-returns-in_ok-infix_value-in-Binary-clause-value g t c =
    V.binary-valued c.in_ok-infix_value-in-Binary.field-0 c.in_ok-a-in-Binary.a c.in_ok-b-in-Binary.b c.infix_of-op.result c.args.at c.in_ok-l-in-Binary.l c.in_ok-r-in-Binary.r c.left_context.result c.right_context.result c.args.e.now
    c.in-Binary.op c.in-Binary.left c.in-Binary.right (scope_of c.args.around.scope) (holds c.args.around.held) c.in-Binary.is c.infix_of-op.ensures c.in_ok-l-in-Binary.ensures.meaning c.in_ok-r-in-Binary.ensures.meaning
    c.left_context.ensures c.right_context.ensures c.in_ok-a-in-Binary.ensures.value c.in_ok-b-in-Binary.ensures.value c.in_ok-infix_value-in-Binary.ensures

pub value-returns-in_ok-infix_value-in-Binary-clause-long : goal.value-returns-in_ok-infix_value-in-Binary-clause-long
value-returns-in_ok-infix_value-in-Binary-clause-long g t c =
    ap length c.in_ok-infix_value-in-Binary.ensures
    ∙ V.long-infix c.infix_of-op.result c.args.at c.in_ok-l-in-Binary.l c.in_ok-r-in-Binary.r c.in_ok-a-in-Binary.a c.in_ok-b-in-Binary.b
    (c.in_ok-a-in-Binary.ensures.long ∙ ap (λ (x : Context). x.width) c.left_context.ensures) (c.in_ok-b-in-Binary.ensures.long ∙ ap (λ (x : Context). x.width) c.right_context.ensures)

pub value-returns-in_ok-chosen-in-Choose-clause-value : goal.value-returns-in_ok-chosen-in-Choose-clause-value
value-returns-in_ok-chosen-in-Choose-clause-value g t c =
    V.choose-valued c.in_ok-chosen-in-Choose.field-0 c.in_ok-a-in-Choose.a c.in_ok-b-in-Choose.b c.in_ok-prim_value-in-Choose.field-0 c.truth-test.result c.args.at c.in_ok-own-in-Choose.own c.args.e.now c.in-Choose.on c.in-Choose.then
    c.in-Choose.other (scope_of c.args.around.scope) (holds c.args.around.held) c.in-Choose.is c.in_ok-own-in-Choose.ensures.meaning c.in_ok-prim_value-in-Choose.ensures.value c.truth-test.ensures c.in_ok-a-in-Choose.ensures.value
    c.in_ok-b-in-Choose.ensures.value c.in_ok-chosen-in-Choose.ensures

pub value-returns-in_ok-chosen-in-Choose-clause-long : goal.value-returns-in_ok-chosen-in-Choose-clause-long
value-returns-in_ok-chosen-in-Choose-clause-long g t c =
    ap length c.in_ok-chosen-in-Choose.ensures ∙ V.long-chosen c.truth-test.result c.in_ok-a-in-Choose.a c.in_ok-b-in-Choose.b c.args.at.width c.in_ok-a-in-Choose.ensures.long c.in_ok-b-in-Choose.ensures.long
