use Rattle.std.proofs.Common.{◌||◌, ◌+◌, drop, ap, sym, ◌∙◌}
use Rattle.bit_sets.proofs.Steps.{at-front, none-left}
use Rattle.row_machine.specs.Valuation.{Place}
use Rattle.expr_flows.specs.Known.{sure_of}
use Rattle.bound_values.proofs.roots.is_known.Goals as goal

pub returns-then-is_variable : goal.returns-then-is_variable
returns-then-is_variable c =
    let q : Place = record { signal = c.args.number; bit = 0 } in
    let vs = c.args.variables.now in
    let i = c.loop-v.v-index in
    sym
    (
    sym c.loop-v.invariant ∙ ap (λ xs. sure_of xs q) (at-front vs i _ c.loop-v-test.true) ∙ ap (λ b. b || sure_of (drop (i + 1) vs) q) (sym c.is_variable.ensures ∙ c.if-is_variable.true)
    )

pub loop-v-preserved : goal.loop-v-preserved
loop-v-preserved c =
    let q : Place = record { signal = c.args.number; bit = 0 } in
    let vs = c.args.variables.now in
    let i = c.loop-v.v-index in
    ap (λ b. b || sure_of (drop (i + 1) vs) q) (sym (sym c.is_variable.ensures ∙ c.if-is_variable.false)) ∙ ap (λ xs. sure_of xs q) (sym (at-front vs i _ c.loop-v-test.true)) ∙ c.loop-v.invariant

pub returns : goal.returns
returns c = ap (λ xs. sure_of xs (record { signal = c.args.number; bit = 0 })) (sym (none-left c.args.variables.now c.loop-v.v-index c.loop-v-test.false)) ∙ c.loop-v.invariant
