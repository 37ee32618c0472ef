use Rattle.std.proofs.Common.{ap, sym, ◌∙◌}
use Rattle.sv_types.specs.declared.expression.Form.TheVariants as V
use Rattle.v_meaning.specs.Values as T
use Rattle.v_build.specs.Trees.{meanings}
use Rattle.expr_lower.proofs.Alternating.{combines-never, combines-listed, no-choices}
use Rattle.expr_lower.proofs.insides.inside.Goals as goal

pub returns-in_ok-nothing-clause-combines : goal.returns-in_ok-nothing-clause-combines
returns-in_ok-nothing-clause-combines c =
    let none = no-choices c.args.choices.now (sym c.is_empty.ensures ∙ c.if-is_empty.true) in
    combines-never c.args.e.now c.args.x.now c.args.helpers.now (meanings c.args.parts) (T.meaning c.one.result) (T.meaning c.in_ok-nothing.nothing) (c.requires.form ∙ ap (V.Inside c.args.x.now) none)
    (ap meanings c.one.ensures) c.in_ok-nothing.ensures

pub returns-in_ok-made-clause-combines : goal.returns-in_ok-made-clause-combines
returns-in_ok-made-clause-combines c =
    combines-listed c.args.e.now c.args.x.now c.args.choices.now c.alternatives.new.helpers (meanings c.args.parts) (meanings c.in_ok-bits.bits) (T.meaning c.in_ok-made.made) c.requires.form
    (sym c.is_empty.ensures ∙ c.if-is_empty.false) c.in_ok-bits.ensures.lists c.in_ok-made.ensures
