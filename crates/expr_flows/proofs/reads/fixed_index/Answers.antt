use Rattle.std.proofs.Common.{length, Err, arith, ap, sym, ◌∙◌, subst}
use Rattle.std.proofs.lemmas.Result.{err_from_is_err_and}
use Rattle.sv_types.specs.Meanings.{wide, signed}
use Rattle.sv_types.specs.Expressions.{meaning}
use Rattle.sv_types.proofs.ValueLengths.{length-value}
use Rattle.expr_flows.specs.Known.{unheld}
use Rattle.expr_flows.specs.Reads.{FixedGives}
use Rattle.expr_flows.proofs.Longs as F
use Rattle.expr_flows.proofs.Values as V
use Rattle.expr_flows.proofs.reads.fixed_index.Goals as goal

pub returns-in_err-v : goal.returns-in_err-v
returns-in_err-v c =
    let p = err_from_is_err_and c.from_residual.result c.from_residual.ensures.1 in
    subst (λ r. FixedGives r c.args.known c.args.i.now) (sym (p.1 ∙ ap Err p.2)) (F.value-fails c.in_err-v.field-0.0 c.args.known c.args.i.now c.requires.constant c.in_err-v.ensures)

pub index_of-requires : goal.index_of-requires
index_of-requires c =
    let m = meaning c.args.i.now in omega (arith, ap length c.in_ok-v.ensures, length-value c.args.i.now (wide m) (signed m) (unheld c.args.known), c.requires.short)

pub returns : goal.returns
returns c = (
  (c.requires.constant, V.index-value c.args.known c.args.i.now c.in_ok-v.v c.own_sign-signed.result c.index_of.result c.requires.constant c.in_ok-v.ensures c.own_sign-signed.ensures c.index_of.ensures.value),
  V.small c.index_of.result c.index_of.ensures.small,
)
