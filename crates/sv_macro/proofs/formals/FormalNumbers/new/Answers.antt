use Rattle.std.proofs.Common.{◌∙◌, arith}
use Rattle.sv_macro.specs.Tables.{numbers_in}
use Rattle.sv_macro.proofs.FormalLists.{numbers_none, numbers_put, numbers_whole}
use Rattle.sv_macro.proofs.formals.FormalNumbers.new.Goals as goal

pub loop-at-init : goal.loop-at-init
loop-at-init c = (c.empty-numbers.ensures ∙ numbers_none c.args.formals.now _ (omega arith), omega arith)

pub loop-at-preserved : goal.loop-at-preserved
loop-at-preserved c = (
  numbers_put c.args.formals.now (numbers_in c.loop-at.numbers) (numbers_in c.put.new.self) c.loop-at.at c.in_ok-copy.field-0 c.index-formals-at.result
      (omega arith) c.loop-at.invariant.1 c.in_ok-copy.ensures c.index-formals-at.is c.loop-at.invariant.0 c.in_ok-put.ensures,
  omega (arith, c.loop-at.invariant.1),
)

pub returns : goal.returns
returns c = c.loop-at.invariant.0 ∙ numbers_whole c.args.formals.now c.loop-at.at (omega arith)
