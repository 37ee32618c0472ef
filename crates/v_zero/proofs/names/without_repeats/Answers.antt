use Rattle.std.proofs.Common.{◌∙◌, take, sym, subst}
use Rattle.std.proofs.lemmas.List.{take_more}
use Rattle.v_zero.specs.Zero.{Listed}
use Rattle.v_zero.proofs.names.without_repeats.Goals as goal

pub loop-n-preserved : goal.loop-n-preserved
loop-n-preserved c =
    let ns = c.args.numbers.now in
    let i = c.loop-n.n-index in
    record {
      long = c.list_one.ensures.long ∙ c.loop-n.invariant.long;
      listed = subst (λ xs. Listed c.args.mark xs c.list_one.new.marks c.list_one.new.to) (sym (take_more ns i 0 c.loop-n-test.true)) (c.in_ok-list_one.ensures.listed (take i ns) c.loop-n.invariant.listed);
    }
