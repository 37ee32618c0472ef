use Rattle.std.proofs.Common.{◌≡◌, ◌+◌, List, drop, min, ap, ◌∙◌}
use Rattle.sv_types.specs.declared.statement.Formal.{Formal}
use Rattle.routine_fits.specs.Sound.{AllFormalsNarrow}
use Rattle.typing_declarations.specs.FormalRows.{bits_out}
use Rattle.typing_declarations.proofs.Heading.{bits-end, bits-step}
use Rattle.typing_declarations.proofs.FormalLists.{here, none-left}
use Rattle.typing_declarations.proofs.heads.bits_of_all.Goals as goal

pub bits_back-requires : goal.bits_back-requires
bits_back-requires c = (here AllFormalsNarrow c.args.list.now c.loop-formal.formal-index c.formal-item.result c.loop-formal-test.true c.formal-item.is c.loop-formal.invariant.narrow).0

pub loop-formal-preserved : goal.loop-formal-preserved
loop-formal-preserved c =
    let s = c.loop-formal.sum in
    let xs = c.args.list.now in
    let i = c.loop-formal.formal-index in
    let f = c.formal-item.result in
    let all = min (bits_out xs) 65537 in
    record {
      bits = bits-step s c.capped-sum.result f (drop (i + 1) xs) all (c.capped-sum.ensures.value ∙ ap (λ n. min (s + n) 65537) c.bits_back.ensures.value)
          (here (λ (ys : List Formal). min (s + bits_out ys) 65537 ≡ all) xs i f c.loop-formal-test.true c.formal-item.is c.loop-formal.invariant.bits);
      few = c.capped-sum.ensures.few;
      narrow = (here AllFormalsNarrow xs i f c.loop-formal-test.true c.formal-item.is c.loop-formal.invariant.narrow).1;
    }

pub returns : goal.returns
returns c =
    let s = c.loop-formal.sum in
    let xs = c.args.list.now in
    let all = min (bits_out xs) 65537 in
    bits-end s all c.loop-formal.invariant.few (none-left (λ (ys : List Formal). min (s + bits_out ys) 65537 ≡ all) xs c.loop-formal.formal-index c.loop-formal-test.false c.loop-formal.invariant.bits)
