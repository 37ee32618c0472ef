use Rattle.std.proofs.Common.{arith}
use Rattle.bit_tokens.proofs.Least.{meets-behind, none-behind}
use Rattle.bit_tokens.proofs.meets.Goals as goal

pub returns-then-k-set-clause-every : goal.returns-then-k-set-clause-every
returns-then-k-set-clause-every c = λ m. absurd (none-behind c.args.set.now c.args.span c.first_behind-k.result c.if-k-set.true c.first_behind-k.ensures.value m)

pub returns-then-span-set-clause-every : goal.returns-then-span-set-clause-every
returns-then-span-set-clause-every c = λ m.
    let low = meets-behind c.args.set.now c.args.span c.first_behind-k.result c.requires.set c.if-k-set.false c.first_behind-k.ensures.value m in
    let past = low.1 in
    let not_past = c.if-span-set.true in
    absurd (omega (arith, past, not_past))
