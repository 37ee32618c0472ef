use Rattle.std.proofs.Common.{refl, arith, subst}
use Rattle.target_lower.specs.Made.{GivesNumber}
use Rattle.target_lower.proofs.Constant.{fixed-known, fixed-lowered}
use Rattle.target_lower.proofs.indices.index_given.Goals as goal

pub returns-in-Some-clause-made : goal.returns-in-Some-clause-made
returns-in-Some-clause-made c =
    let own = subst (GivesNumber c.args.within c.args.functions.now c.args.i.now) c.in-Some.is c.in_ok-known.ensures in
    (own.0, own.1, fixed-known c.args.within c.args.functions.now c.args.i.now c.in-Some.known.number)

pub returns-in_ok-index-in-None-clause-made : goal.returns-in_ok-index-in-None-clause-made
returns-in_ok-index-in-None-clause-made c =
    let none = subst (GivesNumber c.args.within c.args.functions.now c.args.i.now) c.in-None.is c.in_ok-known.ensures in (
      (c.in_ok-index-in-None.ensures.index, refl),
      (c.in_ok-index-in-None.ensures.short, omega arith),
      fixed-lowered c.args.within c.args.functions.now c.args.i.now c.in_ok-index-in-None.index _ none,
    )
