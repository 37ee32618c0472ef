use Rattle.std.proofs.Common.{refl, sym, subst}
use Rattle.v_meaning.specs.Values.{meaning}
use Rattle.path_flatten.specs.declared.offsets.Argument.{Argument}
use Rattle.path_flatten.specs.Sliding.{IsArgument}
use Rattle.path_flatten.proofs.Beginning.{sum-argument}
use Rattle.path_flatten.proofs.NamingSlides.{index-offset, sum-offset}
use Rattle.path_flatten.proofs.offsets.passed_as.Goals as goal

pub returns-in_ok-made-in-Index-clause-passed : goal.returns-in_ok-made-in-Index-clause-passed
returns-in_ok-made-in-Index-clause-passed c = subst (λ o. IsArgument o c.in_ok-made-in-Index.made) (sym c.in-Index.is) c.in_ok-made-in-Index.ensures.passed

pub returns-in_ok-made-in-Index-clause-names : goal.returns-in_ok-made-in-Index-clause-names
returns-in_ok-made-in-Index-clause-names c = index-offset c.in-Index.index c.args.offset (meaning c.in_ok-made-in-Index.made.expr) c.in-Index.is c.in_ok-made-in-Index.ensures.names

pub returns-in-Sum-clause-passed : goal.returns-in-Sum-clause-passed
returns-in-Sum-clause-passed c =
    let r : Argument = record { expr = c.in-Sum.expr; bits = c.in-Sum.bits } in
    sum-argument c.in-Sum.expr c.in-Sum.bits c.args.offset r c.in-Sum.is refl refl

pub returns-in-Sum-clause-names : goal.returns-in-Sum-clause-names
returns-in-Sum-clause-names c = sum-offset c.in-Sum.expr c.in-Sum.bits c.args.offset (meaning c.in-Sum.expr) c.in-Sum.is refl
