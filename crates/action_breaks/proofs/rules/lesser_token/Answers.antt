use Rattle.std.proofs.Common.{subst}
use Rattle.least_breaks.specs.Least.{IsLeastToken}
use Rattle.action_breaks.proofs.Lesser.{lesser-none, lesser-first, lesser-both}
use Rattle.action_breaks.proofs.rules.lesser_token.Goals as goal

pub returns-in-None-default : goal.returns-in-None-default
returns-in-None-default c = λ xs ys h g. lesser-none xs ys c.args.b (subst (IsLeastToken xs) c.in-None-default.is-0 h) g

pub returns-in-Some-None : goal.returns-in-Some-None
returns-in-Some-None c = λ xs ys h g. lesser-first xs ys c.in-Some-None.a (subst (IsLeastToken xs) c.in-Some-None.is-0 h) (subst (IsLeastToken ys) c.in-Some-None.is-1 g)

pub returns-in-Some-Some : goal.returns-in-Some-Some
returns-in-Some-Some c = λ xs ys h g.
    lesser-both xs ys c.in-Some-Some.a c.in-Some-Some.b c.min.result c.min.ensures (subst (IsLeastToken xs) c.in-Some-Some.is-0 h) (subst (IsLeastToken ys) c.in-Some-Some.is-1 g)
