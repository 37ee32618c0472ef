use Rattle.std.proofs.Common.{subst, sym, ◌∙◌}
use Rattle.least_breaks.specs.Least.{IsLeast}
use Rattle.least_breaks.proofs.Comparing.{lesser-first, lesser-second, lesser-stays}
use Rattle.least_breaks.proofs.lesser.Goals as goal

pub returns-in-Some-None : goal.returns-in-Some-None
returns-in-Some-None c = λ xs ys h g. lesser-first xs ys c.in-Some-None.a (subst (IsLeast xs) c.in-Some-None.is-0 h) (subst (IsLeast ys) c.in-Some-None.is-1 g)

pub returns-then-comes_before : goal.returns-then-comes_before
returns-then-comes_before c = λ xs ys h g.
    lesser-second xs ys c.in-Some-Some.a c.in-Some-Some.b (sym c.comes_before.ensures ∙ c.if-comes_before.true) (subst (IsLeast xs) c.in-Some-Some.is-0 h) (subst (IsLeast ys) c.in-Some-Some.is-1 g)

pub returns-else-comes_before : goal.returns-else-comes_before
returns-else-comes_before c = λ xs ys h g.
    lesser-stays xs ys c.in-Some-Some.a c.in-Some-Some.b (sym c.comes_before.ensures ∙ c.if-comes_before.false) (subst (IsLeast xs) c.in-Some-Some.is-0 h) (subst (IsLeast ys) c.in-Some-Some.is-1 g)
