use Rattle.std.proofs.Common.{◌≡◌, ℕ, Option, IfOk, subst}
use Rattle.v_rules.proofs.ModulesExact.{design-exact}
use Rattle.v_rules.proofs.check.first_broken.Goals as goal

pub returns : goal.returns
returns c = subst (λ (x : Option ℕ). IfOk c.found_first.result (λ r. r ≡ x)) (design-exact c.args.design.now) c.found_first.ensures
