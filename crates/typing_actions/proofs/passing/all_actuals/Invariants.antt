use Rattle.std.proofs.Common.{◌≡◌, map}
use Rattle.expr_type.specs.Answers.{Gives, source}
use Rattle.expr_type.specs.Names.{Context}
use Rattle.expr_type.specs.Typings.{all_of}
use Rattle.typing_actions.specs.Calls.{actual_of, pair_expr}
use Rattle.typing_calls.specs.Lists.{listed}
use Rattle.typing_actions.proofs.passing.all_actuals.Given as goal

abbrev pub invariant-loop-formal : goal.invariant-loop-formal
invariant-loop-formal l = (k : Context) → source l.text ≡ k.source → Gives (listed l.made) (all_of (map (λ p. pair_expr k (p.0.now, actual_of k.source p.1)) l.yielded))
