use Rattle.std.proofs.Common.{◌≡◌, true, drop}
use Rattle.eval_forms.specs.Callees.{formals_in}
use Rattle.expr_flows.specs.Full.{all_full}
use Rattle.full_calls.specs.Full.{choices_full}
use Rattle.full_calls.proofs.exprs.+full.Given as goal

abbrev pub invariant-are_full-loop-e : goal.invariant-are_full-loop-e
invariant-are_full-loop-e l = all_full (formals_in l.functions) (drop l.e-index l.es) ≡ true → all_full (formals_in l.functions) l.es ≡ true

abbrev pub invariant-are_choices_full-loop-choice : goal.invariant-are_choices_full-loop-choice
invariant-are_choices_full-loop-choice l = choices_full (formals_in l.functions) (drop l.choice-index l.choices) ≡ true → choices_full (formals_in l.functions) l.choices ≡ true
