use Rattle.std.proofs.Common.{◌≡◌, ◌++◌, drop}
use Rattle.eval_forms.specs.Tests.{tests_of, TestsFit}
use Rattle.eval_forms.proofs.choices.tests.Given as goal

abbrev pub invariant-loop-choice : goal.invariant-loop-choice
invariant-loop-choice l = record {
  fit : TestsFit l.x (drop l.choice-index l.choices) l.rest;
  made : l.bits.items ++ tests_of l.x (drop l.choice-index l.choices) l.rest ≡ tests_of l.x l.choices l.values;
}
