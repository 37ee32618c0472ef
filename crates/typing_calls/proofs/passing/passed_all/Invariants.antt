use Rattle.std.proofs.Common.{map}
use Rattle.expr_type.specs.Answers.{Gives, source}
use Rattle.expr_type.specs.Forms.{passed_to}
use Rattle.expr_type.specs.Typings.{all_of}
use Rattle.pattern_types.specs.Meaning.{operand_of}
use Rattle.typing_calls.specs.Lists.{listed}
use Rattle.typing_calls.proofs.passing.passed_all.Given as goal

abbrev pub invariant-loop-formal : goal.invariant-loop-formal
invariant-loop-formal l = Gives (listed l.made) (all_of (map (λ p. passed_to (source l.text) (p.0.now, operand_of (source l.text) p.1)) l.yielded))
