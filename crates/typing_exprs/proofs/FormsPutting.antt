-- Laws of streams and of parentheses as rulesets.
use Rattle.typing_operators.proofs.OperandLaws.{paren-fine, paren-pattern, paren-plain, paren-stops, paren-stream, stream-fine, stream-stops}

pub ruleset parens = (paren-plain, paren-stream, paren-pattern)

pub ruleset parenthesizing = (paren-fine, paren-stops)

pub ruleset streams = (stream-fine, stream-stops)
