use Rattle.v_lexer.proofs.Tokens.{placed-tokens}
use Rattle.v_lexer.proofs.lexing.lexes_tokens.Goals as goal

pub returns : goal.returns
returns c = λ text. placed-tokens 0 0 text
