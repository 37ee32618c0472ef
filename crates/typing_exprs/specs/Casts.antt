-- Types by a word and names, alone or with a cast to what they stand for behind them.
use Rattle.std.specs.Prelude.{List, Option, Some, None}
use Rattle.sv_tree.specs.declared.expressions.Cast.{Cast}
use Rattle.sv_tree.specs.declared.expressions.Dimension.{Dimension}
use Rattle.sv_tree.specs.declared.expressions.Select.{Select}
use Rattle.sv_tree.specs.declared.names.QualifiedName.{QualifiedName}
use Rattle.sv_tree.specs.declared.types.KeywordType.{KeywordType}
use Rattle.expr_type.specs.Breaks.{Quiet}
use Rattle.expr_type.specs.Forms.{plain}
use Rattle.expr_type.specs.Names.{Context}
use Rattle.expr_type.specs.Operands as V
use Rattle.expr_type.specs.Typings.{Typing, broken}
use Rattle.typing_operators.specs.TypingValues.{named_path, to_name, to_word}

abbrev pub word_of : Context → KeywordType → List Dimension → Option Cast → Typing V.Operand
word_of k of ds None = broken Quiet
word_of k of ds (Some c) = plain (to_word k of ds c)

abbrev pub name_of : Context → QualifiedName → List Select → Option Cast → Typing V.Operand
name_of k of ss None = plain (named_path k of ss)
name_of k of ss (Some c) = plain (to_name k of ss c)
