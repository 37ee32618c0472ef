use Rattle.std.proofs.Common.{◌≡◌, map, take}
use Rattle.expr_type.specs.Answers.{source}
use Rattle.typing_declarations.specs.Naming.{enum_name}
use Rattle.typing_declarations.proofs.enums.enum_names.Given as goal

abbrev pub invariant-loop-named : goal.invariant-loop-named
invariant-loop-named l = l.list ≡ map (enum_name (source l.text)) (take l.named-index l.met)
