use Rattle.std.proofs.Common.{◌≡◌, map, take}
use Rattle.expr_type.specs.Types.{latest_first}
use Rattle.typing_scopes.specs.Scopes.{context_of}
use Rattle.typing_declarations.specs.Naming.{valued}
use Rattle.typing_declarations.proofs.enums.constants.Given as goal

abbrev pub invariant-loop-named : goal.invariant-loop-named
invariant-loop-named g l = l.values ≡ latest_first (map (valued (context_of g.B.Names.context l.names) l.of) (take l.named-index l.met))
