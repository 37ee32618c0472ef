use Rattle.std.proofs.Common.{◌≡◌, map}
use Rattle.std.specs.List.{list_any}
use Rattle.expr_type.specs.Operators.{exprs}
use Rattle.expr_type.specs.Targets as D
use Rattle.typing_assigns.specs.Parts.{of_part, part_meant}
use Rattle.typing_assigns.proofs.parts.taken_apart.Given as goal

abbrev pub invariant-loop-part : goal.invariant-loop-part
invariant-loop-part l = record {
  exprs : l.made ≡ exprs (map of_part l.yielded);
  enums : l.has_enum ≡ list_any (λ (p : D.TargetPart). p.has_enum) (map part_meant l.yielded);
}
