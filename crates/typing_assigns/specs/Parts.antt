-- Targets by their parts.
use Rattle.std.specs.Prelude.{◌≡◌, ⊤, List, [], ◌∷◌, Result, Ok, Err}
use Rattle.operand_types.specs.Allowed.{IsNarrow}
use Rattle.expr_type.specs.declared.halt.Halt.{Halt}
use Rattle.expr_type.specs.declared.operand.Valued.{Valued}
use Rattle.expr_type.specs.Answers.{HaltsBy, reason}
use Rattle.expr_type.specs.Targets as D
use Rattle.expr_type.specs.Typings.{Checked}
use Rattle.typing_assigns.specs.declared.target.Target.{Target}
use Rattle.typing_assigns.specs.declared.target.Target.TheVariants as T
use Rattle.typing_assigns.specs.declared.target.TargetPart.{TargetPart}
use Rattle.typing_assigns.specs.Targets.{StandsFor}

-- a part, as it is defined
abbrev pub part_meant : TargetPart → D.TargetPart
part_meant p = record { of = p.of; has_enum = p.has_enum }

abbrev pub of_part : TargetPart → Valued
of_part p = p.of

abbrev pub part_result : Result TargetPart Halt → Result D.TargetPart Halt
part_result (Ok p) = Ok (part_meant p)
part_result (Err h) = Err h

-- a target that a rule gives, or why it gives none
pub record GivesOne (c : Target) (m : Checked D.Target) : Type 0 where
  pub target : D.Target
  pub stands : StandsFor c target
  pub gives : m ≡ Ok target

abbrev pub GivesTarget : Result Target Halt → Checked D.Target → Type 0
GivesTarget (Ok c) m = GivesOne c m
GivesTarget (Err h) m = HaltsBy h (reason m)

-- parts of at most 2^22 bits each
abbrev pub AllNarrowParts : List TargetPart → Type 0
AllNarrowParts [] = ⊤
AllNarrowParts (p ∷ ps) = IsNarrow p.of × AllNarrowParts ps

abbrev pub AllNarrowValues : List Valued → Type 0
AllNarrowValues [] = ⊤
AllNarrowValues (v ∷ vs) = IsNarrow v × AllNarrowValues vs

abbrev pub IsNarrowTarget : Target → Type 0
IsNarrowTarget (T.Path v) = IsNarrow v
IsNarrowTarget (T.Parts v e) = IsNarrow v
IsNarrowTarget (T.Stream v) = IsNarrow v

abbrev pub NarrowTarget : Result Target Halt → Type 0
NarrowTarget (Ok t) = IsNarrowTarget t
NarrowTarget (Err h) = ⊤
