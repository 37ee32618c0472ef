-- What selects keep.
use Rattle.std.specs.Prelude.{◌≡◌, ◌≤◌, ⊤, true, pos, int_le, List}
use Rattle.sv_types.specs.declared.statement.Function.{Function}
use Rattle.expr_type.specs.declared.step.Step.{Step}
use Rattle.expr_type.specs.declared.step.Step.TheVariants.{Member, Index, Part, Slide}
use Rattle.expr_type.specs.declared.operand.Valued.{Valued}
use Rattle.expr_type.specs.Operands.{width}
use Rattle.typing_fits.specs.Sound.{Sound}

-- an index has at most 64 bits
pub record SoundIndex (i : Valued) (gs : List Function) : Type 0 where
  pub sound : Sound i gs
  pub short : width i ≤ 64

-- a select, as `select_step` of the definitions of typing makes it
abbrev pub SoundStep : Step → List Function → Type 0
SoundStep (Member name) gs = ⊤
SoundStep (Index opening i) gs = SoundIndex i gs
SoundStep (Part opening left right) gs = ⊤
SoundStep (Slide opening up i n) gs = SoundIndex i gs × (int_le (pos 1) n.number ≡ true)
