-- What is selected, and the widths of selects.
use Rattle.std.specs.Prelude.{◌≡◌, ℕ, ⊤, ℤ, pos, ◌≤ℤ◌, Result, Ok, Err}
use Rattle.std.specs.declared.alloc.AllocError.{AllocError}
use Rattle.sv_types.specs.declared.expression.Form.{Form}
use Rattle.sv_types.specs.declared.types.SvType.{SvType}
use Rattle.sv_types.specs.Layouts.{width_of}
use Rattle.expr_type.specs.declared.halt.Halt.{Halt}
use Rattle.expr_type.specs.declared.halt.Halt.TheVariants.{Memory}
use Rattle.expr_type.specs.declared.operand.Valued.{Valued}
use Rattle.expr_type.specs.Answers.{Gives}
use Rattle.expr_type.specs.declared.step.Step.{Step}
use Rattle.expr_type.specs.declared.step.Step.TheVariants.{Member, Index, Part, Slide}
use Rattle.expr_type.specs.Names.{Source}
use Rattle.expr_type.specs.Operators.{by_itself, not_too_long}
use Rattle.expr_type.specs.Typings.{Checked}

-- of at most 65,536 bits
abbrev pub selected : Source → ℕ → ℕ → SvType → Form → Checked Valued
selected k at first of form = not_too_long k at (width_of of) (Ok (by_itself k first of form))

-- a width of 32 bits that isn't zero
pub record IsWidth (n : ℤ) : Type 0 where
  pub least : pos 1 ≤ℤ n
  pub most : n ≤ℤ pos 4294967295

abbrev pub StepFits : Step → Type 0
StepFits (Member name) = ⊤
StepFits (Index opening i) = ⊤
StepFits (Part opening left right) = ⊤
StepFits (Slide opening up i n) = IsWidth n.number

-- what is made of a part that may be want of memory
abbrev pub GivesIf : {A : Type 0} → Result A AllocError → (A → Checked Valued) → Result Valued Halt → Type 0
GivesIf (Ok a) f result = Gives result (f a)
GivesIf (Err e) f result = result ≡ Err Memory
