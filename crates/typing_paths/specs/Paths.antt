-- Selects behind values and names, over expressions.
use Rattle.std.specs.Prelude.{ℕ, Bool, List, map}
use Rattle.sv_tree.specs.declared.expressions.Expr.{Expr}
use Rattle.sv_tree.specs.declared.expressions.Select.{Select}
use Rattle.sv_tree.specs.declared.names.QualifiedName.{QualifiedName}
use Rattle.sv_tree.specs.declared.operators.PartOperator.{PartOperator}
use Rattle.operand_types.specs.Allowed.{IsNarrow}
use Rattle.select_types.specs.Selected.{IsWidth, StepFits}
use Rattle.expr_type.specs.declared.operand.Number.{Number}
use Rattle.expr_type.specs.declared.operand.Valued.{Valued}
use Rattle.expr_type.specs.declared.step.Step.{Step}
use Rattle.expr_type.specs.declared.step.Step.TheVariants as S
use Rattle.expr_type.specs.Expressions as E
use Rattle.expr_type.specs.Expressions.{meaning, select_meaning}
use Rattle.expr_type.specs.Forms as F
use Rattle.expr_type.specs.Names.{Context, member_in, word}
use Rattle.expr_type.specs.Selects.{path, stepped}
use Rattle.expr_type.specs.Typings.{Checked, Typing, beside, both, checked, rule, whole}
use Rattle.typing_paths.specs.TypingValues.{named_alone}
use Rattle.typing_paths.specs.TypingValues.{width_of}
use Rattle.typing_paths.specs.TypingValues.{index_of}

-- an index or a base and a width
abbrev pub sliding_of : Context → Expr → Expr → Typing (Valued × Number)
sliding_of k left right = beside (index_of k left) (width_of k right)

abbrev pub slide_of : Context → ℕ → Bool → Expr → Expr → Typing Step
slide_of k opening up left right = both (index_of k left) (width_of k right) (λ i n. whole (S.Slide opening up i n))

abbrev pub index_step_of : Context → ℕ → Expr → Typing Step
index_step_of k opening e = checked (index_of k e) (λ v. whole (S.Index opening v))

abbrev pub part_of : Context → PartOperator → ℕ → Expr → Expr → Typing Step
part_of k operator opening left right = E.part_step operator k opening (meaning left) (meaning right)

abbrev pub step_of : Context → Select → Typing Step
step_of k s = (select_meaning s).step k

abbrev pub SlidesFit : Valued × Number → Type 0
SlidesFit p = IsWidth p.1.number

-- what stands before a select, and the select
abbrev pub stepping_of : Context → Typing Valued → Select → Typing (Valued × Step)
stepping_of k x s = beside x (step_of k s)

pub record CanStep (p : Valued × Step) : Type 0 where
  pub narrow : IsNarrow p.0
  pub fits : StepFits p.1

abbrev pub selected_of : Context → Typing Valued → Select → Typing Valued
selected_of k x s = both x (step_of k s) (λ v t. rule (stepped k.source v t))

-- what selects make of what stands before them
abbrev pub path_of : Context → Typing Valued → List Select → Typing Valued
path_of k x ss = path k.source x (F.steps k (map select_meaning ss))

-- selects behind the name of a value
abbrev pub value_path_of : Context → QualifiedName → List Select → Typing Valued
value_path_of k of ss = path_of k (rule (named_alone k of)) ss

-- the member of an interface's instance or port whose name stands at a token
abbrev pub member_of : Context → ℕ → ℕ → ℕ → Checked Valued
member_of k first interface at = F.signal_or k.source first at (member_in interface (word k.source at) k.signals)

abbrev pub member_path_of : Context → ℕ → ℕ → List Select → Typing Valued
member_path_of k first interface ss = F.of_interface k first interface (map select_meaning ss)
