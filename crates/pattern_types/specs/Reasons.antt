-- Why something isn't whole, as the code has it.
use Rattle.std.specs.Prelude.{◌≡◌, ℕ, Option, Some, None, Result, Ok, Err}
use Rattle.expr_type.specs.declared.halt.Halt.{Halt}
use Rattle.expr_type.specs.declared.halt.Halt.TheVariants as H
use Rattle.expr_type.specs.Answers.{Break, HaltsBy}
use Rattle.pattern_laws.specs.Reasons.{Reason}
use Rattle.pattern_types.specs.declared.looks.Look.{Look}
use Rattle.pattern_types.specs.declared.looks.Look.TheVariants.{Fine, Quiet, Breaks}

abbrev pub break_at : ℕ → ℕ → Break
break_at at rule = record { at = at; rule = rule }

abbrev pub reason_of : Look → Reason
reason_of Fine = None
reason_of Quiet = Some None
reason_of (Breaks at rule) = Some (Some (break_at at rule))

abbrev pub tried_of : Option Look → Option Reason
tried_of None = None
tried_of (Some l) = Some (reason_of l)

-- what a halt says of something
abbrev pub Says : Halt → Look → Type 0
Says H.Memory l = ⊥
Says (H.Breaks at rule) l = reason_of l ≡ Some (Some (break_at at rule))
Says H.Quiet l = reason_of l ≡ Some None

abbrev pub Passes : Result (Unit {0}) Halt → Reason → Type 0
Passes (Ok u) r = r ≡ None
Passes (Err h) r = HaltsBy h r
