-- Two things in the order of the text, of which both are looked at.
use Rattle.std.specs.Prelude.{◌≡◌, Option, Some, None, Result, Ok, Err}
use Rattle.expr_type.specs.declared.halt.Halt.{Halt}
use Rattle.expr_type.specs.declared.halt.Halt.TheVariants as H

-- what something stops by
abbrev pub stop : {A : Type 0} → Result A Halt → Option Halt
stop (Ok a) = None
stop (Err h) = Some h

-- The first break counts. Behind what breaks no rule and isn't whole nothing is whole.
abbrev pub first_stop : Option Halt → Option Halt → Option Halt
first_stop None b = b
first_stop (Some H.Quiet) None = Some H.Quiet
first_stop (Some H.Quiet) (Some h) = Some h
first_stop (Some H.Memory) b = Some H.Memory
first_stop (Some (H.Breaks at rule)) b = Some (H.Breaks at rule)

abbrev pub Besides : {A B : Type 0} → Result A Halt → Result B Halt → Result (A × B) Halt → Type 0
Besides a b (Ok p) = (a ≡ Ok p.0) × (b ≡ Ok p.1)
Besides a b (Err h) = first_stop (stop a) (stop b) ≡ Some h

-- what is whole
abbrev pub known_of : {A : Type 0} → Result A Halt → Option A
known_of (Ok a) = Some a
known_of (Err h) = None
