-- That something is admitted as it stands, or why it isn't.
use Rattle.std.specs.Prelude.{◌≡◌, Result, Ok, Err}
use Rattle.expr_type.specs.declared.halt.Halt.{Halt}
use Rattle.expr_type.specs.Answers.{HaltsBy, reason}
use Rattle.expr_type.specs.Typings.{Checked}

abbrev pub Admits : {A : Type 0} → Result (Unit {0}) Halt → A → Checked A → Type 0
Admits (Ok u) a m = m ≡ Ok a
Admits (Err h) a m = HaltsBy h (reason m)
