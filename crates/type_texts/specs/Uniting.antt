-- Members of a union that don't have one width.
use Rattle.std.specs.Prelude.{◌≡◌, ℕ, ◌==◌, cond, List, [], ◌∷◌, Option, Some, None, Result, Ok, Err}
use Rattle.expr_type.specs.declared.halt.Halt.{Halt}
use Rattle.expr_type.specs.Answers.{Break, HaltsBy}
use Rattle.expr_type.specs.Types.{Field}
use Rattle.sv_types.specs.Layouts.{width_of}

-- the name of the first that hasn't so many bits
abbrev pub first_other : ℕ → List Field → Option ℕ
first_other w [] = None
first_other w (f ∷ fs) = cond (width_of f.of == w) (first_other w fs) (Some f.at)

-- none, or that it breaks E506 there
abbrev pub broken_at : Option ℕ → Option (Option Break)
broken_at None = None
broken_at (Some at) = Some (Some (record { at = at; rule = 506 }))

abbrev pub Unites : Result (Unit {0}) Halt → Option ℕ → Type 0
Unites (Ok u) o = o ≡ None
Unites (Err h) o = HaltsBy h (broken_at o)
