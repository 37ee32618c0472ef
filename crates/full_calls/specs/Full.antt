-- What is found of calls.
use Rattle.std.specs.Prelude.{◌≡◌, ⊤, ℕ, Bool, true, false, List}
use Rattle.std.specs.List.{list_all}
use Rattle.sv_types.specs.declared.expression.Choice.{Choice, fold-Choice}
use Rattle.sv_types.specs.Surroundings.{Parameter}
use Rattle.expr_flows.specs.Full.{choice_step, form_step, expr_step}

-- something holds where that was found
abbrev pub FullIf : Bool → Bool → Type 0
FullIf true b = b ≡ true
FullIf false b = ⊤

-- alternatives of `inside`
abbrev pub choice_full : (ℕ → List Parameter) → Choice → Bool
choice_full fs = fold-Choice Bool Bool Bool choice_step (form_step fs) expr_step

abbrev pub choices_full : (ℕ → List Parameter) → List Choice → Bool
choices_full fs cs = list_all (choice_full fs) cs
