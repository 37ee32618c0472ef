-- Calls of tasks and void functions: what goes in, and what comes out.
use Rattle.std.specs.Prelude.{◌≡◌, Vec, ℕ, List, Option, Result, Ok, Err}
use Rattle.std.specs.Global.{Global}
use Rattle.b4_core.specs.declared.bit.Bit4.{Bit4}
use Rattle.sv_types.specs.Surroundings.{Around, Parameter}
use Rattle.sv_types.specs.Meanings.{Meaning}
use Rattle.sv_types.specs.Runs as R
use Rattle.sv_types.specs.Runs.{all_taken_in}
use Rattle.sv_types.specs.Efforts as E
use Rattle.sv_types.specs.Efforts.{Step, all_take_in}
use Rattle.eval_parts.specs.declared.halt.Halt.{Halt}
use Rattle.eval_parts.specs.Answers.{Halts}
use Rattle.eval_parts.specs.Surroundings.{running}

-- what is passed to formals
abbrev pub TakesIn : Result (Vec (List Bit4) Global) Halt → List Parameter → List Meaning → Around → Option ℕ → Option ℕ → Type 0
TakesIn (Ok vs) ps ms a old new = (vs.items ≡ all_taken_in ps ms a) × (all_take_in ps ms a (running old) ≡ running new)
TakesIn (Err h) ps ms a old new = Halts h (all_take_in ps ms a (running old))

-- the outputs are assigned in the order of the formals
abbrev pub copies_step : List Parameter → List Meaning → List (List Bit4) → Step
copies_step ps ms vs = record { run = R.copies_out ps ms vs; effort = E.copies_out ps ms vs }

-- what is passed to one formal
abbrev pub OneTaken : Result (List Bit4) Halt → Parameter → Meaning → Around → Option ℕ → Option ℕ → Type 0
OneTaken (Ok v) p m a old new = (v ≡ R.taken_in p.way p.two_state m a) × (E.takes_in p.way m a (running old) ≡ running new)
OneTaken (Err h) p m a old new = Halts h (E.takes_in p.way m a (running old))
