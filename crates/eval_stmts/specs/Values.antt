-- What expressions give in an environment.
use Rattle.std.specs.Prelude.{◌≡◌, ℕ, Bool, List, Option, Result, Ok, Err}
use Rattle.b4_core.specs.declared.bit.Bit4.{Bit4}
use Rattle.sv_types.specs.Surroundings.{Around}
use Rattle.sv_types.specs.Meanings.{Meaning}
use Rattle.sv_types.specs.Operators.{assigned_to}
use Rattle.sv_types.specs.Runs.{is_true}
use Rattle.eval_parts.specs.declared.halt.Halt.{Halt}
use Rattle.eval_parts.specs.Answers.{Halts}
use Rattle.eval_parts.specs.Surroundings.{running}

-- an expression that ran to its end, or why it stopped
abbrev pub Valued : {T : Type 0} → (T → Type 0) → Result T Halt → Meaning → Around → Option ℕ → Option ℕ → Type 0
Valued is (Ok v) m a old new = is v × (m.values a (running old) ≡ running new)
Valued is (Err h) m a old new = Halts h (m.values a (running old))

-- what is assigned to a place with these marks
abbrev pub AssignedTo : Result (List Bit4) Halt → List Bool → Meaning → Around → Option ℕ → Option ℕ → Type 0
AssignedTo r marks m a old new = Valued (λ v. v ≡ assigned_to marks m a) r m a old new

-- whether a condition is true
abbrev pub TruthGives : Result Bool Halt → Meaning → Around → Option ℕ → Option ℕ → Type 0
TruthGives r m a old new = Valued (λ b. b ≡ is_true m a) r m a old new
