-- What valuing an expression answers.
use Rattle.std.specs.Prelude.{◌≡◌, ⊤, Vec, ℕ, Bool, List, map, zip, Option, Some, Result, Ok, Err}
use Rattle.std.specs.Global.{Global}
use Rattle.b4_core.specs.declared.bit.Bit4.{Bit4}
use Rattle.sv_types.specs.Surroundings.{Around, Tally, Stop, Callee}
use Rattle.sv_types.specs.Meanings.{Meaning, alone, by_itself, values_all}
use Rattle.sv_types.specs.Operators.{assigned_to}
use Rattle.eval_parts.specs.declared.halt.Halt.{Halt}
use Rattle.eval_parts.specs.declared.halt.Halt.TheVariants as H
use Rattle.eval_parts.specs.Surroundings.{running}

-- a run that stops for this cause
abbrev pub Halts : Halt → Tally → Type 0
Halts H.Memory t = ⊤
Halts (H.NotHeld n) t = t.stop ≡ Some (Stop.NotHeld n)
Halts H.Turns t = t.stop ≡ Some Stop.Turns

-- what an expression's bits are, at a width and sign, and what is left of the run
abbrev pub Gives : Result (List Bit4) Halt → Meaning → ℕ → Bool → Around → Option ℕ → Option ℕ → Type 0
Gives (Ok v) m w s a old new = (v ≡ m.value w s a) × (m.values a (running old) ≡ running new)
Gives (Err halt) m w s a old new = Halts halt (m.values a (running old))

-- the values of several expressions alone
abbrev pub alones : List Meaning → Around → List (List Bit4)
alones ms a = map (λ (m : Meaning). alone m a) ms

abbrev pub AllGive : Result (Vec (List Bit4) Global) Halt → List Meaning → Around → Option ℕ → Option ℕ → Type 0
AllGive (Ok vs) ms a old new = (vs.items ≡ alones ms a) × (values_all (map by_itself ms) a (running old) ≡ running new)
AllGive (Err halt) ms a old new = Halts halt (values_all (map by_itself ms) a (running old))

-- what is given to a target of so many bits
abbrev pub GivesTo : Result (List Bit4) Halt → Meaning → ℕ → Around → Option ℕ → Option ℕ → Type 0
GivesTo (Ok v) m n a old new = (v ≡ m.given n a) × (m.values a (running old) ≡ running new)
GivesTo (Err halt) m n a old new = Halts halt (m.values a (running old))

-- what is assigned to places with these marks, as far as there are both places and values
abbrev pub assigned : List (List Bool) → List Meaning → Around → List (List Bit4)
assigned places ms a = map (λ p. assigned_to p.0 p.1 a) (zip places ms)

abbrev pub values_assigned : List (List Bool) → List Meaning → Around → Tally → Tally
values_assigned places ms = values_all (map (λ p. by_itself p.1) (zip places ms))

abbrev pub AllAssigned : Result (Vec (List Bit4) Global) Halt → List (List Bool) → List Meaning → Around → Option ℕ → Option ℕ → Type 0
AllAssigned (Ok vs) places ms a old new = (vs.items ≡ assigned places ms a) × (values_assigned places ms a (running old) ≡ running new)
AllAssigned (Err halt) places ms a old new = Halts halt (values_assigned places ms a (running old))

-- what a call gives
abbrev pub CallGives : Result (List Bit4) Halt → Callee → List (List Bit4) → Option ℕ → Option ℕ → Type 0
CallGives (Ok v) c vs old new = (v ≡ (c.run vs).result) × (c.effort vs (running old) ≡ running new)
CallGives (Err halt) c vs old new = Halts halt (c.effort vs (running old))

-- what can only want memory, which stops a run
abbrev pub Stops : {E : Type 0} → Result (List Bit4) E → Result (List Bit4) Halt → Type 0
Stops (Ok v) r = r ≡ Ok v
Stops (Err x) r = r ≡ Err H.Memory
