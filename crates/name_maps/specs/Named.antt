-- The names under which signals, locals and functions stand in a text, by their numbers.
use Rattle.std.specs.Prelude.{◌≡◌, ℕ, ◌==◌, ⊤, Bool, false, cond, List, [], ◌∷◌}
use Rattle.v_tree.specs.Names.{Name}
use Rattle.v_tree.specs.declared.names.SignalName.{SignalName}
use Rattle.v_tree.specs.declared.names.LocalName.{LocalName}
use Rattle.v_tree.specs.declared.names.FunctionName.{FunctionName}

-- the name of the first one with this number; nothing where there is none
abbrev pub signal_name : List SignalName → ℕ → Name
signal_name [] n = []
signal_name (s ∷ ss) n = cond (s.signal == n) s.name (signal_name ss n)

-- whether the first one with this number is a memory in the text; not where there is none
abbrev pub is_memory : List SignalName → ℕ → Bool
is_memory [] n = false
is_memory (s ∷ ss) n = cond (s.signal == n) s.memory (is_memory ss n)

abbrev pub local_name : List LocalName → ℕ → Name
local_name [] n = []
local_name (l ∷ ls) n = cond (l.local == n) l.name (local_name ls n)

abbrev pub function_name : List FunctionName → ℕ → Name
function_name [] n = []
function_name (f ∷ fs) n = cond (f.function == n) f.name (function_name fs n)

-- each one with this number has this name, and is a memory or not as told
abbrev pub AllSignals : List SignalName → ℕ → Name → Bool → Type 0
AllSignals [] n name memory = ⊤
AllSignals (s ∷ ss) n name memory = (s.signal ≡ n → (s.name ≡ name) × (s.memory ≡ memory)) × AllSignals ss n name memory

abbrev pub AllLocals : List LocalName → ℕ → Name → Type 0
AllLocals [] n name = ⊤
AllLocals (l ∷ ls) n name = (l.local ≡ n → l.name ≡ name) × AllLocals ls n name

abbrev pub AllFunctions : List FunctionName → ℕ → Name → Type 0
AllFunctions [] n name = ⊤
AllFunctions (f ∷ fs) n name = (f.function ≡ n → f.name ≡ name) × AllFunctions fs n name

-- all of them with this number say the same: so it is where no number stands twice
abbrev pub OneSignal : List SignalName → ℕ → Type 0
OneSignal names n = AllSignals names n (signal_name names n) (is_memory names n)

abbrev pub OneLocal : List LocalName → ℕ → Type 0
OneLocal names n = AllLocals names n (local_name names n)

abbrev pub OneFunction : List FunctionName → ℕ → Type 0
OneFunction names n = AllFunctions names n (function_name names n)
