-- Entries of maps at a place.
use Rattle.std.proofs.Common.{◌≡◌, ◌≢◌, ℕ, zero, suc, ◌<◌, ◌==◌, Bool, false, cond, length, List, [], ◌∷◌, get_or, refl, arith, ap, sym, ◌∙◌}
use Rattle.std.proofs.lemmas.Bool.Decides.{nat_tests}
use Rattle.std.specs.List.{All}
use Rattle.v_tree.specs.Names.{Name}
use Rattle.v_tree.specs.declared.names.SignalName.{SignalName}
use Rattle.v_tree.specs.declared.names.LocalName.{LocalName}
use Rattle.v_tree.specs.declared.names.FunctionName.{FunctionName}
use Rattle.name_maps.specs.Named.{signal_name, is_memory, local_name, function_name, AllSignals, AllLocals, AllFunctions, OneSignal, OneLocal, OneFunction}

-- an entry with the number at a place says what all with the number do
signals-at : (names : List SignalName) (n k : ℕ) (name : Name) (memory : Bool) (d : SignalName) → AllSignals names n name memory → k < length names → (get_or names k d).signal ≡ n
    → ((get_or names k d).name ≡ name) × ((get_or names k d).memory ≡ memory)
signals-at [] n k name memory d all less is = absurd (omega arith)
signals-at (s ∷ ss) n zero name memory d all less is = all.0 is
signals-at (s ∷ ss) n (suc k) name memory d all less is = signals-at ss n k name memory d all.1 (omega arith) is

locals-at : (names : List LocalName) (n k : ℕ) (name : Name) (d : LocalName) → AllLocals names n name → k < length names → (get_or names k d).local ≡ n → (get_or names k d).name ≡ name
locals-at [] n k name d all less is = absurd (omega arith)
locals-at (l ∷ ls) n zero name d all less is = all.0 is
locals-at (l ∷ ls) n (suc k) name d all less is = locals-at ls n k name d all.1 (omega arith) is

functions-at : (names : List FunctionName) (n k : ℕ) (name : Name) (d : FunctionName) → AllFunctions names n name → k < length names → (get_or names k d).function ≡ n → (get_or names k d).name ≡ name
functions-at [] n k name d all less is = absurd (omega arith)
functions-at (f ∷ fs) n zero name d all less is = all.0 is
functions-at (f ∷ fs) n (suc k) name d all less is = functions-at fs n k name d all.1 (omega arith) is

-- so it says what the first one does
pub one-signal-at : (names : List SignalName) (n k : ℕ) (d : SignalName) → OneSignal names n → k < length names → (get_or names k d).signal ≡ n
    → ((get_or names k d).name ≡ signal_name names n) × ((get_or names k d).memory ≡ is_memory names n)
one-signal-at names n k d one less is = signals-at names n k (signal_name names n) (is_memory names n) d one less is

pub one-local-at : (names : List LocalName) (n k : ℕ) (d : LocalName) → OneLocal names n → k < length names → (get_or names k d).local ≡ n → (get_or names k d).name ≡ local_name names n
one-local-at names n k d one less is = locals-at names n k (local_name names n) d one less is

pub one-function-at : (names : List FunctionName) (n k : ℕ) (d : FunctionName) → OneFunction names n → k < length names → (get_or names k d).function ≡ n → (get_or names k d).name ≡ function_name names n
one-function-at names n k d one less is = functions-at names n k (function_name names n) d one less is

-- nothing where none has the number
pub signal-absent : (names : List SignalName) (n : ℕ) → All (λ s. s.signal ≢ n) names → ([] ≡ signal_name names n) × (false ≡ is_memory names n)
signal-absent [] n none = (refl, refl)
signal-absent (s ∷ ss) n none =
    let test : (s.signal == n) ≡ false = (let apart = none 0 s (omega arith) in grind (arith, nat_tests)) in
    let rest = signal-absent ss n (λ k d less. none (suc k) d (omega arith)) in
    (rest.0 ∙ sym (ap (λ b. cond b s.name (signal_name ss n)) test), rest.1 ∙ sym (ap (λ b. cond b s.memory (is_memory ss n)) test))

pub local-absent : (names : List LocalName) (n : ℕ) → All (λ l. l.local ≢ n) names → [] ≡ local_name names n
local-absent [] n none = refl
local-absent (l ∷ ls) n none =
    let test : (l.local == n) ≡ false = (let apart = none 0 l (omega arith) in grind (arith, nat_tests)) in
    local-absent ls n (λ k d less. none (suc k) d (omega arith)) ∙ sym (ap (λ b. cond b l.name (local_name ls n)) test)

pub function-absent : (names : List FunctionName) (n : ℕ) → All (λ f. f.function ≢ n) names → [] ≡ function_name names n
function-absent [] n none = refl
function-absent (f ∷ fs) n none =
    let test : (f.function == n) ≡ false = (let apart = none 0 f (omega arith) in grind (arith, nat_tests)) in
    function-absent fs n (λ k d less. none (suc k) d (omega arith)) ∙ sym (ap (λ b. cond b f.name (function_name fs n)) test)
