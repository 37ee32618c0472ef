-- Where no number stands twice, all entries with a number say the same.
use Rattle.std.proofs.Common.{◌≡◌, ◌≢◌, ℕ, suc, ◌==◌, Bool, true, false, cond, List, [], ◌∷◌, refl, arith, ap, sym, ◌∙◌, subst}
use Rattle.std.proofs.lemmas.Bool.Decides.{nat_tests}
use Rattle.std.specs.List.{All}
use Rattle.v_tree.specs.Names.{Name}
use Rattle.v_tree.specs.declared.names.SignalName.{SignalName}
use Rattle.v_tree.specs.declared.names.LocalName.{LocalName}
use Rattle.v_tree.specs.declared.names.FunctionName.{FunctionName}
use Rattle.name_maps.specs.Named.{signal_name, is_memory, local_name, function_name, AllSignals, AllLocals, AllFunctions, OneSignal, OneLocal, OneFunction}
use Rattle.name_maps.specs.Places.{IsOnce}

no-signals : (ss : List SignalName) (n : ℕ) (name : Name) (memory : Bool) → All (λ s. s.signal ≢ n) ss → AllSignals ss n name memory
no-signals [] n name memory none = tt
no-signals (s ∷ ss) n name memory none = (λ is. absurd (none 0 s (omega arith) is), no-signals ss n name memory (λ k d less. none (suc k) d (omega arith)))

pub one-signal-once : (names : List SignalName) (n : ℕ) → IsOnce (λ s. s.signal) names → OneSignal names n
one-signal-once [] n once = tt
one-signal-once (s ∷ ss) n once = by (s.signal == n) refl (one-signal-once ss n once.1)
  where
    by : (b : Bool) → (s.signal == n) ≡ b → OneSignal ss n → OneSignal (s ∷ ss) n
    by true is rest =
        let here : s.signal ≡ n = grind (arith, nat_tests) in
        (λ same. (sym (ap (λ b. cond b s.name (signal_name ss n)) is), sym (ap (λ b. cond b s.memory (is_memory ss n)) is)), no-signals ss n _ _ (λ k d less other. once.0 k d less (other ∙ sym here)))
    by false is rest = (
      λ same. absurd (grind (arith, nat_tests)),
      subst (λ b. AllSignals ss n (cond b s.name (signal_name ss n)) (cond b s.memory (is_memory ss n))) (sym is) rest,
    )

no-locals : (ls : List LocalName) (n : ℕ) (name : Name) → All (λ l. l.local ≢ n) ls → AllLocals ls n name
no-locals [] n name none = tt
no-locals (l ∷ ls) n name none = (λ is. absurd (none 0 l (omega arith) is), no-locals ls n name (λ k d less. none (suc k) d (omega arith)))

pub one-local-once : (names : List LocalName) (n : ℕ) → IsOnce (λ l. l.local) names → OneLocal names n
one-local-once [] n once = tt
one-local-once (l ∷ ls) n once = by (l.local == n) refl (one-local-once ls n once.1)
  where
    by : (b : Bool) → (l.local == n) ≡ b → OneLocal ls n → OneLocal (l ∷ ls) n
    by true is rest =
        let here : l.local ≡ n = grind (arith, nat_tests) in
        (λ same. sym (ap (λ b. cond b l.name (local_name ls n)) is), no-locals ls n _ (λ k d less other. once.0 k d less (other ∙ sym here)))
    by false is rest = (λ same. absurd (grind (arith, nat_tests)), subst (λ b. AllLocals ls n (cond b l.name (local_name ls n))) (sym is) rest)

no-functions : (fs : List FunctionName) (n : ℕ) (name : Name) → All (λ f. f.function ≢ n) fs → AllFunctions fs n name
no-functions [] n name none = tt
no-functions (f ∷ fs) n name none = (λ is. absurd (none 0 f (omega arith) is), no-functions fs n name (λ k d less. none (suc k) d (omega arith)))

pub one-function-once : (names : List FunctionName) (n : ℕ) → IsOnce (λ f. f.function) names → OneFunction names n
one-function-once [] n once = tt
one-function-once (f ∷ fs) n once = by (f.function == n) refl (one-function-once fs n once.1)
  where
    by : (b : Bool) → (f.function == n) ≡ b → OneFunction fs n → OneFunction (f ∷ fs) n
    by true is rest =
        let here : f.function ≡ n = grind (arith, nat_tests) in
        (λ same. sym (ap (λ b. cond b f.name (function_name fs n)) is), no-functions fs n _ (λ k d less other. once.0 k d less (other ∙ sym here)))
    by false is rest = (λ same. absurd (grind (arith, nat_tests)), subst (λ b. AllFunctions fs n (cond b f.name (function_name fs n))) (sym is) rest)
