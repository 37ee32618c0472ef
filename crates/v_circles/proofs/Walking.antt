-- What the walk finds: the calls of the modules one by one, with their tokens.
use Rattle.std.proofs.Common.{◌≡◌, ℕ, suc, ◌+◌, List, [], ◌∷◌, ◌++◌, Option, refl, sym, ap, ◌∙◌, append_assoc, arith}
use Rattle.std.proofs.lemmas.List.{append-nil}
use Rattle.call_circles.specs.declared.calls.Call.{Call}
use Rattle.v_tree.specs.Rules.{item_size, items_size, ports_size, module_size}
use Rattle.v_tree.specs.declared.items.VItem.{VItem}
use Rattle.v_tree.specs.declared.items.VModule.{VModule}
use Rattle.v_expr_rules.specs.Seen.{plus}
use Rattle.v_expr_rules.specs.Least.{cap}
use Rattle.v_expr_rules.proofs.Saturation.{plus-cap}
use Rattle.v_expr_rules.proofs.Operands.{sum-of, next-token}
use Rattle.v_rules.specs.Tables.{Numbers}
use Rattle.v_rules.specs.Items.{list_tokens}
use Rattle.v_rules.proofs.ModulesExact.{tokens-are}
use Rattle.v_circles.specs.Calls.{item_calls, Walked, items_walked, own_number, module_ended, module_walked, modules_walked, nothing_walked}

-- the calls in items, of which the first one begins at a token
abbrev pub calls_in : Numbers → Option ℕ → List VItem → ℕ → List Call
calls_in ns from [] at = []
calls_in ns from (i ∷ is) at = item_calls ns from i (cap at) ++ calls_in ns from is (at + item_size i)

abbrev pub all_calls : Numbers → ℕ → List VModule → ℕ → List Call
all_calls ns n [] at = []
all_calls ns n (m ∷ ms) at =
    calls_in ns (own_number (ns m.name) n) m.items (at + (3 + ports_size m.ports)) ++ all_calls ns (suc n) ms (at + module_size m)

abbrev walked : ℕ → List Call → Walked
walked at cs = record { at = cap at; calls = cs }

items-walk : (ns : Numbers) (from : Option ℕ) (is : List VItem) (k : ℕ) (cs : List Call)
    → items_walked ns from is (walked k cs) ≡ walked (k + items_size is) (cs ++ calls_in ns from is k)
items-walk ns from [] k cs = λ i. record { at = cap (same i); calls = sym (append-nil cs) i }
  where
    same : k ≡ k + 0
    same = omega arith
items-walk ns from (x ∷ is) k cs =
    let further : (k + item_size x) + items_size is ≡ k + (item_size x + items_size is) = omega arith in
    ap (λ n. items_walked ns from is (record { at = n; calls = cs ++ item_calls ns from x (cap k) })) (plus-cap k (item_size x))
    ∙ items-walk ns from is (k + item_size x) (cs ++ item_calls ns from x (cap k))
    ∙ (λ i. record { at = cap (further i); calls = append_assoc cs (item_calls ns from x (cap k)) (calls_in ns from is (k + item_size x)) i })

module-walk : (ns : Numbers) (n : ℕ) (m : VModule) (k : ℕ) (cs : List Call)
    → module_walked ns n m (walked k cs) ≡ walked (k + module_size m) (cs ++ calls_in ns (own_number (ns m.name) n) m.items (k + (3 + ports_size m.ports)))
module-walk ns n m k cs =
    let begin = k + (3 + ports_size m.ports) in
    let from = own_number (ns m.name) n in
    let whole : suc (begin + items_size m.items) ≡ k + module_size m = omega arith in
    ap (λ a. module_ended (items_walked ns from m.items (record { at = a; calls = cs })))
    (sum-of (cap k) (plus 3 (list_tokens m.ports)) k (3 + ports_size m.ports) refl (sum-of 3 (list_tokens m.ports) 3 (ports_size m.ports) refl (tokens-are m.ports)))
    ∙ ap module_ended (items-walk ns from m.items begin cs)
    ∙ (λ i. record { at = (next-token (begin + items_size m.items) ∙ ap cap whole) i; calls = cs ++ calls_in ns from m.items begin })

modules-walk : (ns : Numbers) (n : ℕ) (ms : List VModule) (k : ℕ) (cs : List Call) → (modules_walked ns n ms (walked k cs)).calls ≡ cs ++ all_calls ns n ms k
modules-walk ns n [] k cs = sym (append-nil cs)
modules-walk ns n (m ∷ ms) k cs =
    let here = calls_in ns (own_number (ns m.name) n) m.items (k + (3 + ports_size m.ports)) in
    ap (λ w. (modules_walked ns (suc n) ms w).calls) (module-walk ns n m k cs)
    ∙ modules-walk ns (suc n) ms (k + module_size m) (cs ++ here)
    ∙ append_assoc cs here (all_calls ns (suc n) ms (k + module_size m))

pub walk-calls : (ns : Numbers) (ms : List VModule) → (modules_walked ns 0 ms nothing_walked).calls ≡ all_calls ns 0 ms 0
walk-calls ns ms = modules-walk ns 0 ms 0 []
