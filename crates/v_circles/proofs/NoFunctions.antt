-- Of a design without functions, all tokens at which it breaks a rule.
use Rattle.std.proofs.Common.{◌≡◌, ℕ, ◌+◌, Bool, true, false, List, [], ◌∷◌, ◌++◌, length, refl, ap}
use Rattle.std.specs.List.{list_any}
use Rattle.std.proofs.lemmas.Bool.{or_parts, true≢false}
use Rattle.v_tree.specs.Scopes.{inside, nowhere, repeated}
use Rattle.v_tree.specs.ExprRules.{Around, only_if}
use Rattle.v_tree.specs.Rules.{item_size, ports_size, module_size, module_links, leads, signal_broken, initial_broken, process_broken, child_broken, module_named, declared_in, ports_of, listed_ports, undeclared, unlisted, module_names, items_broken, module_broken, modules_broken, broken_tokens}
use Rattle.v_tree.specs.declared.items.VDesign.{VDesign}
use Rattle.v_tree.specs.declared.items.VItem.{VItem}
use Rattle.v_tree.specs.declared.items.VItem.TheVariants as I
use Rattle.v_tree.specs.declared.items.VModule.{VModule}
use Rattle.v_circles.specs.Plain.{items_checked, module_checked, modules_checked, design_checked}

abbrev pub is_function : VItem → Bool
is_function (I.Signal s) = false
is_function (I.Initial i) = false
is_function (I.Process p) = false
is_function (I.Function f) = true
is_function (I.Instance i) = false

abbrev pub has_function : VModule → Bool
has_function m = list_any is_function m.items

items-same : (ms : List VModule) (m : VModule) (a : Around) (is : List VItem) (at : ℕ) → list_any is_function is ≡ false → items_broken ms m a is at ≡ items_checked ms m a is at
items-same ms m a [] at e = refl
items-same ms m a (I.Signal s ∷ is) at e = ap (λ (ts : List ℕ). signal_broken s at ++ ts) (items-same ms m a is (at + item_size (I.Signal s)) e)
items-same ms m a (I.Initial i ∷ is) at e =
    ap (λ (ts : List ℕ). initial_broken (a.scope i.name) (length i.value) at ++ ts) (items-same ms m a is (at + item_size (I.Initial i)) e)
items-same ms m a (I.Process p ∷ is) at e = ap (λ (ts : List ℕ). process_broken a p at ++ ts) (items-same ms m a is (at + item_size (I.Process p)) e)
items-same ms m a (I.Function f ∷ is) at e = absurd (true≢false e)
items-same ms m a (I.Instance i ∷ is) at e =
    ap (λ (ts : List ℕ). (only_if (leads (length ms) (module_links ms) i.of m.name) at ++ child_broken a (module_named ms i.of) i at) ++ ts)
    (items-same ms m a is (at + item_size (I.Instance i)) e)

module-same : (ms : List VModule) (m : VModule) (at : ℕ) → has_function m ≡ false → module_broken ms m at ≡ module_checked ms m at
module-same ms m at e =
    let begin = at + (3 + ports_size m.ports) in
    let own = declared_in m.items begin in
    let ports = ports_of m.items begin in
    let list = listed_ports m.ports (at + 3) in
    let a : Around = record { scope = inside own nowhere; leads_back = λ f. false } in
    ap (λ (ts : List ℕ). repeated [] list ++ (undeclared ports list ++ (unlisted m.ports ports ++ (repeated [] own ++ ts)))) (items-same ms m a m.items begin e)

modules-same : (all ms : List VModule) (at : ℕ) → list_any has_function ms ≡ false → modules_broken all ms at ≡ modules_checked all ms at
modules-same all [] at e = refl
modules-same all (m ∷ ms) at e =
    let parts = or_parts (has_function m) (list_any has_function ms) e in
    λ i. module-same all m at parts.0 i ++ modules-same all ms (at + module_size m) parts.1 i

pub without_functions : (e : VDesign) → list_any has_function e.modules ≡ false → broken_tokens e ≡ design_checked e
without_functions e h = ap (λ (ts : List ℕ). repeated [] (module_names e.modules 0) ++ ts) (modules-same e.modules e.modules 0 h)
