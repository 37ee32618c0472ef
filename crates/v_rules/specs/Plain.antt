-- The tokens at which a design breaks a rule that needs no top, but for modules and functions that lead back to themselves.
use Rattle.std.specs.Prelude.{ℕ, suc, ◌+◌, false, List, [], ◌∷◌, ◌++◌, length}
use Rattle.v_tree.specs.Scopes.{inside, nowhere, repeated}
use Rattle.v_tree.specs.ExprRules.{Around}
use Rattle.v_tree.specs.Rules.{item_size, module_size, ports_size, signal_broken, initial_broken, process_broken, child_broken, module_named, declared_in, ports_of, listed_ports, undeclared, unlisted, module_names}
use Rattle.v_tree.specs.declared.items.VDesign.{VDesign}
use Rattle.v_tree.specs.declared.items.VItem.{VItem}
use Rattle.v_tree.specs.declared.items.VItem.TheVariants as I
use Rattle.v_tree.specs.declared.items.VModule.{VModule}
use Rattle.v_item_rules.specs.Plain.{function_plain}

abbrev pub item_plain : List VModule → Around → VItem → ℕ → List ℕ
item_plain ms around (I.Signal s) at = signal_broken s at
item_plain ms around (I.Initial i) at = initial_broken (around.scope i.name) (length i.value) at
item_plain ms around (I.Process p) at = process_broken around p at
item_plain ms around (I.Function f) at = function_plain around.scope f at
item_plain ms around (I.Instance i) at = child_broken around (module_named ms i.of) i at

abbrev pub items_plain : List VModule → Around → List VItem → ℕ → List ℕ
items_plain ms around [] at = []
items_plain ms around (i ∷ is) at = item_plain ms around i at ++ items_plain ms around is (at + item_size i)

abbrev pub module_plain : List VModule → VModule → ℕ → List ℕ
module_plain ms m at =
    let first = at + (3 + ports_size m.ports) in
    let own = declared_in m.items first in
    let ports = ports_of m.items first in
    let list = listed_ports m.ports (at + 3) in
    repeated [] list ++ (undeclared ports list ++ (unlisted m.ports ports
    ++ (repeated [] own ++ items_plain ms (record { scope = inside own nowhere; leads_back = λ f. false }) m.items first)))

abbrev pub modules_plain : List VModule → List VModule → ℕ → List ℕ
modules_plain all [] at = []
modules_plain all (m ∷ ms) at = module_plain all m at ++ modules_plain all ms (at + module_size m)

abbrev pub design_plain : VDesign → List ℕ
design_plain e = repeated [] (module_names e.modules 0) ++ modules_plain e.modules e.modules 0
